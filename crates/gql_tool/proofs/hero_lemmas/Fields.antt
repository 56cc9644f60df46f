-- What collecting meets at the hero, and how it is merged.
use Rattle.std.proofs.Common.{◌≡◌, refl, sym, ap, ◌∙◌, ℕ, ◌+◌, false, not, cond, List, [], ◌∷◌, ◌++◌, map, length, Option, Some, arith}
use Rattle.std.specs.Prelude.{slice_get, filter, flat_map}
use Rattle.std.specs.List.{AllByRecursion as Each, range_with_len}
use Rattle.std.specs.Str.{bytes_eq}
use Rattle.std.proofs.lemmas.Slice.Eq.{bytes_eq-Decides}
use Rattle.gql_tree.specs.declared.Key.{Key}
use Rattle.gql_tree.specs.declared.FragId.{FragId}
use Rattle.gql_tree.specs.declared.Occurrence.{Occurrence}
use Rattle.gql_tree.specs.declared.Detail.{Detail}
use Rattle.gql_model.specs.declared.Node.{Node}
use Rattle.gql_model.specs.World.{World}
use Rattle.gql_model.specs.Lists.{firsts, under, gathered}
use Rattle.gql_model.specs.Collect.{Met, field, met_child, occurrences, fragments, merged}
use Rattle.gql_tool.specs.declared.hero.shape.Leaf.{Leaf}
use Rattle.gql_tool.specs.hero.Operation.{name_of, leaf_node}

-- ---- nodes at their places

-- these nodes stand from this number on
abbrev pub Placed : List Node → ℕ → List Node → Type 0
Placed nodes k [] = Unit {0}
Placed nodes k (x ∷ xs) = (slice_get nodes k ≡ Some x) × Placed nodes (k + 1) xs

slice_get-append : {A : Type 0} (pre : List A) (x : A) (post : List A) → slice_get (pre ++ x ∷ post) (length pre) ≡ Some x
slice_get-append [] x post = refl
slice_get-append (y ∷ pre) x post = slice_get-append pre x post

snoc : {A : Type 0} (pre : List A) (x : A) (post : List A) → pre ++ x ∷ post ≡ (pre ++ x ∷ []) ++ post
snoc [] x post = refl
snoc (y ∷ pre) x post = ap (λ l. y ∷ l) (snoc pre x post)

length-snoc : {A : Type 0} (pre : List A) (x : A) → length (pre ++ x ∷ []) ≡ length pre + 1
length-snoc [] x = refl
length-snoc (y ∷ pre) x = let h = length-snoc pre x in omega (arith, h)

pub placed_by : (pre xs post nodes : List Node) (k : ℕ) → nodes ≡ pre ++ (xs ++ post) → k ≡ length pre → Placed nodes k xs
placed_by pre [] post nodes k is at = tt
placed_by pre (x ∷ xs) post nodes k is at = (
  rw (is, at) (slice_get-append pre x (xs ++ post)),
  placed_by (pre ++ x ∷ []) xs post nodes (k + 1) (is ∙ snoc pre x (xs ++ post)) (ap (λ n. n + 1) at ∙ sym (length-snoc pre x)),
)

pub placed : (pre xs post : List Node) → Placed (pre ++ (xs ++ post)) (length pre) xs
placed pre xs post = placed_by pre xs post (pre ++ (xs ++ post)) (length pre) refl refl

-- ---- leaves that are met

abbrev pub leaf_mets : ℕ → Option FragId → List Leaf → List Met
leaf_mets k tag [] = []
leaf_mets k tag (l ∷ ls) = field (name_of l.name) (record { node = k; tag = tag }) ∷ leaf_mets (k + 1) tag ls

abbrev pub leaf_pairs : ℕ → Option FragId → List Leaf → List (List ℕ × Occurrence)
leaf_pairs k tag [] = []
leaf_pairs k tag (l ∷ ls) = (name_of l.name, record { node = k; tag = tag }) ∷ leaf_pairs (k + 1) tag ls

abbrev pub leaf_details : ℕ → Option FragId → List Leaf → List Detail
leaf_details k tag [] = []
leaf_details k tag (l ∷ ls) = record { key = name_of l.name; nodes = record { node = k; tag = tag } ∷ [] } ∷ leaf_details (k + 1) tag ls

module _ (w : World) (nodes : List Node) (kind : ℕ) (path : List Key) (below : Option FragId → ℕ → List Met) where
  abbrev pub child : Option FragId → ℕ → List Met
  child tag c = met_child w nodes kind path below tag c (slice_get nodes c)

  pub met_child-leaves : (parent k : ℕ) (tag : Option FragId) (ls : List Leaf) → Placed nodes k (map (leaf_node parent) ls) → flat_map (child tag) (range_with_len k (length ls)) ≡ leaf_mets k tag ls
  met_child-leaves parent k tag [] h = refl
  met_child-leaves parent k tag (l ∷ ls) h = rw (h.0, met_child-leaves parent (k + 1) tag ls h.1) refl

pub occurrences-leaves : (k : ℕ) (tag : Option FragId) (ls : List Leaf) (ms : List Met) → occurrences (leaf_mets k tag ls ++ ms) ≡ leaf_pairs k tag ls ++ occurrences ms
occurrences-leaves k tag [] ms = refl
occurrences-leaves k tag (l ∷ ls) ms = ap (λ xs. (name_of l.name, record { node = k; tag = tag }) ∷ xs) (occurrences-leaves (k + 1) tag ls ms)

-- ---- each key once

module _ {A : Type 0} where
  abbrev pub Other : List ℕ → List ℕ × A → Type 0
  Other k x = (bytes_eq k x.0 ≡ false) × (bytes_eq x.0 k ≡ false)

  abbrev pub KeysApart : List (List ℕ × A) → Type 0
  KeysApart [] = Unit {0}
  KeysApart (x ∷ xs) = Each (Other x.0) xs × KeysApart xs

  abbrev key : List ℕ × A → List ℕ
  key x = x.0

  filter-others : (k : List ℕ) (xs : List (List ℕ × A)) → Each (Other k) xs → filter (λ y. not (bytes_eq k y)) (map key xs) ≡ map key xs
  filter-others k [] h = refl
  filter-others k (x ∷ xs) h = rw (h.0.0, filter-others k xs h.1) refl

  firsts-apart : (xs : List (List ℕ × A)) → KeysApart xs → firsts bytes_eq (map key xs) ≡ map key xs
  firsts-apart [] h = refl
  firsts-apart (x ∷ xs) h = ap (λ ys. x.0 ∷ filter (λ y. not (bytes_eq x.0 y)) ys) (firsts-apart xs h.1) ∙ ap (λ ys. x.0 ∷ ys) (filter-others x.0 xs h.0)

  under-others : (k : List ℕ) (xs : List (List ℕ × A)) → Each (Other k) xs → under bytes_eq k xs ≡ []
  under-others k [] h = refl
  under-others k (x ∷ xs) h = rw (h.0.0, under-others k xs h.1) refl

  under-self : (x : List ℕ × A) (xs : List (List ℕ × A)) → Each (Other x.0) xs → under bytes_eq x.0 (x ∷ xs) ≡ x.1 ∷ []
  under-self x xs h = ap (λ b. cond b (x.1 ∷ under bytes_eq x.0 xs) (under bytes_eq x.0 xs)) ((bytes_eq-Decides x.0 x.0).1 refl) ∙ ap (λ ys. x.1 ∷ ys) (under-others x.0 xs h)

  under-skip : (x : List ℕ × A) (xs ys : List (List ℕ × A)) → Each (Other x.0) ys → map {A = List ℕ} {B = List ℕ × List A} (λ k. (k, under bytes_eq k (x ∷ xs))) (map key ys) ≡ map {A = List ℕ} {B = List ℕ × List A} (λ k. (k, under bytes_eq k xs)) (map key ys)
  under-skip x xs [] h = refl
  under-skip x xs (y ∷ ys) h = rw (h.0.1, under-skip x xs ys h.1) refl

  pairs-apart : (xs : List (List ℕ × A)) → KeysApart xs → map {A = List ℕ} {B = List ℕ × List A} (λ k. (k, under bytes_eq k xs)) (map key xs) ≡ map {A = List ℕ × A} {B = List ℕ × List A} (λ x. (x.0, x.1 ∷ [])) xs
  pairs-apart [] h = refl
  pairs-apart (x ∷ xs) h =
      let first : under bytes_eq x.0 (x ∷ xs) ≡ x.1 ∷ [] = under-self x xs h.0 in
      let rest = under-skip x xs xs h.0 ∙ pairs-apart xs h.1 in
      ap (λ (u : List A). (let P : List (List ℕ × List A) = (x.0, u) ∷ map (λ k. (k, under bytes_eq k (x ∷ xs))) (map key xs) in P)) first
      ∙ ap (λ ps. (x.0, x.1 ∷ []) ∷ ps) rest

  pub gathered-apart : (xs : List (List ℕ × A)) → KeysApart xs → gathered bytes_eq xs ≡ map {A = List ℕ × A} {B = List ℕ × List A} (λ x. (x.0, x.1 ∷ [])) xs
  gathered-apart xs h = ap (map {A = List ℕ} {B = List ℕ × List A} (λ k. (k, under bytes_eq k xs))) (firsts-apart xs h) ∙ pairs-apart xs h

-- the details of pairs with one node each
details-leaves : (k j : ℕ) (tag other : Option FragId) (ls ms : List Leaf) → map {A = List ℕ × List Occurrence} {B = Detail} (λ x. record { key = x.0; nodes = x.1 }) (map {A = List ℕ × Occurrence} {B = List ℕ × List Occurrence} (λ x. (x.0, x.1 ∷ [])) (leaf_pairs k tag ls ++ leaf_pairs j other ms)) ≡ leaf_details k tag ls ++ leaf_details j other ms
details-leaves k j tag other [] [] = refl
details-leaves k j tag other [] (m ∷ ms) = ap (λ ds. record { key = name_of m.name; nodes = record { node = j; tag = other } ∷ [] } ∷ ds) (details-leaves k (j + 1) tag other [] ms)
details-leaves k j tag other (l ∷ ls) ms = ap (λ ds. record { key = name_of l.name; nodes = record { node = k; tag = tag } ∷ [] } ∷ ds) (details-leaves (k + 1) j tag other ls ms)

pub merged-leaves : (k j : ℕ) (tag other : Option FragId) (ls ms : List Leaf) (xs : List Met) → occurrences xs ≡ leaf_pairs k tag ls ++ leaf_pairs j other ms → KeysApart (leaf_pairs k tag ls ++ leaf_pairs j other ms) → merged xs ≡ leaf_details k tag ls ++ leaf_details j other ms
merged-leaves k j tag other ls ms xs is apart =
    ap (λ ps. map {A = List ℕ × List Occurrence} {B = Detail} (λ x. record { key = x.0; nodes = x.1 }) (gathered bytes_eq ps)) is
    ∙ (ap (map {A = List ℕ × List Occurrence} {B = Detail} (λ x. record { key = x.0; nodes = x.1 })) (gathered-apart (leaf_pairs k tag ls ++ leaf_pairs j other ms) apart)
    ∙ details-leaves k j tag other ls ms)

pub fragments-leaves : (k : ℕ) (tag : Option FragId) (ls : List Leaf) (ms : List Met) → fragments (leaf_mets k tag ls ++ ms) ≡ fragments ms
fragments-leaves k tag [] ms = refl
fragments-leaves k tag (l ∷ ls) ms = fragments-leaves (k + 1) tag ls ms

pub append-nil : {A : Type 0} (xs : List A) → xs ++ [] ≡ xs
append-nil [] = refl
append-nil (x ∷ xs) = ap (λ ys. x ∷ ys) (append-nil xs)
