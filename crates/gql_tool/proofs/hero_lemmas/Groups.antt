-- Whom the leaves of a document wait for, and the group of those that wait.
use Rattle.std.proofs.Common.{◌≡◌, refl, ap, ◌∙◌, ℕ, ◌+◌, Bool, true, false, not, cond, List, [], ◌∷◌, ◌++◌, map, Some, None, arith}
use Rattle.std.specs.Prelude.{filter, ◌==◌, ◌||◌, ◌&&◌}
use Rattle.std.proofs.lemmas.Bool.Decides.{nat_tests}
use Rattle.gql_tree.specs.declared.FragId.{FragId}
use Rattle.gql_tree.specs.declared.Group.{Group}
use Rattle.gql_tree.specs.declared.Row.{Row}
use Rattle.gql_tree.specs.declared.Occurrence.{Occurrence}
use Rattle.gql_tree.specs.declared.Detail.{Detail}
use Rattle.gql_tree.specs.Keys.{same_lists, same_fragment}
use Rattle.gql_model.specs.declared.Node.{Node}
use Rattle.gql_model.specs.Lists.{firsts, under, gathered}
use Rattle.gql_model.specs.Owners.{is_above, owners}
use Rattle.gql_model.specs.Objects.{is_own, groups_at}
use Rattle.gql_tool.specs.declared.hero.shape.Leaf.{Leaf}
use Rattle.gql_tool.specs.hero.Operation.{name_of}
use Rattle.gql_tool.specs.hero.Hero.{hero_path}
use Rattle.gql_tool.proofs.hero_lemmas.Fields.{leaf_details}
use Rattle.gql_tool.proofs.hero_lemmas.Met.{fragment_id}

-- ---- one key for all

module _ {K A : Type 0} (same : K → K → Bool) (k : K) (self : same k k ≡ true) where
  abbrev keyed : List A → List (K × A)
  keyed xs = map {A = A} {B = K × A} (λ x. (k, x)) xs

  abbrev keys : List A → List K
  keys xs = map (λ (x : K × A). x.0) (keyed xs)

  filter-firsts : (xs : List A) → filter (λ y. not (same k y)) (firsts same (keys xs)) ≡ []
  filter-firsts [] = refl
  filter-firsts (x ∷ xs) = rw (self, filter-firsts xs) refl

  under-all : (xs : List A) → under same k (keyed xs) ≡ xs
  under-all [] = refl
  under-all (x ∷ xs) = rw (self, under-all xs) refl

  pub gathered-same : (x : A) (xs : List A) → gathered same (keyed (x ∷ xs)) ≡ (k, x ∷ xs) ∷ []
  gathered-same x xs =
      ap (λ ks. map {A = K} {B = K × List A} (λ j. (j, under same j (keyed (x ∷ xs)))) (k ∷ ks)) (filter-firsts xs)
      ∙ ap (λ (u : List A). (let P : List (K × List A) = (k, u) ∷ [] in P)) (under-all (x ∷ xs))

-- ---- owners

module _ (nodes : List Node) (leaves : ℕ) (apart : is_above nodes (fragment_id leaves) (fragment_id leaves) ≡ false) where
  abbrev id : FragId
  id = fragment_id leaves

  abbrev waiting : ℕ → List Occurrence
  waiting k = record { node = k; tag = Some id } ∷ []

  owners-waiting : (k : ℕ) → owners nodes (waiting k) ≡ id ∷ []
  owners-waiting k = ap (λ b. cond (not (b || false)) (id ∷ []) []) apart

  is_own-waiting : (k : ℕ) (key : List ℕ) → is_own nodes [] (record { key = key; nodes = waiting k }) ≡ false
  is_own-waiting k key = ap (λ os. same_lists same_fragment os []) (owners-waiting k)

  filter-waiting : (k : ℕ) (ms : List Leaf) → filter (is_own nodes []) (leaf_details k (Some id) ms) ≡ []
  filter-waiting k [] = refl
  filter-waiting k (m ∷ ms) = rw (is_own-waiting k (name_of m.name), filter-waiting (k + 1) ms) refl

  pub filter-own : (k j : ℕ) (ls ms : List Leaf) → filter (is_own nodes []) (leaf_details k None ls ++ leaf_details j (Some id) ms) ≡ leaf_details k None ls
  filter-own k j [] ms = filter-waiting j ms
  filter-own k j (l ∷ ls) ms = ap (λ ds. record { key = name_of l.name; nodes = record { node = k; tag = None } ∷ [] } ∷ ds) (filter-own (k + 1) j ls ms)

  filter-not_waiting : (k : ℕ) (ms : List Leaf) → filter (λ d. not (is_own nodes [] d)) (leaf_details k (Some id) ms) ≡ leaf_details k (Some id) ms
  filter-not_waiting k [] = refl
  filter-not_waiting k (m ∷ ms) = rw (is_own-waiting k (name_of m.name), filter-not_waiting (k + 1) ms) refl

  filter-not_own : (k j : ℕ) (ls ms : List Leaf) → filter (λ d. not (is_own nodes [] d)) (leaf_details k None ls ++ leaf_details j (Some id) ms) ≡ leaf_details j (Some id) ms
  filter-not_own k j [] ms = filter-not_waiting j ms
  filter-not_own k j (l ∷ ls) ms = filter-not_own (k + 1) j ls ms

  with_owners : (k : ℕ) (ms : List Leaf) → map {A = Detail} {B = List FragId × Detail} (λ d. (owners nodes d.nodes, d)) (leaf_details k (Some id) ms) ≡ map {A = Detail} {B = List FragId × Detail} (λ d. (id ∷ [], d)) (leaf_details k (Some id) ms)
  with_owners k [] = refl
  with_owners k (m ∷ ms) = rw (owners-waiting k, with_owners (k + 1) ms) refl

  same_place : (n : ℕ) → (n == n) ≡ true
  same_place n = grind (arith, nat_tests)

  same-owners : same_lists same_fragment (id ∷ []) (id ∷ []) ≡ true
  same-owners = ap (λ b. (b && true) && true) (same_place (2 + leaves))

  abbrev pub group_at : Row → List Detail → Group
  group_at row ds = record { owners = id ∷ []; path = record { keys = hero_path }; row = row; fields = ds }

  pub groups_at-waiting : (row : Row) (k j : ℕ) (ls : List Leaf) (m : Leaf) (ms : List Leaf) → groups_at nodes [] row hero_path (leaf_details k None ls ++ leaf_details j (Some id) (m ∷ ms)) ≡ group_at row (leaf_details j (Some id) (m ∷ ms)) ∷ []
  groups_at-waiting row k j ls m ms =
      let group : List FragId × List Detail → Group = λ g. record { owners = g.0; path = record { keys = hero_path }; row = row; fields = g.1 } in
      let gather : List (List FragId × Detail) → List Group = λ ps. map group (gathered (same_lists same_fragment) ps) in
      let ds = leaf_details j (Some id) (m ∷ ms) in
      ap (λ (xs : List Detail). gather (map {A = Detail} {B = List FragId × Detail} (λ d. (owners nodes d.nodes, d)) xs)) (filter-not_own k j ls (m ∷ ms))
      ∙ (ap gather (with_owners j (m ∷ ms))
      ∙ ap (map group) (gathered-same (same_lists same_fragment) (id ∷ []) same-owners (record { key = name_of m.name; nodes = waiting j }) (leaf_details (j + 1) (Some id) ms)))

  pub groups_at-none : (row : Row) (k j : ℕ) (ls : List Leaf) → groups_at nodes [] row hero_path (leaf_details k None ls ++ leaf_details j (Some id) []) ≡ []
  groups_at-none row k j ls =
      let group : List FragId × List Detail → Group = λ g. record { owners = g.0; path = record { keys = hero_path }; row = row; fields = g.1 } in
      ap (λ (xs : List Detail). map group (gathered (same_lists same_fragment) (map {A = Detail} {B = List FragId × Detail} (λ d. (owners nodes d.nodes, d)) xs))) (filter-not_own k j ls [])
