-- No two items of a well-formed forest stand at one place: their streams differ in path, and the items of one stream in index.
use Rattle.std.proofs.Common.{◌≡◌, ◌⊎◌, inl, inr, ℕ, zero, suc, ◌≤◌, ◌+◌, ◌-◌, List, [], ◌∷◌, ◌++◌, map, refl, sym, subst, ◌∙◌, ap, Bool, true, false, arith}
use Rattle.std.specs.Prelude.{◌&&◌, ◌==◌, flat_map}
use Rattle.std.proofs.lemmas.Bool.Decides.{Decides-eqb}
use Rattle.gql_tree.specs.declared.path.Key.{Key}
use Rattle.gql_tree.specs.declared.path.Key.TheVariants.{Index}
use Rattle.gql_tree.specs.declared.delivery.Frag.{Frag}
use Rattle.gql_tree.specs.declared.delivery.Group.{Group}
use Rattle.gql_tree.specs.declared.delivery.Stream.{Stream}
use Rattle.gql_tree.specs.declared.delivery.RegionResult.{RegionResult}
use Rattle.gql_tree.specs.declared.delivery.TaskWork.{TaskWork}
use Rattle.gql_tree.specs.declared.delivery.TaskWork.TheVariants.{Fields, Item}
use Rattle.gql_tree.specs.Keys.{same_lists, same_key}
use Rattle.gql_tree.specs.Forest.{Forest, Branches, grown, none, more, numbers, items_to_come, tasks_of}
use Rattle.gql_tree.specs.Fate.{Scope, scope_of, same_path}
use Rattle.gql_tree.specs.WellFormed.{Site, works_of, root_site, keys_of, sites_below, sites, no_two, IsWellFormed}
use Rattle.gql_confluence.proofs.Parts.{In, in_left, in_right, in_cases}
use Rattle.gql_confluence.proofs.Lists.{in_map, in_flat}
use Rattle.gql_confluence.proofs.Deciders.{keys_same, same_keys-refl}
use Rattle.gql_confluence.proofs.NoTwo.{no_two_left, no_two_right, no_two_cross, no_two_drop, no_two_join, no_two_none, no_two_mapped, no_two_at}
use Rattle.gql_confluence.proofs.Groups.{all_rec_at}
use Rattle.gql_confluence.proofs.Items.{flat_append, streams_of, alike}

-- ---- tasks

numbers_least : (m n k : ℕ) → In k (numbers m n) → m ≤ k
numbers_least m zero k i = absurd i
numbers_least m (suc n) k (inl e) = omega arith
numbers_least m (suc n) k (inr i) = let r = numbers_least (m + 1) n k i in omega arith

item_same : (s t : Stream) (i j : ℕ) → Item s i ≡ Item t j → (s ≡ t) × (i ≡ j)
item_same s t i j e = (cc, cc)

item_fields : (s : Stream) (i : ℕ) (g : Group) → Item s i ≡ Fields g → ⊥
item_fields s i g e = cc

-- a task of an item is of a stream of the region
pub listed_item : (r : RegionResult) (st : Stream) (n : ℕ) → In (Item st n) (tasks_of r) → In st r.streams × (st.first ≤ n)
listed_item r st n i = by (in_cases (Item st n) (map Fields r.groups) (flat_map items_to_come r.streams) i) where
  by : In (Item st n) (map Fields r.groups) ⊎ In (Item st n) (flat_map items_to_come r.streams) → In st r.streams × (st.first ≤ n)
  by (inl j) = let m = in_map Fields (Item st n) r.groups j in absurd (item_fields st n m.0 m.2)
  by (inr j) =
      let m = in_flat items_to_come (Item st n) r.streams j in
      let k = in_map (Item m.0) (Item st n) (numbers m.0.first (m.0.length - m.0.first)) m.2 in
      let e = item_same st m.0 n k.0 k.2 in
      let l = numbers_least m.0.first (m.0.length - m.0.first) k.0 k.1 in
      (subst (λ (t : Stream). In t r.streams) (sym e.0) m.1, (let f : st.first ≡ m.0.first = ap (λ (t : Stream). t.first) e.0 in let h = e.1 in omega arith))

-- one item of one list
abbrev one_item : TaskWork → TaskWork → Bool
one_item (Fields g) w = false
one_item (Item s i) (Fields h) = false
one_item (Item s i) (Item t j) = same_path s.path t.path && (i == j)

abbrev one_number : ℕ → ℕ → Bool
one_number i j = i == j

never : (b : Bool) → b ≡ true → b ≡ false → ⊥
never b e f = cc

numbers_differ : (m n : ℕ) → no_two one_number (numbers m n) ≡ true
numbers_differ m zero = refl
numbers_differ m (suc n) = no_two_join one_number (m ∷ []) (numbers (m + 1) n) refl (numbers_differ (m + 1) n) (λ x y i j. by x y i (numbers_least (m + 1) n y j)) where
  by : (x y : ℕ) → In x (m ∷ []) → m + 1 ≤ y → one_number x y ≡ false
  by x y (inr i) le = absurd i
  by x y (inl e) le = test (one_number x y) refl where
    test : (b : Bool) → one_number x y ≡ b → one_number x y ≡ false
    test false f = f
    test true f = let g : x ≡ y = (Decides-eqb x y).0 f in absurd (omega arith)

items_differ_in_index : (st : Stream) → no_two one_item (items_to_come st) ≡ true
items_differ_in_index st = no_two_mapped one_item (Item st) one_number (numbers st.first (st.length - st.first)) (λ i j. ap (λ b. b && (i == j)) (same_keys-refl st.path.keys)) (numbers_differ st.first (st.length - st.first))

items_of_streams_differ : (l : List Stream) → no_two alike l ≡ true → no_two one_item (flat_map items_to_come l) ≡ true
items_of_streams_differ [] h = refl
items_of_streams_differ (st ∷ l) h =
    no_two_join one_item (items_to_come st) (flat_map items_to_come l) (items_differ_in_index st) (items_of_streams_differ l (no_two_right alike (st ∷ []) l h))
    (λ x y i j.
    let a = in_map (Item st) x (numbers st.first (st.length - st.first)) i in
    let b = in_flat items_to_come y l j in
    let d = in_map (Item b.0) y (numbers b.0.first (b.0.length - b.0.first)) b.2 in
    let apart : same_path st.path b.0.path ≡ false = no_two_cross alike (st ∷ []) l h st b.0 (inl refl) b.1 in
    (λ z. one_item (a.2 z) (d.2 z)) ∙ ap (λ q. q && (a.0 == d.0)) apart)

tasks_differ : (r : RegionResult) → no_two alike r.streams ≡ true → no_two one_item (tasks_of r) ≡ true
tasks_differ r h =
    no_two_join one_item (map Fields r.groups) (flat_map items_to_come r.streams)
    (no_two_none one_item (map Fields r.groups) (λ x y i. ap (λ (w : TaskWork). one_item w y) (in_map Fields x r.groups i).2))
    (items_of_streams_differ r.streams h)
    (λ x y i j. ap (λ (w : TaskWork). one_item w y) (in_map Fields x r.groups i).2)

-- ---- roots of items

-- two roots of scopes at one place
abbrev pub coincide : Site → Site → Bool
coincide x y = x.is_root && y.is_root && same_lists same_key x.at y.at

-- if it is a scope's root, it is an item of one of these
abbrev Rooted : List Stream → Site → Type 0
Rooted l z = z.is_root ≡ true → (st : Stream) × In st l × (n : ℕ) × (z.at ≡ st.path.keys ++ Index n ∷ [])

last_same : (p q : List Key) (i j : ℕ) → p ++ Index i ∷ [] ≡ q ++ Index j ∷ [] → (p ≡ q) × (i ≡ j)
last_same [] [] i j e = (refl, cc)
last_same [] (k ∷ []) i j e = absurd (cc)
last_same [] (k ∷ l ∷ q) i j e = absurd (cc)
last_same (k ∷ []) [] i j e = absurd (cc)
last_same (k ∷ l ∷ p) [] i j e = absurd (cc)
last_same (k ∷ p) (l ∷ q) i j e =
    let h : k ≡ l = cc in
    let t : p ++ Index i ∷ [] ≡ q ++ Index j ∷ [] = cc in
    let r = last_same p q i j t in
    ((λ z. h z ∷ r.0 z), r.1)

coincide_false : (x y : Site) → (x.is_root ≡ true → y.is_root ≡ true → x.at ≡ y.at → ⊥) → coincide x y ≡ false
coincide_false x y h = by x.is_root y.is_root (same_lists same_key x.at y.at) refl refl refl where
  by : (a b d : Bool) → x.is_root ≡ a → y.is_root ≡ b → same_lists same_key x.at y.at ≡ d → coincide x y ≡ false
  by false b d e f g = rw e refl
  by true false d e f g = rw (e, f) refl
  by true true false e f g = rw (e, f, g) refl
  by true true true e f g = absurd (h e f (keys_same x.at y.at g))

-- the streams have one path
paths_meet : (s t : Stream) → s.path.keys ≡ t.path.keys → alike s t ≡ true
paths_meet s t e = ap (λ (l : List Key). same_lists same_key l t.path.keys) e ∙ same_keys-refl t.path.keys

roots_cross : (xs ys : List Stream) → no_two alike (xs ++ ys) ≡ true → (x y : Site) → Rooted xs x → Rooted ys y → coincide x y ≡ false
roots_cross xs ys h x y rx ry = coincide_false x y (λ e f g.
    let a = rx e in
    let b = ry f in
    let p = (last_same a.0.path.keys b.0.path.keys a.2 b.2 (sym a.3 ∙ (g ∙ b.3))).0 in
    never (alike a.0 b.0) (paths_meet a.0 b.0 p) (no_two_cross alike xs ys h a.0 b.0 a.1 b.1))

-- of a branch list: an item of its own, or one that arises deeper
abbrev Stands : List TaskWork → List Stream → Site → Type 0
Stands ws l z = z.is_root ≡ true → ((st : Stream) × (n : ℕ) × In (Item st n) ws × (z.at ≡ st.path.keys ++ Index n ∷ [])) ⊎ ((st : Stream) × In st l × (n : ℕ) × (z.at ≡ st.path.keys ++ Index n ∷ []))

stands_rooted : (ws : List TaskWork) (own l : List Stream) (z : Site) → ((st : Stream) (n : ℕ) → In (Item st n) ws → In st own) → Stands ws l z → Rooted (own ++ l) z
stands_rooted ws own l z works h e = by (h e) where
  by : ((st : Stream) × (n : ℕ) × In (Item st n) ws × (z.at ≡ st.path.keys ++ Index n ∷ [])) ⊎ ((st : Stream) × In st l × (n : ℕ) × (z.at ≡ st.path.keys ++ Index n ∷ [])) → (st : Stream) × In st (own ++ l) × (n : ℕ) × (z.at ≡ st.path.keys ++ Index n ∷ [])
  by (inl (st, n, i, at)) = (st, in_left st own l (works st n i), n, at)
  by (inr (st, i, n, at)) = (st, in_right st own l i, n, at)

abbrev Grow : List Site → Type 0
Grow zs = (z : Site) → In z zs → (st : Stream) (n : ℕ) → In (Item st n) z.works → In st z.region.streams

sites_stand : (s : Scope) (around : List Frag) (bs : Branches) → Grow (sites_below s around bs) → (z : Site) → In z (sites_below s around bs) → Stands (works_of bs) (streams_of (sites_below s around bs)) z
sites_stand s around none grow z i e = absurd i
sites_stand s around (more (Fields g) (grown r inner) bs) grow z (inl h) e = absurd (never z.is_root e (ap (λ (y : Site). y.is_root) h))
sites_stand s around (more (Fields g) (grown r inner) bs) grow z (inr i) e =
    by (in_cases z za zb i) (λ j. sites_stand s (r.fragments ++ around) inner (λ y k. grow y (inr (in_left y za zb k))) z j e) (λ j. sites_stand s around bs (λ y k. grow y (inr (in_right y za zb k))) z j e)
  where
    za : List Site
    za = sites_below s (r.fragments ++ around) inner

    zb : List Site
    zb = sites_below s around bs

    Own : List TaskWork → List Stream → Type 0
    Own ws l = ((st : Stream) × (n : ℕ) × In (Item st n) ws × (z.at ≡ st.path.keys ++ Index n ∷ [])) ⊎ ((st : Stream) × In st l × (n : ℕ) × (z.at ≡ st.path.keys ++ Index n ∷ []))

    wide : (st : Stream) → In st (streams_of za ++ streams_of zb) → In st (r.streams ++ streams_of (za ++ zb))
    wide st j = in_right st r.streams (streams_of (za ++ zb)) (subst (λ (l : List Stream). In st l) (sym (flat_append (λ (x : Site). x.region.streams) za zb)) j)

    by : In z za ⊎ In z zb → (In z za → Own (works_of inner) (streams_of za)) → (In z zb → Own (works_of bs) (streams_of zb)) → Own (Fields g ∷ works_of bs) (r.streams ++ streams_of (za ++ zb))
    by (inl j) h1 h2 = first (h1 j) where
      first : Own (works_of inner) (streams_of za) → Own (Fields g ∷ works_of bs) (r.streams ++ streams_of (za ++ zb))
      first (inl (st, n, k, at)) = inr (st, in_left st r.streams (streams_of (za ++ zb)) (grow _ (inl refl) st n k), n, at)
      first (inr (st, k, n, at)) = inr (st, wide st (in_left st (streams_of za) (streams_of zb) k), n, at)
    by (inr j) h1 h2 = second (h2 j) where
      second : Own (works_of bs) (streams_of zb) → Own (Fields g ∷ works_of bs) (r.streams ++ streams_of (za ++ zb))
      second (inl (st, n, k, at)) = inl (st, n, inr k, at)
      second (inr (st, k, n, at)) = inr (st, wide st (in_right st (streams_of za) (streams_of zb) k), n, at)
sites_stand s around (more (Item su m) (grown r inner) bs) grow z (inl h) e = inl (su, m, inl refl, ap (λ (y : Site). y.at) h)
sites_stand s around (more (Item su m) (grown r inner) bs) grow z (inr i) e =
    by (in_cases z za zb i) (λ j. sites_stand (scope_of (grown r inner)) r.fragments inner (λ y k. grow y (inr (in_left y za zb k))) z j e) (λ j. sites_stand s around bs (λ y k. grow y (inr (in_right y za zb k))) z j e)
  where
    za : List Site
    za = sites_below (scope_of (grown r inner)) r.fragments inner

    zb : List Site
    zb = sites_below s around bs

    Own : List TaskWork → List Stream → Type 0
    Own ws l = ((st : Stream) × (n : ℕ) × In (Item st n) ws × (z.at ≡ st.path.keys ++ Index n ∷ [])) ⊎ ((st : Stream) × In st l × (n : ℕ) × (z.at ≡ st.path.keys ++ Index n ∷ []))

    wide : (st : Stream) → In st (streams_of za ++ streams_of zb) → In st (r.streams ++ streams_of (za ++ zb))
    wide st j = in_right st r.streams (streams_of (za ++ zb)) (subst (λ (l : List Stream). In st l) (sym (flat_append (λ (x : Site). x.region.streams) za zb)) j)

    by : In z za ⊎ In z zb → (In z za → Own (works_of inner) (streams_of za)) → (In z zb → Own (works_of bs) (streams_of zb)) → Own (Item su m ∷ works_of bs) (r.streams ++ streams_of (za ++ zb))
    by (inl j) h1 h2 = first (h1 j) where
      first : Own (works_of inner) (streams_of za) → Own (Item su m ∷ works_of bs) (r.streams ++ streams_of (za ++ zb))
      first (inl (st, n, k, at)) = inr (st, in_left st r.streams (streams_of (za ++ zb)) (grow _ (inl refl) st n k), n, at)
      first (inr (st, k, n, at)) = inr (st, wide st (in_left st (streams_of za) (streams_of zb) k), n, at)
    by (inr j) h1 h2 = second (h2 j) where
      second : Own (works_of bs) (streams_of zb) → Own (Item su m ∷ works_of bs) (r.streams ++ streams_of (za ++ zb))
      second (inl (st, n, k, at)) = inl (st, n, inr k, at)
      second (inr (st, k, n, at)) = inr (st, wide st (in_right st (streams_of za) (streams_of zb) k), n, at)

assoc : (x y z : List Stream) → (x ++ y) ++ z ≡ x ++ (y ++ z)
assoc [] y z = refl
assoc (u ∷ x) y z = ap (λ l. u ∷ l) (assoc x y z)

-- the region of a task, those below it and those beside it, and what differs among their streams
module _ (own rs sa sb : List Stream) (differ : no_two alike (own ++ (rs ++ (sa ++ sb))) ≡ true) where
  whole_right : no_two alike (rs ++ (sa ++ sb)) ≡ true
  whole_right = no_two_right alike own (rs ++ (sa ++ sb)) differ

  joined : no_two alike ((rs ++ sa) ++ sb) ≡ true
  joined = ap (no_two alike) (assoc rs sa sb) ∙ whole_right

  left_part : no_two alike (rs ++ sa) ≡ true
  left_part = no_two_left alike (rs ++ sa) sb joined

  own_left : no_two alike (own ++ (rs ++ sa)) ≡ true
  own_left = no_two_left alike (own ++ (rs ++ sa)) sb (ap (no_two alike) (assoc own (rs ++ sa) sb ∙ ap (λ (l : List Stream). own ++ l) (assoc rs sa sb)) ∙ differ)

  own_right : no_two alike (own ++ sb) ≡ true
  own_right = no_two_drop alike own (rs ++ sa) sb (ap (λ (l : List Stream). no_two alike (own ++ l)) (assoc rs sa sb) ∙ differ)

  -- of one below the region, and one beside it
  beside_differ : (ws : List TaskWork) → ((st : Stream) (n : ℕ) → In (Item st n) ws → In st own) → (x y : Site) → Rooted (rs ++ sa) x → Stands ws sb y → coincide x y ≡ false
  beside_differ ws works x y rx sy = coincide_false x y (λ e f g. by e g (sy f)) where
    by : x.is_root ≡ true → x.at ≡ y.at → ((st : Stream) × (n : ℕ) × In (Item st n) ws × (y.at ≡ st.path.keys ++ Index n ∷ [])) ⊎ ((st : Stream) × In st sb × (n : ℕ) × (y.at ≡ st.path.keys ++ Index n ∷ [])) → ⊥
    by e g (inl (st, n, k, at)) =
        let a = rx e in
        let p = (last_same a.0.path.keys st.path.keys a.2 n (sym a.3 ∙ (g ∙ at))).0 in
        never (alike st a.0) (paths_meet st a.0 (sym p)) (no_two_cross alike own (rs ++ sa) own_left st a.0 (works st n k) a.1)
    by e g (inr (st, k, n, at)) =
        let a = rx e in
        let p = (last_same a.0.path.keys st.path.keys a.2 n (sym a.3 ∙ (g ∙ at))).0 in
        never (alike a.0 st) (paths_meet a.0 st p) (no_two_cross alike (rs ++ sa) sb joined a.0 st a.1 k)

  -- of an item and one beside it
  item_differs : (ws : List TaskWork) (su : Stream) (m : ℕ) → In su own → no_two one_item (Item su m ∷ ws) ≡ true → (x y : Site) → x.at ≡ su.path.keys ++ Index m ∷ [] → Stands ws sb y → coincide x y ≡ false
  item_differs ws su m is_own h x y at_x sy = coincide_false x y (λ e f g. by g (sy f)) where
    by : x.at ≡ y.at → ((st : Stream) × (n : ℕ) × In (Item st n) ws × (y.at ≡ st.path.keys ++ Index n ∷ [])) ⊎ ((st : Stream) × In st sb × (n : ℕ) × (y.at ≡ st.path.keys ++ Index n ∷ [])) → ⊥
    by g (inl (st, n, k, at)) =
        let p = last_same su.path.keys st.path.keys m n (sym at_x ∙ (g ∙ at)) in
        let index : (m == n) ≡ true = (Decides-eqb m n).1 p.1 in
        let meet : same_path su.path st.path ≡ true = paths_meet su st p.0 in
        let same : one_item (Item su m) (Item st n) ≡ true = rw (meet, index) refl in
        never (one_item (Item su m) (Item st n)) same (no_two_cross one_item (Item su m ∷ []) ws h (Item su m) (Item st n) (inl refl) k)
    by g (inr (st, k, n, at)) =
        let p = last_same su.path.keys st.path.keys m n (sym at_x ∙ (g ∙ at)) in
        never (alike su st) (paths_meet su st p.0) (no_two_cross alike own sb own_right su st is_own k)

roots_differ : (s : Scope) (around : List Frag) (bs : Branches) (own : List Stream) → ((st : Stream) (n : ℕ) → In (Item st n) (works_of bs) → In st own) → Grow (sites_below s around bs)
    → no_two alike (own ++ streams_of (sites_below s around bs)) ≡ true → no_two one_item (works_of bs) ≡ true → ((z : Site) → In z (sites_below s around bs) → no_two one_item z.works ≡ true)
    → no_two coincide (sites_below s around bs) ≡ true
roots_differ s around none own works grow h w ws = refl
roots_differ s around (more (Fields g) (grown r inner) bs) own works grow h w ws =
    let za = sites_below s (r.fragments ++ around) inner in
    let zb = sites_below s around bs in
    let a : Site = record { at = g.path.keys; is_root = false; owners = g.owners; keys = keys_of g; around = r.fragments ++ around; scope = s; region = r; works = works_of inner } in
    let split : no_two alike (own ++ (r.streams ++ (streams_of za ++ streams_of zb))) ≡ true = ap (λ (l : List Stream). no_two alike (own ++ (r.streams ++ l))) (sym (flat_append (λ (x : Site). x.region.streams) za zb)) ∙ h in
    let grow_a : Grow za = λ z i. grow z (inr (in_left z za zb i)) in
    let grow_b : Grow zb = λ z i. grow z (inr (in_right z za zb i)) in
    let works_a = λ (st : Stream) (n : ℕ) (i : In (Item st n) (works_of inner)). grow a (inl refl) st n i in
    no_two_join coincide (a ∷ []) (za ++ zb) refl
    (no_two_join coincide za zb
    (roots_differ s (r.fragments ++ around) inner r.streams works_a grow_a (left_part own r.streams (streams_of za) (streams_of zb) split) (ws a (inl refl)) (λ z i. ws z (inr (in_left z za zb i))))
    (roots_differ s around bs own (λ st n i. works st n (inr i)) grow_b (own_right own r.streams (streams_of za) (streams_of zb) split) (no_two_right one_item (Fields g ∷ []) (works_of bs) w) (λ z i. ws z (inr (in_right z za zb i))))
    (λ x y i j. beside_differ own r.streams (streams_of za) (streams_of zb) split (works_of bs) (λ st n k. works st n (inr k)) x y
    (stands_rooted (works_of inner) r.streams (streams_of za) x works_a (sites_stand s (r.fragments ++ around) inner grow_a x i)) (sites_stand s around bs grow_b y j)))
    (λ x y i j. first x y i)
  where
    first : (x y : Site) → In x (record { at = g.path.keys; is_root = false; owners = g.owners; keys = keys_of g; around = r.fragments ++ around; scope = s; region = r; works = works_of inner } ∷ []) → coincide x y ≡ false
    first x y (inl e) = ap (λ (z : Site). coincide z y) e
    first x y (inr i) = absurd i
roots_differ s around (more (Item su m) (grown r inner) bs) own works grow h w ws =
    let s_a = scope_of (grown r inner) in
    let za = sites_below s_a r.fragments inner in
    let zb = sites_below s around bs in
    let a : Site = root_site (su.path.keys ++ Index m ∷ []) r inner in
    let split : no_two alike (own ++ (r.streams ++ (streams_of za ++ streams_of zb))) ≡ true = ap (λ (l : List Stream). no_two alike (own ++ (r.streams ++ l))) (sym (flat_append (λ (x : Site). x.region.streams) za zb)) ∙ h in
    let grow_a : Grow za = λ z i. grow z (inr (in_left z za zb i)) in
    let grow_b : Grow zb = λ z i. grow z (inr (in_right z za zb i)) in
    let works_a = λ (st : Stream) (n : ℕ) (i : In (Item st n) (works_of inner)). grow a (inl refl) st n i in
    let rooted_a = λ (x : Site) (i : In x za). stands_rooted (works_of inner) r.streams (streams_of za) x works_a (sites_stand s_a r.fragments inner grow_a x i) in
    no_two_join coincide (a ∷ []) (za ++ zb) (no_single a)
    (no_two_join coincide za zb
    (roots_differ s_a r.fragments inner r.streams works_a grow_a (left_part own r.streams (streams_of za) (streams_of zb) split) (ws a (inl refl)) (λ z i. ws z (inr (in_left z za zb i))))
    (roots_differ s around bs own (λ st n i. works st n (inr i)) grow_b (own_right own r.streams (streams_of za) (streams_of zb) split) (no_two_right one_item (Item su m ∷ []) (works_of bs) w) (λ z i. ws z (inr (in_right z za zb i))))
    (λ x y i j. beside_differ own r.streams (streams_of za) (streams_of zb) split (works_of bs) (λ st n k. works st n (inr k)) x y (rooted_a x i) (sites_stand s around bs grow_b y j)))
    (λ x y i j. by x y i (in_cases y za zb j)
    (λ k. roots_cross own (r.streams ++ streams_of za) (own_left own r.streams (streams_of za) (streams_of zb) split) a y (λ e. (su, works su m (inl refl), m, refl)) (rooted_a y k))
    (λ k. item_differs own r.streams (streams_of za) (streams_of zb) split (works_of bs) su m (works su m (inl refl)) w a y refl (sites_stand s around bs grow_b y k)))
  where
    no_single : (z : Site) → no_two coincide (z ∷ []) ≡ true
    no_single z = refl

    by : (x y : Site) → In x (root_site (su.path.keys ++ Index m ∷ []) r inner ∷ []) → In y (sites_below (scope_of (grown r inner)) r.fragments inner) ⊎ In y (sites_below s around bs)
        → (In y (sites_below (scope_of (grown r inner)) r.fragments inner) → coincide (root_site (su.path.keys ++ Index m ∷ []) r inner) y ≡ false) → (In y (sites_below s around bs) → coincide (root_site (su.path.keys ++ Index m ∷ []) r inner) y ≡ false) → coincide x y ≡ false
    by x y (inr i) j h1 h2 = absurd i
    by x y (inl e) (inl j) h1 h2 = ap (λ (z : Site). coincide z y) e ∙ h1 j
    by x y (inl e) (inr j) h1 h2 = ap (λ (z : Site). coincide z y) e ∙ h2 j

-- no two roots of scopes stand at one place
pub items_apart : (f : Forest) → IsWellFormed f → no_two coincide (sites f) ≡ true
items_apart (grown r bs) wf =
    let f : Forest = grown r bs in
    let s = scope_of f in
    let zs = sites_below s r.fragments bs in
    let top : Site = root_site [] r bs in
    let tasks = λ (z : Site) (i : In z (sites f)). all_rec_at (λ (x : Site). x.works ≡ tasks_of x.region) (sites f) wf.grows z i in
    let grow : Grow (sites f) = λ z i st n j. (listed_item z.region st n (subst (λ (l : List TaskWork). In (Item st n) l) (tasks z i) j)).0 in
    let differ = λ (z : Site) (i : In z (sites f)). ap (no_two one_item) (tasks z i) ∙ tasks_differ z.region (no_two_at alike (λ (x : Site). x.region.streams) (sites f) wf.streams_apart z i) in
    let grow_below : Grow zs = λ z i. grow z (inr i) in
    no_two_join coincide (top ∷ []) zs refl
    (roots_differ s r.fragments bs r.streams (λ st n i. grow top (inl refl) st n i) grow_below wf.streams_apart (differ top (inl refl)) (λ z i. differ z (inr i)))
    (λ x y i j. by x y i (sites_stand s r.fragments bs grow_below y j))
  where
    nil_snoc : (l : List Key) (n : ℕ) → [] ≡ l ++ Index n ∷ [] → ⊥
    nil_snoc [] n e = cc
    nil_snoc (k ∷ l) n e = cc

    by : (x y : Site) → In x (root_site [] r bs ∷ []) → Stands (works_of bs) (streams_of (sites_below (scope_of (grown r bs)) r.fragments bs)) y → coincide x y ≡ false
    by x y (inr i) h = absurd i
    by x y (inl e) h = coincide_false x y (λ a b d. deeper d (h b)) where
      deeper : x.at ≡ y.at → ((st : Stream) × (n : ℕ) × In (Item st n) (works_of bs) × (y.at ≡ st.path.keys ++ Index n ∷ []))
          ⊎ ((st : Stream) × In st (streams_of (sites_below (scope_of (grown r bs)) r.fragments bs)) × (n : ℕ) × (y.at ≡ st.path.keys ++ Index n ∷ [])) → ⊥
      deeper d (inl (st, n, i, at)) = nil_snoc st.path.keys n (sym (ap (λ (z : Site). z.at) e) ∙ (d ∙ at))
      deeper d (inr (st, i, n, at)) = nil_snoc st.path.keys n (sym (ap (λ (z : Site). z.at) e) ∙ (d ∙ at))
