-- The region of a group that arises in another region of a well-formed forest, and what it has.
use Rattle.std.proofs.Common.{◌≡◌, ◌⊎◌, inl, inr, ℕ, ◌-◌, List, [], ◌∷◌, ◌++◌, map, length, drop, refl, sym, subst, ◌∙◌, ap, Bool, true, false, cond, Option, Some, None, arith}
use Rattle.std.specs.Prelude.{nat_lt, not, ◌&&◌, ◌||◌, flat_map}
use Rattle.std.specs.List.{list_any, list_all, AllByRecursion}
use Rattle.std.specs.Str.{bytes_eq}
use Rattle.std.proofs.lemmas.Slice.Eq.{bytes_eq-Decides}
use Rattle.std.proofs.lemmas.Bool.Decides.{nat_tests}
use Rattle.std.proofs.lemmas.List.{append-nil}
use Rattle.gql_tree.specs.declared.path.Key.{Key}
use Rattle.gql_tree.specs.declared.path.Key.TheVariants.{Name}
use Rattle.gql_tree.specs.declared.value.Value.{Value, out-Value}
use Rattle.gql_tree.specs.declared.value.Value.TheVariants.{Null}
use Rattle.gql_tree.specs.declared.delivery.Group.{Group}
use Rattle.gql_tree.specs.declared.delivery.Stream.{Stream}
use Rattle.gql_tree.specs.declared.delivery.Outcome.{Outcome}
use Rattle.gql_tree.specs.declared.delivery.Outcome.TheVariants.{Good, Failed}
use Rattle.gql_tree.specs.declared.delivery.RegionResult.{RegionResult}
use Rattle.gql_tree.specs.declared.delivery.TaskWork.TheVariants.{Fields, Item}
use Rattle.gql_tree.specs.Flat.{Mark, object, flat, members_of}
use Rattle.gql_tree.specs.Forest.{Forest, numbers, items_to_come, tasks_of, outcome_value}
use Rattle.gql_tree.specs.Fate.{is_good}
use Rattle.gql_tree.specs.WellFormed.{Site, keys_of, sites, is_prefix, mark_at, shows_object, shows_nothing, no_two, stands_below, brings_new_keys, has_the_keys, has_its_fields, IsWellFormed}
use Rattle.gql_confluence.proofs.Parts.{In, in_right, in_cases, HasAt}
use Rattle.gql_confluence.proofs.Lists.{and_left, in_map, in_flat, all_at, any_at, to_any}
use Rattle.gql_confluence.proofs.Deciders.{prefix_drop, prefix_of, drop_of}
use Rattle.gql_confluence.proofs.Values.{object_mark, first_key, nothing_below_null}
use Rattle.gql_confluence.proofs.Owning.{value_in, part_in, IsBelow}

-- ---- lists

pub all_rec_at : {X : Type 0} (P : X → Type 0) (xs : List X) → AllByRecursion P xs → (x : X) → In x xs → P x
all_rec_at P [] h x i = absurd i
all_rec_at P (y ∷ xs) h x (inl e) = subst P (sym e) h.0
all_rec_at P (y ∷ xs) h x (inr i) = all_rec_at P xs h.1 x i

not_any_by : {X : Type 0} (p : X → Bool) (xs : List X) → not (list_any p xs) ≡ true → (x : X) → In x xs → p x ≡ false
not_any_by p xs h x i = by (p x) refl where
  by : (b : Bool) → p x ≡ b → p x ≡ false
  by true e = let f : list_any p xs ≡ true = to_any p xs x i e in absurd (cc)
  by false e = e

-- of two elements of an apart list that stand one behind the other
pub apart_at : {X : Type 0} (same : X → X → Bool) (xs : List X) (y : X) (ys : List X) → no_two same (xs ++ y ∷ ys) ≡ true → (x : X) → In x xs → same x y ≡ false
apart_at same [] y ys h x i = absurd i
apart_at same (z ∷ xs) y ys h x (inl e) =
    let p = and_left (not (list_any (same z) (xs ++ y ∷ ys))) (no_two same (xs ++ y ∷ ys)) h in
    ap (λ w. same w y) e ∙ not_any_by (same z) (xs ++ y ∷ ys) p.0 y (in_right y xs (y ∷ ys) (inl refl))
apart_at same (z ∷ xs) y ys h x (inr i) = apart_at same xs y ys (and_left (not (list_any (same z) (xs ++ y ∷ ys))) (no_two same (xs ++ y ∷ ys)) h).1 x i

-- ---- tasks

fields_same : (g h : Group) → Fields g ≡ Fields h → g ≡ h
fields_same g h e = cc

fields_item : (g : Group) (s : Stream) (i : ℕ) → Fields g ≡ Item s i → ⊥
fields_item g s i e = cc

-- a task of a group is of a group of the region
pub listed : (r : RegionResult) (g : Group) → In (Fields g) (tasks_of r) → In g r.groups
listed r g i = by (in_cases (Fields g) (map Fields r.groups) (flat_map items_to_come r.streams) i) where
  by : In (Fields g) (map Fields r.groups) ⊎ In (Fields g) (flat_map items_to_come r.streams) → In g r.groups
  by (inl j) = let m = in_map Fields (Fields g) r.groups j in subst (λ (h : Group). In h r.groups) (sym (fields_same g m.0 m.2)) m.1
  by (inr j) =
      let m = in_flat items_to_come (Fields g) r.streams j in
      let n = in_map (Item m.0) (Fields g) (numbers m.0.first (m.0.length - m.0.first)) m.2 in
      absurd (fields_item g m.0 n.0 n.2)

-- ---- one region of a group

cond_some : (b : Bool) (o : Option Mark) (m : Mark) → cond b o None ≡ Some m → (b ≡ true) × (o ≡ Some m)
cond_some true o m h = (refl, h)
cond_some false o m h = absurd (cc)

pub marked : (y : Site) (path : List Key) (m : Mark) → mark_at y path ≡ Some m → (is_prefix y.at path ≡ true) × (flat (value_in y) (drop (length y.at) path) ≡ Some m)
marked y path m h = cond_some (is_prefix y.at path) (flat (value_in y) (drop (length y.at) path)) m h

to_marked : (y : Site) (rest : List Key) → mark_at y (y.at ++ rest) ≡ flat (value_in y) rest
to_marked y rest = rw (prefix_of y.at rest) (ap (flat (value_in y)) (drop_of y.at rest))

or_cases : (a b : Bool) → (a || b) ≡ true → (a ≡ true) ⊎ (b ≡ true)
or_cases true b e = inl refl
or_cases false b e = inr e

absent_by : (o : Option Mark) (m : Mark) → o ≡ Some m → shows_nothing o ≡ true → ⊥
absent_by None m e h = cc
absent_by (Some n) m e h = cc

pub good_or : (o : Outcome) → (elim o [ Good x ↦ true | Failed ↦ false ] ≡ true) ⊎ (outcome_value o ≡ Null)
good_or (Good x) = inl refl
good_or Failed = inr refl

module _ (f : Forest) (wf : IsWellFormed f) where
  abbrev pub regions : List Site
  regions = sites f

  -- what the region of a group has, where the region in which it arises has that
  module _ (y a : Site) (g : Group) (is_y : In y regions) (is_a : In a regions) (is_g : In g y.region.groups)
      (at : a.at ≡ g.path.keys) (keys : a.keys ≡ keys_of g) (no_root : a.is_root ≡ false) where
    abbrev rest : List Key
    rest = drop (length y.at) g.path.keys

    place : (shows_object (mark_at y g.path.keys) ≡ true) × ((y.is_root || nat_lt (length y.at) (length g.path.keys)) ≡ true)
    place = and_left (shows_object (mark_at y g.path.keys)) _ (all_at (stands_below y) y.region.groups (all_at (λ x. list_all (stands_below x) x.region.groups) regions wf.groups_stand y is_y) g is_g)

    there : (is_prefix y.at g.path.keys ≡ true) × (flat (value_in y) rest ≡ Some object)
    there = marked y g.path.keys object (object_mark (mark_at y g.path.keys) place.0)

    path_is : g.path.keys ≡ y.at ++ rest
    path_is = prefix_drop y.at g.path.keys there.0

    proper_by : (l : List Key) → rest ≡ l → (y.is_root ≡ true) ⊎ (nat_lt (length y.at) (length g.path.keys) ≡ true) → (y.is_root ≡ true) ⊎ ((k : Key) × (r : List Key) × (rest ≡ k ∷ r))
    proper_by l e (inl h) = inl h
    proper_by (k ∷ l) e (inr h) = inr (k, l, e)
    proper_by [] e (inr h) =
        let p : length g.path.keys ≡ length y.at = ap length path_is ∙ ap (λ (m : List Key). length (y.at ++ m)) e ∙ ap length (append-nil y.at) in
        absurd (grind (arith, nat_tests, p, h))

    new_at : (n : List ℕ) → In n (keys_of g) → (m : Mark) → HasAt (part_in y) (g.path.keys ++ Name n ∷ []) m → ⊥
    new_at n i m h =
        let all = all_at (brings_new_keys y) y.region.groups (all_at (λ x. list_all (brings_new_keys x) x.region.groups) regions wf.new_keys y is_y) g is_g in
        let none = all_at (λ k. shows_nothing (mark_at y (g.path.keys ++ Name k ∷ []))) (keys_of g) all n i in
        absent_by (mark_at y (g.path.keys ++ Name n ∷ [])) m (ap (mark_at y) h.1 ∙ (to_marked y h.0 ∙ h.2)) none

    -- a good region is an object whose names are its keys
    fields_of : is_good a.region ≡ true → (shows_object (flat (value_in a) []) ≡ true) × (has_the_keys a.keys (members_of (out-Value (value_in a))) ≡ true)
    fields_of good = and_left _ _ (by (is_good a.region) a.is_root good no_root (all_at has_its_fields regions wf.fields a is_a)) where
      by : (b c : Bool) → b ≡ true → c ≡ false → (not b || cond c true (shows_object (flat (value_in a) []) && has_the_keys a.keys (members_of (out-Value (value_in a))))) ≡ true
          → (shows_object (flat (value_in a) []) && has_the_keys a.keys (members_of (out-Value (value_in a)))) ≡ true
      by true true e e' h = absurd (cc)
      by true false e e' h = h
      by false c e e' h = absurd (cc)

    pub is_ready : is_good a.region ≡ true → flat (value_in a) [] ≡ Some object
    is_ready good = object_mark (flat (value_in a) []) (fields_of good).0

    keyed_by : (is_good a.region ≡ true) ⊎ (value_in a ≡ Null) → (k : Key) (r : List Key) (m : Mark) → flat (value_in a) (k ∷ r) ≡ Some m → (n : List ℕ) × (k ≡ Name n) × In n a.keys
    keyed_by (inr null) k r m h = absurd (nothing_below_null k r m (ap (λ (v : Value). flat v (k ∷ r)) (sym null) ∙ h))
    keyed_by (inl good) k r m h =
        let first = first_key (value_in a) k r m (is_ready good) h in
        let names = and_left (list_all (λ x. list_any (bytes_eq x.name) a.keys) (members_of (out-Value (value_in a)))) _ (fields_of good).1 in
        let any = any_at (bytes_eq first.2.0.name) a.keys (all_at (λ x. list_any (bytes_eq x.name) a.keys) (members_of (out-Value (value_in a))) names.0 first.2.0 first.2.1) in
        let same : any.0 ≡ first.0 = sym ((bytes_eq-Decides first.2.0.name any.0).0 any.2) ∙ first.2.2 in
        (first.0, first.1, subst (λ (n : List ℕ). In n a.keys) same any.1)

    pub is_below : IsBelow a y
    is_below = record {
      no_root = no_root;
      rest = rest;
      at = at ∙ path_is;
      has = there.1;
      proper = proper_by rest refl (or_cases y.is_root _ place.1);
      new = λ n i m h. new_at n (subst (λ (ks : List (List ℕ)). In n ks) keys i) m (subst (λ (p : List Key). HasAt (part_in y) (p ++ Name n ∷ []) m) at h);
      keyed = keyed_by (good_or a.region.outcome);
    }
    -- ---- all regions
