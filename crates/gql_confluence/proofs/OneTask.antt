-- When two tasks of a forest are one.
use Rattle.std.proofs.Common.{◌≡◌, ◌⊎◌, inl, inr, ℕ, List, [], ◌∷◌, ◌++◌, map, refl, sym, subst, ◌∙◌, ap, Bool, true, false, arith}
use Rattle.std.specs.Prelude.{◌==◌}
use Rattle.std.specs.Cmp.Lexicographic.{slice_cmp}
use Rattle.std.specs.Ordering.{is_eq, nat_cmp, ordering_then}
use Rattle.std.specs.declared.cmp.Ordering.{Ordering}
use Rattle.std.specs.declared.cmp.Ordering.TheVariants.{Less, Equal, Greater}
use Rattle.std.proofs.lemmas.Bool.Decides.{nat_tests}
use Rattle.gql_tree.specs.declared.path.Key.{Key}
use Rattle.gql_tree.specs.declared.path.Key.TheVariants.{Name, Index}
use Rattle.gql_tree.specs.declared.delivery.FragId.{FragId}
use Rattle.gql_tree.specs.declared.delivery.Frag.{Frag}
use Rattle.gql_tree.specs.declared.delivery.Group.{Group}
use Rattle.gql_tree.specs.declared.delivery.RegionResult.{RegionResult}
use Rattle.gql_tree.specs.declared.delivery.TaskWork.{TaskWork}
use Rattle.gql_tree.specs.declared.delivery.TaskWork.TheVariants.{Fields, Item}
use Rattle.gql_tree.specs.Keys.{same_lists, same_key}
use Rattle.gql_tree.specs.Order.{key_cmp, path_cmp}
use Rattle.gql_tree.specs.Forest.{Branches, grown, none, more}
use Rattle.gql_tree.specs.Fate.{Scope, scope_of}
use Rattle.gql_tree.specs.Numbering.{work_cmp}
use Rattle.gql_tree.specs.WellFormed.{Site, works_of, keys_of, root_site, sites_below, no_two, collide}
use Rattle.gql_merge.proofs.Ordered.{IsExact}
use Rattle.gql_confluence.proofs.Parts.{In, in_left, in_right, in_cases}
use Rattle.gql_confluence.proofs.Deciders.{same_keys-refl}
use Rattle.gql_confluence.proofs.NoTwo.{no_two_cross}
use Rattle.gql_confluence.proofs.ItemsApart.{coincide}
use Rattle.gql_confluence.proofs.Places.{same_numbers-refl}

-- ---- when two tasks are one

both_tie : (o p : Ordering) → ordering_then o p ≡ Equal → (o ≡ Equal) × (p ≡ Equal)
both_tie Less p e = absurd (cc)
both_tie Equal p e = (refl, e)
both_tie Greater p e = absurd (cc)

numbers_exact : IsExact nat_cmp
numbers_exact x y e = grind (arith, nat_tests)

lists_exact : {X : Type 0} (cmp : X → X → Ordering) → IsExact cmp → IsExact (slice_cmp cmp)
lists_exact cmp h [] [] e = refl
lists_exact cmp h [] (y ∷ ys) e = absurd (cc)
lists_exact cmp h (x ∷ xs) [] e = absurd (cc)
lists_exact cmp h (x ∷ xs) (y ∷ ys) e = let p = both_tie _ _ e in λ i. h x y p.0 i ∷ lists_exact cmp h xs ys p.1 i

keys_exact : IsExact key_cmp
keys_exact (Index i) (Index j) e = ap Index (numbers_exact i j e)
keys_exact (Index i) (Name n) e = absurd (cc)
keys_exact (Name m) (Index j) e = absurd (cc)
keys_exact (Name m) (Name n) e = ap Name (lists_exact nat_cmp numbers_exact m n e)

paths_exact : IsExact path_cmp
paths_exact = lists_exact key_cmp keys_exact

is_equal : (o : Ordering) → is_eq o ≡ true → o ≡ Equal
is_equal Less e = absurd (cc)
is_equal Equal e = refl
is_equal Greater e = absurd (cc)

abbrev places_of : List FragId → List ℕ
places_of ids = map (λ (o : FragId). o.place) ids

-- one place in the answer, and for groups one list of owners
abbrev pub OneTask : TaskWork → TaskWork → Type 0
OneTask (Fields g) (Fields h) = (g.path.keys ≡ h.path.keys) × (places_of g.owners ≡ places_of h.owners)
OneTask (Fields g) (Item t j) = ⊥
OneTask (Item s i) (Fields h) = ⊥
OneTask (Item s i) (Item t j) = (s.path.keys ≡ t.path.keys) × (i ≡ j)

pub one_task : (v w : TaskWork) → is_eq (work_cmp v w) ≡ true → OneTask v w
one_task (Fields g) (Fields h) e =
    let k = both_tie (path_cmp g.path.keys h.path.keys) (slice_cmp nat_cmp (places_of g.owners) (places_of h.owners)) (is_equal _ e) in
    (paths_exact g.path.keys h.path.keys k.0, lists_exact nat_cmp numbers_exact (places_of g.owners) (places_of h.owners) k.1)
one_task (Fields g) (Item t j) e = absurd (cc)
one_task (Item s i) (Fields h) e = absurd (cc)
one_task (Item s i) (Item t j) e =
    let k = both_tie (path_cmp s.path.keys t.path.keys) (nat_cmp i j) (is_equal _ e) in
    (paths_exact s.path.keys t.path.keys k.0, numbers_exact i j k.1)

pub task_back : (v w : TaskWork) → OneTask v w → OneTask w v
task_back (Fields g) (Fields h) k = (sym k.0, sym k.1)
task_back (Fields g) (Item t j) k = absurd k
task_back (Item s i) (Fields h) k = absurd k
task_back (Item s i) (Item t j) k = (sym k.0, sym k.1)

-- ---- tasks and their regions

-- the region of a task
abbrev pub IsRegionOf : TaskWork → Site → Type 0
IsRegionOf (Fields g) z = (z.is_root ≡ false) × (z.at ≡ g.path.keys) × (z.owners ≡ g.owners)
IsRegionOf (Item st n) z = (z.is_root ≡ true) × (z.at ≡ st.path.keys ++ Index n ∷ [])

abbrev Differ : Site → Site → Type 0
Differ x y = (collide x y ≡ false) × (coincide x y ≡ false)

never : (b : Bool) → b ≡ true → b ≡ false → ⊥
never b e f = cc

-- regions that differ are of two tasks
tasks_differ : (v w : TaskWork) (x y : Site) → IsRegionOf v x → IsRegionOf w y → Differ x y → OneTask v w → ⊥
tasks_differ (Fields g) (Fields h) x y a b d k =
    let at : x.at ≡ y.at = a.1 ∙ (k.0 ∙ sym b.1) in
    let paths : same_lists same_key x.at y.at ≡ true = ap (λ (l : List Key). same_lists same_key l y.at) at ∙ same_keys-refl y.at in
    let own : places_of x.owners ≡ places_of y.owners = ap places_of a.2 ∙ (k.1 ∙ ap places_of (sym b.2)) in
    let owners : same_lists (λ i j. i == j) (places_of x.owners) (places_of y.owners) ≡ true = ap (λ (l : List ℕ). same_lists (λ i j. i == j) l (places_of y.owners)) own ∙ same_numbers-refl (places_of y.owners) in
    let met : collide x y ≡ true = rw (a.0, b.0, paths, owners) refl in
    never (collide x y) met d.0
tasks_differ (Fields g) (Item t j) x y a b d k = k
tasks_differ (Item s i) (Fields h) x y a b d k = k
tasks_differ (Item s i) (Item t j) x y a b d k =
    let at : x.at ≡ y.at = a.1 ∙ ((λ z. k.0 z ++ Index (k.1 z) ∷ []) ∙ sym b.1) in
    let paths : same_lists same_key x.at y.at ≡ true = ap (λ (l : List Key). same_lists same_key l y.at) at ∙ same_keys-refl y.at in
    let met : coincide x y ≡ true = rw (a.0, b.0, paths) refl in
    never (coincide x y) met d.1

abbrev pub all_works : Branches → List TaskWork
all_works none = []
all_works (more w (grown r inner) bs) = w ∷ (all_works inner ++ all_works bs)

pub record HasRegion (w : TaskWork) (l : List Site) : Type 0 where
  pub site : Site
  pub is_site : In site l
  pub is_of : IsRegionOf w site

abbrev pub group_site : Scope → List Frag → Group → RegionResult → Branches → Site
group_site s around g r inner = record { at = g.path.keys; is_root = false; owners = g.owners; keys = keys_of g; around = r.fragments ++ around; scope = s; region = r; works = works_of inner }

pub works_lie : (s : Scope) (around : List Frag) (bs : Branches) (w : TaskWork) → In w (all_works bs) → HasRegion w (sites_below s around bs)
works_lie s around none w i = absurd i
works_lie s around (more (Fields g) (grown r inner) bs) w (inl e) = record { site = group_site s around g r inner; is_site = inl refl; is_of = subst (λ (v : TaskWork). IsRegionOf v (group_site s around g r inner)) (sym e) (refl, refl, refl) }
works_lie s around (more (Fields g) (grown r inner) bs) w (inr i) = by (in_cases w (all_works inner) (all_works bs) i) (works_lie s (r.fragments ++ around) inner w) (works_lie s around bs w) where
  by : In w (all_works inner) ⊎ In w (all_works bs) → (In w (all_works inner) → HasRegion w (sites_below s (r.fragments ++ around) inner)) → (In w (all_works bs) → HasRegion w (sites_below s around bs)) → HasRegion w (sites_below s around (more (Fields g) (grown r inner) bs))
  by (inl j) rec_a rec_b = let h = rec_a j in record { site = h.site; is_site = inr (in_left h.site (sites_below s (r.fragments ++ around) inner) (sites_below s around bs) h.is_site); is_of = h.is_of }
  by (inr j) rec_a rec_b = let h = rec_b j in record { site = h.site; is_site = inr (in_right h.site (sites_below s (r.fragments ++ around) inner) (sites_below s around bs) h.is_site); is_of = h.is_of }
works_lie s around (more (Item st n) (grown r inner) bs) w (inl e) = record { site = root_site (st.path.keys ++ Index n ∷ []) r inner; is_site = inl refl; is_of = subst (λ (v : TaskWork). IsRegionOf v (root_site (st.path.keys ++ Index n ∷ []) r inner)) (sym e) (refl, refl) }
works_lie s around (more (Item st n) (grown r inner) bs) w (inr i) = by (in_cases w (all_works inner) (all_works bs) i) (works_lie (scope_of (grown r inner)) r.fragments inner w) (works_lie s around bs w) where
  by : In w (all_works inner) ⊎ In w (all_works bs) → (In w (all_works inner) → HasRegion w (sites_below (scope_of (grown r inner)) r.fragments inner)) → (In w (all_works bs) → HasRegion w (sites_below s around bs)) → HasRegion w (sites_below s around (more (Item st n) (grown r inner) bs))
  by (inl j) rec_a rec_b = let h = rec_a j in record { site = h.site; is_site = inr (in_left h.site (sites_below (scope_of (grown r inner)) r.fragments inner) (sites_below s around bs) h.is_site); is_of = h.is_of }
  by (inr j) rec_a rec_b = let h = rec_b j in record { site = h.site; is_site = inr (in_right h.site (sites_below (scope_of (grown r inner)) r.fragments inner) (sites_below s around bs) h.is_site); is_of = h.is_of }

abbrev pub Apart : List Site → Type 0
Apart l = (no_two collide l ≡ true) × (no_two coincide l ≡ true)

-- tasks of two parts of an apart list are two
pub cross : (xs ys : List Site) → Apart (xs ++ ys) → (v w : TaskWork) → HasRegion v xs → HasRegion w ys → OneTask v w → ⊥
cross xs ys a v w h k = tasks_differ v w h.site k.site h.is_of k.is_of (no_two_cross collide xs ys a.0 h.site k.site h.is_site k.is_site, no_two_cross coincide xs ys a.1 h.site k.site h.is_site k.is_site)
