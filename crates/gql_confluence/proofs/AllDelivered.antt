-- Where no group and no item of a forest failed, all of it is delivered.
use Rattle.std.proofs.Common.{◌≡◌, ◌↔◌, inl, inr, ℕ, zero, suc, ◌<◌, ◌+◌, ◌-◌, List, [], ◌∷◌, ◌++◌, map, length, refl, sym, subst, ◌∙◌, ap, Bool, true, false, cond, Option, Some, None, arith}
use Rattle.std.specs.Prelude.{IsTrue, filter, find, flat_map, not, nat_lt, ◌&&◌}
use Rattle.std.specs.List.{list_all}
use Rattle.std.proofs.lemmas.List.{map-append, append-nil}
use Rattle.std.proofs.lemmas.Bool.Decides.{nat_tests}
use Rattle.gql_tree.specs.declared.path.Key.{Key}
use Rattle.gql_tree.specs.declared.path.Key.TheVariants.{Index}
use Rattle.gql_tree.specs.declared.value.Value.{Value}
use Rattle.gql_tree.specs.declared.delivery.Failure.{Failure}
use Rattle.gql_tree.specs.declared.delivery.Fault.{Fault}
use Rattle.gql_tree.specs.declared.delivery.Frag.{Frag}
use Rattle.gql_tree.specs.declared.delivery.Stream.{Stream}
use Rattle.gql_tree.specs.declared.delivery.RegionResult.{RegionResult}
use Rattle.gql_tree.specs.declared.delivery.TaskWork.{TaskWork}
use Rattle.gql_tree.specs.declared.delivery.TaskWork.TheVariants.{Fields, Item}
use Rattle.gql_tree.specs.Keys.{same_lists, same_key}
use Rattle.gql_tree.specs.Flat.{Mark, flat}
use Rattle.gql_tree.specs.Same.{SameFlat}
use Rattle.gql_tree.specs.Order.{fault_cmp, failure_cmp}
use Rattle.gql_tree.specs.Ordered.{ordered}
use Rattle.gql_tree.specs.Forest.{Forest, Branches, grown, none, more, region, numbers, tasks_of, outcome_value}
use Rattle.gql_tree.specs.Fate.{is_good, GroupRun, ItemRun, groups_below, fragments_below, is_ok, is_delivered, is_announced, items_run, items_of_stream, is_item_delivered, same_path}
use Rattle.gql_tree.specs.Merged.{Part, part, grown_list, stream_failures, fragment_failures, Delivery, one, both, nothing, whole_scope, delivered_below, delivery, HasMark, IsMerged}
use Rattle.gql_tree.specs.WellFormed.{Site, works_of, root_site, sites_below, sites, no_two, begins_a_list, shows_list, mark_at, IsWellFormed}
use Rattle.gql_model.specs.Plain.{kept}
use Rattle.gql_model.proofs.Kept.{kept-ordered, kept-same}
use Rattle.gql_merge.proofs.Totals.{faults_total}
use Rattle.gql_confluence.specs.Everything.{whole_list, everything, each_task_is_good, IsAllOf, FailuresAreTold, AllIsDelivered, ValuesAreSame, ErrorsAreSame}
use Rattle.gql_confluence.proofs.Parts.{In, in_left, in_right}
use Rattle.gql_confluence.proofs.Lists.{and_left, in_filter, all_at, to_all}
use Rattle.gql_confluence.proofs.Sorted.{to_ordered}
use Rattle.gql_confluence.proofs.NoTwo.{no_two_at}
use Rattle.gql_confluence.proofs.Scopes.{runs_lie, items_lie}
use Rattle.gql_confluence.proofs.Items.{flat_append, alike, is_work, works_are}
use Rattle.gql_confluence.proofs.Parents.{s, fs, IsOf, root_is, below, is_below}
use Rattle.gql_confluence.proofs.NoFailures as fine

-- ---- lists

filter_all : {X : Type 0} (p : X → Bool) (xs : List X) → ((x : X) → In x xs → p x ≡ true) → filter p xs ≡ xs
filter_all p [] h = refl
filter_all p (x ∷ xs) h = ap (λ b. cond b (x ∷ filter p xs) (filter p xs)) (h x (inl refl)) ∙ ap (λ l. x ∷ l) (filter_all p xs (λ y i. h y (inr i)))

filter_none : {X : Type 0} (p : X → Bool) (xs : List X) → ((x : X) → In x xs → p x ≡ false) → filter p xs ≡ []
filter_none p [] h = refl
filter_none p (x ∷ xs) h = ap (λ b. cond b (x ∷ filter p xs) (filter p xs)) (h x (inl refl)) ∙ filter_none p xs (λ y i. h y (inr i))

map_same : {X Y : Type 0} (g k : X → Y) (xs : List X) → ((x : X) → In x xs → g x ≡ k x) → map g xs ≡ map k xs
map_same g k [] h = refl
map_same g k (x ∷ xs) h = λ i. h x (inl refl) i ∷ map_same g k xs (λ y j. h y (inr j)) i

flat_nothing : {X Y : Type 0} (g : X → List Y) (xs : List X) → ((x : X) → In x xs → g x ≡ []) → flat_map g xs ≡ []
flat_nothing g [] h = refl
flat_nothing g (x ∷ xs) h = λ i. h x (inl refl) i ++ flat_nothing g xs (λ y j. h y (inr j)) i

length_numbers : (m n : ℕ) → length (numbers m n) ≡ n
length_numbers m zero = refl
length_numbers m (suc n) = ap suc (length_numbers (m + 1) n)

length_mapped : {X Y : Type 0} (g : X → Y) (xs : List X) → length (map g xs) ≡ length xs
length_mapped g [] = refl
length_mapped g (x ∷ xs) = ap suc (length_mapped g xs)

-- ---- the streams of a region whose items are good

none_found : (l : List ItemRun) → ((x : ItemRun) → In x l → is_good x.region ≡ true) → find (λ x. not (is_good x.region)) l ≡ None
none_found [] h = refl
none_found (x ∷ l) h = ap (λ b. cond (not b) (Some x) (find (λ y. not (is_good y.region)) l)) (h x (inl refl)) ∙ none_found l (λ y i. h y (inr i))

-- as many items were run as are tasks
count_works : (st : Stream) (bs : Branches) → length (items_of_stream (items_run bs) st) ≡ length (filter (is_work st.path.keys) (works_of bs))
count_works st none = refl
count_works st (more (Fields g) t bs) = count_works st bs
count_works st (more (Item su n) t bs) = by (same_lists same_key su.path.keys st.path.keys) (record { stream = su; index = n; region = region t }) (Item su n) (count_works st bs) where
  by : (b : Bool) (x : ItemRun) (w : TaskWork) → length (items_of_stream (items_run bs) st) ≡ length (filter (is_work st.path.keys) (works_of bs))
      → length (cond b (x ∷ items_of_stream (items_run bs) st) (items_of_stream (items_run bs) st)) ≡ length (cond b (w ∷ filter (is_work st.path.keys) (works_of bs)) (filter (is_work st.path.keys) (works_of bs)))
  by true x w e = ap suc e
  by false x w e = e

module _ (r : RegionResult) (inner : Branches) (good : (x : ItemRun) → In x (items_run inner) → is_good x.region ≡ true) where
  of_stream : (st : Stream) (x : ItemRun) → In x (items_of_stream (items_run inner) st) → is_good x.region ≡ true
  of_stream st x i = good x (in_filter (λ (y : ItemRun). same_path y.stream.path st.path) x (items_run inner) i).0

  streams_fine : flat_map (stream_failures (items_run inner)) r.streams ≡ []
  streams_fine = flat_nothing (stream_failures (items_run inner)) r.streams (λ st i. ap (fine.told st) (none_found (items_of_stream (items_run inner) st) (of_stream st)))

  module _ (works : works_of inner ≡ tasks_of r) (differ : no_two alike r.streams ≡ true) (further : (st : Stream) → In st r.streams → st.first < st.length) where
    list_is_whole : (st : Stream) → In st r.streams → grown_list (items_run inner) st ≡ whole_list st
    list_is_whole st i =
        let all = filter_all (λ (x : ItemRun). is_item_delivered (items_run inner) x.stream x.index) (items_of_stream (items_run inner) st) (λ x j. fine.item_delivered_good (items_run inner) good x.stream x.index) in
        let number : length (items_of_stream (items_run inner) st) ≡ st.length - st.first =
        count_works st inner ∙ (ap (λ (l : List TaskWork). length (filter (is_work st.path.keys) l)) works
        ∙ (ap length (works_are st.path.keys st refl r differ i) ∙ (length_mapped (Item st) (numbers st.first (st.length - st.first)) ∙ length_numbers st.first (st.length - st.first)))) in
        let lt = further st i in
        let whole : st.first + length (filter (λ (x : ItemRun). is_item_delivered (items_run inner) x.stream x.index) (items_of_stream (items_run inner) st)) ≡ st.length =
        ap (λ (l : List ItemRun). st.first + length l) all ∙ (ap (λ n. st.first + n) number ∙ omega arith) in
        λ k. record { at = st.path.keys; length = whole k }

    lists_are_whole : map (grown_list (items_run inner)) r.streams ≡ map whole_list r.streams
    lists_are_whole = map_same (grown_list (items_run inner)) whole_list r.streams list_is_whole

-- ---- below a region of a delivered scope

-- these regions have their parts in it, their lists are whole, and nothing fails
record IsAll (d : Delivery) (zs : List Site) : Type 0 where
  parts : d.parts ≡ map (λ (x : Site). part x.at x.region) zs
  lists : d.lists ≡ flat_map (λ (x : Site). map whole_list x.region.streams) zs
  failures : d.failures ≡ []

-- of two lists of regions
all_both : (d e : Delivery) (ys zs : List Site) → IsAll d ys → IsAll e zs → IsAll (both d e) (ys ++ zs)
all_both d e ys zs a b = record {
  parts = (λ i. a.parts i ++ b.parts i) ∙ sym (map-append (λ (x : Site). part x.at x.region) ys zs);
  lists = (λ i. a.lists i ++ b.lists i) ∙ sym (flat_append (λ (x : Site). map whole_list x.region.streams) ys zs);
  failures = λ i. a.failures i ++ b.failures i;
}

-- of one region
all_one : (y : Site) (inner : Branches) → flat_map (stream_failures (items_run inner)) y.region.streams ≡ [] → map (grown_list (items_run inner)) y.region.streams ≡ map whole_list y.region.streams → IsAll (one y.at y.region (items_run inner)) (y ∷ [])
all_one y inner fails lists = record { parts = refl; lists = lists ∙ sym (append-nil (map whole_list y.region.streams)); failures = fails }

-- of a scope: its root region, what is below it, and its fragments, of which none fails
with_fragments : (at : List Key) (r : RegionResult) (inner : Branches) (root : Site) (zs : List Site) (inside : Delivery) → ((x : GroupRun) → In x (groups_below inner) → is_good x.region ≡ true)
    → IsAll (one at r (items_run inner)) (root ∷ []) → IsAll inside zs → IsAll (whole_scope at r (items_run inner) (s r inner) inside) (root ∷ zs)
with_fragments at r inner root zs inside good a b =
    let alone : Delivery = record { parts = []; lists = []; failures = fragment_failures (s r inner) } in
    let fine_fragments : fragment_failures (s r inner) ≡ [] = ap (map _) (filter_none (λ (x : Frag). is_announced (s r inner) x.id && not (is_ok (s r inner) x.id)) (fs r inner) (λ x i. by (is_announced (s r inner) x.id) (is_ok (s r inner) x.id) (fine.all_ok r inner good x.id))) in
    let rest : IsAll (both inside alone) zs = record { parts = append-nil inside.parts ∙ b.parts; lists = append-nil inside.lists ∙ b.lists; failures = λ i. b.failures i ++ fine_fragments i } in
    all_both (one at r (items_run inner)) (both inside alone) (root ∷ []) zs a rest
  where
    by : (a b : Bool) → b ≡ true → (a && not b) ≡ false
    by true b e = ap not e
    by false b e = refl

module _ (f : Forest) (wf : IsWellFormed f) where
  longer : (y : Site) → In y (sites f) → (st : Stream) → In st y.region.streams → st.first < st.length
  longer y i st j =
      let b = all_at (begins_a_list y) y.region.streams (all_at (λ z. list_all (begins_a_list z) z.region.streams) (sites f) wf.streams_stand y i) st j in
      let l = (and_left (shows_list st.first (mark_at y st.path.keys)) (nat_lt st.first st.length) b).1 in
      grind (arith, nat_tests)

  -- a region whose tasks are below it, and its items good
  region_all : (y : Site) → In y (sites f) → (inner : Branches) → works_of inner ≡ y.works → ((x : ItemRun) → In x (items_run inner) → is_good x.region ≡ true) → IsAll (one y.at y.region (items_run inner)) (y ∷ [])
  region_all y i inner works good =
      all_one y inner (streams_fine y.region inner good)
      (lists_are_whole y.region inner good (works ∙ fine.works_are f wf y i) (no_two_at alike (λ (z : Site). z.region.streams) (sites f) wf.streams_apart y i) (longer y i))

  -- all that is below a region of a scope without a failed group
  all_below : (ra : RegionResult) (ba : Branches) → ((x : GroupRun) → In x (groups_below ba) → is_good x.region ≡ true)
      → (y : Site) → In y (sites f) → IsOf ra ba y → (items : List ItemRun) → ((x : ItemRun) → In x items → is_good x.region ≡ true)
      → (bs : Branches) → ((w : TaskWork) → In w (works_of bs) → In w y.works) → ((z : Site) → In z (sites_below (s ra ba) y.around bs) → In z (sites f)) → ((x : Frag) → In x (fragments_below bs) → In x (fs ra ba))
      → ((z : Site) → In z (sites_below (s ra ba) y.around bs) → is_good z.region ≡ true) → IsAll (delivered_below (s ra ba) true items bs) (sites_below (s ra ba) y.around bs)
  all_below ra ba good y i is items its none works lie known goods = record { parts = refl; lists = refl; failures = refl }
  all_below ra ba good y i is items its (more (Fields g) (grown r inner) bs) works lie known goods =
      subst (λ d. IsAll (both (cond d (one g.path.keys r (items_run inner)) nothing) (both (delivered_below (s ra ba) d (items_run inner) inner) (delivered_below (s ra ba) true items bs))) (here ∷ (za ++ zb))) (sym comes)
      (all_both (one g.path.keys r (items_run inner)) (both (delivered_below (s ra ba) true (items_run inner) inner) (delivered_below (s ra ba) true items bs)) (here ∷ []) (za ++ zb) (region_all here (lie here (inl refl)) inner refl inner_good)
      (all_both (delivered_below (s ra ba) true (items_run inner) inner) (delivered_below (s ra ba) true items bs) za zb
      (all_below ra ba good here (lie here (inl refl)) is_here (items_run inner) inner_good inner (λ w k. k) (λ x k. lie x (inr (in_left x za zb k))) (λ x k. known x (in_right x r.fragments _ (in_left x (fragments_below inner) (fragments_below bs) k))) (λ x k. goods x (inr (in_left x za zb k))))
      (all_below ra ba good y i is items its bs (λ w k. works w (inr k)) (λ x k. lie x (inr (in_right x za zb k))) (λ x k. known x (in_right x r.fragments _ (in_right x (fragments_below inner) (fragments_below bs) k))) (λ x k. goods x (inr (in_right x za zb k))))))
    where
      za : List Site
      za = sites_below (s ra ba) (r.fragments ++ y.around) inner

      zb : List Site
      zb = sites_below (s ra ba) y.around bs

      here : Site
      here = below ra ba y g r inner

      is_here : IsOf ra ba here
      is_here = is_below ra ba y is g r inner (λ x k. known x (in_left x r.fragments _ k))

      comes : is_delivered (s ra ba) g ≡ true
      comes = let o = fine.owner_of f wf ra ba y i is g (works (Fields g) (inl refl)) in fine.delivered_good ra ba good g o.0 o.1

      inner_good : (x : ItemRun) → In x (items_run inner) → is_good x.region ≡ true
      inner_good x k = let w = items_lie (s ra ba) (r.fragments ++ y.around) inner x k in subst (λ (t : RegionResult). is_good t ≡ true) w.2 (goods w.0 (inr (in_left w.0 za zb w.1)))
  all_below ra ba good y i is items its (more (Item st n) (grown r inner) bs) works lie known goods =
      subst (λ d. IsAll (both (cond d (whole_scope at r (items_run inner) (s r inner) inside) nothing) (delivered_below (s ra ba) true items bs)) (root_site at r inner ∷ (za ++ zb))) (sym (fine.item_delivered_good items its st n))
      (all_both (whole_scope at r (items_run inner) (s r inner) inside) (delivered_below (s ra ba) true items bs) (root_site at r inner ∷ za) zb
      (scope_all (root_site at r inner) (region_all (root_site at r inner) (lie (root_site at r inner) (inl refl)) inner refl inner_good)
      (all_below r inner scope_good (root_site at r inner) (lie (root_site at r inner) (inl refl)) (root_is r inner at) (items_run inner) inner_good inner (λ w k. k) (λ x k. lie x (inr (in_left x za zb k))) (λ x k. in_right x r.fragments (fragments_below inner) k) (λ x k. goods x (inr (in_left x za zb k)))))
      (all_below ra ba good y i is items its bs (λ w k. works w (inr k)) (λ x k. lie x (inr (in_right x za zb k))) known (λ x k. goods x (inr (in_right x za zb k)))))
    where
      at : List Key
      at = st.path.keys ++ Index n ∷ []

      za : List Site
      za = sites_below (s r inner) r.fragments inner

      zb : List Site
      zb = sites_below (s ra ba) y.around bs

      inside : Delivery
      inside = delivered_below (s r inner) true (items_run inner) inner

      inner_good : (x : ItemRun) → In x (items_run inner) → is_good x.region ≡ true
      inner_good x k = let w = items_lie (s r inner) r.fragments inner x k in subst (λ (t : RegionResult). is_good t ≡ true) w.2 (goods w.0 (inr (in_left w.0 za zb w.1)))

      scope_good : (x : GroupRun) → In x (groups_below inner) → is_good x.region ≡ true
      scope_good x k = let w = runs_lie (s r inner) r.fragments inner x k in subst (λ (t : RegionResult). is_good t ≡ true) w.2 (goods w.0 (inr (in_left w.0 za zb w.1)))

      scope_all : (root : Site) → IsAll (one at r (items_run inner)) (root ∷ []) → IsAll inside za → IsAll (whole_scope at r (items_run inner) (s r inner) inside) (root ∷ za)
      scope_all root a b = with_fragments at r inner root za inside scope_good a b

-- ---- the whole forest

module _ (r0 : RegionResult) (bs0 : Branches) (wf : IsWellFormed (grown r0 bs0)) where
  abbrev f : Forest
  f = grown r0 bs0

  abbrev below_all : List Site
  below_all = sites_below (s r0 bs0) r0.fragments bs0

  abbrev root : Site
  root = root_site [] r0 bs0

  abbrev inside : Delivery
  inside = delivered_below (s r0 bs0) true (items_run bs0) bs0

  all : ((z : Site) → In z below_all → is_good z.region ≡ true) → IsAll (delivery f) (sites f)
  all goods = with_fragments [] r0 bs0 root below_all inside groups (region_all f wf root (inl refl) bs0 refl items)
      (all_below f wf r0 bs0 groups root (inl refl) (root_is r0 bs0 []) (items_run bs0) items bs0 (λ w k. k) (λ z k. inr k) (λ x k. in_right x r0.fragments (fragments_below bs0) k) goods)
    where
      groups : (x : GroupRun) → In x (groups_below bs0) → is_good x.region ≡ true
      groups x k = let w = runs_lie (s r0 bs0) r0.fragments bs0 x k in subst (λ (t : RegionResult). is_good t ≡ true) w.2 (goods w.0 w.1)

      items : (x : ItemRun) → In x (items_run bs0) → is_good x.region ≡ true
      items x k = let w = items_lie (s r0 bs0) r0.fragments bs0 x k in subst (λ (t : RegionResult). is_good t ≡ true) w.2 (goods w.0 w.1)

  tasks_fine : (delivery f).failures ≡ [] → (z : Site) → In z below_all → is_good z.region ≡ true
  tasks_fine h =
      let a = fine.no_left (flat_map (stream_failures (items_run bs0)) r0.streams) (inside.failures ++ fragment_failures (s r0 bs0)) h in
      let b = fine.no_left inside.failures (fragment_failures (s r0 bs0)) a.1 in
      fine.tasks_good f wf r0 bs0 (fine.groups_good f wf [] r0 bs0 (λ z k. k) b.1) root (inl refl) (root_is r0 bs0 []) (items_run bs0) (fine.items_good r0 bs0 (fine.works_are f wf root (inl refl)) a.0)
      bs0 (λ w k. k) (λ z k. inr k) (λ x k. in_right x r0.fragments (fragments_below bs0) k) (λ x k. k) (λ x k. k) b.0

  told : ((delivery f).failures ≡ []) ↔ IsTrue (each_task_is_good f)
  told = (
    λ h. to_all (λ (x : Site). is_good x.region) below_all (tasks_fine h),
    λ h. (all (all_at (λ (x : Site). is_good x.region) below_all h)).failures,
  )

  delivered : (delivery f).failures ≡ [] → delivery f ≡ everything f
  delivered h = let a = all (tasks_fine h) in λ i. record { parts = a.parts i; lists = a.lists i; failures = a.failures i }

by_parts : (P : Forest → Type 0) → ((r : RegionResult) (bs : Branches) → IsWellFormed (grown r bs) → P (grown r bs)) → (f : Forest) → IsWellFormed f → P f
by_parts P h (grown r bs) wf = h r bs wf

pub failures_are_told : FailuresAreTold
failures_are_told = by_parts (λ f. ((delivery f).failures ≡ []) ↔ IsTrue (each_task_is_good f)) told

pub all_is_delivered : AllIsDelivered
all_is_delivered = by_parts (λ f. (delivery f).failures ≡ [] → delivery f ≡ everything f) delivered

-- ---- a response without failures

unfailed : (xs : List Failure) → [] ≡ ordered failure_cmp xs → xs ≡ []
unfailed [] e = refl
unfailed (x ∷ xs) e = absurd (fine.nothing_in (ordered failure_cmp (x ∷ xs)) x (sym e) (to_ordered failure_cmp x (x ∷ xs) (inl refl)))

same_marks : (o p : Option Mark) → ((m : Mark) → (o ≡ Some m) ↔ (p ≡ Some m)) → o ≡ p
same_marks None None h = refl
same_marks (Some m) p h = sym ((h m).0 refl)
same_marks None (Some m) h = (h m).1 refl

module _ (f : Forest) (r : RegionResult) (value : Value) (faults : List Fault) (wf : IsWellFormed f) (has : IsAllOf f r) (merged : IsMerged f value faults []) where
  everything_came : delivery f ≡ everything f
  everything_came = all_is_delivered f wf (unfailed (delivery f).failures merged.failures)

  same_value : SameFlat value (outcome_value r.outcome)
  same_value path = same_marks (flat value path) (flat (outcome_value r.outcome) path) (λ m. (
    λ e. (has.marks path m).1 (subst (λ (d : Delivery). HasMark d path m) everything_came ((merged.marks path m).0 e)),
    λ e. (merged.marks path m).1 (subst (λ (d : Delivery). HasMark d path m) (sym everything_came) ((has.marks path m).0 e)),
  ))

  same_errors : kept value faults ≡ kept (outcome_value r.outcome) r.faults
  same_errors =
      let w = outcome_value r.outcome in
      ap (kept value) (merged.errors ∙ ap (λ (d : Delivery). ordered fault_cmp (flat_map (λ (x : Part). x.errors) d.parts)) everything_came)
      ∙ (kept-same value w (ordered fault_cmp (flat_map (λ (x : Part). x.errors) (everything f).parts)) same_value
      ∙ (kept-ordered faults_total w (flat_map (λ (x : Part). x.errors) (everything f).parts) ∙ sym has.errors))

pub values_are_same : ValuesAreSame
values_are_same = same_value

pub errors_are_same : ErrorsAreSame
errors_are_same = same_errors
