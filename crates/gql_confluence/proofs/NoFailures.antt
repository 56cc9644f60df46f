-- Where nothing that is delivered fails, no group and no item failed, and all is delivered.
use Rattle.std.proofs.Common.{◌≡◌, ◌⊎◌, inl, inr, ℕ, zero, suc, ◌≤◌, List, [], ◌∷◌, ◌++◌, length, refl, sym, subst, ◌∙◌, ap, Bool, true, false, cond, Option, Some, None, arith}
use Rattle.std.specs.Prelude.{find, flat_map, option_map, not, nat_lt, ◌&&◌, ◌||◌}
use Rattle.std.specs.List.{list_all}
use Rattle.gql_tree.specs.declared.path.Key.{Key}
use Rattle.gql_tree.specs.declared.path.Key.TheVariants.{Index}
use Rattle.gql_tree.specs.declared.delivery.Failure.{Failure}
use Rattle.gql_tree.specs.declared.delivery.Frag.{Frag}
use Rattle.gql_tree.specs.declared.delivery.FragId.{FragId}
use Rattle.gql_tree.specs.declared.delivery.Group.{Group}
use Rattle.gql_tree.specs.declared.delivery.Stream.{Stream}
use Rattle.gql_tree.specs.declared.delivery.RegionResult.{RegionResult}
use Rattle.gql_tree.specs.declared.delivery.TaskWork.{TaskWork}
use Rattle.gql_tree.specs.declared.delivery.TaskWork.TheVariants.{Fields, Item}
use Rattle.gql_tree.specs.Forest.{Forest, Branches, grown, none, more, tasks_of}
use Rattle.gql_tree.specs.Fate.{is_good, GroupRun, ItemRun, groups_below, fragments_below, has_owner, parent_of, ancestors, groups_of, is_empty, all_good, above, is_ok, is_delivered, is_announced, items_run, items_of_stream, is_item_delivered, same_path}
use Rattle.gql_tree.specs.Merged.{stream_failures, fragment_failures, one, nothing, whole_scope, delivered_below}
use Rattle.gql_tree.specs.WellFormed.{Site, works_of, root_site, sites_below, sites, is_prefix, comes_to_an_end, has_owners, is_owner_in_order, arises_around, IsWellFormed}
use Rattle.gql_confluence.proofs.Parts.{In, in_left, in_right, in_cases}
use Rattle.gql_confluence.proofs.Lists.{and_left, in_filter, to_filter, to_map, all_at, to_all, to_any}
use Rattle.gql_confluence.proofs.Deciders.{same_fragment-refl, same_keys-refl}
use Rattle.gql_confluence.proofs.Chains.{more_steps}
use Rattle.gql_confluence.proofs.Groups.{all_rec_at, listed}
use Rattle.gql_confluence.proofs.ItemsApart.{listed_item}
use Rattle.gql_confluence.proofs.Parents.{s, fs, IsOf, root_is, below, is_below, IsFragment, around_is, ends, above_are, above_that}

never : (b : Bool) → b ≡ true → b ≡ false → ⊥
never b e f = cc

-- ---- a list with nothing in it

pub no_left : {X : Type 0} (xs ys : List X) → xs ++ ys ≡ [] → (xs ≡ []) × (ys ≡ [])
no_left [] ys e = (refl, e)
no_left (x ∷ xs) ys e = absurd (cc)

pub nothing_in : {X : Type 0} (xs : List X) (x : X) → xs ≡ [] → In x xs → ⊥
nothing_in [] x e i = i
nothing_in (y ∷ xs) x e i = absurd (cc)

-- ---- the owners of the groups of a scope

-- an owner of the group is a fragment of the scope
abbrev HasOwner : RegionResult → Branches → Group → Type 0
HasOwner ra ba g = (o : FragId) × In o g.owners × IsFragment ra ba o

module _ (f : Forest) (wf : IsWellFormed f) where
  some_owner : (g : Group) → has_owners g ≡ true → (o : FragId) × In o g.owners
  some_owner g h = by g.owners refl where
    by : (l : List FragId) → g.owners ≡ l → (o : FragId) × In o g.owners
    by [] e = let k : has_owners g ≡ false = rw e refl in absurd (cc)
    by (o ∷ l) e = (o, subst (λ (m : List FragId). In o m) (sym e) (inl refl))

  module _ (ra : RegionResult) (ba : Branches) where
    pub owner_of : (y : Site) → In y (sites f) → IsOf ra ba y → (g : Group) → In (Fields g) y.works → HasOwner ra ba g
    owner_of y i is g w =
        let g_in : In g y.region.groups = listed y.region g (subst (λ (l : List TaskWork). In (Fields g) l) (all_rec_at (λ (z : Site). z.works ≡ tasks_of z.region) (sites f) wf.grows y i) w) in
        let o = some_owner g (all_at has_owners y.region.groups (all_at (λ z. list_all has_owners z.region.groups) (sites f) wf.owned y i) g g_in) in
        let order = all_at (is_owner_in_order y g) g.owners (all_at (λ h. list_all (is_owner_in_order y h) h.owners) y.region.groups (all_at (λ z. list_all (λ h. list_all (is_owner_in_order z h) h.owners) z.region.groups) (sites f) wf.owners y i) g g_in) o.0 o.1 in
        (o.0, o.1, around_is ra ba y is o.0 (and_left (arises_around y o.0) (is_prefix o.0.path.keys g.path.keys) (and_left (arises_around y o.0 && is_prefix o.0.path.keys g.path.keys) _ order).0).0)

    -- each group of the scope has one
    groups_owned : (y : Site) → In y (sites f) → IsOf ra ba y → (bs : Branches) → ((w : TaskWork) → In w (works_of bs) → In w y.works)
        → ((z : Site) → In z (sites_below (s ra ba) y.around bs) → In z (sites f)) → ((x : Frag) → In x (fragments_below bs) → In x (fs ra ba))
        → (x : GroupRun) → In x (groups_below bs) → HasOwner ra ba x.group
    groups_owned y i is none works lie known x h = absurd h
    groups_owned y i is (more (Fields g) (grown r inner) bs) works lie known x (inl e) = subst (λ (w : GroupRun). HasOwner ra ba w.group) (sym e) (owner_of y i is g (works (Fields g) (inl refl)))
    groups_owned y i is (more (Fields g) (grown r inner) bs) works lie known x (inr h) =
        by (in_cases x (groups_below inner) (groups_below bs) h)
        (groups_owned here (lie here (inl refl)) is_here inner (λ w j. j) (λ z j. lie z (inr (in_left z za zb j))) (λ z j. known z (in_right z r.fragments _ (in_left z (fragments_below inner) (fragments_below bs) j))) x)
        (groups_owned y i is bs (λ w j. works w (inr j)) (λ z j. lie z (inr (in_right z za zb j))) (λ z j. known z (in_right z r.fragments _ (in_right z (fragments_below inner) (fragments_below bs) j))) x)
      where
        za : List Site
        za = sites_below (s ra ba) (r.fragments ++ y.around) inner

        zb : List Site
        zb = sites_below (s ra ba) y.around bs

        here : Site
        here = below ra ba y g r inner

        is_here : IsOf ra ba here
        is_here = is_below ra ba y is g r inner (λ x k. known x (in_left x r.fragments _ k))

        by : In x (groups_below inner) ⊎ In x (groups_below bs) → (In x (groups_below inner) → HasOwner ra ba x.group) → (In x (groups_below bs) → HasOwner ra ba x.group) → HasOwner ra ba x.group
        by (inl k) a b = a k
        by (inr k) a b = b k
    groups_owned y i is (more (Item st n) (grown r inner) bs) works lie known x h =
        groups_owned y i is bs (λ w j. works w (inr j)) (λ z j. lie z (inr (in_right z _ (sites_below (s ra ba) y.around bs) j))) known x h

  -- ---- a scope none of whose announced fragments fails

  module _ (at : List Key) (ra : RegionResult) (ba : Branches) (lie : (z : Site) → In z (root_site at ra ba ∷ sites_below (s ra ba) ra.fragments ba) → In z (sites f)) where
    owned : (x : GroupRun) → In x (groups_below ba) → HasOwner ra ba x.group
    owned = groups_owned ra ba (root_site at ra ba) (lie (root_site at ra ba) (inl refl)) (root_is ra ba at) ba (λ w j. j) (λ z j. lie z (inr j)) (λ z j. in_right z ra.fragments (fragments_below ba) j)

    module _ (fine : fragment_failures (s ra ba) ≡ []) where
      -- a fragment all of whose ancestors are good is good
      good_below_good : (id : FragId) → IsFragment ra ba id → ((a : FragId) → In a (above (s ra ba) id) → all_good (s ra ba) a ≡ true) → all_good (s ra ba) id ≡ true
      good_below_good id is good = by (is_empty (s ra ba) id) (is_ok (s ra ba) id) refl refl where
        oks : list_all (is_ok (s ra ba)) (above (s ra ba) id) ≡ true
        oks = to_all (is_ok (s ra ba)) (above (s ra ba) id) (λ a i.
            let rest = to_all (all_good (s ra ba)) (above (s ra ba) a) (λ b j. good b (above_that ra ba f wf at lie id is a b i j)) in
            let h = good a i in
            rw (h, rest) refl)

        empty_good : (l : List GroupRun) → elim l [ [] ↦ true | x ∷ xs ↦ false ] ≡ true → list_all (λ x. is_good x.region) l ≡ true
        empty_good [] e = refl
        empty_good (x ∷ l) e = absurd (cc)

        failed : (x : Frag) → In x (fs ra ba) → x.id ≡ id → is_empty (s ra ba) id ≡ false → is_ok (s ra ba) id ≡ false → ⊥
        failed x i e full bad =
            let told : (is_announced (s ra ba) x.id && not (is_ok (s ra ba) x.id)) ≡ true = subst (λ (w : FragId). (is_announced (s ra ba) w && not (is_ok (s ra ba) w)) ≡ true) (sym e) (rw (full, oks, bad) refl) in
            nothing_in (fragment_failures (s ra ba)) _ fine (to_map (λ (w : Frag). record { path = w.id.path; label = w.label; errors = _ }) x _ (to_filter (λ (w : Frag). is_announced (s ra ba) w.id && not (is_ok (s ra ba) w.id)) x (fs ra ba) i told))

        by : (e o : Bool) → is_empty (s ra ba) id ≡ e → is_ok (s ra ba) id ≡ o → all_good (s ra ba) id ≡ true
        by true o p q = empty_good (groups_of (s ra ba) id) p
        by false true p q = (and_left (all_good (s ra ba) id) _ q).0
        by false false p q = absurd (failed is.0 is.1 is.2 p q)

      good_chain : (n : ℕ) (o : Option FragId) → n ≤ length (fs ra ba) → comes_to_an_end n (fs ra ba) o ≡ true → ((a : FragId) → In a (ancestors n (fs ra ba) o) → IsFragment ra ba a)
          → (a : FragId) → In a (ancestors n (fs ra ba) o) → all_good (s ra ba) a ≡ true
      good_chain zero o le end' are a i = absurd i
      good_chain (suc n) None le end' are a i = absurd i
      good_chain (suc n) (Some q) le end' are a (inr i) = good_chain n (parent_of (fs ra ba) q) (omega arith) end' (λ b j. are b (inr j)) a i
      good_chain (suc n) (Some q) le end' are a (inl e) =
          let same : ancestors n (fs ra ba) (parent_of (fs ra ba) q) ≡ above (s ra ba) q = sym (more_steps (fs ra ba) n (length (fs ra ba)) (parent_of (fs ra ba) q) (omega arith) end') in
          let rec = good_chain n (parent_of (fs ra ba) q) (omega arith) end' (λ b j. are b (inr j)) in
          subst (λ (w : FragId). all_good (s ra ba) w ≡ true) (sym e) (good_below_good q (are q (inl refl)) (λ b j. rec b (subst (λ (l : List FragId). In b l) (sym same) j)))

      each_good : (id : FragId) → IsFragment ra ba id → all_good (s ra ba) id ≡ true
      each_good id is = good_below_good id is (good_chain (length (fs ra ba)) (parent_of (fs ra ba) id) (omega arith) (ends ra ba f wf at lie id is) (above_are ra ba f wf at lie id))

      -- no group of the scope failed
      pub groups_good : (x : GroupRun) → In x (groups_below ba) → is_good x.region ≡ true
      groups_good x i =
          let o = owned x i in
          let owns : has_owner o.0 x ≡ true = to_any (λ w. _) x.group.owners o.0 o.1 (same_fragment-refl o.0) in
          all_at (λ (w : GroupRun). is_good w.region) (groups_of (s ra ba) o.0) (each_good o.0 o.2) x (to_filter (has_owner o.0) x (groups_below ba) i owns)

-- ---- groups and items that are good

-- where no group of a scope failed, each fragment is ok, and each group with an owner is delivered
module _ (ra : RegionResult) (ba : Branches) (good : (x : GroupRun) → In x (groups_below ba) → is_good x.region ≡ true) where
  goods : (id : FragId) → all_good (s ra ba) id ≡ true
  goods id = to_all (λ (x : GroupRun). is_good x.region) (groups_of (s ra ba) id) (λ x j. good x (in_filter (has_owner id) x (groups_below ba) j).0)

  pub all_ok : (id : FragId) → is_ok (s ra ba) id ≡ true
  all_ok id = let a = goods id in let b = to_all (all_good (s ra ba)) (above (s ra ba) id) (λ c j. goods c) in rw (a, b) refl

  pub delivered_good : (g : Group) (o : FragId) → In o g.owners → is_delivered (s ra ba) g ≡ true
  delivered_good g o i = to_any (is_ok (s ra ba)) g.owners o i (all_ok o)

-- the failure of a stream whose first failed item is this one, if any
abbrev pub told : Stream → Option ItemRun → List Failure
told st o = elim (option_map (λ (z : ItemRun). z.region.faults) o) [ None ↦ [] | Some fs ↦ record { path = st.path; label = st.label; errors = fs } ∷ [] ]

-- a stream that doesn't fail has good items alone
fine_items : (st : Stream) (l : List ItemRun) → told st (find (λ z. not (is_good z.region)) l) ≡ [] → (x : ItemRun) → In x l → is_good x.region ≡ true
fine_items st [] h x i = absurd i
fine_items st (y ∷ l) h x i = by (is_good y.region) refl h (λ k j. fine_items st l k x j) i where
  by : (b : Bool) → is_good y.region ≡ b → told st (cond (not b) (Some y) (find (λ z. not (is_good z.region)) l)) ≡ [] → (told st (find (λ z. not (is_good z.region)) l) ≡ [] → In x l → is_good x.region ≡ true) → In x (y ∷ l) → is_good x.region ≡ true
  by true e k rec (inl g) = ap (λ (z : ItemRun). is_good z.region) g ∙ e
  by true e k rec (inr j) = rec k j
  by false e k rec j = absurd (cc)

flat_none : {X Y : Type 0} (g : X → List Y) (xs : List X) → flat_map g xs ≡ [] → (x : X) → In x xs → g x ≡ []
flat_none g [] e x i = absurd i
flat_none g (y ∷ xs) e x (inl f) = ap g f ∙ (no_left (g y) (flat_map g xs) e).0
flat_none g (y ∷ xs) e x (inr i) = flat_none g xs (no_left (g y) (flat_map g xs) e).1 x i

run_works : (bs : Branches) (x : ItemRun) → In x (items_run bs) → In (Item x.stream x.index) (works_of bs)
run_works none x i = absurd i
run_works (more (Fields g) t bs) x i = inr (run_works bs x i)
run_works (more (Item st n) t bs) x (inl e) = inl (ap (λ (z : ItemRun). Item z.stream z.index) e)
run_works (more (Item st n) t bs) x (inr i) = inr (run_works bs x i)

-- where no stream of a region fails, its items are good
pub items_good : (r : RegionResult) (inner : Branches) → works_of inner ≡ tasks_of r → flat_map (stream_failures (items_run inner)) r.streams ≡ [] → (x : ItemRun) → In x (items_run inner) → is_good x.region ≡ true
items_good r inner works fine x i =
    let listed_in = (listed_item r x.stream x.index (subst (λ (l : List TaskWork). In (Item x.stream x.index) l) works (run_works inner x i))).0 in
    fine_items x.stream (items_of_stream (items_run inner) x.stream) (flat_none (stream_failures (items_run inner)) r.streams fine x.stream listed_in) x
    (to_filter (λ (y : ItemRun). same_path y.stream.path x.stream.path) x (items_run inner) i (same_keys-refl x.stream.path.keys))

-- where they are good, each is delivered
pub item_delivered_good : (items : List ItemRun) → ((x : ItemRun) → In x items → is_good x.region ≡ true) → (st : Stream) (n : ℕ) → is_item_delivered items st n ≡ true
item_delivered_good items good st n = to_all (λ (x : ItemRun). nat_lt n x.index || is_good x.region) (items_of_stream items st) (λ x i. by (nat_lt n x.index) (is_good x.region) (good x (in_filter (λ (y : ItemRun). same_path y.stream.path st.path) x items i).0)) where
  by : (a b : Bool) → b ≡ true → (a || b) ≡ true
  by true b e = refl
  by false b e = e

-- ---- below a region of a delivered scope

module _ (f : Forest) (wf : IsWellFormed f) where
  pub works_are : (z : Site) → In z (sites f) → z.works ≡ tasks_of z.region
  works_are = all_rec_at (λ (z : Site). z.works ≡ tasks_of z.region) (sites f) wf.grows

  -- where nothing fails below a region, each task below it is good
  pub tasks_good : (ra : RegionResult) (ba : Branches) → ((x : GroupRun) → In x (groups_below ba) → is_good x.region ≡ true)
      → (y : Site) → In y (sites f) → IsOf ra ba y → (items : List ItemRun) → ((x : ItemRun) → In x items → is_good x.region ≡ true)
      → (bs : Branches) → ((w : TaskWork) → In w (works_of bs) → In w y.works) → ((z : Site) → In z (sites_below (s ra ba) y.around bs) → In z (sites f)) → ((x : Frag) → In x (fragments_below bs) → In x (fs ra ba))
      → ((x : GroupRun) → In x (groups_below bs) → In x (groups_below ba)) → ((x : ItemRun) → In x (items_run bs) → In x items)
      → (delivered_below (s ra ba) true items bs).failures ≡ [] → (z : Site) → In z (sites_below (s ra ba) y.around bs) → is_good z.region ≡ true
  tasks_good ra ba good y i is items fine none works lie known among its h z j = absurd j
  tasks_good ra ba good y i is items fine (more (Fields g) (grown r inner) bs) works lie known among its h z j =
      by j parts
      (λ e. tasks_good ra ba good here (lie here (inl refl)) is_here (items_run inner) (items_good r inner (works_are here (lie here (inl refl))) e.0) inner (λ w k. k) (λ x k. lie x (inr (in_left x za zb k))) (λ x k. known x (in_right x r.fragments _ (in_left x (fragments_below inner) (fragments_below bs) k)))
      (λ x k. among x (inr (in_left x (groups_below inner) (groups_below bs) k))) (λ x k. k) e.1 z)
      (λ e. tasks_good ra ba good y i is items fine bs (λ w k. works w (inr k)) (λ x k. lie x (inr (in_right x za zb k))) (λ x k. known x (in_right x r.fragments _ (in_right x (fragments_below inner) (fragments_below bs) k)))
      (λ x k. among x (inr (in_right x (groups_below inner) (groups_below bs) k))) its e z)
    where
      za : List Site
      za = sites_below (s ra ba) (r.fragments ++ y.around) inner

      zb : List Site
      zb = sites_below (s ra ba) y.around bs

      here : Site
      here = below ra ba y g r inner

      is_here : IsOf ra ba here
      is_here = is_below ra ba y is g r inner (λ x k. known x (in_left x r.fragments _ k))

      comes : is_delivered (s ra ba) g ≡ true
      comes = let o = owner_of f wf ra ba y i is g (works (Fields g) (inl refl)) in delivered_good ra ba good g o.0 o.1

      Told : Bool → List Failure
      Told d = (cond d (one g.path.keys r (items_run inner)) nothing).failures ++ ((delivered_below (s ra ba) d (items_run inner) inner).failures ++ (delivered_below (s ra ba) true items bs).failures)

      parts : (flat_map (stream_failures (items_run inner)) r.streams ≡ []) × ((delivered_below (s ra ba) true (items_run inner) inner).failures ≡ []) × ((delivered_below (s ra ba) true items bs).failures ≡ [])
      parts =
          let a = no_left (flat_map (stream_failures (items_run inner)) r.streams) _ (ap Told (sym comes) ∙ h) in
          let b = no_left (delivered_below (s ra ba) true (items_run inner) inner).failures (delivered_below (s ra ba) true items bs).failures a.1 in
          (a.0, b.0, b.1)

      deeper : In z za ⊎ In z zb → (In z za → is_good z.region ≡ true) → (In z zb → is_good z.region ≡ true) → is_good z.region ≡ true
      deeper (inl k) a b = a k
      deeper (inr k) a b = b k

      by : In z (here ∷ (za ++ zb)) → (flat_map (stream_failures (items_run inner)) r.streams ≡ []) × ((delivered_below (s ra ba) true (items_run inner) inner).failures ≡ []) × ((delivered_below (s ra ba) true items bs).failures ≡ [])
          → ((flat_map (stream_failures (items_run inner)) r.streams ≡ []) × ((delivered_below (s ra ba) true (items_run inner) inner).failures ≡ []) → In z za → is_good z.region ≡ true)
          → ((delivered_below (s ra ba) true items bs).failures ≡ [] → In z zb → is_good z.region ≡ true) → is_good z.region ≡ true
      by (inl e) p a b = ap (λ (x : Site). is_good x.region) e ∙ good (record { group = g; region = r }) (among (record { group = g; region = r }) (inl refl))
      by (inr k) p a b = deeper (in_cases z za zb k) (a (p.0, p.1)) (b p.2)
  tasks_good ra ba good y i is items fine (more (Item st n) (grown r inner) bs) works lie known among its h z j =
      by j
      (λ e. tasks_good r inner (groups_good f wf at r inner lie_item e.2) (root_site at r inner) (lie (root_site at r inner) (inl refl)) (root_is r inner at) (items_run inner) (items_good r inner (works_are (root_site at r inner) (lie (root_site at r inner) (inl refl))) e.0) inner
      (λ w k. k) (λ x k. lie x (inr (in_left x za zb k))) (λ x k. in_right x r.fragments (fragments_below inner) k) (λ x k. k) (λ x k. k) e.1 z)
      (λ e. tasks_good ra ba good y i is items fine bs (λ w k. works w (inr k)) (λ x k. lie x (inr (in_right x za zb k))) known among (λ x k. its x (inr k)) e z)
    where
      at : List Key
      at = st.path.keys ++ Index n ∷ []

      za : List Site
      za = sites_below (s r inner) r.fragments inner

      zb : List Site
      zb = sites_below (s ra ba) y.around bs

      lie_item : (x : Site) → In x (root_site at r inner ∷ za) → In x (sites f)
      lie_item x (inl e) = lie x (inl e)
      lie_item x (inr k) = lie x (inr (in_left x za zb k))

      inside : List Failure
      inside = (delivered_below (s r inner) true (items_run inner) inner).failures

      Told : Bool → List Failure
      Told d = (cond d (whole_scope at r (items_run inner) (s r inner) (delivered_below (s r inner) true (items_run inner) inner)) nothing).failures ++ (delivered_below (s ra ba) true items bs).failures

      Fine : Type 0
      Fine = (flat_map (stream_failures (items_run inner)) r.streams ≡ []) × (inside ≡ []) × (fragment_failures (s r inner) ≡ [])

      parts : Fine × ((delivered_below (s ra ba) true items bs).failures ≡ [])
      parts =
          let a = no_left (flat_map (stream_failures (items_run inner)) r.streams ++ (inside ++ fragment_failures (s r inner))) _ (ap Told (sym (item_delivered_good items fine st n)) ∙ h) in
          let b = no_left (flat_map (stream_failures (items_run inner)) r.streams) (inside ++ fragment_failures (s r inner)) a.0 in
          let d = no_left inside (fragment_failures (s r inner)) b.1 in
          ((b.0, d.0, d.1), a.1)

      deeper : In z za ⊎ In z zb → (In z za → is_good z.region ≡ true) → (In z zb → is_good z.region ≡ true) → is_good z.region ≡ true
      deeper (inl k) a b = a k
      deeper (inr k) a b = b k

      by : In z (root_site at r inner ∷ (za ++ zb)) → (Fine → In z za → is_good z.region ≡ true) → ((delivered_below (s ra ba) true items bs).failures ≡ [] → In z zb → is_good z.region ≡ true) → is_good z.region ≡ true
      by (inl e) a b = let x : ItemRun = record { stream = st; index = n; region = r } in ap (λ (w : Site). is_good w.region) e ∙ fine x (its x (inl refl))
      by (inr k) a b = deeper (in_cases z za zb k) (a parts.0) (b parts.1)
