-- The branches of one scope of a well-formed forest, seen from the region above them.
use Rattle.std.proofs.Common.{◌≡◌, ◌⊎◌, inl, inr, ℕ, zero, suc, List, [], ◌∷◌, ◌++◌, length, refl, sym, subst, ◌∙◌, ap, Bool, true, false, cond, Option, Some, None, arith}
use Rattle.std.specs.Prelude.{◌&&◌, ◌||◌, find, flat_map, option_and_then}
use Rattle.std.specs.List.{list_any, list_all}
use Rattle.gql_tree.specs.declared.path.Key.{Key}
use Rattle.gql_tree.specs.declared.delivery.Frag.{Frag}
use Rattle.gql_tree.specs.declared.delivery.FragId.{FragId}
use Rattle.gql_tree.specs.declared.delivery.Group.{Group}
use Rattle.gql_tree.specs.declared.delivery.Stream.{Stream}
use Rattle.gql_tree.specs.declared.delivery.RegionResult.{RegionResult}
use Rattle.gql_tree.specs.declared.delivery.TaskWork.{TaskWork}
use Rattle.gql_tree.specs.declared.delivery.TaskWork.TheVariants.{Fields, Item}
use Rattle.gql_tree.specs.Keys.{same_fragment}
use Rattle.gql_tree.specs.Forest.{Forest, Branches, grown, more, tasks_of}
use Rattle.gql_tree.specs.Fate.{Scope, scope_of, fragments_below, parent_of, ancestors, above}
use Rattle.gql_tree.specs.WellFormed.{Site, works_of, root_site, sites_below, sites, is_prefix, is_one_of, arises_around, has_its_parent, is_tied, has_tied_parent, is_owner_in_order, IsWellFormed}
use Rattle.gql_confluence.proofs.Parts.{In, in_left, in_right}
use Rattle.gql_confluence.proofs.Lists.{and_left, all_at, any_at, to_flat}
use Rattle.gql_confluence.proofs.Deciders.{fragment_same, same_fragment-refl}
use Rattle.gql_confluence.proofs.NoTwo.{one_element}
use Rattle.gql_confluence.proofs.Groups.{all_rec_at, listed}
use Rattle.gql_confluence.proofs.Parents as parents

or_cases : (a b : Bool) → (a || b) ≡ true → (a ≡ true) ⊎ (b ≡ true)
or_cases true b e = inl refl
or_cases false b e = inr e

pub or_not : (a b : Bool) → a ≡ false → (a || b) ≡ true → b ≡ true
or_not true b e f = absurd (cc)
or_not false b e f = f

module _ (ra : RegionResult) (ba : Branches) (f : Forest) (wf : IsWellFormed f) (at : List Key) (lie : (z : Site) → In z (root_site at ra ba ∷ sites_below (scope_of (grown ra ba)) ra.fragments ba) → In z (sites f)) where
  abbrev pub s : Scope
  s = scope_of (grown ra ba)

  abbrev pub fs : List Frag
  fs = s.fragments

  abbrev pub IsFragment : FragId → Type 0
  IsFragment = parents.IsFragment ra ba

  -- ---- one fragment

  -- no two have one id
  pub one_fragment : (x y : Frag) → In x fs → In y fs → x.id ≡ y.id → x ≡ y
  one_fragment x y i j e =
      let a = parents.fragment_site ra ba f wf at lie x i in
      let b = parents.fragment_site ra ba f wf at lie y j in
      one_element (λ (v w : Frag). same_fragment v.id w.id) (flat_map (λ (z : Site). z.region.fragments) (sites f)) wf.fragments_apart x y
      (to_flat (λ (z : Site). z.region.fragments) x a.site (sites f) a.is_site a.arises)
      (to_flat (λ (z : Site). z.region.fragments) y b.site (sites f) b.is_site b.arises)
      (ap (λ (o : FragId). same_fragment o y.id) e ∙ same_fragment-refl y.id) (ap (same_fragment y.id) e ∙ same_fragment-refl y.id)

  -- its parent, in a part of the scope's fragments that has it
  pub parent_found : (ls : List Frag) → ((x : Frag) → In x ls → In x fs) → (x : Frag) → In x ls → parent_of ls x.id ≡ x.parent
  parent_found [] sub x i = absurd i
  parent_found (m ∷ ms) sub x i = test (same_fragment m.id x.id) refl i (parent_found ms (λ y l. sub y (inr l)) x) where
    no_other : In x (m ∷ ms) → same_fragment m.id x.id ≡ false → In x ms
    no_other (inl e) g = let h : same_fragment m.id x.id ≡ true = ap (λ (y : Frag). same_fragment m.id y.id) e ∙ same_fragment-refl m.id in absurd (cc)
    no_other (inr k) g = k

    test : (b : Bool) → same_fragment m.id x.id ≡ b → In x (m ∷ ms) → (In x ms → parent_of ms x.id ≡ x.parent) → option_and_then (λ (y : Frag). y.parent) (cond b (Some m) (find (λ (y : Frag). same_fragment y.id x.id) ms)) ≡ x.parent
    test true g k rec = ap (λ (y : Frag). y.parent) (one_fragment m x (sub m (inl refl)) (sub x i) (fragment_same m.id x.id g))
    test false g k rec = rec (no_other k g)

  -- ---- one region and branches below it

  pub record IsAbove (y : Site) (bs : Branches) : Type 0 where
    pub is_site : In y (sites f)
    pub is_of : parents.IsOf ra ba y
    pub works : (w : TaskWork) → In w (works_of bs) → In w y.works
    pub below : (z : Site) → In z (sites_below s y.around bs) → In z (sites f)
    pub fragments : (x : Frag) → In x (fragments_below bs) → In x fs

  abbrev pub group_site : Site → Group → RegionResult → Branches → Site
  group_site = parents.below ra ba

  pub walks_root : IsAbove (root_site at ra ba) ba
  walks_root = record {
    is_site = lie (root_site at ra ba) (inl refl);
    is_of = parents.root_is ra ba at;
    works = λ w i. i;
    below = λ z i. lie z (inr i);
    fragments = λ x i. in_right x ra.fragments (fragments_below ba) i;
  }

  module _ (y : Site) (g : Group) (r : RegionResult) (inner bs : Branches) (h : IsAbove y (more (Fields g) (grown r inner) bs)) where
    pub walks_inner : IsAbove (group_site y g r inner) inner
    walks_inner = record {
      is_site = h.below (group_site y g r inner) (inl refl);
      is_of = parents.is_below ra ba y h.is_of g r inner (λ x i. h.fragments x (in_left x r.fragments (fragments_below inner ++ fragments_below bs) i));
      works = λ w i. i;
      below = λ z i. h.below z (inr (in_left z (sites_below s (r.fragments ++ y.around) inner) (sites_below s y.around bs) i));
      fragments = λ x i. h.fragments x (in_right x r.fragments (fragments_below inner ++ fragments_below bs) (in_left x (fragments_below inner) (fragments_below bs) i));
    }

    pub walks_beside : IsAbove y bs
    walks_beside = record {
      is_site = h.is_site;
      is_of = h.is_of;
      works = λ w i. h.works w (inr i);
      below = λ z i. h.below z (inr (in_right z (sites_below s (r.fragments ++ y.around) inner) (sites_below s y.around bs) i));
      fragments = λ x i. h.fragments x (in_right x r.fragments (fragments_below inner ++ fragments_below bs) (in_right x (fragments_below inner) (fragments_below bs) i));
    }

    -- the group is one of the region's
    pub is_group : In g y.region.groups
    is_group = listed y.region g (subst (λ (l : List TaskWork). In (Fields g) l) (all_rec_at (λ (z : Site). z.works ≡ tasks_of z.region) (sites f) wf.grows y h.is_site) (h.works (Fields g) (inl refl)))

    -- its owners arise around it
    pub owner_around : (o : FragId) → In o g.owners → arises_around y o ≡ true
    owner_around o i =
        let a = all_at (is_owner_in_order y g) g.owners (all_at (λ k. list_all (is_owner_in_order y k) k.owners) y.region.groups (all_at (λ x. list_all (λ k. list_all (is_owner_in_order x k) k.owners) x.region.groups) (sites f) wf.owners y h.is_site) g is_group) o i in
        (and_left (arises_around y o) _ (and_left (arises_around y o && is_prefix o.path.keys g.path.keys) _ a).0).0

    pub owner_is : (o : FragId) → In o g.owners → IsFragment o
    owner_is o i = parents.around_is ra ba y h.is_of o (owner_around o i)

    -- and are tied to those of the region
    pub owner_tied : y.is_root ≡ false → (o : FragId) → In o g.owners → is_tied y o ≡ true
    owner_tied e o i =
        all_at (is_tied y) g.owners (all_at (λ k. list_all (is_tied y) k.owners) y.region.groups (or_not y.is_root _ e (all_at (λ x. x.is_root || list_all (λ k. list_all (is_tied x) k.owners) x.region.groups) (sites f) wf.tied_owners y h.is_site)) g is_group) o i

  pub walks_item : (y : Site) (st : Stream) (n : ℕ) (r : RegionResult) (inner bs : Branches) → IsAbove y (more (Item st n) (grown r inner) bs) → IsAbove y bs
  walks_item y st n r inner bs h = record {
    is_site = h.is_site;
    is_of = h.is_of;
    works = λ w i. h.works w (inr i);
    below = λ z i. h.below z (inr (in_right z (sites_below (scope_of (grown r inner)) r.fragments inner) (sites_below s y.around bs) i));
    fragments = h.fragments;
  }

  -- a fragment's parent arises around its region
  pub parent_around : (y : Site) → In y (sites f) → (x : Frag) → In x y.region.fragments → (q : FragId) → x.parent ≡ Some q → arises_around y q ≡ true
  parent_around y i x j q e =
      let a = all_at (has_its_parent y) y.region.fragments (all_at (λ z. list_all (has_its_parent z) z.region.fragments) (sites f) wf.parents y i) x j in
      let b : (arises_around y q && _) ≡ true = subst (λ (o : Option FragId). elim o [ None ↦ true | Some w ↦ arises_around y w && is_prefix w.path.keys x.id.path.keys ] ≡ true) e a in
      (and_left (arises_around y q) _ b).0

  -- ---- what hangs on a group

  -- the group waits for it, or for one that it stands in
  abbrev pub IsTied : Group → FragId → Type 0
  IsTied v o = (is_one_of o v.owners ≡ true) ⊎ ((a : FragId) × In a (above s o) × (is_one_of a v.owners ≡ true))

  -- a region of which all owners are tied to the group
  pub record IsUnder (v : Group) (y : Site) : Type 0 where
    pub is_site : In y (sites f)
    pub is_of : parents.IsOf ra ba y
    pub no_root : y.is_root ≡ false
    pub owners : (o : FragId) → In o y.owners → IsTied v o

  one_in : (o : FragId) (ids : List FragId) → is_one_of o ids ≡ true → In o ids
  one_in o [] e = absurd (cc)
  one_in o (q ∷ ids) e = elim (or_cases (same_fragment q o) (is_one_of o ids) e) as (λ _. In o (q ∷ ids)) [ inl k ↦ inl (sym (fragment_same q o k)) | inr k ↦ inr (one_in o ids k) ]

  in_one : (o : FragId) (ids : List FragId) → In o ids → is_one_of o ids ≡ true
  in_one o [] i = absurd i
  in_one o (q ∷ ids) (inl e) = let h : same_fragment q o ≡ true = ap (same_fragment q) e ∙ same_fragment-refl q in rw h refl
  in_one o (q ∷ ids) (inr i) = rw (in_one o ids i) (or_true (same_fragment q o)) where
    or_true : (b : Bool) → (b || true) ≡ true
    or_true true = refl
    or_true false = refl

  -- what is tied to the region is tied to the group
  tied_on : (v : Group) (y : Site) → IsUnder v y → (o : FragId) → IsFragment o → is_tied y o ≡ true → IsTied v o
  tied_on v y u o is e = by (or_cases (is_one_of o y.owners) (list_any (λ a. is_one_of a y.owners) (above y.scope o)) e) where
    from_above : (a : FragId) → In a (above s o) → IsTied v a → IsTied v o
    from_above a i (inl k) = inr (a, i, k)
    from_above a i (inr (b, j, k)) = inr (b, parents.above_that ra ba f wf at lie o is a b i j, k)

    by : (is_one_of o y.owners ≡ true) ⊎ (list_any (λ a. is_one_of a y.owners) (above y.scope o) ≡ true) → IsTied v o
    by (inl k) = u.owners o (one_in o y.owners k)
    by (inr k) =
        let a = any_at (λ b. is_one_of b y.owners) (above s o) (subst (λ (t : Scope). list_any (λ b. is_one_of b y.owners) (above t o) ≡ true) u.is_of.scope k) in
        from_above a.0 a.1 (u.owners a.0 (one_in a.0 y.owners a.2))

  -- the group's own region
  pub under_itself : (v : Group) (y : Site) → In y (sites f) → parents.IsOf ra ba y → y.is_root ≡ false → y.owners ≡ v.owners → IsUnder v y
  under_itself v y i is e o = record { is_site = i; is_of = is; no_root = e; owners = λ q j. inl (in_one q v.owners (subst (λ (l : List FragId). In q l) o j)) }

  -- and those below it
  pub under_inner : (v : Group) (y : Site) (g : Group) (r : RegionResult) (inner bs : Branches) → IsAbove y (more (Fields g) (grown r inner) bs) → IsUnder v y → IsUnder v (group_site y g r inner)
  under_inner v y g r inner bs h u =
      let w = walks_inner y g r inner bs h in
      record { is_site = w.is_site; is_of = w.is_of; no_root = refl; owners = λ o i. tied_on v y u o (owner_is y g r inner bs h o i) (owner_tied y g r inner bs h u.no_root o i) }

  -- a fragment there stands in one that the group waits for
  pub fragment_tied : (v : Group) (y : Site) → IsUnder v y → (x : Frag) → In x y.region.fragments → In x fs → (a : FragId) × In a (above s x.id) × (is_one_of a v.owners ≡ true)
  fragment_tied v y u x i j =
      by x.parent refl (all_at (has_tied_parent y) y.region.fragments (or_not y.is_root _ u.no_root (all_at (λ z. z.is_root || list_all (has_tied_parent z) z.region.fragments) (sites f) wf.tied_parents y u.is_site)) x i)
    where
      first_above : (n : ℕ) (o : Option FragId) (q : FragId) → o ≡ Some q → (k : Frag) (ls : List Frag) → In k ls → n ≡ length ls → In q (ancestors n fs o)
      first_above n None q e k ls l g = absurd (cc)
      first_above zero (Some w) q e k [] l g = absurd l
      first_above zero (Some w) q e k (m ∷ ls) l g = absurd (omega arith)
      first_above (suc n) (Some w) q e k ls l g = inl (some_same w q e) where
        some_same : (w q : FragId) → Some w ≡ Some q → q ≡ w
        some_same w q e = cc

      parent_above : (q : FragId) → x.parent ≡ Some q → In q (above s x.id)
      parent_above q e = first_above (length fs) (parent_of fs x.id) q (parent_found fs (λ z k. k) x j ∙ e) x fs j refl

      lift : (q : FragId) → In q (above s x.id) → IsTied v q → (a : FragId) × In a (above s x.id) × (is_one_of a v.owners ≡ true)
      lift q k (inl e) = (q, k, e)
      lift q k (inr (b, l, e)) = (b, parents.above_that ra ba f wf at lie x.id (x, j, refl) q b k l, e)

      by : (o : Option FragId) → x.parent ≡ o → elim o [ None ↦ false | Some p ↦ is_tied y p ] ≡ true → (a : FragId) × In a (above s x.id) × (is_one_of a v.owners ≡ true)
      by None e h = absurd (cc)
      by (Some q) e h = lift q (parent_above q e) (tied_on v y u q (parents.around_is ra ba y u.is_of q (parent_around y u.is_site x i q e)) h)
