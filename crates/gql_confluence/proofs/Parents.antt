-- Fragments of one scope of a well-formed forest, and those that they stand in.
use Rattle.std.proofs.Common.{◌≡◌, ◌⊎◌, inl, inr, ℕ, zero, suc, List, [], ◌∷◌, ◌++◌, length, refl, sym, subst, ap, Bool, true, false, cond, Option, Some, None, arith}
use Rattle.std.specs.Prelude.{◌&&◌, find, option_and_then}
use Rattle.std.specs.List.{list_all}
use Rattle.gql_tree.specs.declared.path.Key.{Key}
use Rattle.gql_tree.specs.declared.delivery.Frag.{Frag}
use Rattle.gql_tree.specs.declared.delivery.FragId.{FragId}
use Rattle.gql_tree.specs.declared.delivery.Group.{Group}
use Rattle.gql_tree.specs.declared.delivery.RegionResult.{RegionResult}
use Rattle.gql_tree.specs.Keys.{same_fragment}
use Rattle.gql_tree.specs.Forest.{Forest, Branches, grown}
use Rattle.gql_tree.specs.Fate.{Scope, scope_of, fragments_below, parent_of, ancestors, all_good, above, is_ok, items_run}
use Rattle.gql_tree.specs.Course.{Schedule}
use Rattle.gql_tree.specs.WellFormed.{Site, works_of, keys_of, root_site, sites_below, sites, is_prefix, comes_to_an_end, arises_around, has_its_parent, is_outermost_in_the_end, IsWellFormed}
use Rattle.gql_confluence.proofs.Parts.{In, in_left, in_right, in_cases}
use Rattle.gql_confluence.proofs.Lists.{and_left, to_map, all_at, to_all, any_at}
use Rattle.gql_confluence.proofs.Deciders.{fragment_same}
use Rattle.gql_confluence.proofs.Chains.{above_above}
use Rattle.gql_confluence.proofs.Scopes.{IsOfScope}
use Rattle.gql_confluence.proofs.Places.{Placed, places_below, fragments_placed, sites_placed}

-- ---- where fragments arise

-- times that are never met: what is asked here hangs on no time
never : Schedule
never = record { fragment_done = λ id t gs. None; item_released = λ s i t xs. None; stream_done = λ s t xs. None }

-- a region of the scope in which the fragment arises
record ArisesAt (s : Scope) (around : List Frag) (bs : Branches) (x : Frag) : Type 0 where
  site : Site
  is_site : In site (sites_below s around bs)
  arises : In x site.region.fragments
  of_scope : IsOfScope s around (fragments_below bs) site

fragments_sited : (s : Scope) (around : List Frag) (bs : Branches) (x : Frag) → In x (fragments_below bs) → ArisesAt s around bs x
fragments_sited s around bs x i =
    let w = fragments_placed never s around None None (items_run bs) bs x i in
    record {
      site = w.place.site;
      is_site = subst (λ (l : List Site). In w.place.site l) (sites_placed never s around None None (items_run bs) bs) (to_map (λ (q : Placed). q.site) w.place (places_below never s around None None (items_run bs) bs) w.is_place);
      arises = w.arises;
      of_scope = w.of_scope;
    }

-- ---- a scope, by its root region and what is below it

module _ (ra : RegionResult) (ba : Branches) where
  abbrev pub s : Scope
  s = scope_of (grown ra ba)

  abbrev pub fs : List Frag
  fs = s.fragments

  -- a region of this scope
  pub record IsOf (y : Site) : Type 0 where
    pub scope : y.scope ≡ s
    pub surrounded : (x : Frag) → In x y.around → In x fs

  pub root_is : (at : List Key) → IsOf (root_site at ra ba)
  root_is at = record { scope = refl; surrounded = λ x j. in_left x ra.fragments (fragments_below ba) j }

  -- the region of a group of a region
  abbrev pub below : Site → Group → RegionResult → Branches → Site
  below y g r inner = record { at = g.path.keys; is_root = false; owners = g.owners; keys = keys_of g; around = r.fragments ++ y.around; scope = s; region = r; works = works_of inner }

  pub is_below : (y : Site) → IsOf y → (g : Group) (r : RegionResult) (inner : Branches) → ((x : Frag) → In x r.fragments → In x fs) → IsOf (below y g r inner)
  is_below y is g r inner known = record { scope = refl; surrounded = λ x j. near x (in_cases x r.fragments y.around j) } where
    near : (x : Frag) → In x r.fragments ⊎ In x y.around → In x fs
    near x (inl k) = known x k
    near x (inr k) = is.surrounded x k

  -- it is the id of a fragment
  abbrev pub IsFragment : FragId → Type 0
  IsFragment id = (x : Frag) × In x fs × (x.id ≡ id)

  pub around_is : (y : Site) → IsOf y → (id : FragId) → arises_around y id ≡ true → IsFragment id
  around_is y o id h = let a = any_at (λ x. same_fragment x.id id) y.around h in (a.0, o.surrounded a.0 a.1, fragment_same a.0.id id a.2)

  -- ---- its regions lie in a well-formed forest
  module _ (f : Forest) (wf : IsWellFormed f) (at : List Key) (lie : (z : Site) → In z (root_site at ra ba ∷ sites_below s ra.fragments ba) → In z (sites f)) where
    -- the region in which a fragment arises
    pub record HasSite (x : Frag) : Type 0 where
      pub site : Site
      pub is_site : In site (sites f)
      pub arises : In x site.region.fragments
      pub is_of : IsOf site

    pub fragment_site : (x : Frag) → In x fs → HasSite x
    fragment_site x i = by (in_cases x ra.fragments (fragments_below ba) i) where
      by : In x ra.fragments ⊎ In x (fragments_below ba) → HasSite x
      by (inl j) = record { site = root_site at ra ba; is_site = lie (root_site at ra ba) (inl refl); arises = j; is_of = root_is at }
      by (inr j) =
          let w = fragments_sited s ra.fragments ba x j in
          record { site = w.site; is_site = lie w.site (inr w.is_site); arises = w.arises; is_of = record { scope = w.of_scope.scope; surrounded = λ z k. near z (w.of_scope.surrounded z k) } }
        where
          near : (z : Frag) → In z ra.fragments ⊎ In z (fragments_below ba) → In z fs
          near z (inl k) = in_left z ra.fragments (fragments_below ba) k
          near z (inr k) = in_right z ra.fragments (fragments_below ba) k

    -- the chain of its parents ends
    pub ends : (id : FragId) → IsFragment id → comes_to_an_end (length fs) fs (parent_of fs id) ≡ true
    ends id (x, i, e) =
        let y = fragment_site x i in
        let a = all_at (is_outermost_in_the_end y.site) y.site.region.fragments (all_at (λ z. list_all (is_outermost_in_the_end z) z.region.fragments) (sites f) wf.no_cycle y.site y.is_site) x y.arises in
        let b : comes_to_an_end (length fs) fs (parent_of fs x.id) ≡ true = subst (λ (z : Scope). comes_to_an_end (length z.fragments) z.fragments (parent_of z.fragments x.id) ≡ true) y.is_of.scope a in
        subst (λ (w : FragId). comes_to_an_end (length fs) fs (parent_of fs w) ≡ true) e b

    found_by : (id : FragId) (ls : List Frag) (q : FragId) → ((x : Frag) → In x ls → In x fs) → option_and_then (λ (x : Frag). x.parent) (find (λ (x : Frag). same_fragment x.id id) ls) ≡ Some q → (x : Frag) × In x fs × (x.parent ≡ Some q)
    found_by id [] q sub h = absurd (cc)
    found_by id (l ∷ ls) q sub h = by (same_fragment l.id id) h (found_by id ls q (λ x i. sub x (inr i))) where
      by : (b : Bool) → option_and_then (λ (x : Frag). x.parent) (cond b (Some l) (find (λ (x : Frag). same_fragment x.id id) ls)) ≡ Some q
          → (option_and_then (λ (x : Frag). x.parent) (find (λ (x : Frag). same_fragment x.id id) ls) ≡ Some q → (x : Frag) × In x fs × (x.parent ≡ Some q)) → (x : Frag) × In x fs × (x.parent ≡ Some q)
      by true k rec = (l, sub l (inl refl), k)
      by false k rec = rec k

    -- a parent is a fragment
    parent_is : (id q : FragId) → parent_of fs id ≡ Some q → IsFragment q
    parent_is id q h =
        let x = found_by id fs q (λ z i. i) h in
        let y = fragment_site x.0 x.1 in
        let a = all_at (has_its_parent y.site) y.site.region.fragments (all_at (λ z. list_all (has_its_parent z) z.region.fragments) (sites f) wf.parents y.site y.is_site) x.0 y.arises in
        let b : (arises_around y.site q && _) ≡ true = subst (λ (o : Option FragId). elim o [ None ↦ true | Some w ↦ arises_around y.site w && is_prefix w.path.keys x.0.id.path.keys ] ≡ true) x.2 a in
        around_is y.site y.is_of q (and_left (arises_around y.site q) _ b).0

    ancestors_are : (n : ℕ) (o : Option FragId) → ((q : FragId) → o ≡ Some q → IsFragment q) → (a : FragId) → In a (ancestors n fs o) → IsFragment a
    ancestors_are zero o h a i = absurd i
    ancestors_are (suc n) None h a i = absurd i
    ancestors_are (suc n) (Some q) h a (inl e) = h a (ap Some (sym e))
    ancestors_are (suc n) (Some q) h a (inr i) = ancestors_are n (parent_of fs q) (λ w e. parent_is q w e) a i

    pub above_are : (id a : FragId) → In a (above s id) → IsFragment a
    above_are id a i = ancestors_are (length fs) (parent_of fs id) (λ q e. parent_is id q e) a i

    -- what an ancestor stands in is an ancestor too
    pub above_that : (id : FragId) → IsFragment id → (a b : FragId) → In a (above s id) → In b (above s a) → In b (above s id)
    above_that id is a b i j = above_above fs (length fs) (length fs) (parent_of fs id) a b (omega arith) (ends id is) i j

    -- what a fragment that is ok stands in is ok
    pub ok_above : (id : FragId) → IsFragment id → is_ok s id ≡ true → (a : FragId) → In a (above s id) → is_ok s a ≡ true
    ok_above id is ok a i =
        let o = and_left (all_good s id) (list_all (all_good s) (above s id)) ok in
        let good = all_at (all_good s) (above s id) o.1 a i in
        let rest = to_all (all_good s) (above s a) (λ b j. all_at (all_good s) (above s id) o.1 b (above_that id is a b i j)) in
        rw (good, rest) refl

pub filled : {X : Type 0} (xs : List X) (x : X) → In x xs → elim xs [ [] ↦ true | y ∷ ys ↦ false ] ≡ false
filled [] x i = absurd i
filled (y ∷ ys) x i = refl
