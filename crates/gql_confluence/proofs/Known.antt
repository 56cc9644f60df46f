-- The fragments of a scope that arise where all has ended, and the others: they stand in fragments that wait for a group that hasn't ended.
use Rattle.std.proofs.Common.{◌≡◌, ◌⊎◌, inl, inr, ℕ, zero, suc, ◌≤◌, List, [], ◌∷◌, ◌++◌, length, refl, sym, subst, ◌∙◌, ap, Bool, true, false, cond, Option, Some, None, arith}
use Rattle.std.specs.Prelude.{find, option_and_then}
use Rattle.std.proofs.lemmas.List.{length-append}
use Rattle.gql_tree.specs.declared.path.Key.{Key}
use Rattle.gql_tree.specs.declared.delivery.Frag.{Frag}
use Rattle.gql_tree.specs.declared.delivery.FragId.{FragId}
use Rattle.gql_tree.specs.declared.delivery.Group.{Group}
use Rattle.gql_tree.specs.declared.delivery.RegionResult.{RegionResult}
use Rattle.gql_tree.specs.declared.delivery.TaskWork.{TaskWork}
use Rattle.gql_tree.specs.declared.delivery.TaskWork.TheVariants.{Fields, Item}
use Rattle.gql_tree.specs.Keys.{same_fragment}
use Rattle.gql_tree.specs.Forest.{Forest, Branches, grown, none, more}
use Rattle.gql_tree.specs.Fate.{Scope, scope_of, fragments_below, parent_of, ancestors, above}
use Rattle.gql_tree.specs.WellFormed.{Site, root_site, sites_below, sites, comes_to_an_end, arises_around, IsWellFormed}
use Rattle.gql_tree.specs.Causal.{has_ended}
use Rattle.gql_confluence.proofs.Parts.{In, in_left, in_right, in_cases}
use Rattle.gql_confluence.proofs.Lists.{any_at}
use Rattle.gql_confluence.proofs.Deciders.{fragment_same}
use Rattle.gql_confluence.proofs.Chains.{more_steps}
use Rattle.gql_confluence.proofs.Depth.{ends_soon}
use Rattle.gql_confluence.proofs.Pruned.{kept, pruned}
use Rattle.gql_confluence.proofs.Parents as parents
use Rattle.gql_confluence.proofs.Walks as walks

found_parent : (id q : FragId) (ls : List Frag) → option_and_then (λ (x : Frag). x.parent) (find (λ (x : Frag). same_fragment x.id id) ls) ≡ Some q → (x : Frag) × In x ls × (x.parent ≡ Some q)
found_parent id q [] h = absurd (cc)
found_parent id q (l ∷ ls) h = by (same_fragment l.id id) h (found_parent id q ls) where
  by : (b : Bool) → option_and_then (λ (x : Frag). x.parent) (cond b (Some l) (find (λ (x : Frag). same_fragment x.id id) ls)) ≡ Some q
      → (option_and_then (λ (x : Frag). x.parent) (find (λ (x : Frag). same_fragment x.id id) ls) ≡ Some q → (x : Frag) × In x ls × (x.parent ≡ Some q)) → (x : Frag) × In x (l ∷ ls) × (x.parent ≡ Some q)
  by true k rec = (l, inl refl, k)
  by false k rec = let r = rec k in (r.0, inr r.1, r.2)

module _ (ended : List TaskWork) where
  -- the fragments that arise below a group that hasn't ended
  abbrev pub hidden_below : Branches → List Frag
  hidden_below none = []
  hidden_below (more (Fields g) (grown r inner) bs) = cond (has_ended ended (Fields g)) (hidden_below inner) (r.fragments ++ fragments_below inner) ++ hidden_below bs
  hidden_below (more (Item st n) f bs) = hidden_below bs

  pub below_sub : (bs : Branches) (x : Frag) → In x (fragments_below (pruned ended bs)) → In x (fragments_below bs)
  below_sub none x i = i
  below_sub (more (Item st n) (grown r inner) bs) x i = below_sub bs x i
  below_sub (more (Fields g) (grown r inner) bs) x i = by (has_ended ended (Fields g)) i (below_sub inner x) (below_sub bs x) where
    deep : List Frag
    deep = fragments_below inner ++ fragments_below bs

    by : (b : Bool) → In x (fragments_below (more (Fields g) (kept b r (pruned ended inner)) (pruned ended bs))) → (In x (fragments_below (pruned ended inner)) → In x (fragments_below inner)) → (In x (fragments_below (pruned ended bs)) → In x (fragments_below bs)) → In x (r.fragments ++ (fragments_below inner ++ fragments_below bs))
    by false j rec_a rec_b = in_right x r.fragments deep (in_right x (fragments_below inner) (fragments_below bs) (rec_b j))
    by true j rec_a rec_b = elim (in_cases x r.fragments (fragments_below (pruned ended inner) ++ fragments_below (pruned ended bs)) j) as (λ _. In x (r.fragments ++ deep)) [
      | inl k ↦ in_left x r.fragments deep k
      | inr k ↦ in_right x r.fragments deep (elim (in_cases x (fragments_below (pruned ended inner)) (fragments_below (pruned ended bs)) k) as (λ _. In x deep) [
        | inl l ↦ in_left x (fragments_below inner) (fragments_below bs) (rec_a l)
        | inr l ↦ in_right x (fragments_below inner) (fragments_below bs) (rec_b l)
      ])
    ]

  below_fewer : (bs : Branches) → length (fragments_below (pruned ended bs)) ≤ length (fragments_below bs)
  below_fewer none = omega arith
  below_fewer (more (Item st n) (grown r inner) bs) = below_fewer bs
  below_fewer (more (Fields g) (grown r inner) bs) = by (has_ended ended (Fields g)) (below_fewer inner) (below_fewer bs) where
    by : (b : Bool) → length (fragments_below (pruned ended inner)) ≤ length (fragments_below inner) → length (fragments_below (pruned ended bs)) ≤ length (fragments_below bs)
        → length (fragments_below (more (Fields g) (kept b r (pruned ended inner)) (pruned ended bs))) ≤ length (r.fragments ++ (fragments_below inner ++ fragments_below bs))
    by true h k =
        let a = length-append r.fragments (fragments_below (pruned ended inner) ++ fragments_below (pruned ended bs)) in
        let b = length-append (fragments_below (pruned ended inner)) (fragments_below (pruned ended bs)) in
        let c = length-append r.fragments (fragments_below inner ++ fragments_below bs) in
        let d = length-append (fragments_below inner) (fragments_below bs) in
        omega arith
    by false h k =
        let c = length-append r.fragments (fragments_below inner ++ fragments_below bs) in
        let d = length-append (fragments_below inner) (fragments_below bs) in
        omega arith

  module _ (ra : RegionResult) (ba : Branches) (f : Forest) (wf : IsWellFormed f) (at : List Key) (lie : (z : Site) → In z (root_site at ra ba ∷ sites_below (scope_of (grown ra ba)) ra.fragments ba) → In z (sites f)) where
    abbrev pub s : Scope
    s = scope_of (grown ra ba)

    abbrev fs : List Frag
    fs = s.fragments

    -- the scope so far
    abbrev pub so_far : Scope
    so_far = scope_of (grown ra (pruned ended ba))

    abbrev ks : List Frag
    ks = so_far.fragments

    abbrev pub IsKnown : FragId → Type 0
    IsKnown id = (x : Frag) × In x ks × (x.id ≡ id)

    abbrev IsAbove : Site → Branches → Type 0
    IsAbove = walks.IsAbove ra ba f wf at lie

    abbrev IsUnder : Group → Site → Type 0
    IsUnder = walks.IsUnder ra ba f wf at lie

    abbrev pub IsTied : Group → FragId → Type 0
    IsTied = walks.IsTied ra ba f wf at lie

    known_sub : (x : Frag) → In x ks → In x fs
    known_sub x i = elim (in_cases x ra.fragments (fragments_below (pruned ended ba)) i) as (λ _. In x fs) [ inl j ↦ in_left x ra.fragments (fragments_below ba) j | inr j ↦ in_right x ra.fragments (fragments_below ba) (below_sub ba x j) ]

    pub known_is : (id : FragId) → IsKnown id → parents.IsFragment ra ba id
    known_is id k = (k.0, known_sub k.0 k.1, k.2)

    -- ---- where known fragments arise

    record HasSite (x : Frag) : Type 0 where
      site : Site
      is_site : In site (sites f)
      arises : In x site.region.fragments
      around : (z : Frag) → In z site.around → In z ks

    known_below : (y : Site) (bs : Branches) → IsAbove y bs → ((z : Frag) → In z y.around → In z ks) → ((z : Frag) → In z (fragments_below (pruned ended bs)) → In z ks) → (x : Frag) → In x (fragments_below (pruned ended bs)) → HasSite x
    known_below y none h around sub x i = absurd i
    known_below y (more (Item st n) (grown r inner) bs) h around sub x i = known_below y bs (walks.walks_item ra ba f wf at lie y st n r inner bs h) around sub x i
    known_below y (more (Fields g) (grown r inner) bs) h around sub x i =
        by (has_ended ended (Fields g)) sub i (λ k l j. known_below (walks.group_site ra ba f wf at lie y g r inner) inner (walks.walks_inner ra ba f wf at lie y g r inner bs h) k l x j) (λ k j. known_below y bs (walks.walks_beside ra ba f wf at lie y g r inner bs h) around k x j)
      where
        near : ((z : Frag) → In z r.fragments → In z ks) → (z : Frag) → In z (r.fragments ++ y.around) → In z ks
        near k z j = elim (in_cases z r.fragments y.around j) as (λ _. In z ks) [ inl l ↦ k z l | inr l ↦ around z l ]

        by : (b : Bool) → ((z : Frag) → In z (fragments_below (more (Fields g) (kept b r (pruned ended inner)) (pruned ended bs))) → In z ks) → In x (fragments_below (more (Fields g) (kept b r (pruned ended inner)) (pruned ended bs)))
            → (((z : Frag) → In z (r.fragments ++ y.around) → In z ks) → ((z : Frag) → In z (fragments_below (pruned ended inner)) → In z ks) → In x (fragments_below (pruned ended inner)) → HasSite x)
            → (((z : Frag) → In z (fragments_below (pruned ended bs)) → In z ks) → In x (fragments_below (pruned ended bs)) → HasSite x) → HasSite x
        by false k j rec_a rec_b = rec_b k j
        by true k j rec_a rec_b = first (in_cases x r.fragments (fragments_below (pruned ended inner) ++ fragments_below (pruned ended bs)) j) where
          own : (z : Frag) → In z r.fragments → In z ks
          own z l = k z (in_left z r.fragments (fragments_below (pruned ended inner) ++ fragments_below (pruned ended bs)) l)

          deep : (z : Frag) → In z (fragments_below (pruned ended inner) ++ fragments_below (pruned ended bs)) → In z ks
          deep z l = k z (in_right z r.fragments (fragments_below (pruned ended inner) ++ fragments_below (pruned ended bs)) l)

          second : In x (fragments_below (pruned ended inner)) ⊎ In x (fragments_below (pruned ended bs)) → HasSite x
          second (inl l) = rec_a (near own) (λ z m. deep z (in_left z (fragments_below (pruned ended inner)) (fragments_below (pruned ended bs)) m)) l
          second (inr l) = rec_b (λ z m. deep z (in_right z (fragments_below (pruned ended inner)) (fragments_below (pruned ended bs)) m)) l

          first : In x r.fragments ⊎ In x (fragments_below (pruned ended inner) ++ fragments_below (pruned ended bs)) → HasSite x
          first (inl l) = record { site = walks.group_site ra ba f wf at lie y g r inner; is_site = (walks.walks_inner ra ba f wf at lie y g r inner bs h).is_site; arises = l; around = near own }
          first (inr l) = second (in_cases x (fragments_below (pruned ended inner)) (fragments_below (pruned ended bs)) l)

    known_site : (x : Frag) → In x ks → HasSite x
    known_site x i = elim (in_cases x ra.fragments (fragments_below (pruned ended ba)) i) as (λ _. HasSite x) [
      | inl j ↦ record { site = root_site at ra ba; is_site = lie (root_site at ra ba) (inl refl); arises = j; around = λ z k. in_left z ra.fragments (fragments_below (pruned ended ba)) k }
      | inr j ↦ known_below (root_site at ra ba) ba (walks.walks_root ra ba f wf at lie) (λ z k. in_left z ra.fragments (fragments_below (pruned ended ba)) k) (λ z k. in_right z ra.fragments (fragments_below (pruned ended ba)) k) x j
    ]

    pub known_around : (y : Site) → ((z : Frag) → In z y.around → In z ks) → (q : FragId) → arises_around y q ≡ true → IsKnown q
    known_around y sub q e = let a = any_at (λ x. same_fragment x.id q) y.around e in (a.0, sub a.0 a.1, fragment_same a.0.id q a.2)

    -- ---- chains of parents are the same

    parent_known : (x : Frag) → In x ks → (q : FragId) → x.parent ≡ Some q → IsKnown q
    parent_known x i q e = let w = known_site x i in known_around w.site w.around q (walks.parent_around ra ba f wf at lie w.site w.is_site x w.arises q e)

    chain_known : (id q : FragId) → parent_of ks id ≡ Some q → IsKnown q
    chain_known id q e = let x = found_parent id q ks e in parent_known x.0 x.1 q x.2

    parent_same : (id : FragId) → IsKnown id → parent_of ks id ≡ parent_of fs id
    parent_same id k =
        ap (parent_of ks) (sym k.2) ∙ (walks.parent_found ra ba f wf at lie ks known_sub k.0 k.1
        ∙ (sym (walks.parent_found ra ba f wf at lie fs (λ x i. i) k.0 (known_sub k.0 k.1)) ∙ ap (parent_of fs) k.2))

    ancestors_same : (n : ℕ) (o : Option FragId) → ((q : FragId) → o ≡ Some q → IsKnown q) → ancestors n ks o ≡ ancestors n fs o
    ancestors_same zero o h = refl
    ancestors_same (suc n) None h = refl
    ancestors_same (suc n) (Some q) h = ap (λ (l : List FragId). q ∷ l) (ancestors_same n (parent_of ks q) (chain_known q) ∙ ap (ancestors n fs) (parent_same q (h q refl)))

    ends_same : (n : ℕ) (o : Option FragId) → ((q : FragId) → o ≡ Some q → IsKnown q) → comes_to_an_end n ks o ≡ comes_to_an_end n fs o
    ends_same zero None h = refl
    ends_same zero (Some q) h = refl
    ends_same (suc n) None h = refl
    ends_same (suc n) (Some q) h = ends_same n (parent_of ks q) (chain_known q) ∙ ap (comes_to_an_end n fs) (parent_same q (h q refl))

    -- a known fragment stands in the same fragments so far
    pub above_same : (id : FragId) → IsKnown id → above so_far id ≡ above s id
    above_same id k =
        let o = parent_of ks id in
        let same = parent_same id k in
        let long : comes_to_an_end (length fs) ks o ≡ true = ends_same (length fs) o (chain_known id) ∙ (ap (comes_to_an_end (length fs) fs) same ∙ parents.ends ra ba f wf at lie id (known_is id k)) in
        let short : comes_to_an_end (length ks) fs o ≡ true = sym (ends_same (length ks) o (chain_known id)) ∙ ends_soon ks chain_known (length fs) o (chain_known id) long in
        ancestors_same (length ks) o (chain_known id)
        ∙ (sym (more_steps fs (length ks) (length fs) o fewer short) ∙ ap (ancestors (length fs) fs) same)
      where
        fewer : length ks ≤ length fs
        fewer = let a = length-append ra.fragments (fragments_below (pruned ended ba)) in let b = length-append ra.fragments (fragments_below ba) in let c = below_fewer ba in omega arith

    chain_above : (n : ℕ) (o : Option FragId) → ((q : FragId) → o ≡ Some q → IsKnown q) → (a : FragId) → In a (ancestors n ks o) → IsKnown a
    chain_above zero o h a i = absurd i
    chain_above (suc n) None h a i = absurd i
    chain_above (suc n) (Some q) h a (inl e) = h a (ap Some (sym e))
    chain_above (suc n) (Some q) h a (inr i) = chain_above n (parent_of ks q) (chain_known q) a i

    pub above_known : (id a : FragId) → IsKnown id → In a (above s id) → IsKnown a
    above_known id a k i = chain_above (length ks) (parent_of ks id) (chain_known id) a (subst (λ (l : List FragId). In a l) (sym (above_same id k)) i)
