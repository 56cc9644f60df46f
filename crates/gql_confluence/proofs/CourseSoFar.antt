-- What comes of a well-formed forest so far comes of it without what grows of tasks that haven't ended.
use Rattle.std.proofs.Common.{◌≡◌, ◌⊎◌, inl, inr, ℕ, List, [], ◌∷◌, ◌++◌, map, refl, sym, subst, ◌∙◌, ap, Bool, true, false, cond, Some, None, arith}
use Rattle.std.specs.Prelude.{nat_le, ◌&&◌}
use Rattle.std.proofs.lemmas.Bool.Decides.{nat_tests}
use Rattle.gql_tree.specs.declared.path.Key.{Key}
use Rattle.gql_tree.specs.declared.path.Key.TheVariants.{Index}
use Rattle.gql_tree.specs.declared.delivery.Stream.{Stream}
use Rattle.gql_tree.specs.declared.delivery.RegionResult.{RegionResult}
use Rattle.gql_tree.specs.declared.delivery.TaskWork.{TaskWork}
use Rattle.gql_tree.specs.declared.delivery.TaskWork.TheVariants.{Fields, Item}
use Rattle.gql_tree.specs.Forest.{Forest, Branches, grown, none, more}
use Rattle.gql_tree.specs.Fate.{ItemRun, Scope, scope_of, is_delivered, items_run, same_path, items_of_stream, is_item_delivered}
use Rattle.gql_tree.specs.Times.{Time}
use Rattle.gql_tree.specs.Course.{Schedule, at_first, by_stream, Course, nothing_comes, scope_comes, released_at, items_up_to, item_at, come_below, course}
use Rattle.gql_tree.specs.Numbering.{event_of, by_events}
use Rattle.gql_tree.specs.WellFormed.{Site, root_site, sites_below, IsWellFormed}
use Rattle.gql_tree.specs.Causal.{has_ended}
use Rattle.gql_confluence.proofs.Parts.{In, in_left}
use Rattle.gql_confluence.proofs.Lists.{to_filter, to_map}
use Rattle.gql_confluence.proofs.Deciders.{same_keys-refl}
use Rattle.gql_confluence.proofs.Pruned.{blank, kept, pruned, pruned_forest, Closed, some_time, no_event}
use Rattle.gql_confluence.proofs.SoFar.{IsSoFar, both_same, nothing_same, Unseen, unseen_if, both_unseen, latest_without, item_none, released_none, unseen_scope, unseen_below}
use Rattle.gql_confluence.proofs.StreamSoFar.{cut_run, items_cut, item_time, item_delivered, item_not_delivered}
use Rattle.gql_confluence.proofs.Walks as walks
use Rattle.gql_confluence.proofs.RegionSoFar as regions

module _ (ended : List TaskWork) where
  abbrev p : Schedule
  p = by_events ended

  module _ (f : Forest) (wf : IsWellFormed f) where
    abbrev Lies : RegionResult → Branches → List Key → Type 0
    Lies = regions.Lies ended f wf

    abbrev IsPart : RegionResult → Branches → Site → Branches → List ItemRun → Type 0
    IsPart = regions.IsPart ended f wf

    abbrev IsHere : Bool → Time → Bool → Time → Type 0
    IsHere = regions.IsHere ended f wf

    -- ---- an item

    module _ (s t : Scope) (begun : Time) (st : Stream) (n : ℕ) (r : RegionResult) (inner bs : Branches) (items : List ItemRun) (is_item : In (record { stream = st; index = n; region = r }) items) where
      abbrev path : List Key
      path = st.path.keys ++ Index n ∷ []

      abbrev cut : List ItemRun
      cut = map (cut_run ended) items

      abbrev whole : Time → RegionResult → Branches → Course
      whole u z under = scope_comes p path z u (by_stream st) (items_run under) (scope_of (grown z under)) (come_below p (scope_of (grown z under)) u true u (items_run under) under)

      unseen_whole : (u : Time) (z : RegionResult) (under : Branches) → u ≡ None → Unseen (whole u z under)
      unseen_whole u z under e =
          unseen_scope ended path z u (by_stream st) (items_run under) (scope_of (grown z under)) _ e
          (subst (λ (w : Time). Unseen (come_below p (scope_of (grown z under)) w true w (items_run under) under)) (sym e)
          (unseen_below ended under (scope_of (grown z under)) None true None (items_run under) refl (λ x i. released_none ended (scope_of (grown z under)) x.group)))

      -- an item that hasn't ended has no time
      open_item : (rel : Time) → has_ended ended (Item st n) ≡ false → item_at p items rel st n ≡ None
      open_item rel e =
          let x : ItemRun = record { stream = st; index = n; region = r } in
          let own : In x (items_of_stream items st) = to_filter (λ (z : ItemRun). same_path z.stream.path st.path) x items is_item (same_keys-refl st.path.keys) in
          latest_without rel (map (λ z. event_of ended (Item z.stream z.index)) (items_up_to items st n))
          (subst (λ (u : Time). In u (map (λ z. event_of ended (Item z.stream z.index)) (items_up_to items st n))) (no_event ended (Item st n) e)
          (to_map (λ (z : ItemRun). event_of ended (Item z.stream z.index)) x (items_up_to items st n) (to_filter (λ (z : ItemRun). nat_le z.index n) x (items_of_stream items st) own le)))
        where
          le : nat_le n n ≡ true
          le = grind (arith, nat_tests)

      item_same : (here : Bool) (rel : Time) (now : Bool) (then : Time) → IsHere here rel now then
          → ((c : ℕ) → IsSoFar (whole (Some c) r inner) (whole (Some c) r (pruned ended inner)))
          → IsSoFar (cond (here && is_item_delivered items st n) (whole (item_at p items rel st n) r inner) nothing_comes) (cond (now && is_item_delivered cut st n) (whole (item_at p cut then st n) r (pruned ended inner)) nothing_comes)
      item_same here rel now then (inr (not_now, why)) rec =
          both_unseen (cond (here && is_item_delivered items st n) (whole (item_at p items rel st n) r inner) nothing_comes) (cond (now && is_item_delivered cut st n) (whole (item_at p cut then st n) r (pruned ended inner)) nothing_comes)
          (by why)
          (subst Unseen (sym (ap (λ c. cond (c && is_item_delivered cut st n) (whole (item_at p cut then st n) r (pruned ended inner)) nothing_comes) not_now)) nothing_same)
        where
          by : (here ≡ false) ⊎ (rel ≡ None) → Unseen (cond (here && is_item_delivered items st n) (whole (item_at p items rel st n) r inner) nothing_comes)
          by (inl e) = subst Unseen (sym (ap (λ c. cond (c && is_item_delivered items st n) (whole (item_at p items rel st n) r inner) nothing_comes) e)) nothing_same
          by (inr e) = unseen_if (here && is_item_delivered items st n) (whole (item_at p items rel st n) r inner) (unseen_whole (item_at p items rel st n) r inner (ap (λ (w : Time). item_at p items w st n) e ∙ item_none ended items st n))
      item_same here rel now then (inl (is_here, is_now, same, timed)) rec = by (is_item_delivered cut st n) refl where
        left : Course
        left = cond (here && is_item_delivered items st n) (whole (item_at p items rel st n) r inner) nothing_comes

        right : Course
        right = cond (now && is_item_delivered cut st n) (whole (item_at p cut then st n) r (pruned ended inner)) nothing_comes

        by : (c : Bool) → is_item_delivered cut st n ≡ c
            → IsSoFar (cond (here && is_item_delivered items st n) (whole (item_at p items rel st n) r inner) nothing_comes) (cond (now && is_item_delivered cut st n) (whole (item_at p cut then st n) r (pruned ended inner)) nothing_comes)
        by true e =
            let d = item_delivered ended items st then n timed e in
            let u = some_time (item_at p items then st n) d.1 in
            let one : left ≡ whole (Some u.0) r inner = λ i. cond (is_here i && d.0 i) (whole ((ap (λ (w : Time). item_at p items w st n) same ∙ u.1) i) r inner) nothing_comes in
            let two : right ≡ whole (Some u.0) r (pruned ended inner) = λ i. cond (is_now i && e i) (whole ((item_time ended items st then n ∙ u.1) i) r (pruned ended inner)) nothing_comes in
            subst (λ (c : Course). IsSoFar c right) (sym one) (subst (λ (c : Course). IsSoFar (whole (Some u.0) r inner) c) (sym two) (rec u.0))
        by false e = both_unseen left right (unseen (item_not_delivered ended items st then n e)) (subst Unseen (sym two) nothing_same) where
          two : right ≡ nothing_comes
          two = λ i. cond (is_now i && e i) (whole (item_at p cut then st n) r (pruned ended inner)) nothing_comes

          unseen : (is_item_delivered items st n ≡ false) ⊎ (item_at p items then st n ≡ None) → Unseen left
          unseen (inl k) = subst Unseen (sym (λ i. cond (is_here i && k i) (whole (item_at p items rel st n) r inner) nothing_comes)) nothing_same
          unseen (inr k) = unseen_if (here && is_item_delivered items st n) (whole (item_at p items rel st n) r inner) (unseen_whole (item_at p items rel st n) r inner (ap (λ (w : Time). item_at p items w st n) same ∙ k))

      -- an item with what is below it
      pub item_so_far : (c : Bool) → has_ended ended (Item st n) ≡ c → (here : Bool) (rel : Time) (now : Bool) (then : Time) → IsHere here rel now then
          → (has_ended ended (Item st n) ≡ true → (u : ℕ) → IsSoFar (whole (Some u) r inner) (whole (Some u) r (pruned ended inner)))
          → IsSoFar (come_below p s begun here rel items bs) (come_below p t begun now then cut (pruned ended bs))
          → IsSoFar (come_below p s begun here rel items (more (Item st n) (grown r inner) bs)) (come_below p t begun now then cut (more (Item st n) (kept c r (pruned ended inner)) (pruned ended bs)))
      item_so_far true e here rel now then is rec_a rec_b =
          both_same (cond (here && is_item_delivered items st n) (whole (item_at p items rel st n) r inner) nothing_comes) (cond (now && is_item_delivered cut st n) (whole (item_at p cut then st n) r (pruned ended inner)) nothing_comes) _ _
          (item_same here rel now then is (rec_a e)) rec_b
      item_so_far false e here rel now then is rec_a rec_b =
          both_same (cond (here && is_item_delivered items st n) (whole (item_at p items rel st n) r inner) nothing_comes) (cond (now && is_item_delivered cut st n) (whole (item_at p cut then st n) blank none) nothing_comes) _ _
          (both_unseen (cond (here && is_item_delivered items st n) (whole (item_at p items rel st n) r inner) nothing_comes) (cond (now && is_item_delivered cut st n) (whole (item_at p cut then st n) blank none) nothing_comes)
          (unseen_if (here && is_item_delivered items st n) (whole (item_at p items rel st n) r inner) (unseen_whole (item_at p items rel st n) r inner (open_item rel e)))
          (unseen_if (now && is_item_delivered cut st n) (whole (item_at p cut then st n) blank none) (unseen_whole (item_at p cut then st n) blank none (item_time ended items st then n ∙ open_item then e))))
          rec_b

    -- ---- all branches of a scope

    below_so_far : (bs : Branches) (ra : RegionResult) (ba : Branches) (at : List Key) (lie : Lies ra ba at) (shut : Closed ended ba) (b : ℕ) (y : Site) → walks.IsAbove ra ba f wf at lie y bs → Closed ended bs
        → (items : List ItemRun) → IsPart ra ba y bs items → (here : Bool) (rel : Time) (now : Bool) (then : Time) → IsHere here rel now then
        → IsSoFar (come_below p (scope_of (grown ra ba)) (Some b) here rel items bs) (come_below p (scope_of (grown ra (pruned ended ba))) (Some b) now then (map (cut_run ended) items) (pruned ended bs))
    below_so_far none ra ba at lie shut b y h c items k here rel now then is = nothing_same
    below_so_far (more (Fields g) (grown r inner) bs) ra ba at lie shut b y h c items k here rel now then is =
        regions.group_so_far ended f wf ra ba at lie shut b y g r inner bs items h k (has_ended ended (Fields g)) refl c.1 here rel now then
        (λ e. subst (λ (l : List ItemRun). IsSoFar (come_below p (scope_of (grown ra ba)) (Some b) (is_delivered (scope_of (grown ra ba)) g) (released_at p (scope_of (grown ra ba)) (Some b) g) (items_run inner) inner) (come_below p (scope_of (grown ra (pruned ended ba))) (Some b) (is_delivered (scope_of (grown ra (pruned ended ba))) g) (released_at p (scope_of (grown ra (pruned ended ba))) (Some b) g) l (pruned ended inner))) (sym (items_cut ended inner))
        (below_so_far inner ra ba at lie shut b (walks.group_site ra ba f wf at lie y g r inner) (walks.walks_inner ra ba f wf at lie y g r inner bs h) (c.0 e) (items_run inner) (regions.part_inner ended f wf ra ba y g r inner bs items (walks.group_site ra ba f wf at lie y g r inner) refl e k) _ _ _ _ (regions.group_here ended f wf ra ba at lie shut b y g r inner bs items h k)))
        (below_so_far bs ra ba at lie shut b y (walks.walks_beside ra ba f wf at lie y g r inner bs h) c.2 items (regions.part_beside ended f wf ra ba y g r inner bs items k) here rel now then is)
    below_so_far (more (Item st n) (grown r inner) bs) ra ba at lie shut b y h c items k here rel now then is =
        item_so_far (scope_of (grown ra ba)) (scope_of (grown ra (pruned ended ba))) (Some b) st n r inner bs items (k.items (record { stream = st; index = n; region = r }) (inl refl)) (has_ended ended (Item st n)) refl here rel now then is
        (λ e u. regions.scope_so_far ended f wf r inner (st.path.keys ++ Index n ∷ []) low (c.0 e) u (by_stream st) _ _
        (subst (λ (l : List ItemRun). IsSoFar (come_below p (scope_of (grown r inner)) (Some u) true (Some u) (items_run inner) inner) (come_below p (scope_of (grown r (pruned ended inner))) (Some u) true (Some u) l (pruned ended inner))) (sym (items_cut ended inner))
        (below_so_far inner r inner (st.path.keys ++ Index n ∷ []) low (c.0 e) u (root_site (st.path.keys ++ Index n ∷ []) r inner) (walks.walks_root r inner f wf (st.path.keys ++ Index n ∷ []) low) (c.0 e) (items_run inner) (regions.part_root ended f wf r inner (st.path.keys ++ Index n ∷ [])) true (Some u) true (Some u) (inl (refl, refl, refl, refl)))))
        (below_so_far bs ra ba at lie shut b y (walks.walks_item ra ba f wf at lie y st n r inner bs h) c.2 items (regions.part_item ended f wf ra ba y st n r inner bs items k) here rel now then is)
      where
        low : Lies r inner (st.path.keys ++ Index n ∷ [])
        low z (inl e) = h.below z (inl e)
        low z (inr i) = h.below z (inr (in_left z (sites_below (scope_of (grown r inner)) r.fragments inner) (sites_below (scope_of (grown ra ba)) y.around bs) i))

  -- ---- from the initial region on

  pub course_so_far : (r : RegionResult) (bs : Branches) → IsWellFormed (grown r bs) → Closed ended bs → IsSoFar (course p (grown r bs)) (course p (pruned_forest ended (grown r bs)))
  course_so_far r bs wf c =
      regions.scope_so_far ended (grown r bs) wf r bs [] (λ z i. i) c 0 at_first _ _
      (subst (λ (l : List ItemRun). IsSoFar (come_below p (scope_of (grown r bs)) (Some 0) true (Some 0) (items_run bs) bs) (come_below p (scope_of (grown r (pruned ended bs))) (Some 0) true (Some 0) l (pruned ended bs))) (sym (items_cut ended bs))
      (below_so_far (grown r bs) wf bs r bs [] (λ z i. i) c 0 (root_site [] r bs) (walks.walks_root r bs (grown r bs) wf [] (λ z i. i)) c (items_run bs) (regions.part_root ended (grown r bs) wf r bs []) true (Some 0) true (Some 0) (inl (refl, refl, refl, refl))))
