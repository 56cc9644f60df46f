-- A scope of a well-formed forest, and the same without what grows of tasks that haven't ended: what has a time in the one has it in the other.
use Rattle.std.proofs.Common.{◌≡◌, inl, inr, ℕ, List, [], ◌∷◌, ◌++◌, map, refl, sym, subst, ◌∙◌, ap, Bool, true, false, cond, Some, None}
use Rattle.std.specs.Prelude.{filter, flat_map, not, ◌&&◌}
use Rattle.std.specs.List.{list_all}
use Rattle.gql_tree.specs.declared.path.Key.{Key}
use Rattle.gql_tree.specs.declared.delivery.Frag.{Frag}
use Rattle.gql_tree.specs.declared.delivery.FragId.{FragId}
use Rattle.gql_tree.specs.declared.delivery.Group.{Group}
use Rattle.gql_tree.specs.declared.delivery.RegionResult.{RegionResult}
use Rattle.gql_tree.specs.declared.delivery.TaskWork.{TaskWork}
use Rattle.gql_tree.specs.declared.delivery.TaskWork.TheVariants.{Fields}
use Rattle.gql_tree.specs.Keys.{same_fragment}
use Rattle.gql_tree.specs.Order.{group_cmp}
use Rattle.gql_tree.specs.Ordered.{ordered}
use Rattle.gql_tree.specs.Forest.{Forest, Branches, grown}
use Rattle.gql_tree.specs.Fate.{is_good, GroupRun, Scope, scope_of, has_owner, groups_of, is_empty, all_good, above, is_ok, is_announced}
use Rattle.gql_tree.specs.Merged.{errors_of}
use Rattle.gql_tree.specs.Times.{Time, has_time}
use Rattle.gql_tree.specs.Course.{Schedule, Awaited, announced_below, announced_at, done_at, awaited_fragment}
use Rattle.gql_tree.specs.Numbering.{event_of, by_events}
use Rattle.gql_tree.specs.WellFormed.{Site, root_site, sites_below, sites, is_one_of, IsWellFormed}
use Rattle.gql_tree.specs.Causal.{has_ended}
use Rattle.gql_confluence.proofs.Parts.{In}
use Rattle.gql_confluence.proofs.Lists.{to_filter, in_filter, in_map, to_map, all_at, any_at}
use Rattle.gql_confluence.proofs.Deciders.{fragment_same}
use Rattle.gql_confluence.proofs.Parents as parents
use Rattle.gql_confluence.proofs.Pruned.{pruned, Closed, event_there, no_event}
use Rattle.gql_confluence.proofs.SoFar.{shown, is_opened, latest_none, latest_without, not_done}
use Rattle.gql_confluence.proofs.Known as known
use Rattle.gql_confluence.proofs.Tied.{all_groups_held, all_fragments_held}
use Rattle.gql_confluence.proofs.Agrees.{all_same, one_fails, not_all, timed_latest_of, OwnerAgrees, filter_groups, runs_there, not_good}

left_false : (a b : Bool) → a ≡ false → (a && b) ≡ false
left_false a b e = ap (λ c. c && b) e

right_false : (a b : Bool) → b ≡ false → (a && b) ≡ false
right_false true b e = e
right_false false b e = refl

-- ---- any scope

module _ (ended : List TaskWork) where
  abbrev p : Schedule
  p = by_events ended

  abbrev event : GroupRun → Time
  event x = event_of ended (Fields x.group)

  abbrev pub run_ended : GroupRun → Bool
  run_ended x = has_ended ended (Fields x.group)

  -- all groups that it waits for have ended
  abbrev pub is_clear : Scope → FragId → Bool
  is_clear s id = list_all (λ x. run_ended x) (groups_of s id)

  done_in_time : (s : Scope) (id : FragId) (t : Time) → has_time t ≡ true → is_clear s id ≡ true → has_time (p.fragment_done id t (groups_of s id)) ≡ true
  done_in_time s id t e h = timed_latest_of t (map event (groups_of s id)) e (λ u i.
      let m = in_map event u (groups_of s id) i in
      ap has_time m.2 ∙ (event_there 0 ended (Fields m.0.group) ∙ all_at (λ x. run_ended x) (groups_of s id) h m.0 m.1))

  announced_in_time : (s : Scope) (b : ℕ) (ids : List FragId) → ((a : FragId) → In a ids → is_clear s a ≡ true) → has_time (announced_below p s (Some b) ids) ≡ true
  announced_in_time s b [] h = refl
  announced_in_time s b (id ∷ ids) h = by (is_empty s id) (announced_in_time s b ids (λ a i. h a (inr i))) where
    by : (e : Bool) → has_time (announced_below p s (Some b) ids) ≡ true → has_time (cond e (announced_below p s (Some b) ids) (p.fragment_done id (announced_below p s (Some b) ids) (groups_of s id))) ≡ true
    by true k = k
    by false k = done_in_time s id (announced_below p s (Some b) ids) k (h id (inl refl))

  -- what stands in a fragment that waits for a group that hasn't ended isn't announced
  announced_late : (s : Scope) (begun : Time) (ids : List FragId) (a : FragId) → In a ids → (x : GroupRun) → In x s.groups → has_owner a x ≡ true → run_ended x ≡ false → announced_below p s begun ids ≡ None
  announced_late s begun [] a i x j h e = absurd i
  announced_late s begun (id ∷ ids) a (inl g) x j h e =
      let owner : has_owner id x ≡ true = subst (λ (w : FragId). has_owner w x ≡ true) g h in
      let run : In x (groups_of s id) = to_filter (has_owner id) x s.groups j owner in
      ap (λ c. cond c (announced_below p s begun ids) (p.fragment_done id (announced_below p s begun ids) (groups_of s id))) (parents.filled (groups_of s id) x run)
      ∙ latest_without (announced_below p s begun ids) (map event (groups_of s id)) (subst (λ (t : Time). In t (map event (groups_of s id))) (no_event ended (Fields x.group) e) (to_map event x (groups_of s id) run))
  announced_late s begun (id ∷ ids) a (inr i) x j h e = by (is_empty s id) (announced_late s begun ids a i x j h e) where
    by : (c : Bool) → announced_below p s begun ids ≡ None → cond c (announced_below p s begun ids) (p.fragment_done id (announced_below p s begun ids) (groups_of s id)) ≡ None
    by true k = k
    by false k = ap (λ (t : Time). p.fragment_done id t (groups_of s id)) k ∙ latest_none (map event (groups_of s id))

  late_done : (s : Scope) (begun : Time) (id : FragId) → announced_at p s begun id ≡ None → done_at p s begun id ≡ None
  late_done s begun id e = ap (λ (t : Time). p.fragment_done id t (groups_of s id)) e ∙ latest_none (map event (groups_of s id))

  -- fragments that wait for the same groups in two scopes
  below_same : (s t : Scope) (begun : Time) (ids : List FragId) → ((a : FragId) → In a ids → groups_of s a ≡ groups_of t a) → announced_below p s begun ids ≡ announced_below p t begun ids
  below_same s t begun [] h = refl
  below_same s t begun (id ∷ ids) h =
      let rec = below_same s t begun ids (λ a i. h a (inr i)) in
      λ i. cond (elim (h id (inl refl) i) [ [] ↦ true | x ∷ xs ↦ false ]) (rec i) (p.fragment_done id (rec i) (h id (inl refl) i))

  -- ---- one fragment of what is told

  abbrev pub one_told : Scope → Time → Frag → List Awaited
  one_told s begun x = cond (is_announced s x.id) (cond (is_opened (awaited_fragment p s begun x)) (shown (awaited_fragment p s begun x) ∷ []) []) []

  pub told_each : (s : Scope) (begun : Time) (l : List Frag) → map shown (filter is_opened (map (awaited_fragment p s begun) (filter (λ x. is_announced s x.id) l))) ≡ flat_map (one_told s begun) l
  told_each s begun [] = refl
  told_each s begun (x ∷ l) = by (is_announced s x.id) (told_each s begun l) where
    by : (a : Bool) → map shown (filter is_opened (map (awaited_fragment p s begun) (filter (λ y. is_announced s y.id) l))) ≡ flat_map (one_told s begun) l
        → map shown (filter is_opened (map (awaited_fragment p s begun) (cond a (x ∷ filter (λ y. is_announced s y.id) l) (filter (λ y. is_announced s y.id) l))))
        ≡ cond a (cond (is_opened (awaited_fragment p s begun x)) (shown (awaited_fragment p s begun x) ∷ []) []) [] ++ flat_map (one_told s begun) l
    by false rec = rec
    by true rec = two (is_opened (awaited_fragment p s begun x)) where
      two : (o : Bool) → map shown (cond o (awaited_fragment p s begun x ∷ filter is_opened (map (awaited_fragment p s begun) (filter (λ y. is_announced s y.id) l))) (filter is_opened (map (awaited_fragment p s begun) (filter (λ y. is_announced s y.id) l))))
          ≡ cond o (shown (awaited_fragment p s begun x) ∷ []) [] ++ flat_map (one_told s begun) l
      two true = ap (λ (m : List Awaited). shown (awaited_fragment p s begun x) ∷ m) rec
      two false = rec

  late_untold : (s : Scope) (begun : Time) (x : Frag) → announced_at p s begun x.id ≡ None → one_told s begun x ≡ []
  late_untold s begun x e = ap (λ (t : Time). cond (is_announced s x.id) (cond (has_time t) (shown (awaited_fragment p s begun x) ∷ []) []) []) e ∙ by (is_announced s x.id) where
    by : (a : Bool) → cond {A = List Awaited} a [] [] ≡ []
    by true = refl
    by false = refl

  -- ---- a scope and the same so far

  module _ (ra : RegionResult) (ba : Branches) (f : Forest) (wf : IsWellFormed f) (at : List Key) (lie : (z : Site) → In z (root_site at ra ba ∷ sites_below (scope_of (grown ra ba)) ra.fragments ba) → In z (sites f))
      (shut : Closed ended ba) (b : ℕ) where
    abbrev pub s : Scope
    s = scope_of (grown ra ba)

    abbrev pub t : Scope
    t = scope_of (grown ra (pruned ended ba))

    abbrev pub IsKnown : FragId → Type 0
    IsKnown = known.IsKnown ended ra ba f wf at lie

    abbrev begun : Time
    begun = Some b

    above_same : (id : FragId) → IsKnown id → above t id ≡ above s id
    above_same = known.above_same ended ra ba f wf at lie

    above_that : (id : FragId) → IsKnown id → (a c : FragId) → In a (above s id) → In c (above s a) → In c (above s id)
    above_that id k = parents.above_that ra ba f wf at lie id (known.known_is ended ra ba f wf at lie id k)

    -- it and all that it stands in wait for groups that have ended, as far as is known
    abbrev AllClear : FragId → Type 0
    AllClear id = (is_clear t id ≡ true) × ((a : FragId) → In a (above s id) → is_clear t a ≡ true)

    clear_above : (id : FragId) → IsKnown id → ((a : FragId) → In a (above s id) → is_clear t a ≡ true) → (a : FragId) → In a (above s id) → AllClear a
    clear_above id k h a i = (h a i, λ c j. h c (above_that id k a c i j))

    -- then they wait for no others
    all_ended : (id : FragId) → AllClear id → (x : GroupRun) → In x s.groups → has_owner id x ≡ true → run_ended x ≡ true
    all_ended id c x i h = by (run_ended x) refl where
      clash : (a : FragId) (v : GroupRun) → is_clear t a ≡ true → In v t.groups → is_one_of a v.group.owners ≡ true → run_ended v ≡ false → ⊥
      clash a v e j o n = let m : run_ended v ≡ true = all_at (λ y. run_ended y) (groups_of t a) e v (to_filter (has_owner a) v t.groups j o) in cc

      by : (e : Bool) → run_ended x ≡ e → run_ended x ≡ true
      by true e = e
      by false e =
          let o = any_at (λ w. same_fragment w id) x.group.owners h in
          let held = all_groups_held ended ra ba f wf at lie x i e id (subst (λ (w : FragId). In w x.group.owners) (fragment_same o.0 id o.2) o.1) in
          absurd (elim held.holds as (λ _. ⊥) [ inl k ↦ clash id held.run c.0 held.is_run k held.open' | inr k ↦ clash k.0 held.run (c.1 k.0 k.1) held.is_run k.2 held.open' ])

    groups_same : (id : FragId) → AllClear id → groups_of s id ≡ groups_of t id
    groups_same id c = filter_groups ended (λ g. is_one_of id g.owners) ba shut (all_ended id c)

    -- a group that hasn't ended, of a fragment so far, is one of the whole
    open_there : (a : FragId) → is_clear t a ≡ false → (x : GroupRun) × In x s.groups × (has_owner a x ≡ true) × (run_ended x ≡ false)
    open_there a e =
        let v = one_fails (λ x. run_ended x) (groups_of t a) e in
        let m = in_filter (has_owner a) v.0 t.groups v.1 in
        let y = runs_there ended ba v.0 m.0 in
        (y.0, y.1, ap (λ (g : Group). is_one_of a g.owners) y.2 ∙ m.1, ap (λ (g : Group). has_ended ended (Fields g)) y.2 ∙ v.2)

    -- and keeps it from being ok
    not_all_good : (a : FragId) → is_clear t a ≡ false → all_good t a ≡ false
    not_all_good a e =
        let v = one_fails (λ x. run_ended x) (groups_of t a) e in
        let m = in_filter (has_owner a) v.0 t.groups v.1 in
        not_all (λ x. is_good x.region) (groups_of t a) v.0 v.1 (not_good ended ba v.0 m.0 v.2)

    good_same : (id : FragId) → AllClear id → all_good s id ≡ all_good t id
    good_same id c = ap (list_all (λ x. is_good x.region)) (groups_same id c)

    ok_same : (id : FragId) → IsKnown id → AllClear id → is_ok s id ≡ is_ok t id
    ok_same id k c =
        (λ i. good_same id c i && all_same (all_good s) (all_good t) (above s id) (λ a j. good_same a (clear_above id k c.1 a j)) i)
        ∙ ap (λ (l : List FragId). all_good t id && list_all (all_good t) l) (sym (above_same id k))

    announced_same : (id : FragId) → IsKnown id → ((a : FragId) → In a (above s id) → is_clear t a ≡ true) → (announced_at p s begun id ≡ announced_at p t begun id) × (has_time (announced_at p t begun id) ≡ true)
    announced_same id k h = (
      below_same s t begun (above s id) (λ a i. groups_same a (clear_above id k h a i)) ∙ ap (announced_below p t begun) (sym (above_same id k)),
      subst (λ (l : List FragId). has_time (announced_below p t begun l) ≡ true) (sym (above_same id k)) (announced_in_time t b (above s id) h),
    )

    done_same : (id : FragId) → AllClear id → announced_at p s begun id ≡ announced_at p t begun id → done_at p s begun id ≡ done_at p t begun id
    done_same id c e = λ i. p.fragment_done id (e i) (groups_same id c i)

    -- one of those above waits for a group that hasn't ended
    late_above : (id a : FragId) → In a (above s id) → is_clear t a ≡ false → announced_at p s begun id ≡ None
    late_above id a i e = let x = open_there a e in announced_late s begun (above s id) a i x.0 x.1 x.2 x.3

    -- ---- owners

    pub owner_agrees : (id : FragId) → IsKnown id → OwnerAgrees (is_ok s) (is_ok t) (done_at p s begun) (done_at p t begun) id
    owner_agrees id k = by (is_clear t id) (list_all (is_clear t) (above s id)) refl refl where
      by : (c d : Bool) → is_clear t id ≡ c → list_all (is_clear t) (above s id) ≡ d → OwnerAgrees (is_ok s) (is_ok t) (done_at p s begun) (done_at p t begun) id
      by true true e g =
          let c : AllClear id = (e, all_at (is_clear t) (above s id) g) in
          let an = announced_same id k c.1 in
          inl (ok_same id k c, done_same id c an.0, done_in_time t id (announced_at p t begun id) an.1 e)
      by false d e g =
          let x = open_there id e in
          inr (left_false (all_good t id) _ (not_all_good id e), not_done ended s begun id x.0 x.1 x.2 x.3)
      by true false e g =
          let a = one_fails (is_clear t) (above s id) g in
          let bad : list_all (all_good t) (above t id) ≡ false = subst (λ (l : List FragId). list_all (all_good t) l ≡ false) (sym (above_same id k)) (not_all (all_good t) (above s id) a.0 a.1 (not_all_good a.0 a.2)) in
          inr (right_false (all_good t id) _ bad, late_done s begun id (late_above id a.0 a.1 a.2))

    -- ---- fragments

    pub known_told : (x : Frag) → In x t.fragments → one_told s begun x ≡ one_told t begun x
    known_told x i = by (list_all (is_clear t) (above s x.id)) refl where
      k : IsKnown x.id
      k = (x, i, refl)

      by : (d : Bool) → list_all (is_clear t) (above s x.id) ≡ d → one_told s begun x ≡ one_told t begun x
      by false g =
          let a = one_fails (is_clear t) (above s x.id) g in
          let bad : is_ok t a.0 ≡ false = left_false (all_good t a.0) _ (not_all_good a.0 a.2) in
          let not_announced : is_announced t x.id ≡ false = right_false (not (is_empty t x.id)) _ (subst (λ (l : List FragId). list_all (is_ok t) l ≡ false) (sym (above_same x.id k)) (not_all (is_ok t) (above s x.id) a.0 a.1 bad)) in
          late_untold s begun x (late_above x.id a.0 a.1 a.2)
          ∙ sym (ap (λ c. cond c (cond (is_opened (awaited_fragment p t begun x)) (shown (awaited_fragment p t begun x) ∷ []) []) []) not_announced)
      by true g = λ j. cond (is_same j) (cond (has_time (an.0 j)) (told j ∷ []) []) [] where
        clear : (a : FragId) → In a (above s x.id) → is_clear t a ≡ true
        clear = all_at (is_clear t) (above s x.id) g

        an : (announced_at p s begun x.id ≡ announced_at p t begun x.id) × (has_time (announced_at p t begun x.id) ≡ true)
        an = announced_same x.id k clear

        oks : list_all (is_ok s) (above s x.id) ≡ list_all (is_ok t) (above t x.id)
        oks =
            all_same (is_ok s) (is_ok t) (above s x.id) (λ a j. ok_same a (known.above_known ended ra ba f wf at lie x.id a k j) (clear_above x.id k clear a j))
            ∙ ap (list_all (is_ok t)) (sym (above_same x.id k))

        empty_same : (c : Bool) → is_clear t x.id ≡ c → is_empty s x.id ≡ is_empty t x.id
        empty_same true e = ap (λ (l : List GroupRun). elim l [ [] ↦ true | y ∷ ys ↦ false ]) (groups_same x.id (e, clear))
        empty_same false e =
            let y = open_there x.id e in
            let v = one_fails (λ z. run_ended z) (groups_of t x.id) e in
            parents.filled (groups_of s x.id) y.0 (to_filter (has_owner x.id) y.0 s.groups y.1 y.2) ∙ sym (parents.filled (groups_of t x.id) v.0 v.1)

        is_same : is_announced s x.id ≡ is_announced t x.id
        is_same = λ j. not (empty_same (is_clear t x.id) refl j) && oks j

        told_by : (c : Bool) → is_clear t x.id ≡ c → shown (awaited_fragment p s begun x) ≡ shown (awaited_fragment p t begun x)
        told_by true e =
            let all : AllClear x.id = (e, clear) in
            let errors : errors_of s x.id ≡ errors_of t x.id = ap (λ (l : List GroupRun). flat_map (λ y. y.region.faults) (filter (λ y. not (is_good y.region)) (ordered (λ y z. group_cmp y.group z.group) l))) (groups_same x.id all) in
            λ j. record {
              path = x.id.path;
              label = x.label;
              is_stream = false;
              place = x.id.place;
              announced = an.0 j;
              done = done_same x.id all an.0 j;
              errors = cond (has_time (done_same x.id all an.0 j)) (cond (ok_same x.id k all j) [] (errors j)) [];
            }
        told_by false e =
            let y = open_there x.id e in
            let v = one_fails (λ z. run_ended z) (groups_of t x.id) e in
            let w = in_filter (has_owner x.id) v.0 t.groups v.1 in
            let left : done_at p s begun x.id ≡ None = not_done ended s begun x.id y.0 y.1 y.2 y.3 in
            let right : done_at p t begun x.id ≡ None = not_done ended t begun x.id v.0 w.0 w.1 v.2 in
            (λ j. record { path = x.id.path; label = x.label; is_stream = false; place = x.id.place; announced = an.0 j; done = left j; errors = cond (has_time (left j)) (awaited_fragment p s begun x).errors [] })
            ∙ sym (λ j. record { path = x.id.path; label = x.label; is_stream = false; place = x.id.place; announced = announced_at p t begun x.id; done = right j; errors = cond (has_time (right j)) (awaited_fragment p t begun x).errors [] })

        told : shown (awaited_fragment p s begun x) ≡ shown (awaited_fragment p t begun x)
        told = told_by (is_clear t x.id) refl

    -- what arises below a group that hasn't ended isn't announced
    pub hidden_untold : (x : Frag) → In x (known.hidden_below ended ba) → one_told s begun x ≡ []
    hidden_untold x i =
        let h = all_fragments_held ended ra ba f wf at lie x i in
        let y = runs_there ended ba h.run h.is_run in
        late_untold s begun x (announced_late s begun (above s x.id) h.holds.0 h.holds.1 y.0 y.1 (ap (λ (g : Group). is_one_of h.holds.0 g.owners) y.2 ∙ h.holds.2) (ap (λ (g : Group). has_ended ended (Fields g)) y.2 ∙ h.open'))
