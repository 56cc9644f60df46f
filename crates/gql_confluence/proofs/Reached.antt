-- Tasks end only where those above them have ended: below a task that hasn't, none has.
use Rattle.std.proofs.Common.{◌≡◌, ◌⊎◌, inl, inr, ℕ, zero, suc, List, [], ◌∷◌, ◌++◌, refl, sym, subst, Bool, true, false, cond, Option, Some, None}
use Rattle.std.specs.Prelude.{slice_get}
use Rattle.std.specs.Ordering.{is_eq}
use Rattle.gql_tree.specs.declared.path.Key.TheVariants.{Index}
use Rattle.gql_tree.specs.declared.delivery.Frag.{Frag}
use Rattle.gql_tree.specs.declared.delivery.RegionResult.{RegionResult}
use Rattle.gql_tree.specs.declared.delivery.TaskWork.{TaskWork}
use Rattle.gql_tree.specs.declared.delivery.TaskWork.TheVariants.{Fields, Item}
use Rattle.gql_tree.specs.Forest.{Forest, Branches, grown, none, more, branches}
use Rattle.gql_tree.specs.Fate.{Scope, scope_of}
use Rattle.gql_tree.specs.Numbering.{work_cmp, Made, made_of, makes, Events, start, end_one, end_all}
use Rattle.gql_tree.specs.WellFormed.{Site, root_site, sites_below, collide, IsWellFormed}
use Rattle.gql_tree.specs.Causal.{has_ended, ended_after}
use Rattle.gql_confluence.proofs.Parts.{In, in_left, in_right, in_cases}
use Rattle.gql_confluence.proofs.Lists.{any_at}
use Rattle.gql_confluence.proofs.NoTwo.{no_two_left, no_two_right}
use Rattle.gql_confluence.proofs.Sorted.{in_ordered}
use Rattle.gql_confluence.proofs.ItemsApart.{coincide, items_apart}
use Rattle.gql_confluence.proofs.Stays.{all_more}
use Rattle.gql_confluence.proofs.Past.{found}
use Rattle.gql_confluence.proofs.Pruned.{AllOpen, Closed}
use Rattle.gql_confluence.proofs.OneTask.{OneTask, one_task, task_back, IsRegionOf, all_works, HasRegion, group_site, works_lie, Apart, cross}

-- ---- tasks that can end, and the others

module _ (ended : List TaskWork) where
  -- those above which all have ended
  abbrev pub reached : Branches → List TaskWork
  reached none = []
  reached (more w (grown r inner) bs) = w ∷ (cond (has_ended ended w) (reached inner) [] ++ reached bs)

  -- those below one that hasn't ended
  abbrev hidden : Branches → List TaskWork
  hidden none = []
  hidden (more w (grown r inner) bs) = cond (has_ended ended w) (hidden inner) (all_works inner) ++ hidden bs

  reached_all : (bs : Branches) (w : TaskWork) → In w (reached bs) → In w (all_works bs)
  reached_all none w i = absurd i
  reached_all (more v (grown r inner) bs) w (inl e) = inl e
  reached_all (more v (grown r inner) bs) w (inr i) = by (has_ended ended v) i (reached_all inner w) (reached_all bs w) where
    by : (b : Bool) → In w (cond b (reached inner) [] ++ reached bs) → (In w (reached inner) → In w (all_works inner)) → (In w (reached bs) → In w (all_works bs)) → In w (v ∷ (all_works inner ++ all_works bs))
    by false j rec_a rec_b = inr (in_right w (all_works inner) (all_works bs) (rec_b j))
    by true j rec_a rec_b = elim (in_cases w (reached inner) (reached bs) j) as (λ _. In w (v ∷ (all_works inner ++ all_works bs))) [
      | inl k ↦ inr (in_left w (all_works inner) (all_works bs) (rec_a k))
      | inr k ↦ inr (in_right w (all_works inner) (all_works bs) (rec_b k))
    ]

  hidden_all : (bs : Branches) (w : TaskWork) → In w (hidden bs) → In w (all_works bs)
  hidden_all none w i = absurd i
  hidden_all (more v (grown r inner) bs) w i = by (has_ended ended v) i (hidden_all inner w) (hidden_all bs w) where
    by : (b : Bool) → In w (cond b (hidden inner) (all_works inner) ++ hidden bs) → (In w (hidden inner) → In w (all_works inner)) → (In w (hidden bs) → In w (all_works bs)) → In w (v ∷ (all_works inner ++ all_works bs))
    by true j rec_a rec_b = elim (in_cases w (hidden inner) (hidden bs) j) as (λ _. In w (v ∷ (all_works inner ++ all_works bs))) [
      | inl k ↦ inr (in_left w (all_works inner) (all_works bs) (rec_a k))
      | inr k ↦ inr (in_right w (all_works inner) (all_works bs) (rec_b k))
    ]
    by false j rec_a rec_b = elim (in_cases w (all_works inner) (hidden bs) j) as (λ _. In w (v ∷ (all_works inner ++ all_works bs))) [
      | inl k ↦ inr (in_left w (all_works inner) (all_works bs) k)
      | inr k ↦ inr (in_right w (all_works inner) (all_works bs) (rec_b k))
    ]

  abbrev Parted : Branches → Type 0
  Parted bs = (w u : TaskWork) → In w (reached bs) → In u (hidden bs) → OneTask w u → ⊥

  -- one branch and those beside it
  module _ (v : TaskWork) (inner bs : Branches) (z : Site) (za zb : List Site) (is_of : IsRegionOf v z) (a : Apart (z ∷ (za ++ zb)))
      (lie_a : (w : TaskWork) → In w (all_works inner) → HasRegion w za) (lie_b : (w : TaskWork) → In w (all_works bs) → HasRegion w zb) where
    wider_a : (w : TaskWork) → In w (all_works inner) → HasRegion w (za ++ zb)
    wider_a w i = let h = lie_a w i in record { site = h.site; is_site = in_left h.site za zb h.is_site; is_of = h.is_of }

    wider_b : (w : TaskWork) → In w (all_works bs) → HasRegion w (za ++ zb)
    wider_b w i = let h = lie_b w i in record { site = h.site; is_site = in_right h.site za zb h.is_site; is_of = h.is_of }

    lower : Apart (za ++ zb)
    lower = (no_two_right collide (z ∷ []) (za ++ zb) a.0, no_two_right coincide (z ∷ []) (za ++ zb) a.1)

    from_first : (u : TaskWork) → In u (all_works inner) ⊎ In u (all_works bs) → OneTask v u → ⊥
    from_first u (inl j) = cross (z ∷ []) (za ++ zb) a v u (record { site = z; is_site = inl refl; is_of = is_of }) (wider_a u j)
    from_first u (inr j) = cross (z ∷ []) (za ++ zb) a v u (record { site = z; is_site = inl refl; is_of = is_of }) (wider_b u j)

    two_sides : (w u : TaskWork) → In w (all_works inner) → In u (all_works bs) → OneTask w u → ⊥
    two_sides w u i j = cross za zb lower w u (lie_a w i) (lie_b u j)

    one_branch : Parted inner → Parted bs → (w u : TaskWork) → In w (v ∷ (cond (has_ended ended v) (reached inner) [] ++ reached bs)) → In u (cond (has_ended ended v) (hidden inner) (all_works inner) ++ hidden bs) → OneTask w u → ⊥
    one_branch rec_a rec_b w u i j k = by (has_ended ended v) i j where
      first : In u (all_works inner) ⊎ In u (all_works bs) → w ≡ v → ⊥
      first l e = from_first u l (subst (λ (x : TaskWork). OneTask x u) e k)

      on_true : In w (reached inner) ⊎ In w (reached bs) → In u (hidden inner) ⊎ In u (hidden bs) → ⊥
      on_true (inl l) (inl m) = rec_a w u l m k
      on_true (inl l) (inr m) = two_sides w u (reached_all inner w l) (hidden_all bs u m) k
      on_true (inr l) (inl m) = two_sides u w (hidden_all inner u m) (reached_all bs w l) (task_back w u k)
      on_true (inr l) (inr m) = rec_b w u l m k

      on_false : In w (reached bs) → In u (all_works inner) ⊎ In u (hidden bs) → ⊥
      on_false l (inl m) = two_sides u w m (reached_all bs w l) (task_back w u k)
      on_false l (inr m) = rec_b w u l m k

      by : (b : Bool) → In w (v ∷ (cond b (reached inner) [] ++ reached bs)) → In u (cond b (hidden inner) (all_works inner) ++ hidden bs) → ⊥
      by true (inl e) m = first (elim (in_cases u (hidden inner) (hidden bs) m) as (λ _. In u (all_works inner) ⊎ In u (all_works bs)) [ inl x ↦ inl (hidden_all inner u x) | inr x ↦ inr (hidden_all bs u x) ]) e
      by false (inl e) m = first (elim (in_cases u (all_works inner) (hidden bs) m) as (λ _. In u (all_works inner) ⊎ In u (all_works bs)) [ inl x ↦ inl x | inr x ↦ inr (hidden_all bs u x) ]) e
      by true (inr l) m = on_true (in_cases w (reached inner) (reached bs) l) (in_cases u (hidden inner) (hidden bs) m)
      by false (inr l) m = on_false l (in_cases u (all_works inner) (hidden bs) m)

  apart_inner : (z : Site) (za zb : List Site) → Apart (z ∷ (za ++ zb)) → Apart za
  apart_inner z za zb a = (no_two_left collide za zb (no_two_right collide (z ∷ []) (za ++ zb) a.0), no_two_left coincide za zb (no_two_right coincide (z ∷ []) (za ++ zb) a.1))

  apart_rest : (z : Site) (za zb : List Site) → Apart (z ∷ (za ++ zb)) → Apart zb
  apart_rest z za zb a = (no_two_right collide za zb (no_two_right collide (z ∷ []) (za ++ zb) a.0), no_two_right coincide za zb (no_two_right coincide (z ∷ []) (za ++ zb) a.1))

  parted : (s : Scope) (around : List Frag) (bs : Branches) → Apart (sites_below s around bs) → Parted bs
  parted s around none a = λ w u i. absurd i
  parted s around (more (Fields g) (grown r inner) bs) a =
      let z = group_site s around g r inner in
      let za = sites_below s (r.fragments ++ around) inner in
      let zb = sites_below s around bs in
      one_branch (Fields g) inner bs z za zb (refl, refl, refl) a (works_lie s (r.fragments ++ around) inner) (works_lie s around bs)
      (parted s (r.fragments ++ around) inner (apart_inner z za zb a)) (parted s around bs (apart_rest z za zb a))
  parted s around (more (Item st n) (grown r inner) bs) a =
      let z = root_site (st.path.keys ++ Index n ∷ []) r inner in
      let za = sites_below (scope_of (grown r inner)) r.fragments inner in
      let zb = sites_below s around bs in
      one_branch (Item st n) inner bs z za zb (refl, refl) a (works_lie (scope_of (grown r inner)) r.fragments inner) (works_lie s around bs)
      (parted (scope_of (grown r inner)) r.fragments inner (apart_inner z za zb a)) (parted s around bs (apart_rest z za zb a))

  -- ---- what hasn't ended below

  all_open : (bs : Branches) → ((u : TaskWork) → In u (all_works bs) → has_ended ended u ≡ false) → AllOpen ended bs
  all_open none h = tt
  all_open (more w (grown r inner) bs) h = (
    h w (inl refl),
    all_open inner (λ u i. h u (inr (in_left u (all_works inner) (all_works bs) i))),
    all_open bs (λ u i. h u (inr (in_right u (all_works inner) (all_works bs) i))),
  )

  closed : (bs : Branches) → ((u : TaskWork) → In u (hidden bs) → has_ended ended u ≡ false) → Closed ended bs
  closed none h = tt
  closed (more w (grown r inner) bs) h = (
    λ e. closed inner (λ u i. h u (in_left u (cond (has_ended ended w) (hidden inner) (all_works inner)) (hidden bs) (subst (λ b. In u (cond b (hidden inner) (all_works inner))) (sym e) i))),
    λ e. all_open inner (λ u i. h u (in_left u (cond (has_ended ended w) (hidden inner) (all_works inner)) (hidden bs) (subst (λ b. In u (cond b (hidden inner) (all_works inner))) (sym e) i))),
    closed bs (λ u i. h u (in_right u (cond (has_ended ended w) (hidden inner) (all_works inner)) (hidden bs) i)),
  )

  -- ---- what has ended is among the tasks that can end

  module _ (all : Branches) where
    record IsMade (m : Made) : Type 0 where
      here : In m.work (reached all)
      below : has_ended ended m.work ≡ true → (w : TaskWork) → In w (reached (branches m.forest)) → In w (reached all)

    made_in : (bs : Branches) → ((w : TaskWork) → In w (reached bs) → In w (reached all)) → (m : Made) → In m (made_of bs) → IsMade m
    made_in none sub m i = absurd i
    made_in (more v (grown r inner) bs) sub m (inl e) = subst IsMade (sym e) (record {
      here = sub v (inl refl);
      below = λ h w i. sub w (inr (in_left w (cond (has_ended ended v) (reached inner) []) (reached bs) (subst (λ b. In w (cond b (reached inner) [])) (sym h) i)));
    })
    made_in (more v (grown r inner) bs) sub m (inr i) = made_in bs (λ w j. sub w (inr (in_right w (cond (has_ended ended v) (reached inner) []) (reached bs) j))) m i

    made_by : (f : Forest) → ((w : TaskWork) → In w (reached (branches f)) → In w (reached all)) → (m : Made) → In m (makes f) → IsMade m
    made_by f sub m i = made_in (branches f) sub m (in_ordered (λ a b. work_cmp a.work b.work) m (made_of (branches f)) i)

    in_get : (ms : List Made) (i : ℕ) (m : Made) → slice_get ms i ≡ Some m → In m ms
    in_get [] i m e = absurd (cc)
    in_get (x ∷ ms) zero m e = inl (some_same m x (sym e)) where
      some_same : (m x : Made) → Some m ≡ Some x → m ≡ x
      some_same m x e = cc
    in_get (x ∷ ms) (suc i) m e = inr (in_get ms i m e)

    record AllReached (e : Events) : Type 0 where
      made : (m : Made) → In m e.made → IsMade m
      ends : (w : TaskWork) → In w e.ended → In w (reached all)

    abbrev ended_by : Events → Option Made → Events
    ended_by e o = elim o [ None ↦ e | Some m ↦ record { made = e.made ++ makes m.forest; ended = e.ended ++ m.work ∷ [] } ]

    one_step : (e : Events) → AllReached e → (o : Option Made) → ((m : Made) → o ≡ Some m → In m e.made) → ((w : TaskWork) → In w (ended_by e o).ended → has_ended ended w ≡ true) → AllReached (ended_by e o)
    one_step e h None is sub = h
    one_step e h (Some m) is sub =
        let k = h.made m (is m refl) in
        let has = sub m.work (in_right m.work e.ended (m.work ∷ []) (inl refl)) in
        record {
          made = λ x i. elim (in_cases x e.made (makes m.forest) i) as (λ _. IsMade x) [ inl j ↦ h.made x j | inr j ↦ made_by m.forest (k.below has) x j ];
          ends = λ w i. elim (in_cases w e.ended (m.work ∷ []) i) as (λ _. In w (reached all)) [ inl j ↦ h.ends w j | inr j ↦ only w j ];
        }
      where
        only : (w : TaskWork) → In w (m.work ∷ []) → In w (reached all)
        only w (inl f) = subst (λ (x : TaskWork). In x (reached all)) (sym f) (h.made m (is m refl)).here
        only w (inr i) = absurd i

    all_steps : (e : Events) → AllReached e → (ns : List ℕ) → ((w : TaskWork) → In w (end_all e ns).ended → has_ended ended w ≡ true) → AllReached (end_all e ns)
    all_steps e h [] sub = h
    all_steps e h (n ∷ ns) sub =
        let more' = all_more (end_one e n) ns in
        all_steps (end_one e n) (one_step e h (slice_get e.made n) (λ m f. in_get e.made n m f) (λ w i. sub w (subst (λ (l : List TaskWork). In w l) (sym more'.ended) (in_left w (end_one e n).ended more'.more i)))) ns sub

-- below a task that hasn't ended after some events, none has
pub closed_after : (r : RegionResult) (bs : Branches) (ns : List ℕ) → IsWellFormed (grown r bs) → Closed (ended_after (grown r bs) ns) bs
closed_after r bs ns wf = closed ended bs (λ u i. not_ended u i (has_ended ended u) refl) where
  f : Forest
  f = grown r bs

  ended : List TaskWork
  ended = ended_after f ns

  all_in : AllReached ended bs (end_all (start f) ns)
  all_in = all_steps ended bs (start f) (record { made = made_by ended bs f (λ w i. i); ends = λ w i. absurd i }) ns (λ w i. found ended w i)

  apart : Apart (sites_below (scope_of f) r.fragments bs)
  apart = (no_two_right collide (root_site [] r bs ∷ []) (sites_below (scope_of f) r.fragments bs) wf.groups_apart, no_two_right coincide (root_site [] r bs ∷ []) (sites_below (scope_of f) r.fragments bs) (items_apart f wf))

  not_ended : (u : TaskWork) → In u (hidden ended bs) → (b : Bool) → has_ended ended u ≡ b → has_ended ended u ≡ false
  not_ended u i false e = e
  not_ended u i true e =
      let v = any_at (λ w. is_eq (work_cmp w u)) ended e in
      absurd (parted ended (scope_of f) r.fragments bs apart v.0 u (all_in.ends v.0 v.1) i (one_task v.0 u v.2))
