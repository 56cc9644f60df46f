-- Forests of one region, and of a region with one group that stands at its fragment: what comes of them by the inline order.
use Rattle.std.proofs.Common.{◌≡◌, ℕ, ◌<◌, ◌^◌, List, [], ◌∷◌, ◌++◌, length, map, refl, sym, subst, ◌∙◌, ap, Bool, true, false, cond, Option, Some, None, decimal, arith}
use Rattle.std.specs.Prelude.{filter, flat_map, not, ◌&&◌, ◌||◌, if◌then◌else◌}
use Rattle.std.specs.List.{list_all}
use Rattle.std.specs.Ordering.{is_eq, ordering_then, nat_cmp}
use Rattle.std.specs.Cmp.Lexicographic.{slice_cmp}
use Rattle.std.proofs.Math.Seq.{drop-length}
use Rattle.std.proofs.lemmas.List.{append-nil}
use Rattle.std.proofs.lemmas.Cmp.{tied_itself, nat_list_cmp_total}
use Rattle.gql_tree.specs.declared.value.Value.{Value}
use Rattle.gql_tree.specs.declared.delivery.Detail.{Detail}
use Rattle.gql_tree.specs.declared.delivery.Fault.{Fault}
use Rattle.gql_tree.specs.declared.delivery.Frag.{Frag}
use Rattle.gql_tree.specs.declared.delivery.FragId.{FragId}
use Rattle.gql_tree.specs.declared.delivery.Group.{Group}
use Rattle.gql_tree.specs.declared.delivery.Row.{Row}
use Rattle.gql_tree.specs.declared.delivery.Outcome.{Outcome}
use Rattle.gql_tree.specs.declared.delivery.Outcome.TheVariants.{Good, Failed}
use Rattle.gql_tree.specs.declared.delivery.RegionResult.{RegionResult}
use Rattle.gql_tree.specs.declared.delivery.TaskWork.{TaskWork}
use Rattle.gql_tree.specs.declared.delivery.TaskWork.TheVariants as work
use Rattle.gql_tree.specs.declared.delivery.Entry.{Entry}
use Rattle.gql_tree.specs.declared.delivery.Payload.{Payload}
use Rattle.gql_tree.specs.declared.delivery.Content.TheVariants.{Fields}
use Rattle.gql_tree.specs.Forest.{Forest, grown, none, more, outcome_value}
use Rattle.gql_tree.specs.Fate.{is_good, GroupRun, Scope, scope_of, groups_of, parent_of, ancestors, above, all_good, is_ok, is_announced}
use Rattle.gql_tree.specs.Order.{group_cmp}
use Rattle.gql_tree.specs.Ordered.{ordered}
use Rattle.gql_tree.specs.Merged.{errors_of}
use Rattle.gql_tree.specs.Times.{Time, latest, earliest, earliest_of, same_time}
use Rattle.gql_tree.specs.Course.{Schedule, announced_below, done_at, Awaited, at_first, by_owners, Arrival, Course, nothing_comes, both_come, awaited_fragment, one_comes, course}
use Rattle.gql_tree.specs.Payloads.{Known, is_among, farthest, group_entries, standing_cmp, entries_of, is_finished, payloads_of}
use Rattle.gql_tree.specs.Numbering.{work_cmp, by_events, times, event_of, is_order, is_finished_after, is_finished_within, is_complete, inline_order}
use Rattle.gql_tree.specs.Inline.{inline_times, inline_payloads}
use Rattle.gql_confluence.specs.Confluence.{HasFewIds}
use Rattle.gql_confluence.proofs.Orders.{path_total}
use Rattle.gql_confluence.proofs.Deciders.{same_fragment-refl}

-- the inline order of a forest is complete, and these are its payloads
pub record IsRun (f : Forest) (ps : List Payload) : Type 0 where
  pub complete : is_complete f (inline_order f) ≡ true
  pub few : HasFewIds f (inline_times f)
  pub payloads : inline_payloads f ≡ ps

-- ---- one region

none_pass : {X : Type 0} (xs : List X) → filter (λ x. false) xs ≡ []
none_pass [] = refl
none_pass (x ∷ xs) = none_pass xs

module _ (outcome : Outcome) (faults : List Fault) (fragments : List Frag) where
  -- a region without a task
  abbrev pub alone_region : RegionResult
  alone_region = record { outcome = outcome; faults = faults; fragments = fragments; groups = []; streams = [] }

  abbrev pub alone : Forest
  alone = grown alone_region none

  -- its value comes, and nothing is announced
  abbrev only_this : Course
  only_this = record { awaited = []; arrivals = record { at = []; region = alone_region; released = Some 0; way = at_first } ∷ [] }

  alone_course : (p : Schedule) → course p alone ≡ only_this
  alone_course p = ap (λ (fs : List Frag). (let c : Course = record { awaited = map (awaited_fragment p (scope_of alone) (Some 0)) fs; arrivals = record { at = []; region = alone_region; released = Some 0; way = at_first } ∷ [] } in c)) (none_pass (fragments ++ []))

  few_if : (c : Course) → course (inline_times alone) alone ≡ c → length c.awaited < 2 ^ 64 → HasFewIds alone (inline_times alone)
  few_if c is few = subst (λ (d : Course). length d.awaited < 2 ^ 64) (sym is) few

  pub alone_run : IsRun alone (record { initial = Some (outcome_value outcome); errors = faults; pending = []; incremental = []; completed = []; has_next = None } ∷ [])
  alone_run = record {
    complete = λ i. is_order alone [] && is_finished (alone_course (times alone []) i) && not (is_finished_within alone [] []);
    few = few_if only_this (alone_course (inline_times alone)) (omega arith);
    payloads = ap (payloads_of alone_region) (alone_course (inline_times alone));
  }

-- ---- a region and that of its one group

module _ (value : Value) (faults : List Fault) (id : FragId) (label : Option (List ℕ)) (row : Row) (fields : List Detail) (later_faults : List Fault) where
  abbrev pub fragment : Frag
  fragment = record { id = id; label = label; parent = None }

  abbrev pub group : Group
  group = record { owners = id ∷ []; path = id.path; row = row; fields = fields }

  abbrev pub first_region : RegionResult
  first_region = record { outcome = Good value; faults = faults; fragments = fragment ∷ []; groups = group ∷ []; streams = [] }

  abbrev pub later_region : Outcome → RegionResult
  later_region outcome = record { outcome = outcome; faults = later_faults; fragments = []; groups = []; streams = [] }

  abbrev pub waiting : Outcome → Forest
  waiting outcome = grown first_region (more (work.Fields group) (grown (later_region outcome) none) none)

  abbrev first_arrival : Arrival
  first_arrival = record { at = []; region = first_region; released = Some 0; way = at_first }

  -- the fragment, done then
  abbrev awaited : Time → List Fault → Awaited
  awaited done errors = record { path = id.path; label = label; is_stream = false; place = id.place; announced = Some 0; done = done; errors = errors }

  -- when the group has ended
  abbrev ended_at : List TaskWork → Time
  ended_at ended = latest (event_of ended (work.Fields group)) (Some 0)

  ends_first : ended_at (work.Fields group ∷ []) ≡ Some 1
  ends_first = ap (λ b. latest (if b then Some 1 else None) (Some 0)) tie where
    tie : is_eq (work_cmp (work.Fields group) (work.Fields group)) ≡ true
    tie =
        ap (λ o. is_eq (ordering_then o (slice_cmp nat_cmp (id.place ∷ []) (id.place ∷ [])))) (tied_itself path_total id.path.keys)
        ∙ ap is_eq (tied_itself nat_list_cmp_total (id.place ∷ []))

  module _ (outcome : Outcome) where
    abbrev run : GroupRun
    run = record { group = group; region = later_region outcome }

    abbrev pub scope : Scope
    scope = record { fragments = fragment ∷ []; groups = run ∷ [] }

    own_group : groups_of scope id ≡ run ∷ []
    own_group = rw (same_fragment-refl id) refl

    pub no_parent : parent_of scope.fragments id ≡ None
    no_parent = rw (same_fragment-refl id) refl

    pub outermost : above scope id ≡ []
    outermost = ap (ancestors 1 scope.fragments) no_parent

    ok : is_ok scope id ≡ is_good (later_region outcome) && true && true
    ok = λ i. list_all (λ x. is_good x.region) (own_group i) && list_all (all_good scope) (outermost i)

    announced : is_announced scope id ≡ true
    announced = λ i. not (elim (own_group i) [ [] ↦ true | x ∷ xs ↦ false ]) && list_all (is_ok scope) (outermost i)

    errors : errors_of scope id ≡ flat_map (λ x. x.region.faults) (filter (λ x. not (is_good x.region)) (run ∷ []))
    errors = λ i. flat_map (λ x. x.region.faults) (filter (λ x. not (is_good x.region)) (ordered (λ x y. group_cmp x.group y.group) (own_group i)))

    module _ (ended : List TaskWork) where
      abbrev p : Schedule
      p = by_events ended

      -- when the group is released, and the owners that carry it, by whether the fragment is ok
      abbrev released : Bool → Time
      released fine = earliest_of (map (done_at p scope (Some 0)) (cond fine (id ∷ []) []))

      abbrev carried : Bool → List FragId
      carried fine = filter (λ j. same_time (done_at p scope (Some 0) j) (released fine)) (cond fine (id ∷ []) [])

      -- the course, by whether the fragment is announced and whether it is ok
      abbrev shape : Bool → Bool → Course
      shape known fine =
          both_come (one_comes p [] first_region (Some 0) at_first [])
          (both_come
          (both_come (if fine || false then one_comes p id.path.keys (later_region outcome) (released fine) (by_owners group (carried fine)) [] else nothing_comes)
          (both_come nothing_comes nothing_comes))
          (record { awaited = map (awaited_fragment p scope (Some 0)) (cond known (fragment ∷ []) []); arrivals = [] }))

      pub shaped : course p (waiting outcome) ≡ shape true (is_good (later_region outcome) && true && true)
      shaped = λ i. shape (announced i) (ok i)

      done_then : done_at p scope (Some 0) id ≡ ended_at ended
      done_then = λ i. p.fragment_done id (announced_below p scope (Some 0) (outermost i)) (own_group i)

      awaited_then : (fs : List Fault) → (if is_ok scope id then [] else errors_of scope id) ≡ fs → awaited_fragment p scope (Some 0) fragment ≡ awaited (ended_at ended) fs
      awaited_then fs e = λ i. record { path = id.path; label = label; is_stream = false; place = id.place; announced = announced_below p scope (Some 0) (outermost i); done = done_then i; errors = e i }

  -- ---- a group with a value

  module _ (x : Value) (ended : List TaskWork) where
    abbrev good_course : Time → Course
    good_course t = record {
      awaited = awaited t [] ∷ [];
      arrivals = first_arrival ∷ record { at = id.path.keys; region = later_region (Good x); released = earliest t None; way = by_owners group (cond (same_time t (earliest t None)) (id ∷ []) []) } ∷ [];
    }

    good_comes : course (by_events ended) (waiting (Good x)) ≡ good_course (ended_at ended)
    good_comes = shaped (Good x) ended ∙ (λ i. record {
      awaited = awaited_then (Good x) ended [] fine i ∷ [];
      arrivals = first_arrival ∷ record { at = id.path.keys; region = later_region (Good x); released = earliest (done_then (Good x) ended i) None; way = by_owners group (cond (same_time (done_then (Good x) ended i) (earliest (done_then (Good x) ended i) None)) (id ∷ []) []) } ∷ [];
    }) where
      fine : (if is_ok (scope (Good x)) id then [] else errors_of (scope (Good x)) id) ≡ []
      fine = ap (λ b. if b then [] else errors_of (scope (Good x)) id) (ok (Good x))

  -- ---- a group that failed

  module _ (ended : List TaskWork) where
    abbrev failed_course : Time → Course
    failed_course t = record { awaited = awaited t later_faults ∷ []; arrivals = first_arrival ∷ [] }

    failed_comes : course (by_events ended) (waiting Failed) ≡ failed_course (ended_at ended)
    failed_comes = shaped Failed ended ∙ (λ i. record { awaited = awaited_then Failed ended later_faults told i ∷ []; arrivals = first_arrival ∷ [] }) where
      told : (if is_ok (scope Failed) id then [] else errors_of (scope Failed) id) ≡ later_faults
      told = ap (λ b. if b then [] else errors_of (scope Failed) id) (ok Failed) ∙ (errors Failed ∙ append-nil later_faults)

  -- ---- the order, and the payloads

  abbrev pub first_payload : Payload
  first_payload = record { initial = Some value; errors = faults; pending = record { id = decimal 0; path = id.path; label = label } ∷ []; incremental = []; completed = []; has_next = Some true }

  abbrev pub last_payload : List Entry → List Fault → Payload
  last_payload entries errors = record { initial = None; errors = []; pending = []; incremental = entries; completed = record { id = decimal 0; errors = errors } ∷ []; has_next = Some false }

  -- a forest whose course is this one, by when its fragment is done
  module _ (outcome : Outcome) (c : Time → Course) (comes : (ended : List TaskWork) → course (by_events ended) (waiting outcome) ≡ c (ended_at ended))
      (before : is_finished (c None) ≡ false) (after : is_finished (c (Some 1)) ≡ true) (few : length (c (Some 1)).awaited < 2 ^ 64) where
    abbrev g : Forest
    g = waiting outcome

    unfinished : is_finished_after g [] ≡ false
    unfinished = ap is_finished (comes []) ∙ before

    first_comes : course (times g (0 ∷ [])) g ≡ c (Some 1)
    first_comes = comes (work.Fields group ∷ []) ∙ ap c ends_first

    finished : is_finished_after g (0 ∷ []) ≡ true
    finished = ap is_finished first_comes ∙ after

    order : inline_order g ≡ 0 ∷ []
    order = ap (λ b. (let ns : List ℕ = if b then [] else 0 ∷ [] in ns)) unfinished

    complete : is_complete g (inline_order g) ≡ true
    complete = ap (is_complete g) order ∙ (λ i. is_order g (0 ∷ []) && finished i && not (if unfinished i then true else false))

    inline_comes : course (inline_times g) g ≡ c (Some 1)
    inline_comes = ap (λ ns. course (times g ns) g) order ∙ first_comes

    run_of : (ps : List Payload) → payloads_of first_region (c (Some 1)) ≡ ps → IsRun g ps
    run_of ps is = record {
      complete = complete;
      few = subst (λ (d : Course). length d.awaited < 2 ^ 64) (sym inline_comes) few;
      payloads = ap (payloads_of first_region) inline_comes ∙ is;
    }

  module _ (x : Value) where
    abbrev fields_payload : Payload
    fields_payload = last_payload (record { id = decimal 0; sub_path = record { keys = [] }; content = Fields x; errors = later_faults } ∷ []) []

    -- the fragment under its id, and the fields that come under it
    abbrev known : Known
    known = record { number = 0; awaited = awaited (Some 1) [] }

    abbrev arrival : Arrival
    arrival = record { at = id.path.keys; region = later_region (Good x); released = Some 1; way = by_owners group (id ∷ []) }

    abbrev fields_in : Entry
    fields_in = record { id = decimal 0; sub_path = record { keys = [] }; content = Fields x; errors = later_faults }

    -- it owns the group, which stands at its object
    owner : farthest (filter (λ k. is_among (id ∷ []) k.awaited) (known ∷ [])) ≡ Some known
    owner = rw (same_fragment-refl id) refl

    standing : group_entries (known ∷ []) arrival ≡ record { at = id.path.keys; places = id.place ∷ []; entry = fields_in } ∷ []
    standing = rw (owner, group_entries) (rw (drop-length id.path.keys) refl)

    entry_is : entries_of (known ∷ []) (arrival ∷ []) ≡ fields_in ∷ []
    entry_is = ap (λ ss. map (λ e. e.entry) (ordered standing_cmp ((ss ++ []) ++ []))) standing

    good_comes_to : payloads_of first_region (good_course x [] (Some 1)) ≡ first_payload ∷ fields_payload ∷ []
    good_comes_to = ap (λ es. first_payload ∷ last_payload es [] ∷ []) entry_is

    pub good_run : IsRun (waiting (Good x)) (first_payload ∷ fields_payload ∷ [])
    good_run = run_of (Good x) (good_course x []) (good_comes x) refl refl (omega arith) _ good_comes_to

  failed_comes_to : payloads_of first_region (failed_course [] (Some 1)) ≡ first_payload ∷ last_payload [] later_faults ∷ []
  failed_comes_to = refl

  pub failed_run : IsRun (waiting Failed) (first_payload ∷ last_payload [] later_faults ∷ [])
  failed_run = run_of Failed (failed_course []) failed_comes refl refl (omega arith) _ failed_comes_to
