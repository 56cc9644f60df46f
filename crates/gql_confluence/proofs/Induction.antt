-- A client that is sent the payloads of a sound course, moment by moment.
use Rattle.std.proofs.Common.{◌≡◌, ◌⊎◌, inl, inr, ℕ, ◌<◌, ◌≤◌, ◌+◌, ◌^◌, List, [], ◌∷◌, ◌++◌, map, refl, sym, subst, ◌∙◌, ap, Bool, true, false, cond, Option, Some, None, decimal, arith, length}
use Rattle.std.specs.Prelude.{filter, flat_map, not, nat_le, ◌&&◌, ◌||◌, ◌==◌, IsPermutation, IfSome, Ok}
use Rattle.std.specs.List.{list_any, list_all, AllByRecursion}
use Rattle.std.proofs.lemmas.Slice.Eq.{bytes_eq-Decides}
use Rattle.std.proofs.lemmas.Bool.Decides.{nat_tests, Decides-eqb}
use Rattle.std.proofs.lemmas.List.Sorted.{IsPermutation-sym, IsPermutation-trans, IsPermutation-append_right, IsPermutation-append_left}
use Rattle.gql_tree.specs.declared.path.Key.{Key}
use Rattle.gql_tree.specs.declared.value.Value.{Value}
use Rattle.gql_tree.specs.declared.delivery.Fault.{Fault}
use Rattle.gql_tree.specs.declared.delivery.Failure.{Failure}
use Rattle.gql_tree.specs.declared.delivery.Pending.{Pending}
use Rattle.gql_tree.specs.declared.delivery.Entry.{Entry}
use Rattle.gql_tree.specs.declared.delivery.Completed.{Completed}
use Rattle.gql_tree.specs.declared.delivery.Payload.{Payload}
use Rattle.gql_tree.specs.Flat.{flat, Mark}
use Rattle.gql_tree.specs.Same.{SameFlat, SameMaybe}
use Rattle.gql_tree.specs.Sound.{SameEntries, SamePayload}
use Rattle.gql_tree.specs.Ordered.{ordered}
use Rattle.gql_tree.specs.Typed.{IsTypedValue, IsTypedPayload}
use Rattle.gql_tree.specs.Merged.{Part}
use Rattle.gql_merge.specs.declared.state.State.{State}
use Rattle.gql_merge.specs.Order.{Sorts, fault_cmp, failure_cmp}
use Rattle.gql_merge.specs.Apply.{begun, failed, faults_of, is_last, is_some_open, fresh, opened, Apply}
use Rattle.gql_merge.specs.Steps.{Each}
use Rattle.gql_merge.specs.Same.{IsTypedState}
use Rattle.gql_merge.specs.Merging.{SamePayloads}
use Rattle.gql_merge.proofs.Reached.{LeadsOn, IsReached}
use Rattle.gql_merge.proofs.Taken.{IsTaken}
use Rattle.gql_merge.proofs.Served.{IsServed, served_none, served_more, taken_as}
use Rattle.gql_tree.specs.Times.{Time, is_at, has_time}
use Rattle.gql_tree.specs.Course.{Awaited, Way, Arrival, Course, at_first, by_owners, by_stream}
use Rattle.gql_tree.specs.Payloads.{Known, known_from, all_known, awaited_cmp, pending_of, completed_of, Standing, standing_cmp, group_entries, is_item_of, items_entry, stream_entries, entries_of, arrivals_at, value_at, payload_at, noted_all, moments, is_finished, next_of, payloads_from, payloads_of}
use Rattle.gql_confluence.proofs.Parts.{In, in_left, in_right, in_cases, HasAt}
use Rattle.gql_confluence.proofs.Lengths.{Setting, ShowsSet}
use Rattle.gql_tree.specs.Keys.{same_lists, same_key}
use Rattle.gql_confluence.proofs.AcceptedItems.{FitsAll, IsFitting, Led, taken, parts_of}
use Rattle.gql_confluence.proofs.Leads.{leads}
use Rattle.gql_confluence.proofs.Received.{fits_received}
use Rattle.gql_confluence.proofs.Soundness.{failure_of, is_item_at, items_at, grow, setting, IsGroupOf, IsItemOfStream, IsSound, HasAllOf, CoursesAreServed, part_of, IsTimed}
use Rattle.gql_confluence.proofs.Entries.{same_pass, none_pass, grow_none, came, set_by, Chained}
use Rattle.gql_tree.specs.Fate.{same_path}
use Rattle.gql_confluence.proofs.EntriesFound.{standings, item_listed, errors_found, entries_chained}
use Rattle.gql_confluence.proofs.Accepted.{begins_Ok, AllNew, awaited_of, AllOpen, still_open, failed_of}
use Rattle.gql_confluence.proofs.Sorted.{flat_ordered}
use Rattle.gql_confluence.proofs.Moments.{upto, Later, Due, later_all, due_all, due_next, step, at_end}
use Rattle.gql_confluence.proofs.Lists.{in_filter, to_filter, in_map, to_map, to_any}
use Rattle.gql_confluence.proofs.Collected.{collect, flat_filter, collect_all, collect_none, collect_split}
use Rattle.gql_confluence.proofs.Knowns.{numbered_filter, all_numbered, is_awaited, same_known, few_numbers}
use Rattle.gql_confluence.proofs.Pendings.{awaited_is, in_ids, Older, all_new, OfKnown, all_open, opened_known, in_still, to_still, failed_is, failures_by}
use Rattle.gql_confluence.proofs.Standings.{flat_none}

failure_same : (k : Known) (fs : List Fault) → failed (pending_of k) fs ≡ failed (record { id = []; path = k.awaited.path; label = k.awaited.label }) fs
failure_same k [] = refl
failure_same k (f ∷ fs) = refl

either_true : (a b : Bool) → (a || b) ≡ true → (a ≡ true) ⊎ (b ≡ true)
either_true true b e = inl refl
either_true false b e = inr e

or_true : (a b : Bool) → b ≡ true → (a || b) ≡ true
or_true true b e = refl
or_true false b e = e

not_either : (a b : Bool) → (a || b) ≡ false → (a ≡ false) × (b ≡ false)
not_either true b e = absurd (cc)
not_either false b e = (refl, e)

-- ---- times of one fragment

at_some : (t a : ℕ) (u : Time) → u ≡ Some a → is_at t u ≡ true → a ≡ t
at_some t a u e h = let g : (a == t) ≡ true = ap (is_at t) (sym e) ∙ h in (Decides-eqb a t).0 g

upto_some : (m a : ℕ) (u : Time) → u ≡ Some a → a ≤ m → upto m u ≡ true
upto_some m a u e h = ap (upto m) e ∙ le where
  le : nat_le a m ≡ true
  le = grind (arith, nat_tests)

some_upto : (m a : ℕ) (u : Time) → u ≡ Some a → upto m u ≡ true → a ≤ m
some_upto m a u e h = let g : nat_le a m ≡ true = ap (upto m) (sym e) ∙ h in grind (arith, nat_tests)

not_upto : (m a : ℕ) (u : Time) → u ≡ Some a → m < a → upto m u ≡ false
not_upto m a u e h = ap (upto m) e ∙ gt where
  gt : nat_le a m ≡ false
  gt = grind (arith, nat_tests)

no_elements : (ps : List Pending) → ((p : Pending) → In p ps → ⊥) → ps ≡ []
no_elements [] h = refl
no_elements (p ∷ ps) h = absurd (h p (inl refl))

cons_nil : {X : Type 0} (x : X) (xs : List X) → x ∷ xs ≡ [] → ⊥
cons_nil x xs e = cc

-- ---- errors of entries

same_errors : (es fs : List Entry) → SameEntries es fs → flat_map (λ (e : Entry). e.errors) fs ≡ flat_map (λ (e : Entry). e.errors) es
same_errors [] [] h = refl
same_errors [] (f ∷ fs) h = absurd h
same_errors (e ∷ es) [] h = absurd h
same_errors (e ∷ es) (f ∷ fs) h = λ i. sym h.0.errors i ++ same_errors es fs h.1 i

flat_entries : (zs : List Standing) → flat_map (λ (e : Entry). e.errors) (map (λ z. z.entry) zs) ≡ flat_map (λ (z : Standing). z.entry.errors) zs
flat_entries [] = refl
flat_entries (z ∷ zs) = ap (λ (l : List Fault). z.entry.errors ++ l) (flat_entries zs)

awaited_back : {Y : Type 0} (g : Awaited → List Y) (n : ℕ) (as' : List Awaited) → flat_map (λ (k : Known). g k.awaited) (known_from n as') ≡ flat_map g as'
awaited_back g n [] = refl
awaited_back g n (a ∷ rest) = ap (λ l. g a ++ l) (awaited_back g (n + 1) rest)

module _ (c : Course) (sound : IsSound c) where
  abbrev ks : List Known
  ks = all_known c

  few : (k : Known) → In k ks → k.number < 2 ^ 64
  few = few_numbers c sound.few

  same : (k l : Known) → In k ks → In l ks → k.number ≡ l.number → k ≡ l
  same = same_known c

  timed : (k : Known) → In k ks → IsTimed k.awaited
  timed k i = sound.timed k.awaited (is_awaited c k i).0

  abbrev pub errors_upto : ℕ → List Fault
  errors_upto m = collect (λ (x : Arrival). x.region.faults) (λ x. upto m x.released) c.arrivals

  abbrev pub failures_upto : ℕ → List Failure
  failures_upto m = collect failure_of (λ a. upto m a.done) c.awaited

  -- what a client holds after the payloads up to a moment
  pub record Holds (m : ℕ) (s : State) : Type 0 where
    pub value : Value
    pub is_value : s.value ≡ Some value
    pub parts : List Part
    pub shows : ShowsSet (setting c (λ x. upto m x.released)) s.value parts
    pub of : (y : Part) → In y parts → (x : Arrival) × In x c.arrivals × (upto m x.released ≡ true) × (y ≡ part_of x)
    pub all : (x : Arrival) → In x c.arrivals → upto m x.released ≡ true → In (part_of x) parts
    pub ids : (id : List ℕ) → In id s.ids → (k : Known) × In k ks × (upto m k.awaited.announced ≡ true) × (id ≡ decimal k.number)
    pub only : (p : Pending) → In p s.awaited → (k : Known) × In k ks × (p ≡ pending_of k) × (upto m k.awaited.announced ≡ true) × (upto m k.awaited.done ≡ false)
    pub open' : (k : Known) → In k ks → upto m k.awaited.announced ≡ true → upto m k.awaited.done ≡ false → In (pending_of k) s.awaited
    pub errors : Sorts fault_cmp (errors_upto m) s.errors
    pub failures : Sorts failure_cmp (failures_upto m) s.failures

  -- all times are at most the moment, or among those to come
  pub record AllDue (m : ℕ) (us : List ℕ) : Type 0 where
    pub announced : (a : Awaited) → In a c.awaited → Due m us a.announced
    pub done : (a : Awaited) → In a c.awaited → Due m us a.done
    pub released : (x : Arrival) → In x c.arrivals → Due m us x.released

  all_due_next : (m t : ℕ) (us : List ℕ) → m < t → AllDue m (t ∷ us) → AllDue t us
  all_due_next m t us h d = record {
    announced = λ a i. due_next m t us a.announced h (d.announced a i);
    done = λ a i. due_next m t us a.done h (d.done a i);
    released = λ x i. due_next m t us x.released h (d.released x i);
  }

  abbrev opening : ℕ → List Known
  opening t = filter (λ k. is_at t k.awaited.announced) ks

  abbrev closing : ℕ → List Known
  closing t = filter (λ k. is_at t k.awaited.done) ks

  opening_in : (t : ℕ) (k : Known) → In k (opening t) → In k ks × (is_at t k.awaited.announced ≡ true)
  opening_in t k i = in_filter (λ (l : Known). is_at t l.awaited.announced) k ks i

  closing_in : (t : ℕ) (k : Known) → In k (closing t) → In k ks × (is_at t k.awaited.done ≡ true)
  closing_in t k i = in_filter (λ (l : Known). is_at t l.awaited.done) k ks i

  -- the failures of what is completed at a moment
  closing_failures : (t : ℕ) → IsPermutation (collect failure_of (λ a. is_at t a.done) c.awaited) (flat_map failures_by (closing t))
  closing_failures t =
      let g : Awaited → List Failure = λ a. cond (is_at t a.done) (failure_of a) [] in
      let one : flat_map failures_by (closing t) ≡ collect failures_by (λ k. is_at t k.awaited.done) ks = flat_filter failures_by (λ k. is_at t k.awaited.done) ks in
      let two : collect failures_by (λ k. is_at t k.awaited.done) ks ≡ flat_map (λ (k : Known). g k.awaited) ks = each ks in
      let three : flat_map (λ (k : Known). g k.awaited) ks ≡ flat_map g (ordered awaited_cmp (filter (λ a. has_time a.announced) c.awaited)) = awaited_back g 0 (ordered awaited_cmp (filter (λ a. has_time a.announced) c.awaited)) in
      let four : IsPermutation (flat_map g (ordered awaited_cmp (filter (λ a. has_time a.announced) c.awaited))) (flat_map g (filter (λ a. has_time a.announced) c.awaited)) = flat_ordered awaited_cmp g (filter (λ a. has_time a.announced) c.awaited) in
      let five : flat_map g (filter (λ a. has_time a.announced) c.awaited) ≡ flat_map g c.awaited =
      flat_filter g (λ a. has_time a.announced) c.awaited ∙ collect_all g (λ a. has_time a.announced) c.awaited (λ a i. ap has_time (sound.timed a i).announced) in
      subst (λ (l : List Failure). IsPermutation (flat_map g c.awaited) l) (sym (one ∙ (two ∙ three))) (IsPermutation-sym _ _ (subst (λ (l : List Failure). IsPermutation (flat_map g (ordered awaited_cmp (filter (λ a. has_time a.announced) c.awaited))) l) five four))
    where
      each : (ls : List Known) → collect failures_by (λ k. is_at t k.awaited.done) ls ≡ flat_map (λ (k : Known). cond (is_at t k.awaited.done) (failure_of k.awaited) []) ls
      each [] = refl
      each (l ∷ ls) = λ i. cond (is_at t l.awaited.done) (failure_same l l.awaited.errors i) [] ++ each ls i

  -- ---- what a payload leads to

  module _ (m t : ℕ) (us : List ℕ) (later : Later m (t ∷ us)) (due : AllDue m (t ∷ us)) (s : State) (h : Holds m s) (going : s.ended ≡ false)
      (q : Payload) (is : SamePayload (payload_at c t None [] (next_of c us)) q) where
    late : 1 ≤ t
    late = let l = later.0 in omega arith

    announced_step : (k : Known) → In k ks → (upto t k.awaited.announced ≡ (upto m k.awaited.announced || is_at t k.awaited.announced)) × ((upto m k.awaited.announced ≡ true) → is_at t k.awaited.announced ≡ false)
    announced_step k i = step m t us k.awaited.announced later (due.announced k.awaited (is_awaited c k i).0)

    done_step : (k : Known) → In k ks → (upto t k.awaited.done ≡ (upto m k.awaited.done || is_at t k.awaited.done)) × ((upto m k.awaited.done ≡ true) → is_at t k.awaited.done ≡ false)
    done_step k i = step m t us k.awaited.done later (due.done k.awaited (is_awaited c k i).0)

    released_step : (x : Arrival) → In x c.arrivals → (upto t x.released ≡ (upto m x.released || is_at t x.released)) × ((upto m x.released ≡ true) → is_at t x.released ≡ false)
    released_step x i = step m t us x.released later (due.released x i)

    abbrev waited : List Pending
    waited = awaited_of s.awaited q.pending

    waited_is : waited ≡ s.awaited ++ map pending_of (opening t)
    waited_is = awaited_is s.awaited q.pending ∙ ap (λ (l : List Pending). s.awaited ++ l) (sym is.pending)

    -- what is announced by now and wasn't done before is waited for
    waits : (k : Known) → In k ks → upto t k.awaited.announced ≡ true → upto m k.awaited.done ≡ false → In (pending_of k) waited
    waits k i e n = subst (λ (l : List Pending). In (pending_of k) l) (sym waited_is) (by (either_true _ _ (sym (announced_step k i).0 ∙ e))) where
      by : (upto m k.awaited.announced ≡ true) ⊎ (is_at t k.awaited.announced ≡ true) → In (pending_of k) (s.awaited ++ map pending_of (opening t))
      by (inl f) = in_left (pending_of k) s.awaited (map pending_of (opening t)) (h.open' k i f n)
      by (inr f) = in_right (pending_of k) s.awaited (map pending_of (opening t)) (to_map pending_of k (opening t) (to_filter (λ (l : Known). is_at t l.awaited.announced) k ks i f))

    -- and nothing else
    waited_only : (p : Pending) → In p waited → (k : Known) × In k ks × (p ≡ pending_of k) × (upto t k.awaited.announced ≡ true) × (upto m k.awaited.done ≡ false)
    waited_only p i = by (in_cases p s.awaited (map pending_of (opening t)) (subst (λ (l : List Pending). In p l) waited_is i)) where
      by : In p s.awaited ⊎ In p (map pending_of (opening t)) → (k : Known) × In k ks × (p ≡ pending_of k) × (upto t k.awaited.announced ≡ true) × (upto m k.awaited.done ≡ false)
      by (inl j) = let o = h.only p j in (o.0, o.1, o.2, (announced_step o.0 o.1).0 ∙ ap (λ b. b || is_at t o.0.awaited.announced) o.3, o.4)
      by (inr j) =
          let o = in_map pending_of p (opening t) j in
          let k = opening_in t o.0 o.1 in
          let d = timed o.0 k.0 in
          let f = at_some t d.opening o.0.awaited.announced d.announced k.1 in
          let g = d.forward in
          let l = later.0 in
          (o.0, k.0, o.2, (announced_step o.0 k.0).0 ∙ or_true (upto m o.0.awaited.announced) (is_at t o.0.awaited.announced) k.1, not_upto m d.closing o.0.awaited.done d.done (omega arith))

    of_known : OfKnown ks few same waited
    of_known p i = let o = waited_only p i in (o.0, o.1, o.2)

    -- what is done now is waited for
    closing_waits : (k : Known) → In k (closing t) → In (pending_of k) waited
    closing_waits k i =
        let j = closing_in t k i in
        let d = timed k j.0 in
        let f = at_some t d.closing k.awaited.done d.done j.1 in
        let g = d.forward in
        let l = later.0 in
        waits k j.0 (upto_some t d.opening k.awaited.announced d.announced (omega arith)) (not_upto m d.closing k.awaited.done d.done (omega arith))

    older : Older ks few same s.ids (opening t)
    older id i = let o = h.ids id i in (
      o.0,
      o.1,
      o.3,
      λ l j e.
          let k = opening_in t l j in
          let f : is_at t o.0.awaited.announced ≡ true = ap (λ (x : Known). is_at t x.awaited.announced) (same o.0 l o.1 k.0 e) ∙ k.1 in
          let g = (announced_step o.0 o.1).1 o.2 in absurd (cc),
    )

    abbrev zs : List Standing
    zs = ordered standing_cmp (standings c sound m t late later.0 released_step)

    open_known : (k : Known) → In k ks → upto t k.awaited.announced ≡ true → upto m k.awaited.done ≡ false → opened (decimal k.number) waited ≡ Some (pending_of k)
    open_known k i e n = opened_known ks few same waited k of_known i (waits k i e n)

    chained : Chained c sound m t late later.0 released_step waited open_known zs [] h.parts
    chained = entries_chained c sound m t late later.0 released_step waited open_known h.parts (λ y i. let o = h.of y i in (o.0, o.1, o.3)) h.all

    abbrev start_set : Setting
    start_set = set_by c sound m t late later.0 released_step []

    -- what came before
    starts : setting c (λ x. upto m x.released) ≡ start_set
    starts = λ i path raw. grow (length (filter (λ x. or_none (upto m x.released) (is_at t x.released) i) (items_at c path))) raw where
      or_none : (a b : Bool) → a ≡ (a || (b && false))
      or_none true b = refl
      or_none false true = refl
      or_none false false = refl

    -- and what has come then
    ends : set_by c sound m t late later.0 released_step chained.last ≡ setting c (λ x. upto t x.released)
    ends = λ i path raw. grow (length (same_pass (came c sound m t late later.0 released_step chained.last) (λ x. upto t x.released) (items_at c path) (λ x j. each path x (in_filter (is_item_at path) x c.arrivals j)) i)) raw where
      each : (path : List Key) (x : Arrival) → In x c.arrivals × (is_item_at path x ≡ true) → came c sound m t late later.0 released_step chained.last x ≡ upto t x.released
      each path x k = by (is_at t x.released) refl ∙ sym (released_step x k.0).0 where
        by : (b : Bool) → is_at t x.released ≡ b → (upto m x.released || (is_at t x.released && list_any (λ p. is_item_at p x) chained.last)) ≡ (upto m x.released || is_at t x.released)
        by false e = ap (λ b. upto m x.released || (b && list_any (λ p. is_item_at p x) chained.last)) e ∙ ap (λ b. upto m x.released || b) (sym e)
        by true e =
            let z = item_listed c sound m t late later.0 released_step x (to_filter (λ (y : Arrival). is_at t y.released) x c.arrivals k.0 e) path k.1 in
            let any = to_any (λ p. is_item_at p x) chained.last z.0.at (chained.dealt z.0 z.1 z.2) z.3 in
            ap (λ b. upto m x.released || (is_at t x.released && b)) any ∙ ap (λ b. upto m x.released || b) (and_true (is_at t x.released)) where
              and_true : (b : Bool) → (b && true) ≡ b
              and_true true = refl
              and_true false = refl

    fits : FitsAll start_set h.parts waited q.incremental chained.pieces
    fits = fits_received (entries_of ks (arrivals_at c t)) q.incremental chained.pieces start_set h.parts waited chained.fits is.incremental

    no_initial : q.initial ≡ None
    no_initial = none q.initial is.initial where
      none : (o : Option Value) → SameMaybe None o → o ≡ None
      none None k = refl
      none (Some x) k = absurd k

    abbrev fitting : IsFitting q s start_set h.parts chained.pieces
    fitting = record {
      begun = record s { value = Some h.value };
      begins = sym (begins_Ok q s going h.value (λ i. begun (h.is_value i) (record q { initial = no_initial i })));
      value = h.value;
      is_value = refl;
      shows = subst (λ (g : Setting). ShowsSet g (Some h.value) h.parts) starts (subst (λ (o : Option Value). ShowsSet (setting c (λ x. upto m x.released)) o h.parts) h.is_value h.shows);
      new = subst (λ (ps : List Pending). AllNew s.ids ps) is.pending (all_new ks few same 0 s.ids (opening t) (numbered_filter _ 0 ks (all_numbered c)) (λ k i. (opening_in t k i).0) older);
      fits = fits;
      all_open = subst (λ (l : List Completed). AllOpen waited l) is.completed (all_open ks few same 0 (closing t) waited (numbered_filter _ 0 ks (all_numbered c)) (λ k i. (closing_in t k i).0) of_known closing_waits);
    }

    abbrev still : List Pending
    still = still_open waited q.completed

    still_is : still ≡ still_open waited (map completed_of (closing t))
    still_is = ap (still_open waited) (sym is.completed)

    still_only : (p : Pending) → In p still → (k : Known) × In k ks × (p ≡ pending_of k) × (upto t k.awaited.announced ≡ true) × (upto t k.awaited.done ≡ false)
    still_only p i =
        let j = in_still ks few same (closing t) waited p (subst (λ (l : List Pending). In p l) still_is i) in
        let o = waited_only p j.0 in
        let n : (is_at t o.0.awaited.done ≡ true) → ⊥ = λ e.
        let a = j.1 o.0 (to_filter (λ (l : Known). is_at t l.awaited.done) o.0 ks o.1 e) in
        let b = (bytes_eq-Decides p.id (decimal o.0.number)).1 (ap (λ (x : Pending). x.id) o.2) in absurd (cc) in
        (o.0, o.1, o.2, o.3, (done_step o.0 o.1).0 ∙ neither (upto m o.0.awaited.done) (is_at t o.0.awaited.done) o.4 n)
      where
        neither : (a b : Bool) → a ≡ false → ((b ≡ true) → ⊥) → (a || b) ≡ false
        neither true b e n = absurd (cc)
        neither false true e n = absurd (n refl)
        neither false false e n = refl

    still_waits : (k : Known) → In k ks → upto t k.awaited.announced ≡ true → upto t k.awaited.done ≡ false → In (pending_of k) still
    still_waits k i e n =
        let d = not_either (upto m k.awaited.done) (is_at t k.awaited.done) (sym (done_step k i).0 ∙ n) in
        subst (λ (l : List Pending). In (pending_of k) l) (sym still_is)
        (to_still ks few same (closing t) waited k (λ l j. (closing_in t l j).0) i
        (λ l j f. let a = closing_in t l j in let b : is_at t k.awaited.done ≡ true = ap (λ (x : Known). is_at t x.awaited.done) (sym (same l k a.0 i f)) ∙ a.1 in let g = d.1 in absurd (cc))
        (waits k i e d.0))

    -- the errors of the payload
    abbrev now_errors : List Fault
    now_errors = collect (λ (x : Arrival). x.region.faults) (λ x. is_at t x.released) c.arrivals

    payload_errors : IsPermutation now_errors (faults_of q)
    payload_errors =
        let one : faults_of q ≡ flat_map (λ (e : Entry). e.errors) (entries_of ks (arrivals_at c t)) = λ i. sym is.errors i ++ same_errors _ _ is.incremental i in
        let two : flat_map (λ (e : Entry). e.errors) (entries_of ks (arrivals_at c t)) ≡ flat_map (λ (z : Standing). z.entry.errors) zs = flat_entries zs in
        let three : IsPermutation (flat_map (λ (z : Standing). z.entry.errors) zs) (flat_map (λ (z : Standing). z.entry.errors) (standings c sound m t late later.0 released_step)) = flat_ordered standing_cmp (λ z. z.entry.errors) (standings c sound m t late later.0 released_step) in
        let five = errors_found c sound m t late later.0 released_step in
        let six : flat_map (λ (x : Arrival). x.region.faults) (arrivals_at c t) ≡ now_errors = flat_filter (λ (x : Arrival). x.region.faults) (λ x. is_at t x.released) c.arrivals in
        subst (λ (l : List Fault). IsPermutation now_errors l) (sym (one ∙ two)) (subst (λ (l : List Fault). IsPermutation l (flat_map (λ (z : Standing). z.entry.errors) zs)) six (IsPermutation-trans _ _ _ five (IsPermutation-sym _ _ three)))

    errors_then : (t' : State) → Sorts fault_cmp (s.errors ++ faults_of q) t'.errors → Sorts fault_cmp (errors_upto t) t'.errors
    errors_then t' k =
        let a = collect_split (λ (x : Arrival). x.region.faults) (λ x. upto m x.released) (λ x. is_at t x.released) (λ x. upto t x.released) c.arrivals released_step in
        let b = IsPermutation-append_left now_errors _ _ h.errors.0 in
        let d = IsPermutation-append_right s.errors _ _ payload_errors in
        (IsPermutation-trans _ _ _ a (IsPermutation-trans _ _ _ b (IsPermutation-trans _ _ _ d k.0)), k.1)

    failures_then : (t' : State) → Sorts failure_cmp (failed_of s.failures waited q.completed) t'.failures → Sorts failure_cmp (failures_upto t) t'.failures
    failures_then t' k =
        let a = collect_split failure_of (λ x. upto m x.done) (λ x. is_at t x.done) (λ x. upto t x.done) c.awaited (λ x i. step m t us x.done later (due.done x i)) in
        let b = IsPermutation-append_left (collect failure_of (λ x. is_at t x.done) c.awaited) _ _ h.failures.0 in
        let d = IsPermutation-append_right s.failures _ _ (closing_failures t) in
        let e : failed_of s.failures waited q.completed ≡ s.failures ++ flat_map failures_by (closing t) =
        ap (failed_of s.failures waited) (sym is.completed) ∙ failed_is ks few same 0 s.failures (closing t) waited (numbered_filter _ 0 ks (all_numbered c)) (λ x i. (closing_in t x i).0) of_known closing_waits in
        (IsPermutation-trans _ _ _ a (IsPermutation-trans _ _ _ b (IsPermutation-trans _ _ _ d (subst (λ (l : List Failure). IsPermutation l t'.failures) e k.0))), k.1)

    holds_then : (t' : State) → Led q s start_set h.parts chained.pieces fitting t' → Holds t t'
    holds_then t' (w, shows, e) = record {
      value = w;
      is_value = e.value;
      parts = h.parts ++ parts_of chained.pieces;
      shows = subst (λ (o : Option Value). ShowsSet (setting c (λ x. upto t x.released)) o (h.parts ++ parts_of chained.pieces)) (sym e.value) (subst (λ (g : Setting). ShowsSet g (Some w) (h.parts ++ parts_of chained.pieces)) (chained.after ∙ ends) shows);
      of = λ y i. of_by y (in_cases y h.parts (parts_of chained.pieces) i);
      all = λ x i f. all_by x i (either_true _ _ (sym (released_step x i).0 ∙ f));
      ids = λ id i. ids_by id (in_ids id s.ids q.pending (subst (λ (l : List (List ℕ)). In id l) e.ids i));
      only = λ p i. still_only p (subst (λ (l : List Pending). In p l) e.awaited i);
      open' = λ k i f n. subst (λ (l : List Pending). In (pending_of k) l) (sym e.awaited) (still_waits k i f n);
      errors = errors_then t' e.errors;
      failures = failures_then t' e.failures;
    } where
      of_by : (y : Part) → In y h.parts ⊎ In y (parts_of chained.pieces) → (x : Arrival) × In x c.arrivals × (upto t x.released ≡ true) × (y ≡ part_of x)
      of_by y (inl i) = let o = h.of y i in (o.0, o.1, (released_step o.0 o.1).0 ∙ ap (λ b. b || is_at t o.0.released) o.2, o.3)
      of_by y (inr i) =
          let o = chained.fresh y i in
          let a = in_filter (λ (x : Arrival). is_at t x.released) o.0 c.arrivals o.1 in
          (o.0, a.0, (released_step o.0 a.0).0 ∙ or_true (upto m o.0.released) (is_at t o.0.released) a.1, o.2)

      all_by : (x : Arrival) → In x c.arrivals → (upto m x.released ≡ true) ⊎ (is_at t x.released ≡ true) → In (part_of x) (h.parts ++ parts_of chained.pieces)
      all_by x i (inl f) = in_left (part_of x) h.parts (parts_of chained.pieces) (h.all x i f)
      all_by x i (inr f) = chained.all x (to_filter (λ (y : Arrival). is_at t y.released) x c.arrivals i f)

      ids_by : (id : List ℕ) → In id s.ids ⊎ ((p : Pending) × In p q.pending × (id ≡ p.id)) → (k : Known) × In k ks × (upto t k.awaited.announced ≡ true) × (id ≡ decimal k.number)
      ids_by id (inl i) = let o = h.ids id i in (o.0, o.1, (announced_step o.0 o.1).0 ∙ ap (λ b. b || is_at t o.0.awaited.announced) o.2, o.3)
      ids_by id (inr (p, i, e)) =
          let o = in_map pending_of p (opening t) (subst (λ (l : List Pending). In p l) (sym is.pending) i) in
          let k = opening_in t o.0 o.1 in
          (o.0, k.0, (announced_step o.0 k.0).0 ∙ or_true (upto m o.0.awaited.announced) (is_at t o.0.awaited.announced) k.1, e ∙ ap (λ (x : Pending). x.id) o.2)

    -- nothing is open where no moment comes
    none_open : us ≡ [] → still ≡ []
    none_open none = no_elements still (λ p i.
        let o = still_only p i in
        let d = all_due_next m t us later.0 due in
        let e : upto t o.0.awaited.done ≡ true = at_end t o.0.awaited.done (subst (λ (vs : List ℕ). Due t vs o.0.awaited.done) none (d.done o.0.awaited (is_awaited c o.0 o.1).0)) in
        let n = o.4 in absurd (cc))

    module _ (more : (us ≡ [] → ⊥) → is_last (next_of c us) ≡ false) where
      closed_by : (vs : List ℕ) → us ≡ vs → (is_last (next_of c us) && is_some_open still) ≡ false
      closed_by [] e = ap (λ (l : List Pending). is_last (next_of c us) && is_some_open l) (none_open e) ∙ and_false (is_last (next_of c us)) where
        and_false : (b : Bool) → (b && false) ≡ false
        and_false true = refl
        and_false false = refl
      closed_by (u ∷ vs) e = ap (λ b. b && is_some_open still) (more (λ f. cons_nil u vs (sym e ∙ f)))

      pub taken_now : IsTaken q s (λ n. Holds t n × (n.ended ≡ is_last (next_of c us)))
      taken_now =
          taken_as q s (Led q s start_set h.parts chained.pieces fitting) (λ n. Holds t n × (n.ended ≡ is_last (next_of c us)))
          (λ n l. (holds_then n l, l.2.ended ∙ ap is_last (sym is.has_next)))
          (taken q s start_set h.parts chained.pieces fitting (λ w. ap (λ o. is_last o && is_some_open still) (sym is.has_next) ∙ closed_by us refl))

      pub leads_now : IsTypedState s → IsTypedPayload q → LeadsOn q s
      leads_now typed all =
          leads q s start_set h.parts chained.pieces fitting (λ w. ap (λ o. is_last o && is_some_open still) (sym is.has_next) ∙ closed_by us refl)
          (subst (λ (o : Option Value). IfSome o IsTypedValue) h.is_value typed) all

  -- ---- the first payload

  -- the time of a later region
  time_of : (x : Arrival) → In x sound.rest → (n : ℕ) × (x.released ≡ Some n) × (1 ≤ n)
  time_of x i = by (sound.brought x i) where
    by : IsGroupOf c x ⊎ IsItemOfStream c x → (n : ℕ) × (x.released ≡ Some n) × (1 ≤ n)
    by (inl b) = (b.time, b.released, b.late)
    by (inr b) = (b.time, b.released, b.late)

  awaited_of_one : (x : Arrival) → In x sound.rest → (a : Awaited) × In a c.awaited
  awaited_of_one x i = by (sound.brought x i) where
    by : IsGroupOf c x ⊎ IsItemOfStream c x → (a : Awaited) × In a c.awaited
    by (inl b) = (b.carrier, b.is_awaited)
    by (inr b) = (b.awaited, b.is_awaited)

  module _ (us : List ℕ) (due : AllDue 0 us) (q : Payload) (is : SamePayload (payload_at c 0 (Some (value_at sound.first)) sound.first.region.faults (next_of c us)) q) where
    -- only the initial region comes at time 0
    only_first_by : (x : Arrival) → upto 0 x.released ≡ true → In x (sound.first ∷ sound.rest) → x ≡ sound.first
    only_first_by x e (inl f) = f
    only_first_by x e (inr i) = let b = time_of x i in let l = b.2 in let a = some_upto 0 b.0 x.released b.1 e in absurd (omega arith)

    only_first : (x : Arrival) → In x c.arrivals → upto 0 x.released ≡ true → x ≡ sound.first
    only_first x i e = only_first_by x e (subst (λ (l : List Arrival). In x l) sound.arrivals i)

    first_upto : upto 0 sound.first.released ≡ true
    first_upto = upto_some 0 0 sound.first.released sound.at_start (omega arith)

    none_done : (a : Awaited) → In a c.awaited → upto 0 a.done ≡ false
    none_done a i = let d = sound.timed a i in not_upto 0 d.closing a.done d.done (let l = d.late in omega arith)

    at_upto : (u : Time) → is_at 0 u ≡ true → upto 0 u ≡ true
    at_upto None e = absurd (cc)
    at_upto (Some a) e = let f : a ≡ 0 = (Decides-eqb a 0).0 e in upto_some 0 a (Some a) refl (omega arith)

    upto_at : (u : Time) → upto 0 u ≡ true → is_at 0 u ≡ true
    upto_at None e = absurd (cc)
    upto_at (Some a) e = (Decides-eqb a 0).1 (let f = some_upto 0 a (Some a) refl e in omega arith)

    no_group : (x : Arrival) → In x (arrivals_at c 0) → group_entries ks x ≡ []
    no_group x i =
        let j = in_filter (λ (y : Arrival). is_at 0 y.released) x c.arrivals i in
        let f = only_first x j.0 (at_upto x.released j.1) in
        ap (λ (w : Way). group_entries ks (record x { way = w })) (ap (λ (y : Arrival). y.way) f ∙ sound.way_first)

    no_item_by : (k : Known) (w : Way) → w ≡ at_first → elim w [ at_first ↦ false | by_owners g ids ↦ false | by_stream st ↦ k.awaited.is_stream && same_path st.path k.awaited.path ] ≡ false
    no_item_by k at_first e = refl
    no_item_by k (by_owners g ids) e = refl
    no_item_by k (by_stream st) e = absurd (cc)

    no_list : (k : Known) → In k ks → stream_entries (arrivals_at c 0) k ≡ []
    no_list k ik = ap (items_entry k) (none_pass (is_item_of k) (arrivals_at c 0) (λ x i.
        let j = in_filter (λ (y : Arrival). is_at 0 y.released) x c.arrivals i in
        no_item_by k x.way (ap (λ (y : Arrival). y.way) (only_first x j.0 (at_upto x.released j.1)) ∙ sound.way_first)))

    no_entries : entries_of ks (arrivals_at c 0) ≡ []
    no_entries = λ i. map (λ (z : Standing). z.entry) (ordered standing_cmp (flat_none (group_entries ks) (arrivals_at c 0) no_group i ++ flat_none (stream_entries (arrivals_at c 0)) ks no_list i))

    none_closing : closing 0 ≡ []
    none_closing = no_known (closing 0) (λ k i. let j = closing_in 0 k i in let e = at_upto k.awaited.done j.1 in let f = none_done k.awaited (is_awaited c k j.0).0 in absurd (cc)) where
      no_known : (ls : List Known) → ((k : Known) → In k ls → ⊥) → ls ≡ []
      no_known [] h = refl
      no_known (l ∷ ls) h = absurd (h l (inl refl))

    first_value : (x : Value) × SameFlat (value_at sound.first) x × (q.initial ≡ Some x)
    first_value = some (value_at sound.first) q.initial is.initial where
      some : (w : Value) (o : Option Value) → SameMaybe (Some w) o → (x : Value) × SameFlat w x × (o ≡ Some x)
      some w None h = absurd h
      some w (Some x) h = (x, h, refl)

    same_none : (es : List Entry) → SameEntries [] es → es ≡ []
    same_none [] h = refl
    same_none (e ∷ es) h = absurd h

    incremental_none : q.incremental ≡ []
    incremental_none = same_none q.incremental (subst (λ (es : List Entry). SameEntries es q.incremental) no_entries is.incremental)

    completed_none : q.completed ≡ []
    completed_none = sym is.completed ∙ ap (map completed_of) none_closing

    abbrev first_part : Part
    first_part = part_of sound.first

    abbrev first_set : Setting
    first_set = setting c (λ x. upto 0 x.released)

    -- no list has grown
    first_set_is : (path : List Key) (m : Mark) → first_set path m ≡ m
    first_set_is path m = ap (λ (l : List Arrival). grow (length l) m) (none_pass (λ x. upto 0 x.released) (items_at c path) (λ x i. late_item x path (in_filter (is_item_at path) x c.arrivals i) (upto 0 x.released) refl)) ∙ grow_none m where
      way_none : (w : Way) (path : List Key) → w ≡ at_first → elim w [ at_first ↦ false | by_owners g ids ↦ false | by_stream st ↦ same_lists same_key st.path.keys path ] ≡ false
      way_none at_first path e = refl
      way_none (by_owners g ids) path e = refl
      way_none (by_stream st) path e = absurd (cc)

      late_item : (x : Arrival) (path : List Key) → In x c.arrivals × (is_item_at path x ≡ true) → (b : Bool) → upto 0 x.released ≡ b → upto 0 x.released ≡ false
      late_item x path k false e = e
      late_item x path k true e =
          let f : is_item_at path x ≡ false = way_none x.way path (ap (λ (y : Arrival). y.way) (only_first x k.0 e) ∙ sound.way_first) in
          let g = k.1 in absurd (cc)

    first_shows : ShowsSet first_set (Some first_value.0) (first_part ∷ [])
    first_shows path m = (
      λ h. (first_part, inl refl, m, (path, ap (λ (l : List Key). l ++ path) (sym sound.at_root), first_value.1 path ∙ h), sym (first_set_is path m)),
      λ h. back h.0 h.1 h.2 h.3 (h.4 ∙ first_set_is path h.2),
    ) where
      back : (x : Part) → In x (first_part ∷ []) → (raw : Mark) → HasAt x path raw → m ≡ raw → flat first_value.0 path ≡ Some m
      back x (inl e) raw h f =
          let g : path ≡ h.0 = h.1 ∙ (ap (λ (y : Part). y.at ++ h.0) e ∙ ap (λ (l : List Key). l ++ h.0) sound.at_root) in
          sym (first_value.1 path) ∙ (ap (flat (value_at sound.first)) g ∙ (ap (λ (y : Part). flat y.value h.0) (sym e) ∙ (h.2 ∙ ap Some (sym f))))
      back x (inr i) raw h f = absurd i

    abbrev first_waited : List Pending
    first_waited = awaited_of [] q.pending

    first_waited_is : first_waited ≡ map pending_of (opening 0)
    first_waited_is = awaited_is [] q.pending ∙ sym is.pending

    abbrev first_fitting : IsFitting q fresh first_set (first_part ∷ []) []
    first_fitting = record {
      begun = record fresh { value = Some first_value.0 };
      begins = sym (begins_Ok q fresh refl first_value.0 (ap (λ (o : Option Value). begun None (record q { initial = o })) first_value.2));
      value = first_value.0;
      is_value = refl;
      shows = first_shows;
      new = subst (λ (ps : List Pending). AllNew [] ps) is.pending (all_new ks few same 0 [] (opening 0) (numbered_filter _ 0 ks (all_numbered c)) (λ k i. (opening_in 0 k i).0) (λ id i. absurd i));
      fits = subst (λ (es : List Entry). FitsAll first_set (first_part ∷ []) first_waited es []) (sym incremental_none) tt;
      all_open = subst (λ (l : List Completed). AllOpen first_waited l) (sym completed_none) tt;
    }

    abbrev first_still : List Pending
    first_still = still_open first_waited q.completed

    first_still_is : first_still ≡ map pending_of (opening 0)
    first_still_is = ap (still_open first_waited) completed_none ∙ first_waited_is

    first_only : (p : Pending) → In p first_still → (k : Known) × In k ks × (p ≡ pending_of k) × (upto 0 k.awaited.announced ≡ true) × (upto 0 k.awaited.done ≡ false)
    first_only p i =
        let o = in_map pending_of p (opening 0) (subst (λ (l : List Pending). In p l) first_still_is i) in
        let k = opening_in 0 o.0 o.1 in
        (o.0, k.0, o.2, at_upto o.0.awaited.announced k.1, none_done o.0.awaited (is_awaited c o.0 k.0).0)

    first_errors : errors_upto 0 ≡ faults_of q
    first_errors =
        ap (collect (λ (x : Arrival). x.region.faults) (λ x. upto 0 x.released)) sound.arrivals
        ∙ ((λ i. cond (first_upto i) sound.first.region.faults [] ++ collect_none (λ (x : Arrival). x.region.faults) (λ x. upto 0 x.released) sound.rest none_of i)
        ∙ (λ i. is.errors i ++ flat_map (λ (e : Entry). e.errors) (sym incremental_none i)))
      where
        none_of : (x : Arrival) → In x sound.rest → upto 0 x.released ≡ false
        none_of x i = let b = time_of x i in not_upto 0 b.0 x.released b.1 (let l = b.2 in omega arith)

    first_failures : failures_upto 0 ≡ failed_of [] first_waited q.completed
    first_failures = collect_none failure_of (λ a. upto 0 a.done) c.awaited none_done ∙ ap (failed_of [] first_waited) (sym completed_none)

    first_holds : (n : State) → Led q fresh first_set (first_part ∷ []) [] first_fitting n → Holds 0 n
    first_holds n (w, shows, e) = record {
      value = w;
      is_value = e.value;
      parts = first_part ∷ [];
      shows = subst (λ (o : Option Value). ShowsSet first_set o (first_part ∷ [])) (sym e.value) shows;
      of = of_by;
      all = λ x i f. inl (ap part_of (only_first x i f));
      ids = λ id i. ids_by id (in_ids id [] q.pending (subst (λ (l : List (List ℕ)). In id l) e.ids i));
      only = λ p i. first_only p (subst (λ (l : List Pending). In p l) e.awaited i);
      open' = λ k i f g. subst (λ (l : List Pending). In (pending_of k) l) (sym (e.awaited ∙ first_still_is)) (to_map pending_of k (opening 0) (to_filter (λ (l : Known). is_at 0 l.awaited.announced) k ks i (upto_at k.awaited.announced f)));
      errors = (subst (λ (l : List Fault). IsPermutation l n.errors) (sym first_errors) e.errors.0, e.errors.1);
      failures = (subst (λ (l : List Failure). IsPermutation l n.failures) (sym first_failures) e.failures.0, e.failures.1);
    } where
      of_by : (y : Part) → In y (first_part ∷ []) → (x : Arrival) × In x c.arrivals × (upto 0 x.released ≡ true) × (y ≡ part_of x)
      of_by y (inl f) = (sound.first, subst (λ (l : List Arrival). In sound.first l) (sym sound.arrivals) (inl refl), first_upto, f)
      of_by y (inr i) = absurd i

      ids_by : (id : List ℕ) → In id [] ⊎ ((p : Pending) × In p q.pending × (id ≡ p.id)) → (k : Known) × In k ks × (upto 0 k.awaited.announced ≡ true) × (id ≡ decimal k.number)
      ids_by id (inl i) = absurd i
      ids_by id (inr (p, i, f)) =
          let o = in_map pending_of p (opening 0) (subst (λ (l : List Pending). In p l) (sym is.pending) i) in
          let k = opening_in 0 o.0 o.1 in
          (o.0, k.0, at_upto o.0.awaited.announced k.1, f ∙ ap (λ (x : Pending). x.id) o.2)

    first_none_open : us ≡ [] → first_still ≡ []
    first_none_open none = no_elements first_still (λ p i.
        let o = first_only p i in
        let e : upto 0 o.0.awaited.done ≡ true = at_end 0 o.0.awaited.done (subst (λ (vs : List ℕ). Due 0 vs o.0.awaited.done) none (due.done o.0.awaited (is_awaited c o.0 o.1).0)) in
        let n = o.4 in absurd (cc))

    module _ (more : (us ≡ [] → ⊥) → is_last (next_of c us) ≡ false) where
      first_closed_by : (vs : List ℕ) → us ≡ vs → (is_last (next_of c us) && is_some_open first_still) ≡ false
      first_closed_by [] e = ap (λ (l : List Pending). is_last (next_of c us) && is_some_open l) (first_none_open e) ∙ and_false (is_last (next_of c us)) where
        and_false : (b : Bool) → (b && false) ≡ false
        and_false true = refl
        and_false false = refl
      first_closed_by (u ∷ vs) e = ap (λ b. b && is_some_open first_still) (more (λ f. cons_nil u vs (sym e ∙ f)))

      pub first_taken : IsTaken q fresh (λ n. Holds 0 n × (n.ended ≡ is_last (next_of c us)))
      first_taken =
          taken_as q fresh (Led q fresh first_set (first_part ∷ []) [] first_fitting) (λ n. Holds 0 n × (n.ended ≡ is_last (next_of c us)))
          (λ n l. (first_holds n l, l.2.ended ∙ ap is_last (sym is.has_next)))
          (taken q fresh first_set (first_part ∷ []) [] first_fitting (λ w. ap (λ o. is_last o && is_some_open first_still) (sym is.has_next) ∙ first_closed_by us refl))

      pub first_leads : IsTypedPayload q → LeadsOn q fresh
      first_leads all =
          leads q fresh first_set (first_part ∷ []) [] first_fitting (λ w. ap (λ o. is_last o && is_some_open first_still) (sym is.has_next) ∙ first_closed_by us refl)
          (subst (λ (o : Option Value). IfSome o IsTypedValue) first_value.2 all.initial) all

  -- ---- all payloads

  -- a last payload says so
  last_next : is_finished c ≡ true → is_last (next_of c []) ≡ true
  last_next f = by c.awaited where
    by : (l : List Awaited) → is_last (elim l [ [] ↦ None | a ∷ rest ↦ Some (not (is_finished c)) ]) ≡ true
    by [] = refl
    by (a ∷ rest) = rw f refl

  more_next : (u : ℕ) (us : List ℕ) → (c.awaited ≡ [] → ⊥) → is_last (next_of c (u ∷ us)) ≡ false
  more_next u us h = by c.awaited refl where
    by : (l : List Awaited) → c.awaited ≡ l → is_last (elim l [ [] ↦ None | a ∷ rest ↦ Some true ]) ≡ false
    by [] e = absurd (h e)
    by (a ∷ rest) e = refl

  all_finished : (l : List Awaited) → ((a : Awaited) → In a l → IsTimed a) → list_all (λ a. has_time a.done) l ≡ true
  all_finished [] h = refl
  all_finished (a ∷ l) h = rw (ap has_time (h a (inl refl)).done, all_finished l (λ b i. h b (inr i))) refl

  finished : is_finished c ≡ true
  finished = all_finished c.awaited sound.timed

  has_all : (m : ℕ) (s : State) → AllDue m [] → Holds m s → s.ended ≡ true → HasAllOf c s
  has_all m s due h e = record {
    value = h.value;
    is_value = h.is_value;
    parts = h.parts;
    shows = subst (λ (g : Setting). ShowsSet g s.value h.parts) (λ i path raw. grow (length (same_pass (λ x. upto m x.released) (λ x. true) (items_at c path) (λ x j. at_end m x.released (due.released x (in_filter (is_item_at path) x c.arrivals j).0)) i)) raw) h.shows;
    of = λ y i. let o = h.of y i in (o.0, o.1, o.3);
    all = λ x i. h.all x i (at_end m x.released (due.released x i));
    errors = (subst (λ (l : List Fault). IsPermutation l s.errors) (collect_all (λ (x : Arrival). x.region.faults) (λ x. upto m x.released) c.arrivals (λ x i. at_end m x.released (due.released x i))) h.errors.0, h.errors.1);
    failures = (subst (λ (l : List Failure). IsPermutation l s.failures) (collect_all failure_of (λ a. upto m a.done) c.awaited (λ a i. at_end m a.done (due.done a i))) h.failures.0, h.failures.1);
    none_open = no_elements s.awaited (λ p i. let o = h.only p i in let d = at_end m o.0.awaited.done (due.done o.0.awaited (is_awaited c o.0 o.1).0) in let n = o.4 in absurd (cc));
    ended = e;
  }

  served_from : (us : List ℕ) (m : ℕ) (s : State) → Later m us → AllDue m us → (c.awaited ≡ [] → us ≡ []) → Holds m s → s.ended ≡ is_last (next_of c us) → IsServed s (payloads_from c us) (HasAllOf c)
  served_from [] m s later due none h e = served_none s (HasAllOf c) (has_all m s due h (e ∙ last_next finished))
  served_from (t ∷ us) m s later due none h e =
      let some : c.awaited ≡ [] → ⊥ = λ f. cons_nil t us (none f) in
      served_more s (HasAllOf c) (payload_at c t None [] (next_of c us)) (payloads_from c us) (λ n. Holds t n × (n.ended ≡ is_last (next_of c us)))
      (λ q is. taken_now m t us later due s h (e ∙ more_next t us some) q is (more_by us some))
      (λ n k. served_from us t n later.1 (all_due_next m t us later.0 due) (λ f. absurd (some f)) k.0 k.1)
    where
      more_by : (vs : List ℕ) → (c.awaited ≡ [] → ⊥) → (vs ≡ [] → ⊥) → is_last (next_of c vs) ≡ false
      more_by [] some h = absurd (h refl)
      more_by (v ∷ vs) some h = more_next v vs some

  -- where the payloads can exist, there is such a client
  reached_from : (us : List ℕ) (m : ℕ) (s : State) → Later m us → AllDue m us → (c.awaited ≡ [] → us ≡ []) → Holds m s → s.ended ≡ is_last (next_of c us) → IsTypedState s
      → (ps : List Payload) → SamePayloads (payloads_from c us) ps → AllByRecursion IsTypedPayload ps → (t : State) × Each Apply ps s (Ok t) × IsTypedState t
  reached_from [] m s later due none h e typed [] same all = (s, refl, typed)
  reached_from [] m s later due none h e typed (q ∷ ps) same all = absurd same
  reached_from (t ∷ us) m s later due none h e typed [] same all = absurd same
  reached_from (t ∷ us) m s later due none h e typed (q ∷ ps) same all =
      let some : c.awaited ≡ [] → ⊥ = λ f. cons_nil t us (none f) in
      let more : (us ≡ [] → ⊥) → is_last (next_of c us) ≡ false = more_by us some in
      let going = e ∙ more_next t us some in
      let n = leads_now m t us later due s h going q same.0 more typed all.0 in
      let k = (taken_now m t us later due s h going q same.0 more).1 n.0 n.1 in
      let rest = reached_from us t n.0 later.1 (all_due_next m t us later.0 due) (λ f. absurd (some f)) k.0 k.1 n.2 ps same.1 all.1 in
      (rest.0, (n.0, n.1, rest.1), rest.2)
    where
      more_by : (vs : List ℕ) → (c.awaited ≡ [] → ⊥) → (vs ≡ [] → ⊥) → is_last (next_of c vs) ≡ false
      more_by [] some h = absurd (h refl)
      more_by (v ∷ vs) some h = more_next v vs some

  due_from : (u : Time) (a : ℕ) → u ≡ Some a → In u (map (λ x. x.announced) c.awaited ++ (map (λ x. x.released) c.arrivals ++ map (λ x. x.done) c.awaited)) → Due 0 (moments c) u
  due_from u a e i = (a, e, due_all a _ (subst (λ (w : Time). In w (map (λ x. x.announced) c.awaited ++ (map (λ x. x.released) c.arrivals ++ map (λ x. x.done) c.awaited))) e i))

  released_some_by : (x : Arrival) → In x (sound.first ∷ sound.rest) → (a : ℕ) × (x.released ≡ Some a)
  released_some_by x (inl e) = (0, ap (λ (y : Arrival). y.released) e ∙ sound.at_start)
  released_some_by x (inr i) = let b = time_of x i in (b.0, b.1)

  start_due : AllDue 0 (moments c)
  start_due = record {
    announced = λ a i. let d = sound.timed a i in due_from a.announced d.opening d.announced (in_left a.announced (map (λ x. x.announced) c.awaited) _ (to_map (λ (x : Awaited). x.announced) a c.awaited i));
    done = λ a i. let d = sound.timed a i in due_from a.done d.closing d.done (in_right a.done (map (λ x. x.announced) c.awaited) _ (in_right a.done (map (λ x. x.released) c.arrivals) _ (to_map (λ (x : Awaited). x.done) a c.awaited i)));
    released = λ x i. let r = released_some_by x (subst (λ (l : List Arrival). In x l) sound.arrivals i) in
        due_from x.released r.0 r.1 (in_right x.released (map (λ y. y.announced) c.awaited) _ (in_left x.released (map (λ y. y.released) c.arrivals) _ (to_map (λ (y : Arrival). y.released) x c.arrivals i)));
  }

  -- nothing comes later where nothing is announced
  nothing_later : c.awaited ≡ [] → moments c ≡ []
  nothing_later e =
      let rest : sound.rest ≡ [] = no_arrivals sound.rest (λ x i. let b = awaited_of_one x i in subst (λ (l : List Awaited). In b.0 l) e b.1) in
      let all : c.arrivals ≡ sound.first ∷ [] = sound.arrivals ∙ ap (λ (l : List Arrival). sound.first ∷ l) rest in
      (λ i. noted_all (map (λ x. x.announced) (e i) ++ (map (λ x. x.released) (all i) ++ map (λ x. x.done) (e i)))) ∙ ap (λ (u : Time). noted_all (u ∷ [])) sound.at_start
    where
      no_arrivals : (xs : List Arrival) → ((x : Arrival) → In x xs → ⊥) → xs ≡ []
      no_arrivals [] h = refl
      no_arrivals (x ∷ xs) h = absurd (h x (inl refl))

  -- the payloads of a sound course are taken, and the client has all that arrives
  pub course_served : IsServed fresh (payloads_of sound.first.region c) (HasAllOf c)
  course_served =
      served_more fresh (HasAllOf c) (payload_at c 0 (Some (value_at sound.first)) sound.first.region.faults (next_of c (moments c))) (payloads_from c (moments c)) (λ n. Holds 0 n × (n.ended ≡ is_last (next_of c (moments c))))
      (λ q is. first_taken (moments c) start_due q is (more_by (moments c) nothing_later))
      (λ n k. served_from (moments c) 0 n (later_all (map (λ a. a.announced) c.awaited ++ (map (λ x. x.released) c.arrivals ++ map (λ a. a.done) c.awaited))) start_due nothing_later k.0 k.1)
    where
      more_by : (us : List ℕ) → (c.awaited ≡ [] → us ≡ []) → (us ≡ [] → ⊥) → is_last (next_of c us) ≡ false
      more_by [] none h = absurd (h refl)
      more_by (u ∷ us) none h = more_next u us (λ e. h (none e))

  pub course_reached : IsReached (payloads_of sound.first.region c)
  course_reached [] same all = absurd same
  course_reached (q ∷ ps) same all =
      let more : (moments c ≡ [] → ⊥) → is_last (next_of c (moments c)) ≡ false = more_by (moments c) nothing_later in
      let n = first_leads (moments c) start_due q same.0 more all.0 in
      let k = (first_taken (moments c) start_due q same.0 more).1 n.0 n.1 in
      let rest = reached_from (moments c) 0 n.0 (later_all (map (λ a. a.announced) c.awaited ++ (map (λ x. x.released) c.arrivals ++ map (λ a. a.done) c.awaited))) start_due nothing_later k.0 k.1 n.2 ps same.1 all.1 in
      (rest.0, (n.0, n.1, rest.1), rest.2)
    where
      more_by : (us : List ℕ) → (c.awaited ≡ [] → us ≡ []) → (us ≡ [] → ⊥) → is_last (next_of c us) ≡ false
      more_by [] none h = absurd (h refl)
      more_by (u ∷ us) none h = more_next u us (λ e. h (none e))

pub courses_are_served : CoursesAreServed
courses_are_served c sound = course_served c sound
