-- The payloads of two courses that are the same so far are the same.
use Rattle.std.proofs.Common.{◌≡◌, inl, inr, ℕ, ◌+◌, List, [], ◌∷◌, ◌++◌, map, refl, sym, subst, ◌∙◌, ap, Bool, true, false, cond, Option, Some, None}
use Rattle.std.specs.Prelude.{nat_lt, not, filter, length}
use Rattle.gql_tree.specs.declared.value.Value.{Value}
use Rattle.gql_tree.specs.declared.delivery.Fault.{Fault}
use Rattle.gql_tree.specs.declared.delivery.FragId.{FragId}
use Rattle.gql_tree.specs.declared.delivery.RegionResult.{RegionResult}
use Rattle.gql_tree.specs.Ordered.{ordered}
use Rattle.gql_tree.specs.Forest.{outcome_value}
use Rattle.gql_tree.specs.Times.{Time, is_at, has_time}
use Rattle.gql_tree.specs.Course.{Awaited, Way, at_first, by_owners, by_stream, Arrival, Course}
use Rattle.gql_tree.specs.Payloads.{awaited_cmp, Known, known_from, all_known, pending_of, completed_of, is_among, farthest, Standing, standing_cmp, group_entry, group_entries, stream_entries, entries_of, arrivals_at, payload_at, noted_all, moments, is_finished, next_of, payloads_from, payloads_of}
use Rattle.gql_confluence.proofs.Parts.{In}
use Rattle.gql_confluence.proofs.Lists.{in_filter, to_filter, in_map, to_map, all_at, to_all}
use Rattle.gql_confluence.proofs.Items.{filter_append}
use Rattle.gql_confluence.proofs.NoTwo.{flat_mapped}
use Rattle.gql_confluence.proofs.Halves.{filter_twice, filter_mapped, ordered_mapped, noted_there}
use Rattle.gql_confluence.proofs.Agrees.{flat_same_in}
use Rattle.gql_confluence.proofs.SoFar.{shown, is_opened, has_come, IsSoFar, so_far_back}

map_map : {X Y Z : Type 0} (f : Y → Z) (g : X → Y) (xs : List X) → map f (map g xs) ≡ map (λ x. f (g x)) xs
map_map f g [] = refl
map_map f g (x ∷ xs) = ap (λ l. f (g x) ∷ l) (map_map f g xs)

-- ---- ids

abbrev shown_known : Known → Known
shown_known k = record { number = k.number; awaited = shown k.awaited }

known_mapped : (n : ℕ) (l : List Awaited) → known_from n (map shown l) ≡ map shown_known (known_from n l)
known_mapped n [] = refl
known_mapped n (a ∷ l) = ap (λ (m : List Known). record { number = n; awaited = shown a } ∷ m) (known_mapped (n + 1) l)

known_shown : (c : Course) → map shown_known (all_known c) ≡ known_from 0 (ordered awaited_cmp (map shown (filter is_opened c.awaited)))
known_shown c =
    sym (known_mapped 0 (ordered awaited_cmp (filter is_opened c.awaited)))
    ∙ ap (known_from 0) (sym (ordered_mapped awaited_cmp awaited_cmp shown (filter is_opened c.awaited) (λ x y i j. refl)))

-- what is written of ids that meet a test
written_same : {Y : Type 0} (g : Known → Y) (q : Known → Bool) → ((k : Known) → q (shown_known k) ≡ q k) → ((k : Known) → q k ≡ true → g (shown_known k) ≡ g k) → (ks : List Known) → map g (filter q (map shown_known ks)) ≡ map g (filter q ks)
written_same g q same alike [] = refl
written_same g q same alike (k ∷ ks) =
    ap (λ b. map g (cond b (shown_known k ∷ filter q (map shown_known ks)) (filter q (map shown_known ks)))) (same k) ∙ by (q k) refl (written_same g q same alike ks)
  where
    by : (b : Bool) → q k ≡ b → map g (filter q (map shown_known ks)) ≡ map g (filter q ks) → map g (cond b (shown_known k ∷ filter q (map shown_known ks)) (filter q (map shown_known ks))) ≡ map g (cond b (k ∷ filter q ks) (filter q ks))
    by true e rec = λ i. alike k e i ∷ rec i
    by false e rec = rec

at_there : (t : ℕ) (u : Time) → is_at t u ≡ true → has_time u ≡ true
at_there t None e = absurd (cc)
at_there t (Some a) e = refl

-- what is done shows its errors
done_shown : (t : ℕ) (k : Known) → is_at t k.awaited.done ≡ true → completed_of (shown_known k) ≡ completed_of k
done_shown t k e = ap (λ b. completed_of (record { number = k.number; awaited = record { path = k.awaited.path; label = k.awaited.label; is_stream = k.awaited.is_stream; place = k.awaited.place; announced = k.awaited.announced; done = k.awaited.done; errors = cond b k.awaited.errors [] } })) (at_there t k.awaited.done e)

-- ---- entries

abbrev shown_option : Option Known → Option Known
shown_option o = elim o [ None ↦ None | Some k ↦ Some (shown_known k) ]

farthest_shown : (ks : List Known) → farthest (map shown_known ks) ≡ shown_option (farthest ks)
farthest_shown [] = refl
farthest_shown (l ∷ ks) = ap (λ (o : Option Known). elim o [ None ↦ Some (shown_known l) | Some m ↦ cond (nat_lt (length l.awaited.path.keys) (length m.awaited.path.keys)) (Some m) (Some (shown_known l)) ]) (farthest_shown ks) ∙ by (farthest ks) where
  by : (o : Option Known) → elim (shown_option o) [ None ↦ Some (shown_known l) | Some m ↦ cond (nat_lt (length l.awaited.path.keys) (length m.awaited.path.keys)) (Some m) (Some (shown_known l)) ]
      ≡ shown_option (elim o [ None ↦ Some l | Some m ↦ cond (nat_lt (length l.awaited.path.keys) (length m.awaited.path.keys)) (Some m) (Some l) ])
  by None = refl
  by (Some m) = two (nat_lt (length l.awaited.path.keys) (length m.awaited.path.keys)) where
    two : (b : Bool) → cond b (Some (shown_known m)) (Some (shown_known l)) ≡ shown_option (cond b (Some m) (Some l))
    two true = refl
    two false = refl

abbrev entry_by : Arrival → List ℕ → Option Known → List Standing
entry_by x places o = elim o [ None ↦ [] | Some l ↦ group_entry x places l ∷ [] ]

entry_shown : (x : Arrival) (places : List ℕ) (o : Option Known) → entry_by x places (shown_option o) ≡ entry_by x places o
entry_shown x places None = refl
entry_shown x places (Some l) = refl

abbrev entries_by : List Known → Arrival → Way → List Standing
entries_by ks x w = elim w [ at_first ↦ [] | by_owners g ids ↦ entry_by x (map (λ (o : FragId). o.place) g.owners) (farthest (filter (λ k. is_among ids k.awaited) ks)) | by_stream s ↦ [] ]

groups_shown : (ks : List Known) (x : Arrival) → group_entries (map shown_known ks) x ≡ group_entries ks x
groups_shown ks x = by x.way where
  by : (w : Way) → entries_by (map shown_known ks) x w ≡ entries_by ks x w
  by at_first = refl
  by (by_stream s) = refl
  by (by_owners g ids) =
      let places = map (λ (o : FragId). o.place) g.owners in
      ap (λ (l : List Known). entry_by x places (farthest l)) (filter_mapped shown_known (λ k. is_among ids k.awaited) (λ k. is_among ids k.awaited) (λ k. refl) ks)
      ∙ (ap (entry_by x places) (farthest_shown (filter (λ k. is_among ids k.awaited) ks)) ∙ entry_shown x places (farthest (filter (λ k. is_among ids k.awaited) ks)))

entries_shown : (ks : List Known) (xs : List Arrival) → entries_of (map shown_known ks) xs ≡ entries_of ks xs
entries_shown ks xs = λ i. map (λ e. e.entry) (ordered standing_cmp (flat_same_in (group_entries (map shown_known ks)) (group_entries ks) xs (λ x j. groups_shown ks x) i ++ flat_mapped (stream_entries xs) shown_known ks i))

-- ---- what is seen of a course

-- what is done is announced
abbrev pub IsInOrder : Course → Type 0
IsInOrder c = (a : Awaited) → In a c.awaited → has_time a.done ≡ true → has_time a.announced ≡ true

-- if all that is announced so far is done, nothing else is to come
abbrev pub GoesOn : Course → Type 0
GoesOn c = ((a : Awaited) → In a c.awaited → has_time a.announced ≡ true → has_time a.done ≡ true) → (a : Awaited) → In a c.awaited → has_time a.announced ≡ true

-- the times at which something is done, of what is announced
opened_done : (l : List Awaited) → ((a : Awaited) → In a l → has_time a.done ≡ true → has_time a.announced ≡ true) → filter has_time (map (λ a. a.done) l) ≡ filter has_time (map (λ a. a.done) (filter is_opened l))
opened_done [] h = refl
opened_done (a ∷ l) h = by (has_time a.announced) (has_time a.done) refl refl (opened_done l (λ x i. h x (inr i))) where
  by : (o d : Bool) → has_time a.announced ≡ o → has_time a.done ≡ d → filter has_time (map (λ x. x.done) l) ≡ filter has_time (map (λ x. x.done) (filter is_opened l))
      → filter has_time (a.done ∷ map (λ x. x.done) l) ≡ filter has_time (map (λ x. x.done) (cond (has_time a.announced) (a ∷ filter is_opened l) (filter is_opened l)))
  by true d e f rec =
      (λ i. cond (has_time a.done) (a.done ∷ rec i) (rec i))
      ∙ ap (λ b. filter has_time (map (λ (x : Awaited). x.done) (cond b (a ∷ filter is_opened l) (filter is_opened l)))) (sym e)
  by false true e f rec = let k = h a (inl refl) f in absurd (cc)
  by false false e f rec =
      ap (λ b. cond b (a.done ∷ filter has_time (map (λ x. x.done) l)) (filter has_time (map (λ x. x.done) l))) f
      ∙ (rec ∙ ap (λ b. filter has_time (map (λ (x : Awaited). x.done) (cond b (a ∷ filter is_opened l) (filter is_opened l)))) (sym e))

abbrev times_of : Course → List Time
times_of c = map (λ a. a.announced) c.awaited ++ (map (λ x. x.released) c.arrivals ++ map (λ a. a.done) c.awaited)

-- the times of what is shown and has come
abbrev seen_times : List Awaited → List Arrival → List Time
seen_times as' xs = map (λ a. a.announced) as' ++ (map (λ x. x.released) xs ++ filter has_time (map (λ a. a.done) as'))

times_seen : (c : Course) → IsInOrder c → filter has_time (times_of c) ≡ seen_times (map shown (filter is_opened c.awaited)) (filter has_come c.arrivals)
times_seen c h =
    filter_append has_time (map (λ a. a.announced) c.awaited) (map (λ x. x.released) c.arrivals ++ map (λ a. a.done) c.awaited)
    ∙ (λ i. announced i ++ (filter_append has_time (map (λ x. x.released) c.arrivals) (map (λ a. a.done) c.awaited) ∙ (λ j. released j ++ done j)) i)
  where
    announced : filter has_time (map (λ a. a.announced) c.awaited) ≡ map (λ a. a.announced) (map shown (filter is_opened c.awaited))
    announced = filter_mapped (λ (a : Awaited). a.announced) has_time is_opened (λ a. refl) c.awaited ∙ sym (map_map (λ (a : Awaited). a.announced) shown (filter is_opened c.awaited))

    released : filter has_time (map (λ x. x.released) c.arrivals) ≡ map (λ x. x.released) (filter has_come c.arrivals)
    released = filter_mapped (λ (x : Arrival). x.released) has_time has_come (λ x. refl) c.arrivals

    done : filter has_time (map (λ a. a.done) c.awaited) ≡ filter has_time (map (λ a. a.done) (map shown (filter is_opened c.awaited)))
    done = opened_done c.awaited h ∙ ap (filter has_time) (sym (map_map (λ (a : Awaited). a.done) shown (filter is_opened c.awaited)))

none_in : {X : Type 0} (xs : List X) → ((x : X) → In x xs → ⊥) → xs ≡ []
none_in [] h = refl
none_in (x ∷ xs) h = absurd (h x (inl refl))

none_of : {X : Type 0} (xs : List X) (x : X) → xs ≡ [] → In x xs → ⊥
none_of [] x e i = i
none_of (y ∷ xs) x e i = cc

module _ (c d : Course) (h : IsSoFar c d) where
  known_same : map shown_known (all_known c) ≡ map shown_known (all_known d)
  known_same = known_shown c ∙ (ap (λ (l : List Awaited). known_from 0 (ordered awaited_cmp l)) h.awaited ∙ sym (known_shown d))

  written : {Y : Type 0} (g : Known → Y) (q : Known → Bool) → ((k : Known) → q (shown_known k) ≡ q k) → ((k : Known) → q k ≡ true → g (shown_known k) ≡ g k) → map g (filter q (all_known c)) ≡ map g (filter q (all_known d))
  written g q same alike =
      sym (written_same g q same alike (all_known c)) ∙ (ap (λ (l : List Known). map g (filter q l)) known_same ∙ written_same g q same alike (all_known d))

  arrivals_same : (t : ℕ) → arrivals_at c t ≡ arrivals_at d t
  arrivals_same t =
      sym (filter_twice (λ x. is_at t x.released) has_come (λ x e. at_there t x.released e) c.arrivals)
      ∙ (ap (filter (λ x. is_at t x.released)) h.arrivals ∙ filter_twice (λ x. is_at t x.released) has_come (λ x e. at_there t x.released e) d.arrivals)

  payload_same : (t : ℕ) (initial : Option Value) (errors : List Fault) (next : Option Bool) → payload_at c t initial errors next ≡ payload_at d t initial errors next
  payload_same t initial errors next = λ i. record {
    initial = initial;
    errors = errors;
    pending = written pending_of (λ k. is_at t k.awaited.announced) (λ k. refl) (λ k e. refl) i;
    incremental = (sym (entries_shown (all_known c) (arrivals_at c t)) ∙ ((λ j. entries_of (known_same j) (arrivals_same t j)) ∙ entries_shown (all_known d) (arrivals_at d t))) i;
    completed = written completed_of (λ k. is_at t k.awaited.done) (λ k. refl) (λ k e. done_shown t k e) i;
    has_next = next;
  }

  moments_same : IsInOrder c → IsInOrder d → moments c ≡ moments d
  moments_same k l = sym (noted_there (times_of c)) ∙ (ap noted_all (times_seen c k ∙ ((λ i. seen_times (h.awaited i) (h.arrivals i)) ∙ sym (times_seen d l))) ∙ noted_there (times_of d))

  -- where all is done in the one, it is in the other
  finished_too : GoesOn d → is_finished c ≡ true → is_finished d ≡ true
  finished_too goes e = to_all (λ (a : Awaited). has_time a.done) d.awaited (λ a i. opened a i (goes opened a i)) where
    opened : (a : Awaited) → In a d.awaited → has_time a.announced ≡ true → has_time a.done ≡ true
    opened a i o =
        let m = in_map shown (shown a) (filter is_opened c.awaited) (subst (λ (l : List Awaited). In (shown a) l) (sym h.awaited) (to_map shown a (filter is_opened d.awaited) (to_filter is_opened a d.awaited i o))) in
        ap (λ (x : Awaited). has_time x.done) m.2 ∙ all_at (λ (x : Awaited). has_time x.done) c.awaited e m.0 (in_filter is_opened m.0 c.awaited m.1).0

  -- where nothing is announced in the one, nothing is in the other
  none_too : GoesOn d → c.awaited ≡ [] → d.awaited ≡ []
  none_too goes e = none_in d.awaited (λ a i. none a i (goes (λ x j o. absurd (none x j o)) a i)) where
    none : (a : Awaited) → In a d.awaited → has_time a.announced ≡ true → ⊥
    none a i o = none_of (map shown (filter is_opened c.awaited)) (shown a) (ap (λ (l : List Awaited). map shown (filter is_opened l)) e)
        (subst (λ (l : List Awaited). In (shown a) l) (sym h.awaited) (to_map shown a (filter is_opened d.awaited) (to_filter is_opened a d.awaited i o)))

both_ways : (a b : Bool) → (a ≡ true → b ≡ true) → (b ≡ true → a ≡ true) → a ≡ b
both_ways true b f g = sym (f refl)
both_ways false true f g = g refl
both_ways false false f g = refl

abbrev next_by : List Awaited → List ℕ → Bool → Option Bool
next_by as' ts finished = elim as' [ [] ↦ None | a ∷ rest ↦ elim ts [ [] ↦ Some (not finished) | u ∷ us ↦ Some true ] ]

module _ (c d : Course) (h : IsSoFar c d) (c_order : IsInOrder c) (d_order : IsInOrder d) (c_goes : GoesOn c) (d_goes : GoesOn d) where
  finished_same : is_finished c ≡ is_finished d
  finished_same = both_ways (is_finished c) (is_finished d) (finished_too c d h d_goes) (finished_too d c (so_far_back c d h) c_goes)

  next_same : (ts : List ℕ) → next_of c ts ≡ next_of d ts
  next_same ts = by c.awaited d.awaited (none_too c d h d_goes) (none_too d c (so_far_back c d h) c_goes) where
    no_cons : (a : Awaited) (l : List Awaited) → a ∷ l ≡ [] → ⊥
    no_cons a l e = cc

    by : (l m : List Awaited) → (l ≡ [] → m ≡ []) → (m ≡ [] → l ≡ []) → next_by l ts (is_finished c) ≡ next_by m ts (is_finished d)
    by [] [] f g = refl
    by [] (b ∷ m) f g = absurd (no_cons b m (f refl))
    by (a ∷ l) [] f g = absurd (no_cons a l (g refl))
    by (a ∷ l) (b ∷ m) f g = ap (λ z. elim ts [ [] ↦ Some (not z) | u ∷ us ↦ Some true ]) finished_same

  from_same : (ts : List ℕ) → payloads_from c ts ≡ payloads_from d ts
  from_same [] = refl
  from_same (t ∷ ts) = λ i. (payload_same c d h t None [] (next_of c ts) ∙ ap (payload_at d t None []) (next_same ts)) i ∷ from_same ts i

  pub payloads_same : (r : RegionResult) → payloads_of r c ≡ payloads_of r d
  payloads_same r =
      let m = moments_same c d h c_order d_order in
      (λ i. (payload_same c d h 0 (Some (outcome_value r.outcome)) r.faults (next_of c (moments c)) ∙ ap (payload_at d 0 (Some (outcome_value r.outcome)) r.faults) (next_same (moments c))) i ∷ from_same (moments c) i)
      ∙ (λ i. payload_at d 0 (Some (outcome_value r.outcome)) r.faults (next_of d (m i)) ∷ payloads_from d (m i))
