-- The payloads after some events of a complete order are the first of all.
use Rattle.std.proofs.Common.{◌≡◌, ◌⊎◌, inl, inr, ℕ, ◌≤◌, ◌<◌, ◌+◌, List, [], ◌∷◌, ◌++◌, map, length, refl, sym, subst, ◌∙◌, ap, Bool, true, false, cond, Option, Some, None, append_assoc, arith}
use Rattle.std.specs.Prelude.{nat_le, not, ◌&&◌, filter, slice_get}
use Rattle.std.proofs.lemmas.Bool.Decides.{nat_tests}
use Rattle.std.proofs.lemmas.List.{append-nil, length-append}
use Rattle.gql_tree.specs.declared.path.Path.{Path}
use Rattle.gql_tree.specs.declared.delivery.FragId.{FragId}
use Rattle.gql_tree.specs.declared.delivery.Group.{Group}
use Rattle.gql_tree.specs.declared.delivery.RegionResult.{RegionResult}
use Rattle.gql_tree.specs.declared.delivery.TaskWork.{TaskWork}
use Rattle.gql_tree.specs.Forest.{Forest, Branches, grown}
use Rattle.gql_tree.specs.Fate.{same_path}
use Rattle.gql_tree.specs.Times.{Time, has_time}
use Rattle.gql_tree.specs.Course.{Schedule, Awaited, Way, at_first, by_owners, by_stream, Arrival, Course, course}
use Rattle.gql_tree.specs.Payloads.{Known, all_known, is_among, is_finished, payloads_from, payloads}
use Rattle.gql_tree.specs.Numbering.{Made, makes, Events, start, end_one, end_all, is_order, by_events, times, is_finished_after, is_finished_within}
use Rattle.gql_tree.specs.WellFormed.{IsWellFormed}
use Rattle.gql_tree.specs.Lawful.{IsLawful}
use Rattle.gql_tree.specs.Causal.{PayloadsStay}
use Rattle.gql_confluence.proofs.Parts.{In, in_cases}
use Rattle.gql_confluence.proofs.Lists.{and_left, not_is, not_true, in_filter, to_filter, in_map}
use Rattle.gql_confluence.proofs.Deciders.{keys_same}
use Rattle.gql_confluence.proofs.Knowns.{is_awaited, is_known'}
use Rattle.gql_confluence.proofs.Moments.{upto, Later, later_all}
use Rattle.gql_confluence.proofs.Soundness.{IsGroupOf, IsItemOfStream}
use Rattle.gql_confluence.proofs.Earliest.{some_same}
use Rattle.gql_confluence.proofs.Owners.{timed}
use Rattle.gql_confluence.proofs.OneStream.{one_stream}
use Rattle.gql_confluence.proofs.Sound.{brought}
use Rattle.gql_confluence.proofs.Orderly.{complete_is_lawful}
use Rattle.gql_confluence.proofs.Halves.{noted_in, late_in}
use Rattle.gql_confluence.proofs.Cut.{cut, cut_awaited, IsCut, events_cut, IsCutCourse, course_cut}
use Rattle.gql_confluence.proofs.Prefix.{ComesOtherwise, moments_of, further_of, goes_on, payloads_halves}

-- ---- events

end_all_append : (e : Events) (ms ns : List ℕ) → end_all e (ms ++ ns) ≡ end_all (end_all e ms) ns
end_all_append e [] ns = refl
end_all_append e (m ∷ ms) ns = end_all_append (end_one e m) ms ns

-- each event ends at most one task more
pub record EndsMore (e d : Events) (most : ℕ) : Type 0 where
  pub more : List TaskWork
  pub ended : d.ended ≡ e.ended ++ more
  pub few : length more ≤ most

one_more : (e : Events) (n : ℕ) → EndsMore e (end_one e n) 1
one_more e n = by (slice_get e.made n) where
  by : (o : Option Made) → EndsMore e (elim o [ None ↦ e | Some m ↦ record { made = e.made ++ makes m.forest; ended = e.ended ++ m.work ∷ [] } ]) 1
  by None = record { more = []; ended = sym (append-nil e.ended); few = omega arith }
  by (Some m) = record { more = m.work ∷ []; ended = refl; few = omega arith }

pub all_more : (e : Events) (ns : List ℕ) → EndsMore e (end_all e ns) (length ns)
all_more e [] = record { more = []; ended = sym (append-nil e.ended); few = omega arith }
all_more e (n ∷ ns) =
    let a = one_more e n in
    let b = all_more (end_one e n) ns in
    record { more = a.more ++ b.more; ended = b.ended ∙ (ap (λ (l : List TaskWork). l ++ b.more) a.ended ∙ append_assoc e.ended a.more b.more); few = sum a.more b.more a.few b.few }
  where
    sum : (xs ys : List TaskWork) → length xs ≤ 1 → length ys ≤ length ns → length (xs ++ ys) ≤ length (n ∷ ns)
    sum xs ys h g = let e = length-append xs ys in omega arith

-- no proper prefix of a complete order finishes
not_within : (f : Forest) (before ms : List ℕ) (n : ℕ) (ns : List ℕ) → is_finished_within f before (ms ++ n ∷ ns) ≡ false → is_finished_after f (before ++ ms) ≡ false
not_within f before [] n ns h = ap (is_finished_after f) (append-nil before) ∙ by (is_finished_after f before) h where
  by : (b : Bool) → cond b true (is_finished_within f (before ++ n ∷ []) ns) ≡ false → b ≡ false
  by true e = e
  by false e = refl
not_within f before (m ∷ ms) n ns h =
    ap (is_finished_after f) (sym (append_assoc before (m ∷ []) ms))
    ∙ not_within f (before ++ m ∷ []) ms n ns (by (is_finished_after f before) h)
  where
    by : (b : Bool) → cond b true (is_finished_within f (before ++ m ∷ []) (ms ++ n ∷ ns)) ≡ false → is_finished_within f (before ++ m ∷ []) (ms ++ n ∷ ns) ≡ false
    by true e = absurd (cc)
    by false e = e

-- ---- what comes up to an event comes under ids that are announced by then

module _ (n : ℕ) (r0 : RegionResult) (bs0 : Branches) (wf : IsWellFormed (grown r0 bs0)) (p : Schedule) (lawful : IsLawful (grown r0 bs0) p) where
  abbrev d : Course
  d = course p (grown r0 bs0)

  first_item : (l : Known) (x : Arrival) → x.way ≡ at_first → ComesOtherwise l x
  first_item l x e = record { item = item x.way e; group = λ g ids f. absurd (other g ids (sym e ∙ f)) } where
    item : (w : Way) → w ≡ at_first → elim w [ at_first ↦ false | by_owners g ids ↦ false | by_stream s ↦ l.awaited.is_stream && same_path s.path l.awaited.path ] ≡ false
    item at_first f = refl
    item (by_owners g ids) f = refl
    item (by_stream s) f = absurd (cc)

    other : (g : Group) (ids : List FragId) → at_first ≡ by_owners g ids → ⊥
    other g ids f = cc

  no_later : (a : ℕ) (t : Time) → t ≡ Some a → upto n t ≡ true → a ≤ n
  no_later a t e h = le (ap (upto n) (sym e) ∙ h) where
    le : nat_le a n ≡ true → a ≤ n
    le k = grind (arith, nat_tests)

  clash : (a b : ℕ) (t : Time) → t ≡ Some a → a ≤ b → b ≤ n → upto n t ≡ false → ⊥
  clash a b t e le le' h = by (sym (ap (upto n) e) ∙ h) where
    by : nat_le a n ≡ false → ⊥
    by k = grind (arith, nat_tests)

  owners_same : (g h : Group) (ids js : List FragId) → by_owners g ids ≡ by_owners h js → ids ≡ js
  owners_same g h ids js e = cc

  group_apart : (l : Known) (x : Arrival) → In l.awaited d.awaited → upto n x.released ≡ true → upto n l.awaited.announced ≡ false → IsGroupOf d x → ComesOtherwise l x
  group_apart l x i e late k = record {
    item = ap (λ (w : Way). elim w [ at_first ↦ false | by_owners g ids ↦ false | by_stream s ↦ l.awaited.is_stream && same_path s.path l.awaited.path ]) k.way;
    group = λ g ids f. not_true (is_among ids l.awaited) (λ h. never (subst (λ (js : List FragId). is_among js l.awaited ≡ true) (owners_same g k.group ids k.ids (sym f ∙ k.way)) h));
  } where
    never : is_among k.ids l.awaited ≡ true → ⊥
    never h =
        let t = timed r0 bs0 wf p lawful l.awaited i in
        let same : t.closing ≡ k.time = some_same t.closing k.time (sym t.done ∙ (k.carriers l.awaited i h).0) in
        let le = t.forward in
        clash t.opening k.time l.awaited.announced t.announced (omega arith) (no_later k.time x.released k.released e) late

  item_apart : (l : Known) (x : Arrival) → In l (all_known d) → upto n x.released ≡ true → upto n l.awaited.announced ≡ false → IsItemOfStream d x → ComesOtherwise l x
  item_apart l x i e late k = record {
    item = ap (λ (w : Way). elim w [ at_first ↦ false | by_owners g ids ↦ false | by_stream s ↦ l.awaited.is_stream && same_path s.path l.awaited.path ]) k.way ∙ not_true (l.awaited.is_stream && same_path k.stream.path l.awaited.path) never;
    group = λ g ids f. absurd (other g ids (sym k.way ∙ f));
  } where
    other : (g : Group) (ids : List FragId) → by_stream k.stream ≡ by_owners g ids → ⊥
    other g ids f = cc

    path_of : (q q' : Path) → q.keys ≡ q'.keys → q ≡ q'
    path_of q q' f = λ i. record { keys = f i }

    never : (l.awaited.is_stream && same_path k.stream.path l.awaited.path) ≡ true → ⊥
    never h =
        let both = and_left l.awaited.is_stream (same_path k.stream.path l.awaited.path) h in
        let z = is_known' d k.awaited k.is_awaited (ap has_time k.announced) in
        let paths : z.0.awaited.path ≡ l.awaited.path = ap (λ (a : Awaited). a.path) z.2 ∙ (k.path ∙ path_of k.stream.path l.awaited.path (keys_same k.stream.path.keys l.awaited.path.keys both.1)) in
        let one : z.0 ≡ l = one_stream r0 bs0 wf p z.0 l z.1 i (ap (λ (a : Awaited). a.is_stream) z.2 ∙ k.is_stream) both.0 paths in
        let opening : l.awaited.announced ≡ Some k.opening = ap (λ (w : Known). w.awaited.announced) (sym one) ∙ (ap (λ (a : Awaited). a.announced) z.2 ∙ k.announced) in
        clash k.opening k.time l.awaited.announced opening k.begun (no_later k.time x.released k.released e) late

  pub apart : (x : Arrival) (l : Known) → In x d.arrivals → In l (all_known d) → upto n x.released ≡ true → upto n l.awaited.announced ≡ false → ComesOtherwise l x
  apart x l (inl f) i e late = first_item l x (ap (λ (y : Arrival). y.way) f)
  apart x l (inr j) i e late = by (brought r0 bs0 wf p lawful x j) where
    by : IsGroupOf d x ⊎ IsItemOfStream d x → ComesOtherwise l x
    by (inl k) = group_apart l x (is_awaited d l i).0 e late k
    by (inr k) = item_apart l x i e late k

-- ---- how many payloads are left

within : (v most : ℕ) (us : List ℕ) → Later v us → ((a : ℕ) → In a us → a ≤ most) → v ≤ most → length us + v ≤ most
within v most [] l h le = omega arith
within v most (u ∷ us) l h le = let r = within u most us l.1 (λ a i. h a (inr i)) (h u (inl refl)) in let lt = l.0 in omega arith

later_first : (n : ℕ) (us : List ℕ) → Later 0 us → ((a : ℕ) → In a us → n < a) → Later n us
later_first n [] l h = tt
later_first n (u ∷ us) l h = (h u (inl refl), l.1)

-- no time is later than the last event
module _ (most : ℕ) (d : Course) (k : IsCutCourse most d d) where
  cut_within : (t : Time) (a : ℕ) → Some a ≡ cut most t → a ≤ most
  cut_within None a e = absurd (cc)
  cut_within (Some b) a e = by (nat_le b most) refl e where
    by : (z : Bool) → nat_le b most ≡ z → Some a ≡ cond z (Some b) None → a ≤ most
    by true f g = let h : a ≡ b = some_same a b g in grind (arith, nat_tests, f, h)
    by false f g = absurd (cc)

  awaited_within : (f : Awaited → Time) → ((a : Awaited) → f (cut_awaited most a) ≡ cut most (f a)) → (v : ℕ) → In (Some v) (map f d.awaited) → v ≤ most
  awaited_within f e v i =
      let m = in_map f (Some v) d.awaited i in
      let z = in_map (cut_awaited most) m.0 d.awaited (subst (λ (l : List Awaited). In m.0 l) k.awaited m.1) in
      cut_within (f z.0) v (m.2 ∙ (ap f z.2 ∙ e z.0))

  arrival_within : (v : ℕ) → In (Some v) (map (λ (x : Arrival). x.released) d.arrivals) → v ≤ most
  arrival_within v i =
      let m = in_map (λ (x : Arrival). x.released) (Some v) d.arrivals i in
      let j = to_filter (λ (x : Arrival). has_time x.released) m.0 d.arrivals m.1 (ap has_time (sym m.2)) in
      le (ap (upto most) m.2 ∙ (in_filter (λ (x : Arrival). upto most x.released) m.0 d.arrivals (subst (λ (l : List Arrival). In m.0 l) k.arrivals j)).1)
    where
      le : nat_le v most ≡ true → v ≤ most
      le e = grind (arith, nat_tests)

  pub moment_within : (v : ℕ) → In (Some v) (moments_of d) → v ≤ most
  moment_within v i = by (in_cases (Some v) (map (λ (a : Awaited). a.announced) d.awaited) _ i) where
    two : In (Some v) (map (λ (x : Arrival). x.released) d.arrivals) ⊎ In (Some v) (map (λ (a : Awaited). a.done) d.awaited) → v ≤ most
    two (inl j) = arrival_within v j
    two (inr j) = awaited_within (λ a. a.done) (λ a. refl) v j

    by : In (Some v) (map (λ (a : Awaited). a.announced) d.awaited) ⊎ In (Some v) (map (λ (x : Arrival). x.released) d.arrivals ++ map (λ (a : Awaited). a.done) d.awaited) → v ≤ most
    by (inl j) = awaited_within (λ a. a.announced) (λ a. refl) v j
    by (inr j) = two (in_cases (Some v) (map (λ (x : Arrival). x.released) d.arrivals) (map (λ (a : Awaited). a.done) d.awaited) j)

-- ---- a forest, by the events so far and by all

module _ (r0 : RegionResult) (bs0 : Branches) (wf : IsWellFormed (grown r0 bs0)) (vs more : List TaskWork) (lawful : IsLawful (grown r0 bs0) (by_events (vs ++ more))) (open' : is_finished (course (by_events vs) (grown r0 bs0)) ≡ false) where
  abbrev f : Forest
  f = grown r0 bs0

  abbrev all : Course
  all = course (by_events (vs ++ more)) f

  abbrev so_far : Course
  so_far = course (by_events vs) f

  abbrev n : ℕ
  n = length vs

  is_cut : IsCutCourse n so_far all
  is_cut = course_cut n (by_events (vs ++ more)) (by_events vs) (events_cut vs more) f

  whole : IsCutCourse (length (vs ++ more)) all all
  whole = course_cut (length (vs ++ more)) (by_events (vs ++ more)) (by_events (vs ++ more)) (subst (λ (l : List TaskWork). IsCut (length (vs ++ more)) (by_events l) (by_events (vs ++ more))) (append-nil (vs ++ more)) (events_cut (vs ++ more) [])) f

  abbrev left : List ℕ
  left = further_of n all

  left_late : (a : ℕ) → In a left → n < a
  left_late a i = late_in n a (moments_of all) i

  left_within : (a : ℕ) → In a left → a ≤ length (vs ++ more)
  left_within a i = moment_within (length (vs ++ more)) all whole a (in_filter (λ t. not (upto n t)) (Some a) (moments_of all) (noted_in a (filter (λ t. not (upto n t)) (moments_of all)) i)).0

  few_left : length left ≤ length more
  few_left = few (within n (length (vs ++ more)) left (later_first n left (later_all (filter (λ t. not (upto n t)) (moments_of all))) left_late) left_within first) where
    first : n ≤ length (vs ++ more)
    first = let h = length-append vs more in omega arith

    few : length left + n ≤ length (vs ++ more) → length left ≤ length more
    few h = let g = length-append vs more in omega arith

  pub first_of_all : (payloads f (by_events (vs ++ more)) ≡ payloads f (by_events vs) ++ payloads_from all left) × (length (payloads_from all left) ≤ length more)
  first_of_all =
      let t = timed r0 bs0 wf (by_events (vs ++ more)) lawful in
      let a = apart n r0 bs0 wf (by_events (vs ++ more)) lawful in
      let g = goes_on n so_far all is_cut t a open' in
      (payloads_halves n so_far all is_cut t a open' g.0 g.1 g.2 r0, subst (λ (k : ℕ). k ≤ length more) (sym (one_each left)) few_left)
    where
      one_each : (ts : List ℕ) → length (payloads_from all ts) ≡ length ts
      one_each [] = refl
      one_each (u ∷ us) = let h = one_each us in omega arith

and_three : (a b d : Bool) → (a && b && d) ≡ true → d ≡ true
and_three a b d e = (and_left (a && b) d e).1

pub payloads_stay : PayloadsStay
payloads_stay f ms [] wf complete = ([], ap (λ (ns : List ℕ). payloads f (times f ns)) (append-nil ms) ∙ sym (append-nil (payloads f (times f ms))), omega arith)
payloads_stay (grown r bs) ms (n ∷ ns) wf complete =
    let f : Forest = grown r bs in
    let vs : List TaskWork = (end_all (start f) ms).ended in
    let m = all_more (end_all (start f) ms) (n ∷ ns) in
    let same : (end_all (start f) (ms ++ n ∷ ns)).ended ≡ vs ++ m.more = ap (λ (e : Events). e.ended) (end_all_append (start f) ms (n ∷ ns)) ∙ m.ended in
    let open' : is_finished_after f ms ≡ false = not_within f [] ms n ns (not_is (is_finished_within f [] (ms ++ n ∷ ns)) (and_three (is_order f (ms ++ n ∷ ns)) (is_finished_after f (ms ++ n ∷ ns)) _ complete)) in
    let lawful : IsLawful f (by_events (vs ++ m.more)) = subst (λ (l : List TaskWork). IsLawful f (by_events l)) same (complete_is_lawful f (ms ++ n ∷ ns) wf complete) in
    let all = first_of_all r bs wf vs m.more lawful open' in
    (_, ap (λ (l : List TaskWork). payloads f (by_events l)) same ∙ all.0, (let a = all.1 in let b = m.few in omega arith))
