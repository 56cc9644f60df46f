-- Each announced id stands in one pending and in one completed record, the latter in no earlier payload.
use Rattle.std.proofs.Common.{◌≡◌, ◌⊎◌, inl, inr, ℕ, ◌<◌, ◌≤◌, ◌+◌, ◌^◌, List, [], ◌∷◌, ◌++◌, map, length, refl, sym, subst, ◌∙◌, ap, Bool, true, false, cond, Option, Some, None, decimal, arith}
use Rattle.std.specs.Prelude.{◌==◌, filter, flat_map, count_by}
use Rattle.std.specs.List.{sum_by}
use Rattle.std.specs.Str.{bytes_eq}
use Rattle.std.proofs.lemmas.Slice.Eq.{bytes_eq-Decides}
use Rattle.std.proofs.lemmas.Bool.Decides.{nat_tests}
use Rattle.std.proofs.lemmas.List.Sums.{sum_by-cons, sum_by-append}
use Rattle.gql_tree.specs.declared.value.Value.{Value}
use Rattle.gql_tree.specs.declared.delivery.Fault.{Fault}
use Rattle.gql_tree.specs.declared.delivery.Payload.{Payload}
use Rattle.gql_tree.specs.declared.delivery.RegionResult.{RegionResult}
use Rattle.gql_tree.specs.Forest.{region, outcome_value}
use Rattle.gql_tree.specs.Times.{Time, is_at}
use Rattle.gql_tree.specs.Course.{Awaited, Course, course}
use Rattle.gql_tree.specs.Payloads.{Known, all_known, pending_of, completed_of, payload_at, moments, next_of, payloads_from, payloads_of}
use Rattle.gql_tree.specs.Lawful.{is_done_in_time}
use Rattle.gql_confluence.specs.Confluence.{announced_ids, completed_ids, HasOneRecord, IdsAreCompleted}
use Rattle.gql_confluence.proofs.Parts.{In, in_left, in_right}
use Rattle.gql_confluence.proofs.Moments.{Later, later_all, due_all, at_some, later_than}
use Rattle.gql_confluence.proofs.Knowns.{Numbered, numbered_at, all_numbered, is_awaited, same_known, few_numbers, one_decimal}
use Rattle.gql_confluence.proofs.Soundness.{IsTimed}
use Rattle.gql_confluence.proofs.Earliest.{timed_of}
use Rattle.gql_confluence.proofs.Lists.{in_filter, in_map, to_map, all_at, not_true, cons_same, nil_cons, contains_in}

-- ---- counting ids

abbrev ids_of : (Known → Bool) → List Known → List (List ℕ)
ids_of p ks = map (λ k. decimal k.number) (filter p ks)

abbrev hit : List ℕ → (Known → Bool) → Known → ℕ
hit id p k = cond (p k) (cond (bytes_eq id (decimal k.number)) 1 0) 0

count_is : (id : List ℕ) (p : Known → Bool) (ks : List Known) → count_by (bytes_eq id) (ids_of p ks) ≡ sum_by (hit id p) ks
count_is id p [] = refl
count_is id p (k ∷ ks) = by (p k) (count_is id p ks) ∙ sym (sum_by-cons (hit id p) k ks) where
  by : (b : Bool) → count_by (bytes_eq id) (ids_of p ks) ≡ sum_by (hit id p) ks
      → count_by (bytes_eq id) (map (λ (x : Known). decimal x.number) (cond b (k ∷ filter p ks) (filter p ks))) ≡ cond b (cond (bytes_eq id (decimal k.number)) 1 0) 0 + sum_by (hit id p) ks
  by true h = sum_by-cons (λ (x : List ℕ). cond (bytes_eq id x) 1 0) (decimal k.number) (ids_of p ks) ∙ ap (λ n. cond (bytes_eq id (decimal k.number)) 1 0 + n) h
  by false h = let z = h in omega (arith, z)

no_hits : (id : List ℕ) (p : Known → Bool) (ks : List Known) → ((k : Known) → In k ks → bytes_eq id (decimal k.number) ≡ false) → sum_by (hit id p) ks ≡ 0
no_hits id p [] h = refl
no_hits id p (k ∷ ks) h =
    let a = sum_by-cons (hit id p) k ks in
    let b = no_hits id p ks (λ l i. h l (inr i)) in
    let d : hit id p k ≡ 0 = (λ i. cond (p k) (cond (h k (inl refl) i) 1 0) 0) ∙ by (p k) in
    omega arith
  where
    by : (b : Bool) → cond {A = ℕ} b 0 0 ≡ 0
    by true = refl
    by false = refl

one_hit : (id : List ℕ) (p : Known → Bool) (n : ℕ) (ks : List Known) → Numbered n ks → (k : Known) → In k ks → bytes_eq id (decimal k.number) ≡ true
    → ((l : Known) → In l ks → bytes_eq id (decimal l.number) ≡ true → l.number ≡ k.number) → sum_by (hit id p) ks ≡ cond (p k) 1 0
one_hit id p n [] h k i e one = absurd i
one_hit id p n (l ∷ ks) h k (inl f) e one =
    let a = sum_by-cons (hit id p) l ks in
    let b = no_hits id p ks (λ m j. not_true (bytes_eq id (decimal m.number)) (λ t. let g = numbered_at (l.number + 1) m ks h.1 j in let s = one m (inr j) t in let w : k.number ≡ l.number = ap (λ (x : Known). x.number) f in omega arith)) in
    let d : hit id p l ≡ cond (p k) 1 0 = (λ j. cond (p (sym f j)) (cond (bytes_eq id (decimal (sym f j).number)) 1 0) 0) ∙ (λ j. cond (p k) (cond (e j) 1 0) 0) in
    omega arith
one_hit id p n (l ∷ ks) h k (inr i) e one =
    let a = sum_by-cons (hit id p) l ks in
    let rest = one_hit id p (l.number + 1) ks h.1 k i e (λ m j. one m (inr j)) in
    let no : bytes_eq id (decimal l.number) ≡ false = not_true (bytes_eq id (decimal l.number)) (λ t. let g = numbered_at (l.number + 1) k ks h.1 i in let s = one l (inl refl) t in omega arith) in
    let d : hit id p l ≡ 0 = (λ j. cond (p l) (cond (no j) 1 0) 0) ∙ by (p l) in
    omega arith
  where
    by : (b : Bool) → cond {A = ℕ} b 0 0 ≡ 0
    by true = refl
    by false = refl

map_pendings : (ks : List Known) → map (λ x. x.id) (map pending_of ks) ≡ map (λ (k : Known). decimal k.number) ks
map_pendings [] = refl
map_pendings (k ∷ ks) = ap (λ (l : List (List ℕ)). decimal k.number ∷ l) (map_pendings ks)

map_completed : (ks : List Known) → map (λ x. x.id) (map completed_of ks) ≡ map (λ (k : Known). decimal k.number) ks
map_completed [] = refl
map_completed (k ∷ ks) = ap (λ (l : List (List ℕ)). decimal k.number ∷ l) (map_completed ks)

count_two : (id : List ℕ) (xs ys : List (List ℕ)) → count_by (bytes_eq id) (xs ++ ys) ≡ count_by (bytes_eq id) xs + count_by (bytes_eq id) ys
count_two id = sum_by-append (λ (x : List ℕ). cond (bytes_eq id x) 1 0)

module _ (c : Course) (few : length c.awaited < 2 ^ 64) (timed : (a : Awaited) → In a c.awaited → IsTimed a) where
  abbrev ks : List Known
  ks = all_known c

  module _ (k : Known) (is : In k ks) where
    abbrev id : List ℕ
    id = decimal k.number

    same_id : (l : Known) → In l ks → bytes_eq id (decimal l.number) ≡ true → l.number ≡ k.number
    same_id l i e = sym (one_decimal k.number l.number (few_numbers c few k is) (few_numbers c few l i) ((bytes_eq-Decides id (decimal l.number)).0 e))

    counted : (p : Known → Bool) → count_by (bytes_eq id) (ids_of p ks) ≡ cond (p k) 1 0
    counted p = count_is id p ks ∙ one_hit id p 0 ks (all_numbered c) k is ((bytes_eq-Decides id id).1 refl) same_id

    opened : (t : ℕ) (v : Option Value) (fs : List Fault) (h : Option Bool) → count_by (bytes_eq id) (announced_ids (payload_at c t v fs h)) ≡ cond (is_at t k.awaited.announced) 1 0
    opened t v fs h = ap (count_by (bytes_eq id)) (map_pendings (filter (λ l. is_at t l.awaited.announced) ks)) ∙ counted (λ l. is_at t l.awaited.announced)

    closed : (t : ℕ) (v : Option Value) (fs : List Fault) (h : Option Bool) → count_by (bytes_eq id) (completed_ids (payload_at c t v fs h)) ≡ cond (is_at t k.awaited.done) 1 0
    closed t v fs h = ap (count_by (bytes_eq id)) (map_completed (filter (λ l. is_at t l.awaited.done) ks)) ∙ counted (λ l. is_at t l.awaited.done)

    -- one kind of record: its ids in a payload, and its time
    module _ (ids : Payload → List (List ℕ)) (a : ℕ) (count : (t : ℕ) (v : Option Value) (fs : List Fault) (h : Option Bool) → count_by (bytes_eq id) (ids (payload_at c t v fs h)) ≡ cond (a == t) 1 0) where
      none_later : (m : ℕ) (us : List ℕ) → Later m us → a ≤ m → count_by (bytes_eq id) (flat_map ids (payloads_from c us)) ≡ 0
      none_later m [] l h = refl
      none_later m (u ∷ us) l h =
          let x = count u None [] (next_of c us) in
          let y = none_later u us l.1 (let g = l.0 in omega arith) in
          let z = count_two id (ids (payload_at c u None [] (next_of c us))) (flat_map ids (payloads_from c us)) in
          let w : cond {A = ℕ} (a == u) 1 0 ≡ 0 = let g = l.0 in grind (arith, nat_tests) in
          omega arith

      one_later : (m : ℕ) (us : List ℕ) → Later m us → In a us → count_by (bytes_eq id) (flat_map ids (payloads_from c us)) ≡ 1
      one_later m [] l i = absurd i
      one_later m (u ∷ us) l (inl e) =
          let x = count u None [] (next_of c us) in
          let y = none_later u us l.1 (omega arith) in
          let z = count_two id (ids (payload_at c u None [] (next_of c us))) (flat_map ids (payloads_from c us)) in
          let w : cond {A = ℕ} (a == u) 1 0 ≡ 1 = grind (arith, nat_tests) in
          omega arith
      one_later m (u ∷ us) l (inr i) =
          let x = count u None [] (next_of c us) in
          let y = one_later u us l.1 i in
          let z = count_two id (ids (payload_at c u None [] (next_of c us))) (flat_map ids (payloads_from c us)) in
          let g = later_than u a us l.1 i in
          let w : cond {A = ℕ} (a == u) 1 0 ≡ 0 = grind (arith, nat_tests) in
          omega arith

      in_all : (r : RegionResult) → (a ≤ 0) ⊎ In a (moments c) → count_by (bytes_eq id) (flat_map ids (payloads_of r c)) ≡ 1
      in_all r d = by d where
        by : (a ≤ 0) ⊎ In a (moments c) → count_by (bytes_eq id) (flat_map ids (payloads_of r c)) ≡ 1
        by (inl h) =
            let x = count 0 (Some (outcome_value r.outcome)) r.faults (next_of c (moments c)) in
            let y = none_later 0 (moments c) (later_all (map (λ b. b.announced) c.awaited ++ (map (λ b. b.released) c.arrivals ++ map (λ b. b.done) c.awaited))) h in
            let z = count_two id (ids (payload_at c 0 (Some (outcome_value r.outcome)) r.faults (next_of c (moments c)))) (flat_map ids (payloads_from c (moments c))) in
            let w : cond {A = ℕ} (a == 0) 1 0 ≡ 1 = grind (arith, nat_tests) in
            omega arith
        by (inr i) =
            let x = count 0 (Some (outcome_value r.outcome)) r.faults (next_of c (moments c)) in
            let all = later_all (map (λ b. b.announced) c.awaited ++ (map (λ b. b.released) c.arrivals ++ map (λ b. b.done) c.awaited)) in
            let y = one_later 0 (moments c) all i in
            let z = count_two id (ids (payload_at c 0 (Some (outcome_value r.outcome)) r.faults (next_of c (moments c)))) (flat_map ids (payloads_from c (moments c))) in
            let g = later_than 0 a (moments c) all i in
            let w : cond {A = ℕ} (a == 0) 1 0 ≡ 0 = grind (arith, nat_tests) in
            omega arith

  -- ---- no earlier payload

  -- what a payload announces
  announces : (t : ℕ) (v : Option Value) (fs : List Fault) (h : Option Bool) (id : List ℕ) → In id (announced_ids (payload_at c t v fs h)) → (k : Known) × In k ks × (id ≡ decimal k.number) × (is_at t k.awaited.announced ≡ true)
  announces t v fs h id i =
      let m = in_map (λ (k : Known). decimal k.number) id (filter (λ l. is_at t l.awaited.announced) ks) (subst (λ (l : List (List ℕ)). In id l) (map_pendings (filter (λ l. is_at t l.awaited.announced) ks)) i) in
      let n = in_filter (λ (l : Known). is_at t l.awaited.announced) m.0 ks m.1 in
      (m.0, n.0, m.2, n.1)

  -- the fragment or stream, and its moment
  found_later : (us : List ℕ) (before : List Payload) (q : Payload) (after : List Payload) (id : List ℕ) → payloads_from c us ≡ before ++ q ∷ after → In id (announced_ids q)
      → (t : ℕ) × In t us × ((k : Known) × In k ks × (id ≡ decimal k.number) × (is_at t k.awaited.announced ≡ true))
  found_later [] before q after id' e i = absurd (nil_cons before q after e)
  found_later (u ∷ us) [] q after id e i =
      let s = cons_same _ q _ after e in
      (u, inl refl, announces u None [] (next_of c us) id (subst (λ (x : Payload). In id (announced_ids x)) (sym s.0) i))
  found_later (u ∷ us) (b ∷ before) q after id e i =
      let s = cons_same _ b _ (before ++ q ∷ after) e in
      let r = found_later us before q after id s.1 i in
      (r.0, inr r.1, r.2)

  module _ (k : Known) (is : In k ks) (d : ℕ) (done : k.awaited.done ≡ Some d) where
    not_yet : (t : ℕ) (v : Option Value) (fs : List Fault) (h : Option Bool) → t < d → count_by (bytes_eq (decimal k.number)) (completed_ids (payload_at c t v fs h)) ≡ 0
    not_yet t v fs h l =
        let x = closed k is t v fs h in
        let w : cond {A = ℕ} (d == t) 1 0 ≡ 0 = grind (arith, nat_tests) in
        let y : cond {A = ℕ} (is_at t k.awaited.done) 1 0 ≡ cond (d == t) 1 0 = ap (λ u. cond (is_at t u) 1 0) done in
        omega arith

    -- where it is announced behind these payloads, and done no earlier
    none_before : (m : ℕ) (us : List ℕ) → Later m us → (before : List Payload) (q : Payload) (after : List Payload) → payloads_from c us ≡ before ++ q ∷ after
        → ((t : ℕ) → In t us → is_at t k.awaited.announced ≡ true → t ≤ d) → In (decimal k.number) (announced_ids q) → count_by (bytes_eq (decimal k.number)) (flat_map completed_ids before) ≡ 0
    none_before m [] l before q after e late i = absurd (nil_cons before q after e)
    none_before m (u ∷ us) l [] q after e late i = refl
    none_before m (u ∷ us) l (b ∷ before) q after e late i =
        let s = cons_same _ b _ (before ++ q ∷ after) e in
        let f = found_later us before q after (decimal k.number) s.1 i in
        let same : f.2.0 ≡ k = same_known c f.2.0 k f.2.1 is (one_decimal f.2.0.number k.number (few_numbers c few f.2.0 f.2.1) (few_numbers c few k is) (sym f.2.2)) in
        let at : is_at f.0 k.awaited.announced ≡ true = subst (λ (x : Known). is_at f.0 x.awaited.announced ≡ true) same f.2.3 in
        let le = late f.0 (inr f.1) at in
        let lt = later_than u f.0 us l.1 f.1 in
        let x = not_yet u None [] (next_of c us) (omega arith) in
        let x' : count_by (bytes_eq (decimal k.number)) (completed_ids b) ≡ 0 = ap (λ (z : Payload). count_by (bytes_eq (decimal k.number)) (completed_ids z)) (sym s.0) ∙ x in
        let y = none_before u us l.1 before q after s.1 (λ t j h. late t (inr j) h) i in
        let z = count_two (decimal k.number) (completed_ids b) (flat_map completed_ids before) in
        omega arith

  -- ---- all of it

  times_noted : (u : Time) (a : ℕ) → u ≡ Some a → In u (map (λ x. x.announced) c.awaited ++ (map (λ x. x.released) c.arrivals ++ map (λ x. x.done) c.awaited)) → (a ≤ 0) ⊎ In a (moments c)
  times_noted u a e i = due_all a _ (subst (λ (w : Time). In w (map (λ x. x.announced) c.awaited ++ (map (λ x. x.released) c.arrivals ++ map (λ x. x.done) c.awaited))) e i)

  both_once : (r : RegionResult) (k : Known) → In k ks → (count_by (bytes_eq (decimal k.number)) (flat_map announced_ids (payloads_of r c)) ≡ 1) × (count_by (bytes_eq (decimal k.number)) (flat_map completed_ids (payloads_of r c)) ≡ 1)
  both_once r k is =
      let i = (is_awaited c k is).0 in
      let t = timed k.awaited i in (
        in_all k is announced_ids t.opening (λ u v fs h. opened k is u v fs h ∙ ap (λ w. cond (is_at u w) 1 0) t.announced) r
            (times_noted k.awaited.announced t.opening t.announced (in_left k.awaited.announced (map (λ x. x.announced) c.awaited) _ (to_map (λ (x : Awaited). x.announced) k.awaited c.awaited i))),
        in_all k is completed_ids t.closing (λ u v fs h. closed k is u v fs h ∙ ap (λ w. cond (is_at u w) 1 0) t.done) r
            (times_noted k.awaited.done t.closing t.done (in_right k.awaited.done (map (λ x. x.announced) c.awaited) _ (in_right k.awaited.done (map (λ x. x.released) c.arrivals) _ (to_map (λ (x : Awaited). x.done) k.awaited c.awaited i)))),
      )

  -- done no earlier than announced
  no_sooner : (k : Known) (is : In k ks) (t : ℕ) → is_at t k.awaited.announced ≡ true → t ≤ (timed k.awaited (is_awaited c k is).0).closing
  no_sooner k is t h =
      let w = timed k.awaited (is_awaited c k is).0 in
      let e = at_some t w.opening k.awaited.announced w.announced h in
      let f = w.forward in
      omega arith

  one_record : (r : RegionResult) → HasOneRecord (payloads_of r c)
  one_record r [] after q id e has =
      let s = cons_same _ q _ after e in
      let k = announces 0 (Some (outcome_value r.outcome)) r.faults (next_of c (moments c)) id (subst (λ (x : Payload). In id (announced_ids x)) (sym s.0) (contains_in (announced_ids q) id has)) in
      let b = both_once r k.0 k.1 in
      subst (λ (w : List ℕ). (count_by (bytes_eq w) (flat_map announced_ids (payloads_of r c)) ≡ 1) × (count_by (bytes_eq w) (flat_map completed_ids (payloads_of r c)) ≡ 1) × (count_by (bytes_eq w) [] ≡ 0)) (sym k.2) (b.0, b.1, refl)
  one_record r (p0 ∷ before) after q id e has =
      let s = cons_same _ p0 _ (before ++ q ∷ after) e in
      let i = contains_in (announced_ids q) id has in
      let f = found_later (moments c) before q after id s.1 i in
      let k = f.2.0 in
      let is = f.2.1 in
      let w = timed k.awaited (is_awaited c k is).0 in
      let b = both_once r k is in
      let n = none_before k is w.closing w.done 0 (moments c) (later_all (map (λ x. x.announced) c.awaited ++ (map (λ x. x.released) c.arrivals ++ map (λ x. x.done) c.awaited))) before q after s.1
      (λ t j h. no_sooner k is t h) (subst (λ (z : List ℕ). In z (announced_ids q)) f.2.2 i) in
      let lt = w.late in
      let x = not_yet k is w.closing w.done 0 (Some (outcome_value r.outcome)) r.faults (next_of c (moments c)) (omega arith) in
      let x' : count_by (bytes_eq (decimal k.number)) (completed_ids p0) ≡ 0 = ap (λ (z : Payload). count_by (bytes_eq (decimal k.number)) (completed_ids z)) (sym s.0) ∙ x in
      let y = count_two (decimal k.number) (completed_ids p0) (flat_map completed_ids before) in
      subst (λ (z : List ℕ). (count_by (bytes_eq z) (flat_map announced_ids (payloads_of r c)) ≡ 1) × (count_by (bytes_eq z) (flat_map completed_ids (payloads_of r c)) ≡ 1) × (count_by (bytes_eq z) (flat_map completed_ids (p0 ∷ before)) ≡ 0)) (sym f.2.2)
      (b.0, b.1, omega arith)

  pub payloads_once : (r : RegionResult) → HasOneRecord (payloads_of r c)
  payloads_once = one_record

pub ids_are_completed : IdsAreCompleted
ids_are_completed f p lawful few = payloads_once (course p f) few (λ a i. timed_of a (all_at is_done_in_time (course p f).awaited lawful.done a i)) (region f)
