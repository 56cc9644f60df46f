-- What the order of a list's names finds.
use Rattle.std.proofs.Common.{◌≡◌, ◌⊎◌, inl, inr, ℕ, zero, suc, ◌+◌, ◌<◌, ◌≤◌, Bool, true, false, cond, if◌then◌else◌, List, [], ◌∷◌, ◌++◌, length, get_or, map, take, Option, Some, None, refl, sym, ap, subst, ◌∙◌, arith, ltb, ltb-true, ltb-false, lt-ltb, le-ltb}
use Rattle.std.specs.Option.{option_map}
use Rattle.std.specs.List.{slice_get, position, position_or_len, find, Contains}
use Rattle.std.specs.List.Sorted.{IsPermutation, IsSorted, IsPartitionedBy, IsPartitionPoint}
use Rattle.std.specs.Ordering.{ordering_then, ordering_reverse, nat_cmp, is_lt, is_eq, MatchOrdering}
use Rattle.std.specs.declared.cmp.Ordering.{Ordering}
use Rattle.std.specs.declared.cmp.Ordering.TheVariants.{Less, Equal, Greater}
use Rattle.std.specs.Cmp.{IsTotalOrder, then_total, on_total, nat_cmp_total, tied_itself, ranks}
use Rattle.std.specs.Cmp.Lexicographic.{nat_list_cmp_total, texts_ties, bytes_decides}
use Rattle.std.specs.Str.{bytes_eq}
use Rattle.std.proofs.lemmas.Slice.Eq.{bytes_eq-Decides}
use Rattle.std.proofs.lemmas.List.{get_or_default, get_or-map, length-map, map-append, take_more}
use Rattle.std.proofs.lemmas.List.Sorted.{sorted_far, ranks_by, Contains-permutation, IsPermutation-sym, IsPermutation-map}
use Rattle.std.proofs.lemmas.List.Folds.{find_at}
use Rattle.std.proofs.lemmas.List.Sums.{position_or_len_is}
use denote.Ref.{Bor}
use Rattle.gql_model.specs.inner.Order.{Seat, compare_names, compare_seats, seats_from, seats, seat_of, IsOrder, OrdersMany, before_by, comes_before, is_named, if_named}

-- ---- names and seats

seats_total : IsTotalOrder compare_seats
seats_total = then_total (on_total (λ seat. seat.0) nat_list_cmp_total) (on_total (λ seat. seat.1) nat_cmp_total)

same_names : (a b : List ℕ) → compare_names a b ≡ Equal → a ≡ b
same_names a b h = (bytes_decides a b).0 (texts_ties a b ∙ ap is_eq h)

less_is : (o : Ordering) → is_lt o ≡ true → o ≡ Less
less_is Less h = refl
less_is Equal h = absurd cc
less_is Greater h = absurd cc

not_below : (x y : ℕ) → is_lt (nat_cmp x y) ≡ false → y ≤ x
not_below x y h = by (nat_cmp x y) (ranks x y) h
  where
    by : (o : Ordering) → MatchOrdering o (x < y) (x ≡ y) (y < x) → is_lt o ≡ false → y ≤ x
    by Less told h = absurd cc
    by Equal told h = omega arith
    by Greater told h = omega arith

-- by the names, or by the places of one name
abbrev AtMost : Seat → Seat → Type 0
AtMost a b = (compare_names a.0 b.0 ≡ Less) ⊎ ((a.0 ≡ b.0) × (a.1 ≤ b.1))

at_most : (a b : Seat) → is_lt (compare_seats b a) ≡ false → AtMost a b
at_most a b h = by (compare_names b.0 a.0) refl h
  where
    by : (o : Ordering) → compare_names b.0 a.0 ≡ o → is_lt (ordering_then o (nat_cmp b.1 a.1)) ≡ false → AtMost a b
    by Less e h = absurd cc
    by Equal e h = inr (sym (same_names b.0 a.0 e), not_below b.1 a.1 h)
    by Greater e h = inl (nat_list_cmp_total.antisymm a.0 b.0 ∙ ap ordering_reverse e)

-- ---- items and their seats

got : {A : Type 0} (xs : List A) (i : ℕ) → i < length xs → (x : A) × (slice_get xs i ≡ Some x)
got [] i h = absurd (omega arith)
got (x ∷ xs) zero h = (x, refl)
got (x ∷ xs) (suc i) h = got xs i (omega arith)

got_is : {A : Type 0} (xs : List A) (i : ℕ) (x d : A) → slice_get xs i ≡ Some x → (i < length xs) × (get_or xs i d ≡ x)
got_is [] i x d h = absurd cc
got_is (y ∷ xs) zero x d h = (omega arith, cc)
got_is (y ∷ xs) (suc i) x d h = let rest = got_is xs i x d h in (omega (arith, rest.0), rest.1)

module _ {A : Type 0} (test : A → Bool) where
  found_first : (items : List A) (place : ℕ) → position_or_len test items ≡ place → place < length items → position test items ≡ Some place
  found_first items place first within = rw (first, lt-ltb place (length items) within) refl

  none_passes : (items : List A) → ((i : ℕ) (x : A) → slice_get items i ≡ Some x → test x ≡ false) → position test items ≡ None
  none_passes [] fails = refl
  none_passes (x ∷ items) fails =
      let first : position_or_len test (x ∷ items) ≡ length (x ∷ items) = position_or_len_is test (x ∷ items) (length (x ∷ items)) x (omega arith)
      (λ i lt. let y = got (x ∷ items) i lt in ap test (got_is (x ∷ items) i y.0 x y.1).1 ∙ fails i y.0 y.1) (λ h. absurd (omega arith)) in
      rw (first, le-ltb (length (x ∷ items)) (length (x ∷ items)) (omega arith)) refl

module _ {A : Type 0} (name_of : A → List ℕ) where
  seat_at : (n : ℕ) (xs : List A) (i : ℕ) (x : A) (d : Seat) → slice_get xs i ≡ Some x → get_or (seats_from name_of n xs) i d ≡ (name_of x, n + i)
  seat_at n [] i x d h = absurd cc
  seat_at n (y ∷ xs) zero x d h = let same : y ≡ x = cc in let here : n ≡ n + 0 = omega arith in λ i. (name_of (same i), here i)
  seat_at n (y ∷ xs) (suc i) x d h = let further : n + 1 + i ≡ n + suc i = omega arith in seat_at (n + 1) xs i x d h ∙ (λ j. (name_of x, further j))

  seat_here : (xs : List A) (i : ℕ) (x : A) (d : Seat) → slice_get xs i ≡ Some x → get_or (seats name_of xs) i d ≡ (name_of x, i)
  seat_here xs i x d h = let here : 0 + i ≡ i = omega arith in seat_at 0 xs i x d h ∙ (λ j. (name_of x, here j))

  pub seats_many : (n : ℕ) (xs : List A) → length (seats_from name_of n xs) ≡ length xs
  seats_many n [] = refl
  seats_many n (x ∷ xs) = ap suc (seats_many (n + 1) xs)

  -- the item of a seat
  record SeatOf (items : List A) (seat : Seat) : Type 0 where
    item : A
    at : slice_get items seat.1 ≡ Some item
    named : name_of item ≡ seat.0

module _ {A : Type 0} (name_of : A → List ℕ) (items : List A) (order : List ℕ) (is : IsOrder name_of items order) where
  -- a seat of the order is that of an item
  seat_of_item : (k : ℕ) (d : Seat) → k < length is.sorted → SeatOf name_of items (get_or is.sorted k d)
  seat_of_item k d h = by (Contains-permutation is.sorted (seats name_of items) seat (IsPermutation-sym (seats name_of items) is.sorted is.all) (k, h, get_or_default is.sorted k seat d h))
    where
      seat : Seat
      seat = get_or is.sorted k d

      by : Contains (seats name_of items) seat → SeatOf name_of items seat
      by has =
          let x = got items has.0 (omega (arith, has.1, seats_many name_of 0 items)) in
          let same : seat ≡ (name_of x.0, has.0) = sym has.2 ∙ seat_here name_of items has.0 x.0 seat x.1 in
          record { item = x.0; at = ap (λ s. slice_get items s.1) same ∙ x.1; named = ap (λ s. s.0) (sym same) }

  -- each item has a seat in the order
  has_seat : (i : ℕ) (x : A) → slice_get items i ≡ Some x → Contains is.sorted (name_of x, i)
  has_seat i x h = Contains-permutation (seats name_of items) is.sorted (name_of x, i) is.all
      (i, omega (arith, (got_is items i x x h).0, seats_many name_of 0 items), seat_here name_of items i x (name_of x, i) h)

  far : (i j : ℕ) (d : Seat) → i ≤ j → j < length is.sorted → AtMost (get_or is.sorted i d) (get_or is.sorted j d)
  far i j d le h = at_most _ _ (sorted_far _ (ranks_by seats_total (λ seat. seat)) is.sorted is.rises i j d le h)

  in_order : length order ≡ length is.sorted
  in_order = ap length is.places ∙ length-map is.sorted (λ seat. seat.1)

  order_at : (k d : ℕ) (e : Seat) → k < length is.sorted → get_or order k d ≡ (get_or is.sorted k e).1
  order_at k d e h = ap (λ o. get_or o k d) is.places ∙ get_or-map (λ seat. seat.1) is.sorted k e d h

  module _ (name : List ℕ) where
    comes : ℕ → Bool
    comes = comes_before name_of items name

    -- by the name of a seat
    comes_by : (seat : Seat) → SeatOf name_of items seat → comes_before name_of items name seat.1 ≡ is_lt (compare_names seat.0 name)
    comes_by seat of = ap (λ o. before_by (option_map name_of o) name) of.at ∙ ap (λ n. is_lt (compare_names n name)) of.named

    comes_at : (k d : ℕ) (e : Seat) → k < length is.sorted → comes_before name_of items name (get_or order k d) ≡ is_lt (compare_names (get_or is.sorted k e).0 name)
    comes_at k d e h = ap (comes_before name_of items name) (order_at k d e h) ∙ comes_by (get_or is.sorted k e) (seat_of_item k e h)

    earlier : (a b : Seat) → AtMost a b → is_lt (compare_names b.0 name) ≡ true → is_lt (compare_names a.0 name) ≡ true
    earlier a b (inl less) h = ap is_lt (nat_list_cmp_total.trans a.0 b.0 name less (less_is _ h))
    earlier a b (inr same) h = ap (λ n. is_lt (compare_names n name)) same.0 ∙ h

    no_seat : Seat
    no_seat = ([], 0)

    -- names that come before it stand before all others
    pub order_partitioned : IsPartitionedBy (comes_before name_of items name) order
    order_partitioned i j d le h passes =
        let within : j < length is.sorted = omega (arith, h, in_order) in
        comes_at i d no_seat (omega (arith, within)) ∙ earlier _ _ (far i j no_seat le within) (sym (comes_at j d no_seat within) ∙ passes)

    module _ (k : ℕ) (point : IsPartitionPoint (λ place. comes_before name_of items name place ≡ true) (λ place. comes_before name_of items name place ≡ false) order k) where
      itself : (n : List ℕ) → n ≡ name → is_lt (compare_names n name) ≡ false
      itself n h = ap (λ m. is_lt (compare_names m name)) h ∙ ap is_lt (tied_itself nat_list_cmp_total name)

      -- an item of the name stands at the point or behind it
      record Least (i : ℕ) : Type 0 where
        within : k < length is.sorted
        named : (get_or is.sorted k no_seat).0 ≡ name
        first : (get_or is.sorted k no_seat).1 ≤ i

      least : (i : ℕ) (x : A) → slice_get items i ≡ Some x → name_of x ≡ name → Least i
      least i x h named = by (has_seat i x h)
        where
          later : (j : ℕ) → j < length is.sorted → (get_or is.sorted j no_seat) ≡ (name_of x, i) → (b : Bool) → ltb j k ≡ b → k ≤ j
          later j lt is_j true e = let no = sym (point.0 j 0 (omega arith) (ltb-true j k e)) ∙ comes_at j 0 no_seat lt ∙ itself _ (ap (λ s. s.0) is_j ∙ named) in absurd cc
          later j lt is_j false e = ltb-false j k e

          by_most : (j : ℕ) → (lt : j < length is.sorted) → (get_or is.sorted j no_seat) ≡ (name_of x, i) → k ≤ j → AtMost (get_or is.sorted k no_seat) (name_of x, i) → Least i
          by_most j lt is_j le (inl less) =
              let within : k < length is.sorted = omega (arith, lt, le) in
              let no = sym (point.1 k 0 (omega arith) (omega (arith, within, in_order))) ∙ comes_at k 0 no_seat within ∙ ap is_lt (ap (compare_names (get_or is.sorted k no_seat).0) (sym named) ∙ less) in absurd cc
          by_most j lt is_j le (inr same) = record { within = omega (arith, lt, le); named = same.0 ∙ named; first = same.1 }

          by : Contains is.sorted (name_of x, i) → Least i
          by has =
              let is_j : get_or is.sorted has.0 no_seat ≡ (name_of x, i) = get_or_default is.sorted has.0 no_seat (name_of x, i) has.1 ∙ has.2 in
              let le = later has.0 has.1 is_j (ltb has.0 k) refl in
              by_most has.0 has.1 is_j le (subst (λ s. AtMost (get_or is.sorted k no_seat) s) is_j (far k has.0 no_seat le has.1))

      test : A → Bool
      test item = bytes_eq (name_of item) name

      -- the item at the point has the name, so it is the first
      pub point_found : (place : ℕ) (x : A) → slice_get order k ≡ Some place → slice_get items place ≡ Some x → bytes_eq (name_of x) name ≡ true → position (λ item. bytes_eq (name_of item) name) items ≡ Some place
      point_found place x at_k at_place has =
          let within : place < length items = (got_is items place x x at_place).0 in
          let first : position_or_len (λ item. bytes_eq (name_of item) name) items ≡ place =
          position_or_len_is (λ item. bytes_eq (name_of item) name) items place x (omega (arith, within)) none_before (λ _. ap (λ y. bytes_eq (name_of y) name) (got_is items place x x at_place).1 ∙ has) in
          found_first (λ item. bytes_eq (name_of item) name) items place first within
        where
          none_by : (i : ℕ) (y : A) → i < place → slice_get items i ≡ Some y → (b : Bool) → bytes_eq (name_of y) name ≡ b → bytes_eq (name_of y) name ≡ false
          none_by i y lt at true e =
              let l = least i y at ((bytes_eq-Decides (name_of y) name).0 e) in
              let here : place ≡ (get_or is.sorted k no_seat).1 = sym (got_is order k place 0 at_k).1 ∙ order_at k 0 no_seat l.within in
              absurd (omega (arith, l.first, here, lt))
          none_by i y lt at false e = e

          none_before : (i : ℕ) → i < place → bytes_eq (name_of (get_or items i x)) name ≡ false
          none_before i lt =
              let y = got items i (omega (arith, (got_is items place x x at_place).0)) in
              ap (λ z. bytes_eq (name_of z) name) (got_is items i y.0 x y.1).1 ∙ none_by i y.0 lt y.1 _ refl

      -- what stands at the point isn't of the name, or nothing does: so nothing is
      pub point_missed : ((place : ℕ) (x : A) → slice_get order k ≡ Some place → slice_get items place ≡ Some x → bytes_eq (name_of x) name ≡ false) → position (λ item. bytes_eq (name_of item) name) items ≡ None
      point_missed other = none_passes (λ item. bytes_eq (name_of item) name) items (λ i x at. fails i x at _ refl)
        where
          fails : (i : ℕ) (x : A) → slice_get items i ≡ Some x → (b : Bool) → bytes_eq (name_of x) name ≡ b → bytes_eq (name_of x) name ≡ false
          fails i x at false e = e
          fails i x at true e =
              let l = least i x at ((bytes_eq-Decides (name_of x) name).0 e) in
              let slot = got order k (omega (arith, l.within, in_order)) in
              let here : slot.0 ≡ (get_or is.sorted k no_seat).1 = sym (got_is order k slot.0 0 slot.1).1 ∙ order_at k 0 no_seat l.within in
              let of = seat_of_item k no_seat l.within in
              let no = sym (other slot.0 of.item slot.1 (ap (slice_get items) here ∙ of.at)) ∙ (bytes_eq-Decides (name_of of.item) name).1 (of.named ∙ l.named) in
              absurd cc

      -- what the search answers
      pub search_finds : (slot : Option ℕ) → slot ≡ slice_get order k → if_named name_of items name slot ≡ position (λ item. bytes_eq (name_of item) name) items
      search_finds None at = sym (point_missed (λ place x at_k at_place. let no = at ∙ at_k in absurd cc))
      search_finds (Some place) at = by_item (slice_get items place) refl
        where
          by_test : (x : A) (b : Bool) → slice_get items place ≡ Some x → bytes_eq (name_of x) name ≡ b → (if b then Some place else None) ≡ position (λ item. bytes_eq (name_of item) name) items
          by_test x true at_place e = sym (point_found place x (sym at) at_place e)
          by_test x false at_place e = sym (point_missed (λ other y at_k at_other. let here : place ≡ other = (let one = at ∙ at_k in cc) in let same : x ≡ y = (let two = sym at_place ∙ ap (slice_get items) here ∙ at_other in cc) in ap (λ z. bytes_eq (name_of z) name) (sym same) ∙ e))

          by_item : (o : Option A) → slice_get items place ≡ o → (if is_named name_of items name place then Some place else None) ≡ position (λ item. bytes_eq (name_of item) name) items
          by_item None e = rw e (sym (point_missed (λ other y at_k at_other. let here : place ≡ other = (let one = at ∙ at_k in cc) in let no = sym e ∙ ap (slice_get items) here ∙ at_other in absurd cc)))
          by_item (Some x) e = rw e (by_test x (bytes_eq (name_of x) name) e refl)

-- ---- positions and finds

pub find-position : {A : Type 0} (test : A → Bool) (xs : List A) (i : ℕ) → position test xs ≡ Some i → find test xs ≡ slice_get xs i
find-position test xs i h = find_at test xs ∙ ap (slice_get xs) (by (ltb (position_or_len test xs) (length xs)) h)
  where
    by : (b : Bool) → cond b (Some (position_or_len test xs)) None ≡ Some i → position_or_len test xs ≡ i
    by true e = cc
    by false e = absurd cc

pub find-none : {A : Type 0} (test : A → Bool) (xs : List A) → position test xs ≡ None → find test xs ≡ None
find-none test xs h = find_at test xs ∙ got_past xs (position_or_len test xs) (by (ltb (position_or_len test xs) (length xs)) refl h)
  where
    got_past : {A : Type 0} (xs : List A) (i : ℕ) → length xs ≤ i → slice_get xs i ≡ None
    got_past [] i h = refl
    got_past (x ∷ xs) zero h = absurd (omega arith)
    got_past (x ∷ xs) (suc i) h = got_past xs i (omega arith)

    by : (b : Bool) → ltb (position_or_len test xs) (length xs) ≡ b → cond b (Some (position_or_len test xs)) None ≡ None → length xs ≤ position_or_len test xs
    by true e h = absurd cc
    by false e h = ltb-false (position_or_len test xs) (length xs) e

-- ---- the order as it is made

-- one more item's seat
pub seats_turn : {A : Type 0} (name_of : A → List ℕ) (items : List A) (i : ℕ) (x : A) (made : List (Bor (List ℕ) × ℕ)) (one : Bor (List ℕ) × ℕ) → i < length items → x ≡ get_or items i x → seat_of one ≡ (name_of x, i)
    → map seat_of made ≡ take i (seats name_of items) → map seat_of (made ++ one ∷ []) ≡ take (i + 1) (seats name_of items)
seats_turn name_of items i x made one within is seat so_far =
    let y = got items i within in
    let same : x ≡ y.0 = is ∙ (got_is items i y.0 x y.1).1 in
    let here : get_or (seats name_of items) i (seat_of one) ≡ seat_of one = seat_here name_of items i y.0 (seat_of one) y.1 ∙ (λ j. (name_of (sym same j), i)) ∙ sym seat in
    map-append seat_of made (one ∷ []) ∙ (λ j. so_far j ++ sym here j ∷ []) ∙ sym (take_more (seats name_of items) i (seat_of one) (omega (arith, seats_many name_of 0 items)))

-- one more place
pub places_turn : (sorted : List (Bor (List ℕ) × ℕ)) (i : ℕ) (d : Bor (List ℕ) × ℕ) (places : List ℕ) → i < length sorted
    → places ≡ take i (map (λ seat. seat.1) sorted) → places ++ (get_or sorted i d).1 ∷ [] ≡ take (i + 1) (map (λ seat. seat.1) sorted)
places_turn sorted i d places within so_far =
    (λ j. so_far j ++ sym (get_or-map (λ seat. seat.1) sorted i d 0 within) j ∷ []) ∙ sym (take_more (map (λ seat. seat.1) sorted) i 0 (omega (arith, within, length-map sorted (λ seat. seat.1))))

places_same : (sorted : List (Bor (List ℕ) × ℕ)) → map (λ seat. seat.1) sorted ≡ map (λ seat. seat.1) (map seat_of sorted)
places_same [] = refl
places_same (seat ∷ sorted) = ap (λ rest. seat.1 ∷ rest) (places_same sorted)

rises_same : (sorted : List (Bor (List ℕ) × ℕ)) → IsSorted (λ a b. compare_seats (seat_of a) (seat_of b)) sorted → IsSorted compare_seats (map seat_of sorted)
rises_same [] up k d low high = absurd (omega arith)
rises_same (seat ∷ sorted) up k d low high =
    let all = seat ∷ sorted in
    let within : k + 1 < length all = omega (arith, high, length-map all seat_of) in
    (λ j. is_lt (compare_seats (get_or-map seat_of all (k + 1) seat d within j) (get_or-map seat_of all k seat d (omega (arith, within)) j))) ∙ up k seat low within

-- seats that were sorted are the order
pub orders_many : {A : Type 0} (name_of : A → List ℕ) (items : List A) (made sorted : List (Bor (List ℕ) × ℕ)) (order : List ℕ) → length items < 4294967296 → map seat_of made ≡ seats name_of items → IsPermutation made sorted
    → IsSorted (λ a b. compare_seats (seat_of a) (seat_of b)) sorted → order ≡ map (λ seat. seat.1) sorted → OrdersMany name_of items order
orders_many name_of items made sorted order few is moved up places = record {
  few = few;
  ordered = λ some. record {
    sorted = map seat_of sorted;
    all = subst (λ all. IsPermutation all (map seat_of sorted)) is (IsPermutation-map seat_of made sorted moved);
    rises = rises_same sorted up;
    places = places ∙ places_same sorted;
  };
}
