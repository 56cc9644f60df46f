-- The order of a list of named things by their names.
use Rattle.std.specs.Prelude.{◌≡◌, ℕ, ◌+◌, ◌<◌, Bool, false, List, [], ◌∷◌, length, map, Option, Some, None, option_map, if◌then◌else◌}
use Rattle.std.specs.List.{slice_get}
use Rattle.std.specs.Str.{bytes_eq}
use Rattle.std.specs.List.Sorted.{IsPermutation, IsSorted}
use Rattle.std.specs.Ordering.{ordering_then, nat_cmp, is_lt}
use Rattle.std.specs.Cmp.Lexicographic.{slice_cmp}
use Rattle.std.specs.declared.cmp.Ordering.{Ordering}
use denote.Ref.{Bor}

-- a name, and the place of the item that has it
abbrev pub Seat : Type 0
Seat = List ℕ × ℕ

abbrev pub compare_names : List ℕ → List ℕ → Ordering
compare_names = slice_cmp nat_cmp

-- by names, and of one name by places
abbrev pub compare_seats : Seat → Seat → Ordering
compare_seats a b = ordering_then (compare_names a.0 b.0) (nat_cmp a.1 b.1)

abbrev pub seats_from : {A : Type 0} → (A → List ℕ) → ℕ → List A → List Seat
seats_from name_of n [] = []
seats_from name_of n (x ∷ xs) = (name_of x, n) ∷ seats_from name_of (n + 1) xs

-- the names of a list's items with their places
abbrev pub seats : {A : Type 0} → (A → List ℕ) → List A → List Seat
seats name_of items = seats_from name_of 0 items

-- the places of the items in the order of their names, and of one name in their own order
pub record IsOrder {A : Type 0} (name_of : A → List ℕ) (items : List A) (order : List ℕ) : Type 0 where
  pub sorted : List Seat
  pub all : IsPermutation (seats name_of items) sorted
  pub rises : IsSorted compare_seats sorted
  pub places : order ≡ map (λ seat. seat.1) sorted

-- a list that isn't empty is the order; the places are numbers of 32 bits
pub record OrdersMany {A : Type 0} (name_of : A → List ℕ) (items : List A) (order : List ℕ) : Type 0 where
  pub few : length items < 4294967296
  pub ordered : 0 < length order → IsOrder name_of items order

-- a seat of a name that is lent
abbrev pub seat_of : Bor (List ℕ) × ℕ → Seat
seat_of lent = (lent.0.now, lent.1)

abbrev pub before_by : Option (List ℕ) → List ℕ → Bool
before_by None name = false
before_by (Some other) name = is_lt (compare_names other name)

-- whether the name of the item at a place comes before a name
abbrev pub comes_before : {A : Type 0} → (A → List ℕ) → List A → List ℕ → ℕ → Bool
comes_before name_of items name place = before_by (option_map name_of (slice_get items place)) name

abbrev pub named_by : Option (List ℕ) → List ℕ → Bool
named_by None name = false
named_by (Some other) name = bytes_eq other name

-- whether the item at a place has a name
abbrev pub is_named : {A : Type 0} → (A → List ℕ) → List A → List ℕ → ℕ → Bool
is_named name_of items name place = named_by (option_map name_of (slice_get items place)) name

-- the place where there is one and the item there has the name
abbrev pub if_named : {A : Type 0} → (A → List ℕ) → List A → List ℕ → Option ℕ → Option ℕ
if_named name_of items name None = None
if_named name_of items name (Some place) = if is_named name_of items name place then Some place else None
