-- A rule is the list of the places that break it, in order of the text. What is read keeps the rule where the list is empty;
-- else its first place is told. A rule is stated for what keeps the rules before it, so of what breaks one of them it may say
-- anything.
use Rattle.std.specs.Prelude.{ℕ, suc, Bool, cond, List, [], ◌∷◌, ◌++◌, map, flat_map, Option, Some, None}
use Rattle.std.specs.List.{list_any}
use Rattle.std.specs.Str.{bytes_eq}
use Rattle.gql_tree.specs.declared.Spot.{Spot}
use Rattle.gql_model.specs.declared.type_syntax.NameAt.{NameAt}

-- the first broken rule, by its number, and its first place; rules are counted from this number on
abbrev pub first_broken : ℕ → List (List Spot) → Option (ℕ × Spot)
first_broken k [] = None
first_broken k ([] ∷ rules) = first_broken (suc k) rules
first_broken k ((s ∷ ss) ∷ rules) = Some (k, s)

-- the place, where it is at fault
abbrev pub place_if : Bool → Spot → List Spot
place_if b spot = cond b (spot ∷ []) []

abbrev pub stands_in : List ℕ → List (List ℕ) → Bool
stands_in name names = list_any (λ other. bytes_eq other name) names

abbrev pub names_of : List NameAt → List (List ℕ)
names_of ns = map (λ n. n.name) ns

-- the places of the names that fail the test
abbrev pub faults : (NameAt → Bool) → List NameAt → List Spot
faults fails ns = flat_map (λ n. place_if (fails n) n.spot) ns

-- the places of each in turn, by whether its name is one of these or stands before it
abbrev pub in_turn : {A : Type 0} → (A → List ℕ) → (Bool → A → List Spot) → List (List ℕ) → List A → List Spot
in_turn name places before [] = []
in_turn name places before (x ∷ xs) = places (stands_in (name x) before) x ++ in_turn name places (before ++ name x ∷ []) xs

-- of names that must be distinct and differ from these, each that repeats one
abbrev pub repeats_after : List (List ℕ) → List NameAt → List Spot
repeats_after before ns = in_turn (λ n. n.name) (λ again n. place_if again n.spot) before ns

abbrev pub repeats : List NameAt → List Spot
repeats = repeats_after []
