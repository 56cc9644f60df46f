-- Input objects by their numbers, and what they always hold; input fields by their numbers, and the defaults that theirs need.
use Rattle.std.specs.Prelude.{ℕ, zero, ◌+◌, cond, List, [], ◌∷◌, map, flat_map, length, Some}
use Rattle.std.specs.Str.{bytes_eq}
use Rattle.gql_model.specs.SaidSchema.{place_in}
use Rattle.gql_model.specs.rules.TypeParts.{Input, Defined, has_kind, is_input}
use Rattle.gql_model.specs.rules.types.InputCycles.{always_held, needed_by_input}

-- the place of the first type of a name
abbrev pub type_place : List Defined → List ℕ → ℕ
type_place ts name = place_in (map (λ d. d.name.name) ts) name

-- the place of the first input field of a name
abbrev pub field_place : List Input → List ℕ → ℕ
field_place is name = place_in (map (λ i. i.name.name) is) name

-- ---- Non-Null fields that aren't lists

-- the input object of a name, if there is one
abbrev pub input_objects : List Defined → List ℕ → List (List ℕ)
input_objects ts name = cond (has_kind ts is_input name) (name ∷ []) []

abbrev pub held_row : List Defined → List Input → List ℕ
held_row ts is = map (type_place ts) (flat_map (λ i. always_held ts i.type) is)

-- of each type those that its values always hold
abbrev pub held_graph : List Defined → List (List ℕ)
held_graph ts = map (λ d. held_row ts d.inputs) ts

-- ---- defaults

abbrev pub all_inputs : List Defined → List Input
all_inputs ts = flat_map (λ d. d.inputs) ts

-- the input fields of all types are numbered in order of the text: the numbers of the first field of each type and of the end
abbrev pub firsts_from : ℕ → List Defined → List ℕ
firsts_from n [] = n ∷ []
firsts_from n (d ∷ ds) = n ∷ firsts_from (n + length d.inputs) ds

-- the number of an input field, by the names of its type and of its own
abbrev pub field_number : List Defined → List ℕ × List ℕ → ℕ
field_number [] x = zero
field_number (d ∷ ds) x = cond (bytes_eq d.name.name x.0) (field_place d.inputs x.1) (length d.inputs + field_number ds x)

abbrev pub needs_row : List Defined → Input → List ℕ
needs_row ts i = map (field_number ts) (needed_by_input ts (Some i))

-- of each input field those whose defaults its own needs
abbrev pub needs_graph : List Defined → List (List ℕ)
needs_graph ts = map (needs_row ts) (all_inputs ts)
