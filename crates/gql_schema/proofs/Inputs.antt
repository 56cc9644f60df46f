-- The inputs of a type that is found by its name.
use Rattle.std.proofs.Common.{◌≡◌, refl, ℕ, Bool, true, false, cond, List, [], ◌∷◌, ◌++◌, map, Option, Some, None}
use Rattle.std.specs.Str.{bytes_eq}
use Rattle.gql_model.specs.rules.Places.{repeats, in_turn}
use Rattle.gql_model.specs.rules.TypeParts as parts
use Rattle.gql_model.specs.rules.TypeParts.{Input, named_input, inputs_of, type_named}
use Rattle.gql_model.specs.rules.types.DistinctNames.{repeated_at_field, repeated_in, repeated_names}
use Rattle.gql_schema.proofs.Apart.{first_empty, second_empty}

abbrev inputs_in_option : Option parts.Defined → List Input
inputs_in_option o = elim o [ None ↦ [] | Some d ↦ d.inputs ]

apart_by : (b : Bool) (d : parts.Defined) (o : Option parts.Defined) → repeats (map named_input d.inputs) ≡ [] → repeats (map named_input (inputs_in_option o)) ≡ [] → repeats (map named_input (inputs_in_option (cond b (Some d) o))) ≡ []
apart_by true d o here later = here
apart_by false d o here later = later

-- the inputs of a type of a name, where no type repeats names
pub inputs_named_apart : (ts : List parts.Defined) (name : List ℕ) → repeated_names ts ≡ [] → repeats (map named_input (inputs_of ts name)) ≡ []
inputs_named_apart [] name e = refl
inputs_named_apart (d ∷ ts) name e =
    apart_by (bytes_eq d.name.name name) d (type_named ts name)
    (first_empty (repeats (map named_input d.inputs)) (repeats d.values)
    (second_empty (in_turn (λ (f : parts.Field). f.name.name) repeated_at_field [] d.fields) (repeats (map named_input d.inputs) ++ repeats d.values)
    (first_empty (repeated_in d) (repeated_names ts) e)))
    (inputs_named_apart ts name (second_empty (repeated_in d) (repeated_names ts) e))
