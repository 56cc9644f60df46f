-- Names in one list of fields, arguments, enum values or input fields are distinct (sections 3.6, 3.6.1, 3.9 and 3.10 of the
-- standard). At fault is the first that repeats an earlier one; a field's arguments stand behind its name.
use Rattle.std.specs.Prelude.{Bool, List, [], ◌++◌, map, flat_map}
use Rattle.gql_tree.specs.declared.Spot.{Spot}
use Rattle.gql_model.specs.rules.Places.{place_if, in_turn, repeats}
use Rattle.gql_model.specs.rules.TypeParts.{Field, Defined, named_input}

-- by whether another field has its name before
abbrev pub repeated_at_field : Bool → Field → List Spot
repeated_at_field again f = place_if again f.name.spot ++ repeats (map named_input f.arguments)

abbrev pub repeated_in : Defined → List Spot
repeated_in d = in_turn (λ f. f.name.name) repeated_at_field [] d.fields ++ (repeats (map named_input d.inputs) ++ repeats d.values)

abbrev pub repeated_names : List Defined → List Spot
repeated_names = flat_map repeated_in
