-- The type of an argument and of an input field is built on a scalar, an enum or an input object (sections 3.4.2, 3.6.1 and 3.10
-- of the standard). At fault is the name of another type where the argument or the input field has it.
use Rattle.std.specs.Prelude.{List, map, flat_map}
use Rattle.gql_tree.specs.declared.Spot.{Spot}
use Rattle.gql_model.specs.declared.type_syntax.NameAt.{NameAt}
use Rattle.gql_model.specs.rules.Places.{faults}
use Rattle.gql_model.specs.rules.References.{innermost}
use Rattle.gql_model.specs.rules.TypeParts.{Defined, inputs_in, is_composite, has_kind}

abbrev pub input_types : Defined → List NameAt
input_types d = map (λ i. innermost i.type) (inputs_in d)

abbrev pub outputs_taken_in : List Defined → List Spot
outputs_taken_in ts = flat_map (λ d. faults (λ n. has_kind ts is_composite n.name) (input_types d)) ts
