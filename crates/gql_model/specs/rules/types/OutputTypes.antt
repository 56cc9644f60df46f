-- A field's type isn't built on an input object (sections 3.4.2 and 3.6 of the standard). At fault is that type's name where
-- the field has it.
use Rattle.std.specs.Prelude.{List, map, flat_map}
use Rattle.gql_tree.specs.declared.Spot.{Spot}
use Rattle.gql_model.specs.declared.type_syntax.NameAt.{NameAt}
use Rattle.gql_model.specs.rules.Places.{faults}
use Rattle.gql_model.specs.rules.References.{innermost}
use Rattle.gql_model.specs.rules.TypeParts.{Defined, is_input, has_kind}

abbrev pub field_types : Defined → List NameAt
field_types d = map (λ f. innermost f.type) d.fields

abbrev pub input_fields_given_out : List Defined → List Spot
input_fields_given_out ts = flat_map (λ d. faults (λ n. has_kind ts is_input n.name) (field_types d)) ts
