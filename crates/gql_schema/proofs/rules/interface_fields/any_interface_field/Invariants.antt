use Rattle.std.proofs.Common.{◌≡◌, map, flat_map, drop}
use Rattle.std.specs.List.{list_any}
use Rattle.gql_model.specs.rules.TypeParts.{fields_of}
use Rattle.gql_schema.specs.Seen.{defined}
use Rattle.gql_schema.proofs.rules.interface_fields.any_interface_field.Given as goal

abbrev pub invariant-loop-interface : goal.invariant-loop-interface
invariant-loop-interface g l = list_any (g.R.FieldTest.test l.rule) (flat_map (λ i. fields_of (map defined l.types) i.name) l.implements) ≡ list_any (g.R.FieldTest.test l.rule) (flat_map (λ i. fields_of (map defined l.types) i.name) (drop l.interface-index l.implements))
