use Rattle.std.proofs.Common.{◌≡◌, map, drop}
use Rattle.std.specs.List.{list_any}
use Rattle.gql_model.specs.rules.TypeParts.{field_of}
use Rattle.gql_schema.proofs.rules.interface_fields.any_field.Given as goal

abbrev pub invariant-loop-field : goal.invariant-loop-field
invariant-loop-field g l = list_any (g.R.FieldTest.test l.rule) (map field_of l.fields) ≡ list_any (g.R.FieldTest.test l.rule) (map field_of (drop l.field-index l.fields))
