use Rattle.std.proofs.Common.{◌≡◌, map, drop}
use Rattle.gql_model.specs.rules.Places.{stands_in}
use Rattle.gql_model.specs.rules.TypeParts.{field_of}
use Rattle.gql_schema.proofs.rules.implemented_fields.has_field.Given as goal

abbrev pub invariant-loop-field : goal.invariant-loop-field
invariant-loop-field l = stands_in l.name (map (λ g. g.name.name) (map field_of l.fields)) ≡ stands_in l.name (map (λ g. g.name.name) (map field_of (drop l.field-index l.fields)))
