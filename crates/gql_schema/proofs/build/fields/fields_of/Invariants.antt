use Rattle.std.proofs.Common.{◌≡◌, map, take}
use Rattle.gql_model.specs.SaidSchema.{seen_field, said_field}
use Rattle.gql_model.specs.rules.TypeParts.{field_of}
use Rattle.gql_schema.specs.Seen.{defined}
use Rattle.gql_schema.proofs.build.fields.fields_of.Given as goal

abbrev pub invariant-loop-field : goal.invariant-loop-field
invariant-loop-field l = map seen_field l.made ≡ map (said_field (map defined l.types)) (map field_of (take l.field-index l.fields))
