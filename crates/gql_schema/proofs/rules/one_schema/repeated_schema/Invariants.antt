use Rattle.std.proofs.Common.{◌≡◌, false}
use Rattle.gql_model.specs.rules.types.OneSchema.{repeated_schemas_after}
use Rattle.gql_schema.specs.FirstPlace.{first_place}
use Rattle.gql_schema.proofs.Schemas.{left}
use Rattle.gql_schema.proofs.rules.one_schema.repeated_schema.Given as goal

abbrev pub invariant-loop-definition : goal.invariant-loop-definition
invariant-loop-definition l = first_place (repeated_schemas_after false (left l.definition-items 0)) ≡ first_place (repeated_schemas_after l.before (left l.definition-items l.definition-index))
