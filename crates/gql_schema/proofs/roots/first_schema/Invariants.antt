use Rattle.std.proofs.Common.{◌≡◌}
use Rattle.gql_schema.specs.Seen.{first_of}
use Rattle.gql_schema.proofs.Schemas.{left}
use Rattle.gql_schema.proofs.roots.first_schema.Given as goal

abbrev pub invariant-loop-definition : goal.invariant-loop-definition
invariant-loop-definition l = first_of (left l.definition-items 0) ≡ first_of (left l.definition-items l.definition-index)
