use Rattle.std.proofs.Common.{◌≡◌, ◌++◌, length}
use Rattle.gql_doc.specs.StringValue.{raw_value}
use Rattle.gql_doc.proofs.block_string.raw_value.Given as goal

abbrev pub invariant-loop-rest : goal.invariant-loop-rest
invariant-loop-rest l = l.raw ++ raw_value l.rest ≡ raw_value l.content

abbrev pub decreases-loop-rest : goal.decreases-loop-rest
decreases-loop-rest l = length l.rest
