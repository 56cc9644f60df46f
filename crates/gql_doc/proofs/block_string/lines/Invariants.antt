use Rattle.std.proofs.Common.{◌≡◌, ◌++◌, length}
use Rattle.gql_doc.specs.StringValue.{lines, with_front}
use Rattle.gql_doc.proofs.block_string.lines.Given as goal

abbrev pub invariant-loop-rest : goal.invariant-loop-rest
invariant-loop-rest l = l.done ++ with_front l.line (lines l.rest) ≡ lines l.text

abbrev pub decreases-loop-rest : goal.decreases-loop-rest
decreases-loop-rest l = length l.rest
