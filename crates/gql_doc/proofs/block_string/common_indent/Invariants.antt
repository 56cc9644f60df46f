use Rattle.std.proofs.Common.{◌≡◌, drop}
use Rattle.gql_doc.specs.StringValue.{common_indent}
use Rattle.gql_doc.proofs.Blocks.{with_least}
use Rattle.gql_doc.proofs.block_string.common_indent.Given as goal

abbrev pub invariant-loop-line : goal.invariant-loop-line
invariant-loop-line l = with_least l.least (common_indent (drop l.line-index l.lines)) ≡ common_indent l.lines
