use Rattle.std.proofs.Common.{◌≡◌, ◌++◌, map, take, drop}
use Rattle.gql_doc.proofs.block_string.push_without.Given as goal

abbrev pub invariant-loop-line : goal.invariant-loop-line
invariant-loop-line l = l.shown ≡ l.initial.shown ++ map (λ line. drop l.indent line) (take l.line-index l.lines)
