use Rattle.std.proofs.Common.{◌+◌, ◌≤◌}
use Rattle.gql_lex.specs.inner.Behind.{IsBehind}
use Rattle.gql_lex.proofs.place.behind_each.Given as goal

abbrev pub invariant-loop-index : goal.invariant-loop-index
invariant-loop-index l = record {
  place : IsBehind l.fn.spot l.text l.index l.at;
  line : l.at.line ≤ l.fn.spot.line + l.index;
  column : l.at.column ≤ l.fn.spot.column + l.index;
}
