use Rattle.std.proofs.Common.{◌≡◌, ◌+◌, ◌-◌, ◌≤◌, length, drop}
use Rattle.gql_lex.specs.Runs.{run_len}
use Rattle.gql_lex.proofs.run.run_len.Given as goal

abbrev pub invariant-loop-more : goal.invariant-loop-more
invariant-loop-more l = record {
  within : l.len ≤ length l.text;
  value : l.len + run_len l.pieces 0 (drop l.len l.text) ≡ run_len l.pieces 0 l.text;
}

abbrev pub decreases-loop-more : goal.decreases-loop-more
decreases-loop-more l = length l.text - l.len
