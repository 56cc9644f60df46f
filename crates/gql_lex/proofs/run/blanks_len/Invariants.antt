use Rattle.std.proofs.Common.{◌≡◌, ◌+◌, ◌-◌, ◌≤◌, length, drop}
use Rattle.gql_lex.specs.declared.run.Pieces.TheVariants.{Blanks}
use Rattle.gql_lex.specs.Runs.{run_len}
use Rattle.gql_lex.proofs.run.blanks_len.Given as goal

abbrev pub invariant-loop-more : goal.invariant-loop-more
invariant-loop-more l = record {
  within : l.len ≤ length l.text;
  value : l.len + run_len Blanks 0 (drop l.len l.text) ≡ run_len Blanks 0 l.text;
}

abbrev pub decreases-loop-more : goal.decreases-loop-more
decreases-loop-more l = length l.text - l.len
