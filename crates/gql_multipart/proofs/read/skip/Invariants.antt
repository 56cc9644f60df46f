use Rattle.std.proofs.Common.{◌≡◌, ◌+◌, ◌-◌, ◌≤◌, ◌==◌}
use Rattle.gql_multipart.specs.inner.Reading.{skip}
use Rattle.std.specs.Prelude.{true}
use Rattle.gql_multipart.proofs.read.skip.Given as goal

abbrev pub invariant-loop-number : goal.invariant-loop-number
invariant-loop-number l = record {
  grows : l.initial.at + l.number ≤ l.at;
  rest : skip l.sought (l.count - l.number) (l.number == 0) l.bytes l.at ≡ skip l.sought l.count true l.bytes l.initial.at;
}
