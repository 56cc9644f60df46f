use Rattle.std.proofs.Common.{◌≡◌, drop}
use Rattle.gql_multipart.specs.inner.Reading.{IsAlive, scan}
use Rattle.gql_multipart.proofs.read.region.Given as goal

abbrev pub invariant-loop-index : goal.invariant-loop-index
invariant-loop-index l = record {
  within : IsAlive l.sought l.place;
  rest : scan l.sought l.kind l.place l.index (drop l.index l.bytes) ≡ scan l.sought l.kind l.fn.place l.from (drop l.from l.bytes);
}
