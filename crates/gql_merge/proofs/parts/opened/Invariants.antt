use Rattle.std.proofs.Common.{◌≡◌, drop}
use Rattle.gql_merge.specs.Apply.{opened}
use Rattle.gql_merge.proofs.parts.opened.Given as goal

abbrev pub invariant-loop-pending : goal.invariant-loop-pending
invariant-loop-pending l = opened l.id (drop l.pending-index l.pendings) ≡ opened l.id l.pendings
