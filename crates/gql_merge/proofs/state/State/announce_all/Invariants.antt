use Rattle.std.proofs.Common.{drop}
use Rattle.gql_merge.specs.Steps.{Each}
use Rattle.gql_merge.specs.Apply.{Answer, Announces}
use Rattle.gql_merge.proofs.state.State.announce_all.Given as goal

abbrev pub invariant-loop-pending : goal.invariant-loop-pending
invariant-loop-pending l = (r : Answer) → Each Announces (drop l.pending-index l.pendings) l.self r → Each Announces l.pendings l.initial.self r
