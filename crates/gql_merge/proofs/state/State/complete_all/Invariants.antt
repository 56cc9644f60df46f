use Rattle.std.proofs.Common.{drop}
use Rattle.gql_merge.specs.Steps.{Each}
use Rattle.gql_merge.specs.Apply.{Answer, Completes}
use Rattle.gql_merge.proofs.state.State.complete_all.Given as goal

abbrev pub invariant-loop-done : goal.invariant-loop-done
invariant-loop-done l = (r : Answer) → Each Completes (drop l.done-index l.completed) l.self r → Each Completes l.completed l.initial.self r
