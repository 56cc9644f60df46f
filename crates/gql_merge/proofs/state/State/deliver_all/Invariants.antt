use Rattle.std.proofs.Common.{drop}
use Rattle.gql_merge.specs.Steps.{Each}
use Rattle.gql_merge.specs.Apply.{Answer, Delivers}
use Rattle.gql_merge.proofs.state.State.deliver_all.Given as goal

abbrev pub invariant-loop-entry : goal.invariant-loop-entry
invariant-loop-entry l = (r : Answer) → Each Delivers (drop l.entry-index l.entries) l.self r → Each Delivers l.entries l.initial.self r
