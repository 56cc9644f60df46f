use Rattle.std.proofs.Common.{take}
use Rattle.gql_merge.specs.Runs.{Runs}
use Rattle.gql_merge.proofs.laws.apply_all.Given as goal

abbrev pub invariant-loop-payload : goal.invariant-loop-payload
invariant-loop-payload l = Runs (take l.payload-index l.payloads) l.initial.merger.state l.merger.state
