use Rattle.std.proofs.Common.{◌≡◌, drop}
use Rattle.gql_tree.specs.Flat.{find}
use Rattle.gql_tree.proofs.value.Value.at.Given as goal

abbrev pub invariant-loop-key : goal.invariant-loop-key
invariant-loop-key l = find l.here (drop l.key-index l.path) ≡ find l.self l.path
