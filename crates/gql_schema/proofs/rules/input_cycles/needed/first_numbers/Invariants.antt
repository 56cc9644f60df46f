use Rattle.std.proofs.Common.{◌≡◌, ◌++◌, map, drop}
use Rattle.gql_schema.specs.InputGraphs.{firsts_from}
use Rattle.gql_schema.specs.Seen.{defined}
use Rattle.gql_schema.proofs.rules.input_cycles.needed.first_numbers.Given as goal

abbrev pub invariant-loop-of : goal.invariant-loop-of
invariant-loop-of l = firsts_from 0 (map defined l.listed) ≡ l.firsts ++ firsts_from l.next (map defined (drop l.of-index l.listed))
