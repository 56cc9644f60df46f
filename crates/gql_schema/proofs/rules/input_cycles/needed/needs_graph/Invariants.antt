use Rattle.std.proofs.Common.{◌≡◌, map, take}
use Rattle.gql_schema.specs.InputGraphs.{all_inputs, needs_row}
use Rattle.gql_schema.specs.Seen.{defined}
use Rattle.gql_schema.proofs.rules.input_cycles.needed.needs_graph.Given as goal

abbrev pub invariant-loop-of : goal.invariant-loop-of
invariant-loop-of l = l.graph ≡ map (needs_row (map defined l.types)) (all_inputs (map defined (take l.of-index l.listed)))
