use Rattle.std.proofs.Common.{◌≡◌, map, take}
use Rattle.gql_schema.specs.InputGraphs.{held_row}
use Rattle.gql_schema.specs.Seen.{defined}
use Rattle.gql_schema.proofs.rules.input_cycles.held.held_graph.Given as goal

abbrev pub invariant-loop-of : goal.invariant-loop-of
invariant-loop-of l = l.graph ≡ map (λ d. held_row (map defined l.types) d.inputs) (map defined (take l.of-index l.listed))
