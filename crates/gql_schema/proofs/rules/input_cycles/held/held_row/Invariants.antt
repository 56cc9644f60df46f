use Rattle.std.proofs.Common.{◌≡◌, map, take}
use Rattle.gql_model.specs.rules.TypeParts.{input_of}
use Rattle.gql_schema.specs.InputGraphs.{held_row}
use Rattle.gql_schema.specs.Seen.{defined}
use Rattle.gql_schema.proofs.rules.input_cycles.held.held_row.Given as goal

abbrev pub invariant-loop-input : goal.invariant-loop-input
invariant-loop-input l = l.row ≡ held_row (map defined l.types) (map input_of (take l.input-index l.inputs))
