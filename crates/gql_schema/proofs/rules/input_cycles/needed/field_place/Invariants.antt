use Rattle.std.proofs.Common.{◌≡◌, ◌+◌, map, drop}
use Rattle.gql_model.specs.rules.TypeParts.{input_of}
use Rattle.gql_schema.specs.InputGraphs.{field_place}
use Rattle.gql_schema.proofs.rules.input_cycles.needed.field_place.Given as goal

abbrev pub invariant-loop-i : goal.invariant-loop-i
invariant-loop-i l = field_place (map input_of l.inputs) l.name ≡ l.i + field_place (map input_of (drop l.i l.inputs)) l.name
