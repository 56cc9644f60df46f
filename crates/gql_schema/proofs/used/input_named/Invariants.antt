use Rattle.std.proofs.Common.{◌≡◌, map, drop}
use Rattle.gql_model.specs.rules.TypeParts.{input_named, input_of}
use Rattle.gql_schema.proofs.used.input_named.Given as goal

abbrev pub invariant-loop-input : goal.invariant-loop-input
invariant-loop-input l = input_named (map input_of l.inputs) l.name ≡ input_named (map input_of (drop l.input-index l.inputs)) l.name
