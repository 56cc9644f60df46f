use Rattle.std.proofs.Common.{◌≡◌, ◌++◌, map, drop}
use Rattle.gql_model.specs.rules.Literals.{given}
use Rattle.gql_model.specs.rules.TypeParts.{input_of}
use Rattle.gql_schema.specs.InputGraphs.{field_number}
use Rattle.gql_schema.specs.Seen.{defined}
use Rattle.gql_schema.proofs.Pushed.{left_out_of}
use Rattle.gql_schema.proofs.rules.input_cycles.needed.push_left_out.Given as goal

abbrev pub invariant-loop-input : goal.invariant-loop-input
invariant-loop-input l =
    l.fn.row ++ map (field_number (map defined l.types)) (left_out_of l.of (map (λ m. (given m).name) l.members) (map input_of l.inputs))
    ≡ l.row ++ map (field_number (map defined l.types)) (left_out_of l.of (map (λ m. (given m).name) l.members) (map input_of (drop l.input-index l.inputs)))
