use Rattle.std.proofs.Common.{◌≡◌, map, drop}
use Rattle.std.specs.List.{list_any}
use Rattle.gql_model.specs.rules.TypeParts.{input_of}
use Rattle.gql_model.specs.rules.types.ImplementedArguments.{is_same_argument}
use Rattle.gql_schema.proofs.rules.implemented_arguments.has_same.Given as goal

abbrev pub invariant-loop-argument : goal.invariant-loop-argument
invariant-loop-argument l = list_any (is_same_argument (input_of l.other)) (map input_of l.own) ≡ list_any (is_same_argument (input_of l.other)) (map input_of (drop l.argument-index l.own))
