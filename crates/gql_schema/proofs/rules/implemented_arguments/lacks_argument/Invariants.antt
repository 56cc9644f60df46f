use Rattle.std.proofs.Common.{◌≡◌, not, map, drop}
use Rattle.std.specs.List.{list_any}
use Rattle.gql_model.specs.rules.TypeParts.{input_of}
use Rattle.gql_model.specs.rules.types.ImplementedArguments.{is_same_argument}
use Rattle.gql_schema.proofs.rules.implemented_arguments.lacks_argument.Given as goal

abbrev pub invariant-loop-other : goal.invariant-loop-other
invariant-loop-other l = list_any (λ a. not (list_any (is_same_argument a) (map input_of l.own))) (map input_of l.others) ≡ list_any (λ a. not (list_any (is_same_argument a) (map input_of l.own))) (map input_of (drop l.other-index l.others))
