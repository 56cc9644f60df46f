use Rattle.std.proofs.Common.{◌≡◌, ◌&&◌, not, map, drop}
use Rattle.std.specs.List.{list_any}
use Rattle.gql_model.specs.rules.Places.{stands_in}
use Rattle.gql_model.specs.rules.TypeParts.{input_of, is_required}
use Rattle.gql_schema.proofs.rules.implemented_arguments.requires_more.Given as goal

abbrev pub invariant-loop-argument : goal.invariant-loop-argument
invariant-loop-argument l = list_any (λ b. is_required b && not (stands_in b.name.name (map (λ a. a.name.name) (map input_of l.others)))) (map input_of l.own) ≡ list_any (λ b. is_required b && not (stands_in b.name.name (map (λ a. a.name.name) (map input_of l.others)))) (map input_of (drop l.argument-index l.own))
