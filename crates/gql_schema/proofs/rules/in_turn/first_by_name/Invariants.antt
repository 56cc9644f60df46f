use Rattle.std.proofs.Common.{◌≡◌, [], map, take, drop}
use Rattle.gql_model.specs.rules.Places.{in_turn}
use Rattle.gql_schema.specs.FirstPlace.{first_place}
use Rattle.gql_schema.proofs.rules.in_turn.first_by_name.Given as goal

abbrev pub invariant-loop-i : goal.invariant-loop-i
invariant-loop-i g l = first_place (in_turn g.R.RuleInTurn.name_of (g.R.RuleInTurn.places l.rule) [] l.items) ≡ first_place (in_turn g.R.RuleInTurn.name_of (g.R.RuleInTurn.places l.rule) (map g.R.RuleInTurn.name_of (take l.i l.items)) (drop l.i l.items))
