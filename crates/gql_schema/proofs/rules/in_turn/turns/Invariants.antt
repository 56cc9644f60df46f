use Rattle.std.proofs.Common.{◌≡◌, map, take}
use Rattle.gql_schema.proofs.rules.in_turn.turns.Given as goal

abbrev pub invariant-loop-of : goal.invariant-loop-of
invariant-loop-of g l = map (λ turn. turn.name.now) l.listed ≡ map g.R.RuleInTurn.name_of (take l.of-index l.items)
