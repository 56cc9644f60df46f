use Rattle.std.proofs.Common.{◌≡◌, flat_map, drop}
use Rattle.gql_schema.specs.FirstPlace.{first_place}
use Rattle.gql_schema.proofs.rules.rule.first_among.Given as goal

abbrev pub invariant-loop-of : goal.invariant-loop-of
invariant-loop-of g l = first_place (flat_map (g.R.Rule.places l.rule) l.items) ≡ first_place (flat_map (g.R.Rule.places l.rule) (drop l.of-index l.items))
