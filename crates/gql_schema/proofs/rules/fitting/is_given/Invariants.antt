use Rattle.std.proofs.Common.{◌≡◌, map, drop}
use Rattle.gql_model.specs.rules.Places.{stands_in}
use Rattle.gql_model.specs.rules.Literals.{given}
use Rattle.gql_schema.proofs.rules.fitting.is_given.Given as goal

abbrev pub invariant-loop-member : goal.invariant-loop-member
invariant-loop-member l = stands_in l.name (map (λ m. (given m).name) l.members) ≡ stands_in l.name (map (λ m. (given m).name) (drop l.member-index l.members))
