use Rattle.std.proofs.Common.{◌≡◌, drop, map}
use Rattle.gql_model.specs.Lists.{keyed}
use Rattle.gql_schema.specs.Coerced.{name_and_value}
use Rattle.gql_schema.proofs.build.defaults.given_for.Given as goal

abbrev pub invariant-loop-member : goal.invariant-loop-member
invariant-loop-member l = keyed l.name (map name_and_value l.members) ≡ keyed l.name (map name_and_value (drop l.member-index l.members))
