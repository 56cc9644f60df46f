use Rattle.std.proofs.Common.{◌≡◌, map, take}
use Rattle.gql_model.specs.SaidSchema.{number_of}
use Rattle.gql_model.specs.rules.Places.{names_of}
use Rattle.gql_schema.specs.Seen.{defined}
use Rattle.gql_schema.proofs.build.types.numbers_of.Given as goal

abbrev pub invariant-loop-of : goal.invariant-loop-of
invariant-loop-of l = map (λ t. t.number) l.made ≡ map (number_of (map defined l.types)) (names_of (take l.of-index l.names))
