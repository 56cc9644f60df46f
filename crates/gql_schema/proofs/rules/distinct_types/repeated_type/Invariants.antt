use Rattle.std.proofs.Common.{◌≡◌, ◌++◌, map, take, drop}
use Rattle.gql_model.specs.rules.Places.{place_if, in_turn}
use Rattle.gql_model.specs.rules.TypeParts.{built_in}
use Rattle.gql_model.specs.rules.types.DistinctTypes.{repeated_types}
use Rattle.gql_schema.specs.Seen.{defined}
use Rattle.gql_schema.specs.FirstPlace.{first_place}
use Rattle.gql_schema.proofs.rules.distinct_types.repeated_type.Given as goal

abbrev pub invariant-loop-i : goal.invariant-loop-i
invariant-loop-i l = first_place (repeated_types (map defined l.types)) ≡ first_place (in_turn (λ of. of.name.now.name) (λ again of. place_if again of.name.now.spot) (built_in ++ map (λ of. of.name.now.name) (take l.i l.types)) (drop l.i l.types))
