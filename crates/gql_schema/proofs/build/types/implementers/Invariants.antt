use Rattle.std.proofs.Common.{◌≡◌, [], map, filter, take}
use Rattle.gql_model.specs.SaidSchema.{number_of, is_possible}
use Rattle.gql_schema.specs.Seen.{defined}
use Rattle.gql_schema.proofs.build.types.implementers.Given as goal

abbrev pub invariant-loop-of : goal.invariant-loop-of
invariant-loop-of l = map (λ t. t.number) l.made ≡ map (λ t. number_of (map defined l.types) t.name.name) (filter (is_possible [] l.interface) (map defined (take l.of-index l.of-items)))
