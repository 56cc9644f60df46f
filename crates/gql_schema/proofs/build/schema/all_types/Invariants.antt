use Rattle.std.proofs.Common.{◌≡◌, ◌++◌, map, take}
use Rattle.gql_model.specs.SaidSchema.{seen_type, said_type, scalar}
use Rattle.gql_model.specs.rules.TypeParts.{built_in}
use Rattle.gql_schema.specs.Seen.{defined}
use Rattle.gql_schema.proofs.build.schema.all_types.Given as goal

abbrev pub invariant-loop-of : goal.invariant-loop-of
invariant-loop-of l = map seen_type l.made ≡ map scalar built_in ++ map (said_type (map defined l.types)) (map defined (take l.of-index l.of-items))
