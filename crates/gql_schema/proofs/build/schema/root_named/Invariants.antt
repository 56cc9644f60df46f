use Rattle.std.proofs.Common.{◌≡◌, map, drop}
use Rattle.gql_model.specs.SaidSchema.{root_named}
use Rattle.gql_schema.specs.Seen.{defined}
use Rattle.gql_schema.proofs.build.schema.root_named.Given as goal

abbrev pub invariant-loop-root : goal.invariant-loop-root
invariant-loop-root l = root_named (map defined l.types) l.word l.roots ≡ root_named (map defined l.types) l.word (drop l.root-index l.roots)
