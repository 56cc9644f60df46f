use Rattle.std.proofs.Common.{◌≡◌, map, drop}
use Rattle.gql_model.specs.rules.types.QueryRoot.{misnamed_query}
use Rattle.gql_schema.specs.Seen.{defined}
use Rattle.gql_schema.proofs.rules.query_root.misnamed_query.Given as goal

abbrev pub invariant-loop-root : goal.invariant-loop-root
invariant-loop-root l = misnamed_query (map defined l.types) l.schema.word l.schema.roots.now ≡ misnamed_query (map defined l.types) l.schema.word (drop l.root-index l.schema.roots.now)
