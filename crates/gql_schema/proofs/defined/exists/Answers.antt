use Rattle.std.proofs.Common.{sym, ◌∙◌}
use Rattle.gql_schema.proofs.LookUps.{exists_if_found}
use Rattle.gql_schema.proofs.defined.exists.Goals as goal

pub returns-else-is_built_in : goal.returns-else-is_built_in
returns-else-is_built_in c = c.is_some.ensures ∙ exists_if_found c.args.types.now c.args.name.now c.get.result c.get.ensures (sym c.is_built_in.ensures ∙ c.if-is_built_in.false)
