use Rattle.std.proofs.Common.{sym, ◌∙◌}
use Rattle.gql_schema.proofs.InTurn.{stands_before_type}
use Rattle.gql_schema.proofs.rules.distinct_types.is_repeated.Goals as goal

pub returns-else-is_built_in : goal.returns-else-is_built_in
returns-else-is_built_in c = c.stands_before.ensures ∙ stands_before_type c.args.types.now c.args.name.now c.args.before c.place.result c.place.ensures.place (sym c.is_built_in.ensures ∙ c.if-is_built_in.false)
