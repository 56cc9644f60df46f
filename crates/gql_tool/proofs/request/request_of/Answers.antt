use Rattle.gql_tool.proofs.hero_lemmas.Served.{answer-runs}
use Rattle.gql_tool.proofs.request.request_of.Goals as goal

pub returns-in-Ok-clause-runs : goal.returns-in-Ok-clause-runs
returns-in-Ok-clause-runs c = answer-runs c.args.vars.now c.args.schema.now c.args.tables.now _ _ c.with_text.ensures.built
