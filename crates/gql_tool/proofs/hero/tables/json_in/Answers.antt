use Rattle.std.proofs.Common.{rules}
use Rattle.gql_tool.proofs.hero_lemmas.Rows.{json_in-Some, json_in-None}
use Rattle.gql_tool.proofs.hero.tables.json_in.Goals as goal

pub returns-in-Ok : goal.returns-in-Ok
returns-in-Ok c = json_in-Some c.args.bytes.now _ c.in-Ok.ensures.ok.0 c.in-Ok.ensures.ok.1

pub returns-else-is_memory : goal.returns-else-is_memory
returns-else-is_memory c = json_in-None c.args.bytes.now (c.in-Err.ensures.err (search rules))
