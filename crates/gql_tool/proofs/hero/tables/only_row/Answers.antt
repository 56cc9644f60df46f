use Rattle.std.proofs.Common.{arith}
use Rattle.gql_tool.proofs.hero_lemmas.Rows.{only_row-None}
use Rattle.gql_tool.proofs.hero.tables.only_row.Goals as goal
use Rattle.gql_tool.proofs.hero.tables.only_row.Goals.{in_default-via-then-rows-lt1, in_default-via-else-rows-lt1+else-rows-lt2}

pub returns-in_default : goal.returns-in_default
returns-in_default c = only_row-None c.args.rows.now (elim c.in_default.branch [ in_default-via-then-rows-lt1 w ↦ λ one. grind arith | in_default-via-else-rows-lt1+else-rows-lt2 w ↦ λ one. grind arith ])
