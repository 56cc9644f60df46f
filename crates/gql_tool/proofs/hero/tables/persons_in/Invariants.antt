use Rattle.std.proofs.Common.{◌≡◌, take, Some}
use Rattle.serde_json.specs.View.{items_view}
use Rattle.gql_tool.specs.hero.HeroTables.{persons_in}
use Rattle.gql_tool.proofs.hero.tables.persons_in.Given as goal

abbrev pub invariant-loop-row : goal.invariant-loop-row
invariant-loop-row l = persons_in (items_view (take l.row-index l.rows)) ≡ Some l.persons
