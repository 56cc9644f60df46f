use Rattle.std.proofs.Common.{◌≡◌, ℕ, List, take, true, bytes_eq}
use Rattle.std.specs.HashMap.{get_by}
use Rattle.gql_tool.specs.hero.HeroTables.{row_ids, all_distinct, number_of}
use Rattle.gql_tool.proofs.hero.tables.numbers_of.Given as goal

abbrev pub invariant-loop-index : goal.invariant-loop-index
invariant-loop-index l = record {
  distinct : all_distinct (row_ids (take l.index l.persons)) ≡ true;
  numbers : (id : List ℕ) → get_by (λ key. bytes_eq id key.now) l.numbers ≡ number_of id (row_ids (take l.index l.persons));
}
