use Rattle.std.proofs.Common.{◌≡◌, length, drop}
use Rattle.gql_schema.specs.Graph.{AreMarked, all_added}
use Rattle.gql_schema.proofs.graph.add_all.Given as goal

abbrev pub invariant-loop-number : goal.invariant-loop-number
invariant-loop-number l = record {
  marked : AreMarked l.numbers.listed.items l.numbers.marks.items;
  added : all_added l.fn.numbers.listed.items l.more ≡ all_added l.numbers.listed.items (drop l.number-index l.more);
  same : length l.numbers.marks.items ≡ length l.fn.numbers.marks.items;
}
