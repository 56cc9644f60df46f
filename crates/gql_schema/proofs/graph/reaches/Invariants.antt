use Rattle.std.proofs.Common.{◌≡◌, length}
use Rattle.gql_schema.specs.Graph.{AreMarked}
use Rattle.gql_schema.proofs.Walk.{IsWalked}
use Rattle.gql_schema.proofs.graph.reaches.Given as goal

abbrev pub invariant-loop-at : goal.invariant-loop-at
invariant-loop-at l = record {
  marked : AreMarked l.reached.listed.items l.reached.marks.items;
  same : length l.reached.marks.items ≡ length l.graph;
  walked : IsWalked l.graph l.start l.at l.reached.listed.items;
}
