use Rattle.std.proofs.Common.{◌≡◌, List, ◌++◌, drop, Some, None}
use Rattle.serde_json.specs.View.{items_view}
use Rattle.gql_payload.specs.Reading.{each}
use Rattle.gql_payload.proofs.from_serde.each.Given as goal

abbrev pub invariant-loop-item : goal.invariant-loop-item
invariant-loop-item g l = record {
  found : (rest : List g.row.T.Denot) → each g.T.FromSerde.meaning (items_view (drop l.item-index l.items)) ≡ Some rest → each g.T.FromSerde.meaning (items_view l.items) ≡ Some (l.list ++ rest);
  lost : each g.T.FromSerde.meaning (items_view (drop l.item-index l.items)) ≡ None → each g.T.FromSerde.meaning (items_view l.items) ≡ None;
}
