use Rattle.std.proofs.Common.{◌≡◌, take, drop, map}
use Rattle.std.specs.List.{AllByRecursion}
use Rattle.serde_json.specs.View.{view}
use Rattle.gql_payload.proofs.parts.array.Given as goal

abbrev pub invariant-loop-item : goal.invariant-loop-item
invariant-loop-item g l = record {
  made : map view l.list.items ≡ map g.T.ToSerde.datum (take l.item-index l.items);
  typed : AllByRecursion g.T.ToSerde.is_typed (drop l.item-index l.items) → AllByRecursion g.T.ToSerde.is_typed l.items;
}
