use Rattle.std.proofs.Common.{◌≡◌, take, drop, map, IsTrue}
use Rattle.serde_json.specs.View.{view, members_view}
use Rattle.serde_json.specs.Data.{no_members}
use Rattle.gql_tree.specs.Json.{put_all, data_of}
use Rattle.gql_tree.specs.Typed.{all_items, all_members, is_typed}
use Rattle.gql_tree.proofs.value.Value.+to_serde.Given as goal

abbrev pub invariant-loop-item : goal.invariant-loop-item
invariant-loop-item l = record {
  made : map view l.list.items ≡ map data_of (take l.item-index l.item-items);
  typed : IsTrue (all_items is_typed (drop l.item-index l.item-items)) → IsTrue (all_items is_typed l.item-items);
}

abbrev pub invariant-loop-member : goal.invariant-loop-member
invariant-loop-member l = record {
  made : members_view l.map.entries ≡ put_all data_of no_members (take l.member-index l.member-items);
  typed : IsTrue (all_members is_typed (drop l.member-index l.member-items)) → IsTrue (all_members is_typed l.member-items);
}
