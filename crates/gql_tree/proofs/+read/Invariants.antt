use Rattle.std.proofs.Common.{◌≡◌, List, ◌++◌, map, drop}
use Rattle.serde_json.specs.Data.{no_members}
use Rattle.serde_json.specs.View.{view, items_view, members_view}
use Rattle.serde_json.proofs.Views.{Entry}
use Rattle.gql_tree.specs.Json.{put_all, data_of}
use Rattle.gql_tree.specs.FromJson.{values_of, fields_of, items_have_bad_number, members_have_bad_number}
use Rattle.gql_tree.proofs.+read.Given as goal

abbrev pub invariant-from_json::items_from-loop-item : goal.invariant-from_json::items_from-loop-item
invariant-from_json::items_from-loop-item l = record {
  ok : l.values ++ values_of (items_view (drop l.item-index l.items)) ≡ values_of (items_view l.items);
  datum : map data_of l.values ++ map view (drop l.item-index l.items) ≡ map view l.items;
  bad : items_have_bad_number (items_view (drop l.item-index l.items)) ≡ items_have_bad_number (items_view l.items);
}

abbrev pub invariant-from_json::members_from-loop-key : goal.invariant-from_json::members_from-loop-key
invariant-from_json::members_from-loop-key l = record {
  done : List Entry;
  left : l.members.entries ≡ done ++ l.key-iterator;
  ok : l.fields ≡ fields_of (members_view done);
  datum : put_all data_of no_members l.fields ≡ members_view done;
  bad : members_have_bad_number (members_view l.key-iterator) ≡ members_have_bad_number (members_view l.members.entries);
}
