use Rattle.std.proofs.Common.{◌≡◌, take, map}
use Rattle.gql_model.specs.inner.Order.{seats, seat_of}
use Rattle.gql_model.proofs.by_name.seats_of.Given as goal

abbrev pub invariant-loop-item : goal.invariant-loop-item
invariant-loop-item g l = record {
  made : map seat_of l.seats.items ≡ take l.item-index (seats g.T.HasName.name_of l.fn.items);
  count : l.seats.len ≡ l.item-index;
}
