use Rattle.std.proofs.Common.{◌≡◌, take, map}
use Rattle.gql_model.proofs.by_name.places_of.Given as goal

abbrev pub invariant-loop-seat : goal.invariant-loop-seat
invariant-loop-seat l = l.places.items ≡ take l.seat-index (map (λ seat. seat.1) l.fn.seats)
