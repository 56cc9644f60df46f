use Rattle.gql_model.proofs.Order.{places_turn}
use Rattle.gql_model.proofs.by_name.places_of.Goals as goal

pub loop-seat-preserved : goal.loop-seat-preserved
loop-seat-preserved c = rw c.in_ok-push.ensures.items (places_turn c.args.seats.now c.loop-seat.seat-index _ c.loop-seat.places.items c.loop-seat-test.true c.loop-seat.invariant)
