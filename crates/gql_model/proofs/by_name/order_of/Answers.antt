use Rattle.std.proofs.Common.{rules, sym, subst}
use Rattle.std.proofs.lemmas.Result.{IfOk-weaker}
use Rattle.std.specs.List.Sorted.{IsPermutation, IsSorted}
use Rattle.gql_model.specs.inner.Order.{compare_seats, seat_of}
use Rattle.gql_model.proofs.Order.{orders_many}
use Rattle.gql_model.proofs.by_name.order_of.Goals as goal

pub returns : goal.returns
returns g c =
    let made = c.in_ok-seats.seats.items in
    let sorted = sym c.deref.ensures.value in
    let moved = subst (IsPermutation made) sorted c.sort_unstable.ensures.permutation in
    let up = subst (IsSorted (λ a b. compare_seats (seat_of a) (seat_of b))) sorted c.sort_unstable.ensures.sorted in
    IfOk-weaker c.places_of.result _ _ (λ order places. orders_many g.T.HasName.name_of c.args.items.now made c.deref.result.now order.items (search rules) c.in_ok-seats.ensures moved up places) c.places_of.ensures
