use Rattle.std.proofs.Common.{rules, ◌≡◌, ◌∙◌, ◌++◌, ◌∷◌, [], arith}
use Rattle.std.proofs.lemmas.List.{take_all}
use Rattle.gql_model.specs.inner.Order.{seats}
use Rattle.gql_model.proofs.Order.{seats_turn, seats_many}
use Rattle.gql_model.proofs.by_name.seats_of.Goals as goal

pub loop-item-preserved : goal.loop-item-preserved
loop-item-preserved g c =
    let pushed : c.push.new.self.items ≡ c.loop-item.seats.items ++ (c.name.result, c.len.result) ∷ [] = search rules in
    record {
      made = rw pushed (seats_turn g.T.HasName.name_of c.args.items.now c.loop-item.item-index c.item-item.result c.loop-item.seats.items (c.name.result, c.len.result) (search rules) (search rules) (search rules) c.loop-item.invariant.made);
      count = search rules;
    }

pub returns : goal.returns
returns g c =
    let all = seats g.T.HasName.name_of c.args.items.now in
    c.loop-item.invariant.made ∙ take_all c.loop-item.item-index all (omega (arith, c.loop-item-test.false, seats_many g.T.HasName.name_of 0 c.args.items.now))
