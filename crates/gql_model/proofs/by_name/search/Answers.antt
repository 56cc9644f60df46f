use Rattle.std.proofs.Common.{◌∙◌, rules}
use Rattle.std.proofs.lemmas.Fn.{always_returns_same}
use Rattle.gql_model.specs.inner.Order.{comes_before}
use Rattle.gql_model.proofs.Order.{order_partitioned, search_finds}
use Rattle.gql_model.proofs.by_name.search.Goals as goal

pub returns : goal.returns
returns g c =
    let name_of = g.T.HasName.name_of in
    let items = c.args.items.now in
    let order = c.args.order.now in
    let name = c.args.name.now in
    let point = c.partition_point-at.ensures.partitioned (comes_before name_of items name) (always_returns_same _ _ _ (λ a r f' k. search rules)) (order_partitioned name_of items order c.requires name) in
    c.if_named.ensures ∙ search_finds name_of items order c.requires name c.partition_point-at.result point c.place_at.result c.place_at.ensures
