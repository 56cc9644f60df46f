use Rattle.std.proofs.Common.{[], Some, refl, ◌∙◌, ap, append-nil, arith}
use Rattle.std.proofs.lemmas.List.{drop_all}
use Rattle.gql_payload.proofs.from_serde.each.Goals as goal

pub returns-clause-ok : goal.returns-clause-ok
returns-clause-ok g c =
    c.loop-item.invariant.found [] (rw (drop_all c.loop-item.item-index c.args.items.now (omega arith)) refl) ∙ ap Some (append-nil c.loop-item.list)
