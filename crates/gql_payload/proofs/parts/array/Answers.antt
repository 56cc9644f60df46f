use Rattle.std.proofs.Common.{◌∙◌, ap, map, arith}
use Rattle.std.proofs.lemmas.List.{take_all}
use Rattle.serde_json.specs.Data as json
use Rattle.serde_json.specs.View.{items_of}
use Rattle.serde_json.proofs.Views.{view-Array}
use Rattle.gql_payload.proofs.parts.array.Goals as goal

pub returns-clause-json : goal.returns-clause-json
returns-clause-json g c =
    view-Array c.loop-item.list ∙ ap (λ ds. json.array (items_of ds)) (c.loop-item.invariant.made ∙ ap (map g.T.ToSerde.datum) (take_all c.loop-item.item-index c.args.items.now (omega arith)))
