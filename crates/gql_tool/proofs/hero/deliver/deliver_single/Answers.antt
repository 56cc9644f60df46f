use Rattle.std.proofs.Common.{subst, ◌∷◌, []}
use Rattle.gql_tree.specs.declared.Payload.{Payload}
use Rattle.gql_tool.specs.hero.Hero.{single}
use Rattle.gql_tool.specs.inner.Handed.{HandedAll}
use Rattle.gql_tool.proofs.HandedAll.{HandedAll-none, HandedAll-one}
use Rattle.gql_tool.proofs.hero.deliver.deliver_single.Goals as goal

pub returns-clause-handed : goal.returns-clause-handed
returns-clause-handed g c =
    subst (λ (p : Payload). HandedAll (p ∷ []) c.args.cut (g.O.Sink.sent c.args.output.now) (g.O.Sink.sent c.hand_out.new.output) c.args.client.now c.hand_out.new.client c.hand_out.result) c.in_ok-payload.ensures
    (HandedAll-one c.in_ok-payload.payload c.args.cut _ _ _ _ _ c.hand_out.ensures.handed)

pub returns-in_err-payload-clause-handed : goal.returns-in_err-payload-clause-handed
returns-in_err-payload-clause-handed g c = HandedAll-none (single c.args.value c.args.faults) [] c.args.cut (g.O.Sink.sent c.args.output.now) c.args.client.now _ c.from_residual.ensures.1
