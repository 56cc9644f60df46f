use Rattle.std.proofs.Common.{subst, ◌∷◌, []}
use Rattle.gql_tree.specs.declared.Payload.{Payload}
use Rattle.gql_tree.specs.declared.Value.TheVariants as v
use Rattle.gql_tool.specs.hero.Hero.{announcing, completing}
use Rattle.gql_tool.specs.inner.Handed.{HandedAll}
use Rattle.gql_tool.proofs.HandedAll.{HandedAll-none, HandedAll-first, HandedAll-between, HandedAll-two}
use Rattle.gql_tool.proofs.hero.deliver.deliver_deferred.Goals as goal

pub returns-in_err-first-clause-handed : goal.returns-in_err-first-clause-handed
returns-in_err-first-clause-handed g c = HandedAll-none (announcing (v.Object c.args.run.members) c.args.run.faults c.args.deferred.now.label) (completing c.args.person.now c.args.deferred.now.leaves ∷ []) c.args.cut (g.O.Sink.sent c.args.output.now) c.args.client.now _ c.from_residual.ensures.1

pub returns-in_err-hand_out-clause-handed : goal.returns-in_err-hand_out-clause-handed
returns-in_err-hand_out-clause-handed g c =
    let q = completing c.args.person.now c.args.deferred.now.leaves in
    subst (λ (p : Payload). HandedAll (p ∷ q ∷ []) c.args.cut (g.O.Sink.sent c.args.output.now) (g.O.Sink.sent c.hand_out.new.output) c.args.client.now c.hand_out.new.client c.from_residual-in_err-hand_out.result) c.in_ok-first.ensures
    (HandedAll-first c.in_ok-first.first q c.args.cut _ _ _ _ _ _ c.from_residual-in_err-hand_out.ensures.1 c.in_err-hand_out.ensures.handed)

pub returns-in_err-last-clause-handed : goal.returns-in_err-last-clause-handed
returns-in_err-last-clause-handed g c =
    let q = completing c.args.person.now c.args.deferred.now.leaves in
    subst (λ (p : Payload). HandedAll (p ∷ q ∷ []) c.args.cut (g.O.Sink.sent c.args.output.now) (g.O.Sink.sent c.hand_out.new.output) c.args.client.now c.hand_out.new.client c.from_residual-in_err-last.result) c.in_ok-first.ensures
    (HandedAll-between c.in_ok-first.first q c.args.cut _ _ _ _ c.in_ok-hand_out.ensures.handed _ c.from_residual-in_err-last.ensures.1)

pub returns-clause-handed : goal.returns-clause-handed
returns-clause-handed g c =
    let q = completing c.args.person.now c.args.deferred.now.leaves in
    subst (λ (p : Payload). HandedAll (p ∷ q ∷ []) c.args.cut (g.O.Sink.sent c.args.output.now) (g.O.Sink.sent c.hand_out-2.new.output) c.args.client.now c.hand_out-2.new.client c.hand_out-2.result) c.in_ok-first.ensures
    (subst (λ (p : Payload). HandedAll (c.in_ok-first.first ∷ p ∷ []) c.args.cut (g.O.Sink.sent c.args.output.now) (g.O.Sink.sent c.hand_out-2.new.output) c.args.client.now c.hand_out-2.new.client c.hand_out-2.result) c.in_ok-last.ensures
    (HandedAll-two c.in_ok-first.first c.in_ok-last.last c.args.cut _ _ _ _ c.in_ok-hand_out.ensures.handed _ _ _ c.hand_out-2.ensures.handed))
