use Rattle.std.proofs.Common.{List, sym, ap, subst, arith}
use Rattle.gql_tool.specs.hero.Shape.{times, deferred_leaves_of}
use Rattle.gql_tree.specs.declared.Payload.{Payload}
use Rattle.gql_tool.specs.inner.Handed.{HandedAll}
use Rattle.gql_tool.proofs.HandedAll.{HandedAll-none}
use Rattle.gql_tool.proofs.hero_lemmas.Payloads.{payloads-first}
use Rattle.gql_tool.proofs.hero.deliver.deliver_person.Goals as goal

pub deliver_deferred-requires-clause-once : goal.deliver_deferred-requires-clause-once
deliver_deferred-requires-clause-once g c = λ name.
    let all = c.requires.once name in
    let same = ap (λ o. times name (deferred_leaves_of o)) c.in-Some.is in
    omega (arith, all, same)

pub returns-in_err-run-clause-handed : goal.returns-in_err-run-clause-handed
returns-in_err-run-clause-handed g c =
    let first = payloads-first c.args.person.now c.args.document.now in
    subst (λ (ps : List Payload). HandedAll ps c.args.cut (g.O.Sink.sent c.args.output.now) (g.O.Sink.sent c.args.output.now) c.args.client.now c.args.client.now c.from_residual.result) (sym first.2)
    (HandedAll-none first.0 first.1 c.args.cut (g.O.Sink.sent c.args.output.now) c.args.client.now _ c.from_residual.ensures.1)
