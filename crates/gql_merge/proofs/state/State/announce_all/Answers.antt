use Rattle.std.proofs.Common.{◌≡◌, rules, arith}
use Rattle.std.specs.Prelude.{Ok, Err}
use Rattle.gql_merge.specs.Apply.{Announces}
use Rattle.gql_merge.proofs.Steps.{each_more, each_refused, each_done}
use Rattle.gql_merge.proofs.Refusals.{handed_on}
use Rattle.gql_merge.proofs.state.State.announce_all.Goals as goal

pub loop-pending-preserved : goal.loop-pending-preserved
loop-pending-preserved c = λ r k.
    c.loop-pending.invariant r (each_more Announces c.args.pendings.now c.loop-pending.pending-index c.pending-item.result c.loop-pending.self c.announce.new.self r c.pending-item.is (omega arith) c.in_ok-announce.ensures.ok k)

pub returns-in_err-announce-clause-refused : goal.returns-in_err-announce-clause-refused
returns-in_err-announce-clause-refused c =
    let e = c.in_err-announce.field-0.0 in
    let is : c.from_residual.result ≡ Err e = search rules in
    handed_on _ _ (λ d h. c.loop-pending.invariant (Err d) (each_refused Announces c.args.pendings.now c.loop-pending.pending-index c.pending-item.result c.loop-pending.self d c.pending-item.is (omega arith) h)) c.from_residual.result e is c.in_err-announce.ensures.refused

pub returns-clause-ok : goal.returns-clause-ok
returns-clause-ok c = c.loop-pending.invariant (Ok c.loop-pending.self) (each_done Announces c.args.pendings.now c.loop-pending.pending-index c.loop-pending.self (omega arith))
