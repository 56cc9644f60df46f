use Rattle.std.proofs.Common.{◌≡◌, rules, arith}
use Rattle.std.specs.Prelude.{Ok, Err}
use Rattle.gql_merge.specs.Apply.{Completes}
use Rattle.gql_merge.proofs.Steps.{each_more, each_refused, each_done}
use Rattle.gql_merge.proofs.Refusals.{handed_on}
use Rattle.gql_merge.proofs.state.State.complete_all.Goals as goal

pub loop-done-preserved : goal.loop-done-preserved
loop-done-preserved c = λ r k.
    c.loop-done.invariant r (each_more Completes c.args.completed.now c.loop-done.done-index c.done-item.result c.loop-done.self c.complete.new.self r c.done-item.is (omega arith) c.in_ok-complete.ensures.ok k)

pub returns-in_err-complete-clause-refused : goal.returns-in_err-complete-clause-refused
returns-in_err-complete-clause-refused c =
    let e = c.in_err-complete.field-0.0 in
    let is : c.from_residual.result ≡ Err e = search rules in
    handed_on _ _ (λ d h. c.loop-done.invariant (Err d) (each_refused Completes c.args.completed.now c.loop-done.done-index c.done-item.result c.loop-done.self d c.done-item.is (omega arith) h)) c.from_residual.result e is c.in_err-complete.ensures.refused

pub returns-clause-ok : goal.returns-clause-ok
returns-clause-ok c = c.loop-done.invariant (Ok c.loop-done.self) (each_done Completes c.args.completed.now c.loop-done.done-index c.loop-done.self (omega arith))
