use Rattle.std.proofs.Common.{◌≡◌, rules, arith}
use Rattle.std.specs.Prelude.{Ok, Err}
use Rattle.gql_merge.specs.Apply.{Delivers}
use Rattle.gql_merge.proofs.Steps.{each_more, each_refused, each_done}
use Rattle.gql_merge.proofs.Refusals.{handed_on}
use Rattle.gql_merge.proofs.state.State.deliver_all.Goals as goal

pub loop-entry-preserved : goal.loop-entry-preserved
loop-entry-preserved c = λ r k.
    c.loop-entry.invariant r (each_more Delivers c.args.entries.now c.loop-entry.entry-index c.entry-item.result c.loop-entry.self c.deliver.new.self r c.entry-item.is (omega arith) c.in_ok-deliver.ensures.ok k)

pub returns-in_err-deliver-clause-refused : goal.returns-in_err-deliver-clause-refused
returns-in_err-deliver-clause-refused c =
    let e = c.in_err-deliver.field-0.0 in
    let is : c.from_residual.result ≡ Err e = search rules in
    handed_on _ _ (λ d h. c.loop-entry.invariant (Err d) (each_refused Delivers c.args.entries.now c.loop-entry.entry-index c.entry-item.result c.loop-entry.self d c.entry-item.is (omega arith) h)) c.from_residual.result e is c.in_err-deliver.ensures.refused

pub returns-clause-ok : goal.returns-clause-ok
returns-clause-ok c = c.loop-entry.invariant (Ok c.loop-entry.self) (each_done Delivers c.args.entries.now c.loop-entry.entry-index c.loop-entry.self (omega arith))
