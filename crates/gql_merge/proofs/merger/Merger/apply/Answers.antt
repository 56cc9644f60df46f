use Rattle.std.proofs.Common.{◌≡◌, rules, subst}
use Rattle.std.specs.Prelude.{Ok, Err}
use Rattle.gql_merge.specs.declared.state.State.{State}
use Rattle.gql_merge.specs.Apply.{Apply}
use Rattle.gql_merge.proofs.Refusals.{handed_on}
use Rattle.gql_merge.proofs.merger.Merger.apply.Goals as goal

pub returns-in_err-run-clause-refused : goal.returns-in_err-run-clause-refused
returns-in_err-run-clause-refused c =
    let e = c.in_err-run.field-0.0 in
    let is : c.from_residual-in_err-run.result ≡ Err e = search rules in
    handed_on _ _ (λ d h. subst (λ (s : State). Apply c.args.payload.now s (Err d)) c.in_ok-next.ensures h) c.from_residual-in_err-run.result e is c.in_err-run.ensures.refused

pub returns-clause-taken : goal.returns-clause-taken
returns-clause-taken c = subst (λ (s : State). Apply c.args.payload.now s (Ok c.run.new.self)) c.in_ok-next.ensures c.in_ok-run.ensures.ok
