use Rattle.std.proofs.Common.{◌≡◌, ◌∙◌, sym}
use Rattle.gql_client.specs.declared.stop.Stop.TheVariants.{Refused}
use Rattle.gql_client.proofs.Clients.{AcceptsEnd-ok, RefusesEnd-truncated, RefusesEnd-unfinished, over_by, more_by, last_by}
use Rattle.gql_client.proofs.client.Client.end.Goals as goal

pub returns-then-is_err-clause-refused : goal.returns-then-is_err-clause-refused
returns-then-is_err-clause-refused c = λ why is h stands.
    let stop : c.ended_early.result ≡ Refused why = cc in
    RefusesEnd-truncated c.args.self.now h c.finish.result why stands c.finish.ensures.answer (sym c.is_err.ensures.value ∙ c.if-is_err.true) (c.ended_early.ensures why stop)

pub returns-then-has_next-clause-refused : goal.returns-then-has_next-clause-refused
returns-then-has_next-clause-refused c = λ why is h stands.
    let stop : c.ended_early-then-has_next.result ≡ Refused why = cc in
    RefusesEnd-unfinished c.args.self.now h c.finish.result why stands c.finish.ensures.answer (c.is_err.ensures.negation ∙ over_by c.if-is_err.false) (more_by c.has_next.result _ c.has_next.ensures c.if-has_next.true) (c.ended_early-then-has_next.ensures why stop)

pub returns-clause-taken : goal.returns-clause-taken
returns-clause-taken c = λ h stands.
    AcceptsEnd-ok c.args.self.now h c.finish.result stands c.finish.ensures.answer (c.is_err.ensures.negation ∙ over_by c.if-is_err.false) (last_by c.has_next.result _ c.has_next.ensures c.if-has_next.false)
