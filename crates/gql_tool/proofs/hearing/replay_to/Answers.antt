use Rattle.std.proofs.Common.{subst}
use Rattle.gql_tool.specs.inner.Hearing.{EndsAt}
use Rattle.gql_tool.proofs.Replays.{Meets-front, Meets-budget, Meets-all}
use Rattle.gql_tool.proofs.hearing.replay_to.Goals as goal

pub returns-in-Ended-clause-meets : goal.returns-in-Ended-clause-meets
returns-in-Ended-clause-meets g c = λ boundary bytes left stands.
    let h = c.hear.ensures.ends boundary bytes left stands in
    let at = subst (EndsAt boundary h.0 h.1 c.hear.new.client) c.in-Ended.is h.4 in
    Meets-all boundary bytes h.0 h.1 _ _ _ h.2 at.0 h.3 (λ within. c.end.ensures.meets boundary h.0 within at.1)

pub returns-in-Refused-clause-meets : goal.returns-in-Refused-clause-meets
returns-in-Refused-clause-meets g c = λ boundary bytes left stands.
    let h = c.hear.ensures.ends boundary bytes left stands in
    Meets-front c.hear.new.client boundary bytes h.0 h.1 _ _ _ h.2 (subst (EndsAt boundary h.0 h.1 c.hear.new.client) c.in-Refused.is h.4) c.put_lines.ensures.meets

pub returns-in-TooLong-clause-meets : goal.returns-in-TooLong-clause-meets
returns-in-TooLong-clause-meets g c = λ boundary bytes left stands.
    let h = c.hear.ensures.ends boundary bytes left stands in
    Meets-budget c.hear.new.client boundary bytes h.0 h.1 _ _ _ h.2 (subst (EndsAt boundary h.0 h.1 c.hear.new.client) c.in-TooLong.is h.4) c.put_and_end.ensures.meets
