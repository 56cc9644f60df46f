use Rattle.std.proofs.Common.{arith, ℕ, ◌++◌, take, drop, length-append}
use Rattle.std.proofs.lemmas.List.{length-take}
use Rattle.gql_tool.proofs.Replays.{consumed, cut_again, EndsAt-refused, longer, err_by}
use Rattle.gql_tool.proofs.hearing.hear_next.Goals as goal

pub returns-in-Err-feed-clause-ends : goal.returns-in-Err-feed-clause-ends
returns-in-Err-feed-clause-ends g c = λ boundary front rest count left stands.
    let room = c.take.new.room in
    let fits = c.min-fits.result in
    let taken = consumed rest (take c.in-Ok.taken room) _ _ left c.in-Ok.ensures.bytes.0 in
    EndsAt-refused _ boundary front rest (take fits room) (drop fits (take c.in-Ok.taken room) ++ taken.0) c.in-Err-feed.refusal c.hearing_of.result
    (cut_again fits c.in-Ok.taken room rest taken.0 (omega (arith, c.min-fits.ensures)) taken.2)
    (omega (arith, c.min-fits.ensures, count, c.requires.within, length-append front (take fits room), length-take {A = ℕ}))
    c.hearing_of.ensures
    (λ refused. c.feed.ensures.refused (err_by c.feed.result c.in-Err-feed.refusal _ c.in-Err-feed.is refused) _ stands)

pub returns-then-fits-taken-clause-ends : goal.returns-then-fits-taken-clause-ends
returns-then-fits-taken-clause-ends g c = λ boundary front rest count left stands.
    let room = c.take.new.room in
    let fits = c.min-fits.result in
    let taken = consumed rest (take c.in-Ok.taken room) _ _ left c.in-Ok.ensures.bytes.0 in (
      take fits room,
      drop fits (take c.in-Ok.taken room) ++ taken.0,
      cut_again fits c.in-Ok.taken room rest taken.0 (omega (arith, c.min-fits.ensures)) taken.2,
      omega (arith, c.min-fits.ensures, c.if-fits-taken.true, count, c.requires.within, length-append front (take fits room), length-take {A = ℕ}, c.in-Ok.ensures.bound.0),
      longer fits c.in-Ok.taken room taken.0 c.if-fits-taken.true c.in-Ok.ensures.bound.0,
      c.in_default.ensures.taken _ stands,
    )
