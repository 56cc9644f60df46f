use Rattle.gql_tool.proofs.Replays.{MeetsTold-input, Meets-heard, Meets-no_boundary, no_boundary, no_read_fault}
use Rattle.gql_tool.proofs.ServedBodies.{merges-heard, merges-boundary}
use Rattle.gql_tool.proofs.hearing.replay.Goals as goal

pub returns-in-Ok-clause-answers : goal.returns-in-Ok-clause-answers
returns-in-Ok-clause-answers g c =
    let stands = c.in-Ok.ensures.ok in
    MeetsTold-input _ _ _ _ _ (λ bytes left. Meets-heard c.args.boundary.now bytes _ _ _ stands.took.reader.boundary (c.replay_to.ensures.meets c.args.boundary.now bytes left stands)) c.replay_to.ensures.untold

pub returns-in-Err-At-clause-answers : goal.returns-in-Err-At-clause-answers
returns-in-Err-At-clause-answers g c =
    MeetsTold-input _ _ _ _ _ (λ bytes left. Meets-no_boundary c.args.boundary.now bytes _ _ _ (no_boundary c.args.boundary.now c.in-Err-At.field-0 c.in-Err-At.field-0-0 c.in-Err-At.field-0-1 c.in-Err-At.field-0-is c.in-Err-At.ensures.refused) c.put_and_end.ensures.meets) (no_read_fault _ _ _ c.put_and_end.ensures.statuses)

pub returns-in-Ok-clause-merges : goal.returns-in-Ok-clause-merges
returns-in-Ok-clause-merges g c = λ f served.
    merges-heard f c.args.boundary.now _ _ _ _ served (λ bytes left. c.replay_to.ensures.meets c.args.boundary.now bytes left c.in-Ok.ensures.ok)

pub returns-in-Err-At-clause-merges : goal.returns-in-Err-At-clause-merges
returns-in-Err-At-clause-merges g c = λ f served.
    merges-boundary f c.args.boundary.now _ _ _ _ served (no_boundary c.args.boundary.now c.in-Err-At.field-0 c.in-Err-At.field-0-0 c.in-Err-At.field-0-1 c.in-Err-At.field-0-is c.in-Err-At.ensures.refused)
