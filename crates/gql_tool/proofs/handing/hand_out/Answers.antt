use Rattle.std.proofs.Common.{◌∙◌}
use Rattle.gql_tool.proofs.HandedOut.{Handed-fed}
use Rattle.gql_tool.proofs.handing.hand_out.Goals as goal

pub returns-clause-handed : goal.returns-clause-handed
returns-clause-handed g c =
    Handed-fed c.args.payload.now c.args.cut _ _ _ _ _ c.as_slice.result.now c.as_slice-2.result.now _ (c.as_slice.ensures ∙ c.in_ok-piece.ensures.piece) (c.as_slice-2.ensures ∙ c.in_ok-piece.ensures.piece)
    c.in_ok-piece.ensures.written c.in_ok-put.ensures.sent c.feed.ensures.heard c.feed.ensures.cuts c.feed.ensures.refused c.feed.ensures.statuses
