-- The names of refusals, as they are shown to a user.
use Rattle.std.specs.Prelude.{ℕ, List, codes}
use Rattle.gql_multipart.specs.declared.refusal.FrameKind.{FrameKind}
use Rattle.gql_multipart.specs.declared.refusal.FrameKind.TheVariants.{BadBoundary, BadPreamble, BadDelimiter, BadHeader, PartTooLong, Truncated}

abbrev pub frame_name : FrameKind → List ℕ
frame_name BadBoundary = codes "BadBoundary"
frame_name BadPreamble = codes "BadPreamble"
frame_name BadDelimiter = codes "BadDelimiter"
frame_name BadHeader = codes "BadHeader"
frame_name PartTooLong = codes "PartTooLong"
frame_name Truncated = codes "Truncated"
