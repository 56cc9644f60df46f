-- What a reader was fed and has given, and what it answers.
use Rattle.std.specs.Prelude.{◌≡◌, ℕ, ◌+◌, ◌-◌, ◌≤◌, ◌<◌, List, [], ◌∷◌, ◌++◌, length, take, Result, Ok, Err}
use Rattle.gql_multipart.specs.Frame.{crlf}
use Rattle.gql_multipart.specs.declared.refusal.FrameKind.{FrameKind}
use Rattle.gql_multipart.specs.declared.refusal.FrameKind.TheVariants.{BadBoundary, Truncated}
use Rattle.gql_multipart.specs.declared.refusal.FrameRefusal.{FrameRefusal}
use Rattle.gql_multipart.specs.declared.refusal.FrameRefusal.TheVariants.{At, NoMemory}
use Rattle.gql_multipart.specs.declared.reader.Step.{Step}
use Rattle.gql_multipart.specs.declared.reader.Step.TheVariants.{Part, More, Ended}
use Rattle.gql_multipart.specs.Body.{IsBoundary, mark, Body, Complete, IsOpen}
use Rattle.gql_multipart.specs.Regions.{StandsIn}

-- ---- pasts

-- the boundary, the bytes fed so far, and how many parts were given
pub record Past : Type 0 where
  pub boundary : List ℕ
  pub bytes : List ℕ
  pub given : ℕ

abbrev pub begun : List ℕ → Past
begun boundary = record { boundary = boundary; bytes = []; given = 0 }

abbrev pub fed : Past → List ℕ → Past
fed past cut = record past { bytes = past.bytes ++ cut }

-- what a reader keeps: CRLF and the mark, which it seeks, all bytes, and how many parts it gave
pub record Kept : Type 0 where
  pub sought : List ℕ
  pub bytes : List ℕ
  pub given : ℕ

pub record Stands (kept : Kept) (past : Past) : Type 0 where
  pub boundary : IsBoundary past.boundary
  pub sought : kept.sought ≡ crlf ++ mark past.boundary
  pub bytes : kept.bytes ≡ past.bytes
  pub given : kept.given ≡ past.given

-- ---- answers

-- what a call of `next_part` says
pub data Said : Type 0 where
  gives : List ℕ → Said
  more : Said
  ended : Said
  refuses : FrameKind → ℕ → Said
  no_memory : Said

-- no part is complete that wasn't given
abbrev pub AllGiven : Past → Type 0
AllGiven past = (contents : List (List ℕ)) → Complete past.boundary past.bytes contents → length contents ≤ past.given

-- the least length of a front that begins no body
pub record IsLeastShut (boundary bytes : List ℕ) (byte : ℕ) : Type 0 where
  pub within : byte ≤ length bytes
  pub shut : IsOpen boundary (take byte bytes) → ⊥
  pub least : (k : ℕ) → k < byte → IsOpen boundary (take k bytes)

-- The next part that is complete; more is needed; the end mark has come; or no body begins so. A
-- refusal names the least front that begins no body, by its length and by the region of its last byte.
abbrev pub IsAnswer : Past → Said → Type 0
IsAnswer past (gives content) = (before : List (List ℕ)) × Complete past.boundary past.bytes (before ++ content ∷ []) × (length before ≡ past.given)
IsAnswer past more = AllGiven past × IsOpen past.boundary past.bytes × ((contents : List (List ℕ)) → Body past.boundary past.bytes contents → ⊥)
IsAnswer past ended = AllGiven past × (contents : List (List ℕ)) × Body past.boundary past.bytes contents
IsAnswer past (refuses kind byte) = AllGiven past × IsLeastShut past.boundary past.bytes byte × StandsIn past.boundary kind (take (byte - 1) past.bytes)
IsAnswer past no_memory = ⊥

abbrev pub after : Past → Said → Past
after past (gives content) = record past { given = past.given + 1 }
after past more = past
after past ended = past
after past (refuses kind byte) = past
after past no_memory = past

-- what is kept behind an answer
abbrev pub kept_after : Kept → Said → Kept
kept_after kept (gives content) = record kept { given = kept.given + 1 }
kept_after kept _ = kept

-- a part was given
abbrev pub IsGiven : Said → Type 0
IsGiven (gives content) = Unit
IsGiven _ = ⊥

-- what `next_part` returned
abbrev pub said : Result Step FrameRefusal → Said
said (Ok (Part content)) = gives content.now
said (Ok More) = more
said (Ok Ended) = ended
said (Err (At kind byte)) = refuses kind byte
said (Err NoMemory) = no_memory

-- ---- `new` and `finish`

-- the bytes are a body, or they are none, and their number is named
abbrev pub IsEnd : {A : Type 0} → Past → Result A FrameRefusal → Type 0
IsEnd past (Ok done) = (contents : List (List ℕ)) × Body past.boundary past.bytes contents
IsEnd past (Err (At kind byte)) = (kind ≡ Truncated) × (byte ≡ length past.bytes) × ((contents : List (List ℕ)) → Body past.boundary past.bytes contents → ⊥)
IsEnd past (Err NoMemory) = ⊥

-- there is no memory, or the text is no boundary
abbrev pub RefusesBoundary : List ℕ → FrameRefusal → Type 0
RefusesBoundary text (At kind byte) = (kind ≡ BadBoundary) × (byte ≡ 0) × (IsBoundary text → ⊥)
RefusesBoundary text NoMemory = Unit {0}
