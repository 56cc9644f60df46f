-- The region of a body in which a byte stands.
use Rattle.std.specs.Prelude.{◌≡◌, ◌≢◌, ℕ, List, [], ◌∷◌, ◌++◌, ◌⊎◌}
use Rattle.gql_multipart.specs.declared.refusal.FrameKind.{FrameKind}
use Rattle.gql_multipart.specs.declared.refusal.FrameKind.TheVariants.{BadBoundary, BadPreamble, BadDelimiter, BadHeader, PartTooLong, Truncated}
use Rattle.gql_multipart.specs.Body.{dashes, IsOpening, IsLineEnd, IsHeader, IsContent, Begins}

-- what P holds of begins with these bytes and goes on: the byte behind them stands in it
abbrev pub Inside : (List ℕ → Type 0) → List ℕ → Type 0
Inside P bytes = (more : List ℕ) × (more ≢ []) × P (bytes ++ more)

-- what may stand behind a mark up to the end of its line: behind the first one only the end of a delimiter line
abbrev pub IsMarkEnd : List (List ℕ) → List ℕ → Type 0
IsMarkEnd [] bytes = IsLineEnd bytes
IsMarkEnd (content ∷ contents) bytes = IsLineEnd bytes ⊎ (bytes ≡ dashes)

-- a content, and its mark
abbrev pub IsSomeContent : List ℕ → List ℕ → Type 0
IsSomeContent boundary bytes = (content : List ℕ) × IsContent boundary content bytes

-- The byte behind these bytes stands in the preamble or the first mark, behind a mark, in a header, or
-- in a content and its mark. No byte has one of the other two kinds.
abbrev pub StandsIn : List ℕ → FrameKind → List ℕ → Type 0
StandsIn boundary BadPreamble bytes = Inside (IsOpening boundary) bytes
StandsIn boundary BadDelimiter bytes = (contents : List (List ℕ)) × (rest : List ℕ) × Begins boundary contents rest bytes × Inside (IsMarkEnd contents) rest
StandsIn boundary BadHeader bytes = (contents : List (List ℕ)) × (end rest : List ℕ) × Begins boundary contents (end ++ rest) bytes × IsLineEnd end × Inside (IsHeader boundary) rest
StandsIn boundary PartTooLong bytes = (contents : List (List ℕ)) × (end header rest : List ℕ) × Begins boundary contents (end ++ (header ++ rest)) bytes × IsLineEnd end × IsHeader boundary header × Inside (IsSomeContent boundary) rest
StandsIn boundary BadBoundary bytes = ⊥
StandsIn boundary Truncated bytes = ⊥
