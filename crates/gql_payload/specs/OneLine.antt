-- Texts with no end of line.
use Rattle.std.specs.Prelude.{ℕ, List, ◌≢◌, All}

-- no byte is a carriage return or a line feed
abbrev pub IsOneLine : List ℕ → Type 0
IsOneLine = All (λ b. (b ≢ 13) × (b ≢ 10))
