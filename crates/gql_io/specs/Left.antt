-- What a source gives of the bytes that are left, where it tells.
use Rattle.std.specs.Prelude.{◌≡◌, ℕ, List, take, Result, MatchResult, Option}
use Rattle.std.specs.Io.KnownBytes.{Consumes, IsAtEnd, Keeps}

-- at `Ok(n)` the n bytes now in the room were the next ones, none only at the end; at `Err` nothing is lost
abbrev pub Takes : {E : Type 0} → Option (List ℕ) → Option (List ℕ) → Result ℕ E → List ℕ → Type 0
Takes old new result room = MatchResult result (λ n. Consumes old new (take n room) × (n ≡ 0 → IsAtEnd new)) (λ _. Keeps old new)
