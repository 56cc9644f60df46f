-- The place behind the first bytes of a text.
use Rattle.std.specs.Prelude.{◌≡◌, ℕ, List, ◌++◌, take, drop}
use Rattle.gql_tree.specs.declared.Spot.{Spot}
use Rattle.gql_lex.specs.Places.{spot_at}

-- where `text` has the place `spot`, whatever is passed before it, what stands behind its first `count` bytes has the place `behind`
abbrev pub IsBehind : Spot → List ℕ → ℕ → Spot → Type 0
IsBehind spot text count behind = (passed : List ℕ) → spot ≡ spot_at passed text → behind ≡ spot_at (passed ++ take count text) (drop count text)
