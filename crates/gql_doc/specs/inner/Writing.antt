-- What the functions that write the tokens of a document add to a text.
use Rattle.std.specs.Prelude.{◌≡◌, ℕ, List, [], ◌∷◌, ◌++◌, flat_map}
use Rattle.gql_doc.specs.Pieces.{Piece}

-- the texts with a space behind each
abbrev pub spaced_out : List Piece → List ℕ
spaced_out pieces = flat_map (λ it. it.text ++ 32 ∷ []) pieces

-- a text with the texts of these pieces behind it, and a space behind each
pub record Adds (old new : List ℕ) (pieces : List Piece) : Type 0 where
  pub is : new ≡ old ++ spaced_out pieces
