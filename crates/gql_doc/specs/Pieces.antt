-- What is written of a token, and texts that are written token by token.
use Rattle.std.specs.Prelude.{ℕ, List, [], ◌∷◌, ◌++◌, flat_map}
use Rattle.gql_lex.specs.declared.token.TokenKind.{TokenKind}
use Rattle.gql_lex.specs.Tokens.{Lexeme}

-- a token without its place
pub record Piece : Type 0 where
  pub kind : TokenKind
  pub text : List ℕ

abbrev pub piece : Lexeme → Piece
piece token = record { kind = token.kind; text = token.text }

-- the texts with a space between two
abbrev pub spaced : List Piece → List ℕ
spaced [] = []
spaced (first ∷ others) = first.text ++ flat_map (λ it. 32 ∷ it.text) others
