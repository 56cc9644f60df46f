-- Where tokens stand in a text.
use Rattle.std.specs.Prelude.{◌≡◌, ◌≢◌, ℕ, ◌+◌, ◌≤◌, List, [], ◌∷◌, ◌++◌, length}
use Rattle.gql_tree.specs.declared.Spot.{Spot}
use Rattle.gql_lex.specs.declared.refusal.LexRefusal.{LexRefusal}
use Rattle.gql_lex.specs.declared.refusal.LexRefusal.TheVariants.{BadCharacter, BadEscape, OpenString, BadNumber, FloatToken}
use Rattle.gql_lex.specs.Places.{spot_at}
use Rattle.gql_lex.specs.Tokens.{Lexeme}

-- a token is a slice of a text, some bytes of it: what stands before it, the token and what stands behind it make the text.
-- Its start is how many bytes stand before it, and its spot is their end
pub record IsSliceOf (text : List ℕ) (token : Lexeme) : Type 0 where
  pub before : List ℕ
  pub behind : List ℕ
  pub whole : text ≡ before ++ (token.text ++ behind)
  pub some : token.text ≢ []
  pub start : token.start ≡ length before
  pub spot : token.spot ≡ spot_at before (token.text ++ behind)

-- how many bytes stand before the end of a token
abbrev pub end_of : Lexeme → ℕ
end_of token = token.start + length token.text

-- no token starts before `least`, nor before the end of the token before it
abbrev pub RiseFrom : ℕ → List Lexeme → Type 0
RiseFrom least [] = Unit {0}
RiseFrom least (token ∷ tokens) = (least ≤ token.start) × RiseFrom (end_of token) tokens

-- how many bytes stand before the end of the last token, `start` where there is none
abbrev pub end_of_all : ℕ → List Lexeme → ℕ
end_of_all start [] = start
end_of_all start (token ∷ tokens) = end_of_all (end_of token) tokens

-- the place that a refusal names
abbrev pub place_of : LexRefusal → Spot
place_of (BadCharacter spot) = spot
place_of (BadEscape spot) = spot
place_of (OpenString spot) = spot
place_of (BadNumber spot) = spot
place_of (FloatToken spot) = spot

-- a refusal names a place in a text, with at least `least` bytes before it
pub record IsRefusedIn (text : List ℕ) (least : ℕ) (refusal : LexRefusal) : Type 0 where
  pub before : List ℕ
  pub here : List ℕ
  pub whole : text ≡ before ++ here
  pub behind : least ≤ length before
  pub spot : place_of refusal ≡ spot_at before here
