-- The tokens of a text.
use Rattle.std.specs.Prelude.{◌≡◌, ℕ, ◌+◌, List, [], ◌∷◌, ◌++◌, take, drop, length, Option, Some, None, Result, Ok, Err}
use Rattle.gql_tree.specs.declared.Spot.{Spot}
use Rattle.gql_lex.specs.Places.{spot_at}
use Rattle.gql_lex.specs.Runs.{run_len}
use Rattle.gql_lex.specs.Front.{front}
use Rattle.gql_lex.specs.declared.run.Pieces.TheVariants.{Blanks}
use Rattle.gql_lex.specs.declared.scan.Found.{Found}
use Rattle.gql_lex.specs.declared.scan.Found.TheVariants as found
use Rattle.gql_lex.specs.declared.scan.Fault.{Fault}
use Rattle.gql_lex.specs.declared.scan.Fault.TheVariants as fault
use Rattle.gql_lex.specs.declared.token.TokenKind.{TokenKind}
use Rattle.gql_lex.specs.declared.token.Token.{Token}
use Rattle.gql_lex.specs.declared.refusal.LexRefusal.{LexRefusal}
use Rattle.gql_lex.specs.declared.refusal.LexRefusal.TheVariants.{BadCharacter, BadEscape, OpenString, BadNumber, FloatToken}
use Rattle.gql_lex.specs.declared.lexer.Lexer.{Lexer}

-- a token: its kind, its bytes, how many bytes stand before it in the text, and its place
pub record Lexeme : Type 0 where
  pub kind : TokenKind
  pub text : List ℕ
  pub start : ℕ
  pub spot : Spot

abbrev pub refusal : Fault → Spot → LexRefusal
refusal fault.Character spot = BadCharacter spot
refusal fault.Escape spot = BadEscape spot
refusal fault.Open spot = OpenString spot
refusal fault.Number spot = BadNumber spot
refusal fault.Float spot = FloatToken spot

-- the answer where `here` stands behind `passed` and no blank begins it
abbrev pub answer_by : List ℕ → List ℕ → Option Found → Result (Option Lexeme) LexRefusal
answer_by passed here None = Ok None
answer_by passed here (Some (found.Token kind len)) = Ok (Some (record { kind = kind; text = take len here; start = length passed; spot = spot_at passed here }))
answer_by passed here (Some (found.Wrong fault inside)) = Err (refusal fault (spot_at (passed ++ take inside here) (drop inside here)))

-- the blanks at the front
abbrev pub blanks : List ℕ → ℕ
blanks rest = run_len Blanks 0 rest

-- the next token of a text of which `passed` is done and `rest` is left, none at its end, or the refusal
abbrev pub next_of : List ℕ → List ℕ → Result (Option Lexeme) LexRefusal
next_of passed rest = answer_by (passed ++ take (blanks rest) rest) (drop (blanks rest) rest) (front (drop (blanks rest) rest))

-- how many bytes are done with the next token: the blanks before it and its own; none where there is none
abbrev pub done_by : ℕ → Option Found → ℕ
done_by blanks (Some (found.Token kind len)) = blanks + len
done_by blanks _ = 0

abbrev pub done_with : List ℕ → ℕ
done_with rest = done_by (blanks rest) (front (drop (blanks rest) rest))

-- a token as the code has it
abbrev pub lexeme : Token → Lexeme
lexeme token = record { kind = token.kind; text = token.text.now; start = token.start; spot = token.spot }

-- an answer as the code has it
abbrev pub told : Result (Option Token) LexRefusal → Result (Option Lexeme) LexRefusal
told (Ok None) = Ok None
told (Ok (Some token)) = Ok (Some (lexeme token))
told (Err refusal) = Err refusal

-- what a lexer has done of its text, and what is left of it
abbrev pub passed : Lexer → List ℕ
passed lexer = take lexer.start lexer.text.now

abbrev pub left : Lexer → List ℕ
left lexer = drop lexer.start lexer.text.now

-- ---- the tokens of a text

-- how the tokens of a text end: with the text, or where something is no token
pub data End : Type 0 where
  Whole : End
  Refused : LexRefusal → End

abbrev pub ended : End → Result (Option Lexeme) LexRefusal
ended Whole = Ok None
ended (Refused refusal) = Err refusal

-- the tokens of `rest`, which stands behind `passed` in a text
abbrev pub Lexes : List ℕ → List ℕ → List Lexeme → End → Type 0
Lexes passed rest [] end = (next_of passed rest ≡ ended end)
Lexes passed rest (token ∷ tokens) end = (next_of passed rest ≡ Ok (Some token)) × Lexes (passed ++ take (done_with rest) rest) (drop (done_with rest) rest) tokens end
