-- What a parser still reads, and the end to which it comes.
use Rattle.std.specs.Prelude.{ℕ, zero, suc, List, [], ◌∷◌, ◌++◌, length, take, drop, Option, Some, None, Result, Ok, Err}
use Rattle.gql_tree.specs.declared.delivery.Spot.{Spot}
use Rattle.gql_lex.specs.Places.{spot_at}
use Rattle.gql_lex.specs.Tokens.{Lexeme, End, Whole, Refused, next_of, done_with, told, passed}
use Rattle.gql_lex.specs.Tokens as lexer
use Rattle.gql_lex.specs.declared.lexer.Lexer.{Lexer}
use Rattle.gql_lex.specs.declared.refusal.LexRefusal.{LexRefusal}
use Rattle.gql_doc.specs.declared.parser.Parser.{Parser}

-- the tokens that come, and how they end
pub record Coming : Type 0 where
  pub tokens : List Lexeme
  pub end : End

-- by what a lexer gives next, and what comes behind it
abbrev pub coming_by : Coming → Result (Option Lexeme) LexRefusal → Coming
coming_by others (Ok (Some token)) = record { tokens = token ∷ others.tokens; end = others.end }
coming_by others (Ok None) = record { tokens = []; end = Whole }
coming_by others (Err refusal) = record { tokens = []; end = Refused refusal }

-- what comes of `rest`, which has so many bytes at most and stands behind `passed` in a text
abbrev pub coming_at : ℕ → List ℕ → List ℕ → Coming
coming_at zero passed rest = record { tokens = []; end = Whole }
coming_at (suc count) passed rest = coming_by (coming_at count (passed ++ take (done_with rest) rest) (drop (done_with rest) rest)) (next_of passed rest)

abbrev pub coming : List ℕ → List ℕ → Coming
coming passed rest = coming_at (length rest) passed rest

abbrev pub coming_to : Parser → Coming
coming_to parser = coming_by (coming (passed parser.lexer) (lexer.left parser.lexer)) (told parser.next)

-- the tokens that a parser still reads
unfoldable pub left : Parser → List Lexeme
left parser = (coming_to parser).tokens

-- the place of a text's end, or the refusal there
abbrev pub end_by : List ℕ → End → Result Spot LexRefusal
end_by text Whole = Ok (spot_at text [])
end_by text (Refused refusal) = Err refusal

abbrev pub end_of : List ℕ → Result Spot LexRefusal
end_of text = end_by text (coming [] text).end

-- the text of which a lexer gives tokens
abbrev pub text_of : Lexer → List ℕ
text_of it = passed it ++ lexer.left it

-- the end to which the parser comes
unfoldable pub text_end : Parser → Result Spot LexRefusal
text_end parser = end_by (text_of parser.lexer) (coming_to parser).end
