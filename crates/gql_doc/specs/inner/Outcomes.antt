-- What the parser makes of what its readers give.
use Rattle.std.specs.Prelude.{List, [], ◌∷◌, Option, Some, None, Result, Ok, Err}
use Rattle.gql_tree.specs.declared.delivery.Spot.{Spot}
use Rattle.gql_lex.specs.Tokens.{Lexeme}
use Rattle.gql_lex.specs.declared.refusal.LexRefusal.{LexRefusal}
use Rattle.gql_doc.specs.inner.Reading.{Reading}
use Rattle.gql_doc.specs.declared.parser.Stop.{Stop}
use Rattle.gql_doc.specs.declared.parser.Stop.TheVariants as stop
use Rattle.gql_doc.specs.declared.refusal.ParseRefusal.{ParseRefusal}
use Rattle.gql_doc.specs.declared.refusal.ParseRefusal.TheVariants as refusal

-- where the next token begins
abbrev pub next_spot : List Lexeme → Option Spot
next_spot [] = None
next_spot (token ∷ tokens) = Some token.spot

-- behind the last token
abbrev pub at_end : Result Spot LexRefusal → ParseRefusal
at_end (Ok spot) = refusal.Unexpected spot
at_end (Err fault) = refusal.Lex fault

-- where the parser stops before these tokens
abbrev pub refusal_of : Stop → List Lexeme → Result Spot LexRefusal → ParseRefusal
refusal_of stop.NoMemory tokens end = refusal.NoMemory
refusal_of stop.Unexpected (token ∷ tokens) end = refusal.Unexpected token.spot
refusal_of stop.Unexpected [] end = at_end end
refusal_of stop.TooDeep (token ∷ tokens) end = refusal.TooDeep token.spot
refusal_of stop.TooDeep [] end = at_end end

-- a document that all tokens are
abbrev pub found : {A : Type 0} → A → Result Spot LexRefusal → Result A ParseRefusal
found it (Ok spot) = Ok it
found it (Err fault) = Err (refusal.Lex fault)

abbrev pub outcome : {A : Type 0} → Reading A → Result Spot LexRefusal → Result A ParseRefusal
outcome (Ok x) end = found x.0 end
outcome (Err e) end = Err (refusal_of e.0 e.1 end)
