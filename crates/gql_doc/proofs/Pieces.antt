-- Pieces that are written: their texts are right for their kinds.
use Rattle.std.proofs.Common.{◌≡◌, List, IsUtf8, ℕ}
use Rattle.gql_lex.specs.declared.token.TokenKind.{TokenKind}
use Rattle.gql_lex.specs.declared.token.TokenKind.TheVariants as kind
use Rattle.gql_lex.specs.Longest.{IsName}
use Rattle.gql_lex.proofs.Texts.{IsInteger, IsPunctuator}
use Rattle.gql_doc.specs.Quoting.{quoted_text}
use Rattle.gql_doc.specs.Pieces.{Piece}

-- a string of some text, as it is printed
pub record IsQuoted (text : List ℕ) : Type 0 where
  pub value : List ℕ
  pub is_utf8 : IsUtf8 value
  pub is : text ≡ quoted_text value

-- a text as it is written of a token of this kind; no block string is written
abbrev pub IsText : TokenKind → List ℕ → Type 0
IsText kind.Name text = IsName text
IsText kind.Int text = IsInteger text
IsText kind.Punctuator text = IsPunctuator text
IsText kind.Quoted text = IsQuoted text
IsText kind.Block text = ⊥

abbrev pub IsWritten : Piece → Type 0
IsWritten it = IsText it.kind it.text
