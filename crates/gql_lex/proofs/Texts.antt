-- The texts of each kind of token.
use Rattle.std.proofs.Common.{◌≡◌, ℕ, ◌⊎◌, true, List, [], ◌∷◌, ◌++◌}
use Rattle.gql_lex.specs.Classes.{is_punctuator}
use Rattle.gql_lex.specs.Longest.{IsName, IsMinus, IsWhole}
use Rattle.gql_lex.specs.StringTexts.{IsQuoted, IsBlock}
use Rattle.gql_lex.specs.declared.token.TokenKind.{TokenKind}
use Rattle.gql_lex.specs.declared.token.TokenKind.TheVariants as kind

-- -?(0|[1-9][0-9]*)
pub record IsInteger (text : List ℕ) : Type 0 where
  pub minus : List ℕ
  pub whole : List ℕ
  pub parts : text ≡ minus ++ whole
  pub is_minus : IsMinus minus
  pub is_whole : IsWhole whole

-- a punctuator of one byte, or `...`
abbrev pub IsPunctuator : List ℕ → Type 0
IsPunctuator text = ((byte : ℕ) × (is_punctuator byte ≡ true) × (text ≡ byte ∷ [])) ⊎ (text ≡ 46 ∷ 46 ∷ 46 ∷ [])

-- the text is right for its kind
abbrev pub IsTextOf : TokenKind → List ℕ → Type 0
IsTextOf kind.Name text = IsName text
IsTextOf kind.Int text = IsInteger text
IsTextOf kind.Punctuator text = IsPunctuator text
IsTextOf kind.Quoted text = (value : List ℕ) × IsQuoted text value
IsTextOf kind.Block text = (raw : List ℕ) × IsBlock text raw
