-- Pieces with a space between two are the tokens of their text.
use Rattle.std.proofs.Common.{◌≡◌, ℕ, suc, List, [], ◌∷◌, ◌++◌, length, take, drop, map, flat_map, false, refl, ap, sym, subst}
use Rattle.std.specs.Prelude.{nat_eq}
use Rattle.std.specs.List.{AllByRecursion as Each, starts_with, prefix_len}
use Rattle.gql_lex.specs.declared.token.TokenKind.{TokenKind}
use Rattle.gql_lex.specs.declared.token.TokenKind.TheVariants as kind
use Rattle.gql_lex.specs.Classes.{continues_name}
use Rattle.gql_lex.specs.Tokens.{Lexeme, Lexes, Whole, blanks, done_with}
use Rattle.gql_lex.proofs.Fronts.{EndsNumber, front-name, front-integer, front-punctuator, blanks-name, blanks-integer, blanks-punctuator}
use Rattle.gql_lex.proofs.Steps.{Finds, steps}
use Rattle.gql_doc.specs.Pieces.{Piece, piece, spaced}
use Rattle.gql_doc.proofs.Pieces.{IsText, IsWritten}
use Rattle.gql_doc.proofs.QuotedFront.{finds-quoted_text}

-- the texts with a space before each
abbrev pub behind : List Piece → List ℕ
behind others = flat_map (λ it. 32 ∷ it.text) others

-- ---- a piece behind which a space or the end of the text comes

ends_name : (others : List Piece) → prefix_len continues_name (behind others) ≡ 0
ends_name [] = refl
ends_name (next ∷ others) = refl

ends_number : (others : List Piece) → EndsNumber (behind others)
ends_number [] = record { no_digit = refl; no_fraction = refl; no_exponent = refl; stops = refl }
ends_number (next ∷ others) = record { no_digit = refl; no_fraction = refl; no_exponent = refl; stops = refl }

ends_string : (others : List Piece) → starts_with nat_eq (34 ∷ behind others) (34 ∷ 34 ∷ []) ≡ false
ends_string [] = refl
ends_string (next ∷ others) = refl

-- it is found, with its whole length
finds : (kind : TokenKind) (text : List ℕ) (others : List Piece) → IsText kind text → Finds (text ++ behind others) kind (length text)
finds kind.Name text others is = front-name text (behind others) is (ends_name others)
finds kind.Int text others is = front-integer text (behind others) is (ends_number others)
finds kind.Punctuator text others is = front-punctuator text (behind others) is
finds kind.Quoted text others is = subst (λ xs. Finds (xs ++ behind others) kind.Quoted (length xs)) (sym is.is) (finds-quoted_text is.value (behind others) (ends_string others))
finds kind.Block text others is = absurd is

-- no blank begins it
begins_no_blank : (kind : TokenKind) (text tail : List ℕ) → IsText kind text → blanks (text ++ tail) ≡ 0
begins_no_blank kind.Name text tail is = blanks-name text tail is
begins_no_blank kind.Int text tail is = blanks-integer text tail is
begins_no_blank kind.Punctuator text tail is = blanks-punctuator text tail is
begins_no_blank kind.Quoted text tail is = ap (λ xs. blanks (xs ++ tail)) is.is
begins_no_blank kind.Block text tail is = absurd is

-- ---- all of them

-- the tokens of `rest` are these pieces
abbrev Spells : List ℕ → List ℕ → List Piece → Type 0
Spells passed rest pieces = (tokens : List Lexeme) × Lexes passed rest tokens Whole × (map piece tokens ≡ pieces)

next_piece : (passed rest : List ℕ) (count : ℕ) (first : Piece) (others : List Piece) → IsWritten first → blanks rest ≡ count → drop count rest ≡ first.text ++ behind others
    → ((before : List ℕ) → Spells before (behind others) others) → Spells passed rest (first ∷ others)
next_piece passed rest count first others is blanks_are here later =
    let step = steps passed rest count first.kind first.text (behind others) blanks_are here (finds first.kind first.text others is) in
    let before = passed ++ take (done_with rest) rest in
    let more = later before in
    (step.token ∷ more.0, (step.next, subst (λ xs. Lexes before xs more.0 Whole) (sym step.left) more.1), λ i. record { kind = step.kind_is i; text = step.text_is i } ∷ more.2 i)

lexes_behind : (passed : List ℕ) (pieces : List Piece) → Each IsWritten pieces → Spells passed (behind pieces) pieces
lexes_behind passed [] are = ([], refl, refl)
lexes_behind passed (first ∷ others) are =
    next_piece passed (behind (first ∷ others)) 1 first others are.0 (ap suc (begins_no_blank first.kind first.text (behind others) are.0)) refl (λ before. lexes_behind before others are.1)

-- written pieces are the tokens of their text
pub spaced_lexes : (pieces : List Piece) → Each IsWritten pieces → (tokens : List Lexeme) × Lexes [] (spaced pieces) tokens Whole × (map piece tokens ≡ pieces)
spaced_lexes [] are = ([], refl, refl)
spaced_lexes (first ∷ others) are =
    next_piece [] (spaced (first ∷ others)) 0 first others are.0 (begins_no_blank first.kind first.text (behind others) are.0) refl (λ before. lexes_behind before others are.1)
