-- A name, an integer and a punctuator are ASCII on one line, so behind them the column has grown by their bytes.
use Rattle.std.proofs.Common.{◌≡◌, ℕ, zero, suc, ◌+◌, ◌<◌, ◌⊎◌, inl, inr, Bool, true, false, List, [], ◌∷◌, ◌++◌, take, drop, get_or, Some, ap, sym, ◌∙◌, refl, subst, lit<, arith}
use Rattle.std.specs.List.{AllByRecursion, list_any}
use Rattle.std.proofs.lemmas.Bool.{or_from}
use Rattle.std.proofs.lemmas.Bool.Decides.{nat_tests}
use Rattle.std.proofs.lemmas.List.{length-take-le, take-append-drop}
use Rattle.std.specs.Char.{is_ascii_digit}
use Rattle.gql_tree.specs.declared.Spot.{Spot}
use Rattle.gql_lex.specs.Classes.{is_line_end, begins_name, continues_name, is_punctuator}
use Rattle.gql_lex.specs.Longest.{Each, IsName, IsMinus, IsWhole}
use Rattle.gql_lex.specs.Places.{spot_at}
use Rattle.gql_lex.specs.Front.{front}
use Rattle.gql_lex.specs.inner.Behind.{IsBehind}
use Rattle.gql_lex.specs.declared.scan.Found.TheVariants.{Token}
use Rattle.gql_lex.specs.declared.token.TokenKind.{TokenKind}
use Rattle.gql_lex.specs.declared.token.TokenKind.TheVariants as kind
use Rattle.gql_lex.proofs.Places.{place, spot_at-line, count-ascii}
use Rattle.gql_lex.proofs.Texts.{IsInteger, IsPunctuator, IsTextOf}
use Rattle.gql_lex.proofs.Tokens.{token-sound}

-- ASCII that ends no line
abbrev IsPlain : ℕ → Type 0
IsPlain byte = (byte < 128) × (is_line_end byte ≡ false)

abbrev ArePlain : List ℕ → Type 0
ArePlain text = AllByRecursion IsPlain text

-- ---- what such bytes are to a place

small : (text : List ℕ) → ArePlain text → (i : ℕ) → get_or text i 0 < 128
small [] plain i = lit< tt
small (byte ∷ more) plain zero = plain.0.0
small (byte ∷ more) plain (suc i) = small more plain.1 i

no_line_ends : (text : List ℕ) → ArePlain text → list_any is_line_end text ≡ false
no_line_ends [] plain = refl
no_line_ends (byte ∷ more) plain = or_from (is_line_end byte) (list_any is_line_end more) plain.0.1 (no_line_ends more plain.1)

-- ---- each word has such bytes alone

plain-append : (xs ys : List ℕ) → ArePlain xs → ArePlain ys → ArePlain (xs ++ ys)
plain-append [] ys plain others = others
plain-append (x ∷ xs) ys plain others = (plain.0, plain-append xs ys plain.1 others)

plain-each : (test : ℕ → Bool) → ((byte : ℕ) → test byte ≡ true → IsPlain byte) → (text : List ℕ) → Each test text → ArePlain text
plain-each test passes [] each = tt
plain-each test passes (byte ∷ more) each = (passes byte each.0, plain-each test passes more each.1)

plain_first : (byte : ℕ) → begins_name byte ≡ true → IsPlain byte
plain_first byte is = (grind (arith, nat_tests), grind (arith, nat_tests))

plain_next : (byte : ℕ) → continues_name byte ≡ true → IsPlain byte
plain_next byte is = (grind (arith, nat_tests), grind (arith, nat_tests))

plain_digit : (byte : ℕ) → is_ascii_digit byte ≡ true → IsPlain byte
plain_digit byte is = (grind (arith, nat_tests), grind (arith, nat_tests))

plain_mark : (byte : ℕ) → is_punctuator byte ≡ true → IsPlain byte
plain_mark byte is = (grind (arith, nat_tests), grind (arith, nat_tests))

plain_name : (text : List ℕ) → IsName text → ArePlain text
plain_name [] is = absurd is
plain_name (byte ∷ more) is = (plain_first byte is.0, plain-each continues_name plain_next more is.1)

plain_minus : (text : List ℕ) → IsMinus text → ArePlain text
plain_minus [] is = tt
plain_minus (byte ∷ more) is = subst ArePlain (sym (ap (λ b. b ∷ more) is.0 ∙ ap (λ xs. 45 ∷ xs) is.1)) ((lit< tt, refl), tt)

plain_whole : (text : List ℕ) → IsWhole text → ArePlain text
plain_whole [] is = absurd is
plain_whole (byte ∷ more) (inl is) = subst ArePlain (sym (ap (λ b. b ∷ more) is.0 ∙ ap (λ xs. 48 ∷ xs) is.1)) ((lit< tt, refl), tt)
plain_whole (byte ∷ more) (inr is) = plain-each is_ascii_digit plain_digit (byte ∷ more) is.1

plain_integer : (text : List ℕ) → IsInteger text → ArePlain text
plain_integer text is = subst ArePlain (sym is.parts) (plain-append is.minus is.whole (plain_minus is.minus is.is_minus) (plain_whole is.whole is.is_whole))

plain_punctuator : (text : List ℕ) → IsPunctuator text → ArePlain text
plain_punctuator text (inl is) = subst ArePlain (sym is.2) (plain_mark is.0 is.1, tt)
plain_punctuator text (inr is) = subst ArePlain (sym is) ((lit< tt, refl), ((lit< tt, refl), ((lit< tt, refl), tt)))

-- the kinds of words
abbrev pub IsWord : TokenKind → Type 0
IsWord k = (k ≡ kind.Punctuator) ⊎ ((k ≡ kind.Name) ⊎ (k ≡ kind.Int))

plain_word : (k : TokenKind) (text : List ℕ) → IsWord k → IsTextOf k text → ArePlain text
plain_word k text (inl is) right = plain_punctuator text (subst (λ (k : TokenKind). IsTextOf k text) is right)
plain_word k text (inr (inl is)) right = plain_name text (subst (λ (k : TokenKind). IsTextOf k text) is right)
plain_word k text (inr (inr is)) right = plain_integer text (subst (λ (k : TokenKind). IsTextOf k text) is right)

-- ---- the place behind a word

pub IsBehind-word : (spot : Spot) (text : List ℕ) (k : TokenKind) (len : ℕ) → IsWord k → front text ≡ Some (Token k len) → IsBehind spot text len (place spot.line (spot.column + len))
IsBehind-word spot text k len word found passed is =
    let sound = token-sound text k len found in
    let here = take len text in
    let plain = plain_word k here word sound.right in
    ap (λ n. place spot.line (spot.column + n)) (sym (length-take-le len text sound.fits) ∙ count-ascii here (small here plain))
    ∙ spot_at-line spot passed here (drop len text) (no_line_ends here plain) (is ∙ ap (spot_at passed) (sym (take-append-drop len text)))
