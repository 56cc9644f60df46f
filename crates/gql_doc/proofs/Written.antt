-- What is written is UTF-8.
use Rattle.std.proofs.Common.{◌≡◌, ℕ, ◌<◌, Bool, true, inl, inr, List, [], ◌∷◌, flat_map, IsUtf8, refl, sym, subst, lit<, arith}
use Rattle.std.specs.List.{AllByRecursion}
use Rattle.std.specs.Char.{is_ascii_digit}
use Rattle.std.proofs.lemmas.Bool.Decides.{nat_tests}
use Rattle.std.proofs.lemmas.Str.{IsUtf8-append, IsUtf8-nil}
use Rattle.gql_lex.specs.declared.token.TokenKind.{TokenKind}
use Rattle.gql_lex.specs.declared.token.TokenKind.TheVariants as kind
use Rattle.gql_lex.specs.Classes.{begins_name, continues_name, is_punctuator}
use Rattle.gql_lex.specs.Longest.{Each, IsName, IsMinus, IsWhole}
use Rattle.gql_lex.proofs.Texts.{IsPunctuator}
use Rattle.gql_doc.specs.Quoting.{quoted_text}
use Rattle.gql_doc.specs.Pieces.{Piece, spaced}
use Rattle.gql_doc.proofs.Pieces.{IsText, IsWritten}
use Rattle.gql_doc.proofs.Quoting.{AreAscii, encodes_ascii, scalars_ascii, IsUtf8-quoted_text}

-- the value of a string is written as a string
pub string-written : (value : List ℕ) → IsUtf8 value → IsWritten (record { kind = kind.Quoted; text = quoted_text value })
string-written value utf8 = record { value = value; is_utf8 = utf8; is = refl }

-- ---- what is written

ascii_utf8 : (xs : List ℕ) → AreAscii xs → IsUtf8 xs
ascii_utf8 xs h = (xs, (scalars_ascii xs h, encodes_ascii xs h))

each_small : (test : ℕ → Bool) → ((b : ℕ) → test b ≡ true → b < 128) → (xs : List ℕ) → Each test xs → AreAscii xs
each_small test small [] h = tt
each_small test small (x ∷ xs) h = (small x h.0, each_small test small xs h.1)

first_small : (byte : ℕ) → begins_name byte ≡ true → byte < 128
first_small byte h = grind (arith, nat_tests)

later_small : (byte : ℕ) → continues_name byte ≡ true → byte < 128
later_small byte h = grind (arith, nat_tests)

digit_small : (byte : ℕ) → is_ascii_digit byte ≡ true → byte < 128
digit_small byte h = grind (arith, nat_tests)

punctuator_small : (byte : ℕ) → is_punctuator byte ≡ true → byte < 128
punctuator_small byte h = grind (arith, nat_tests)

name_ascii : (text : List ℕ) → IsName text → AreAscii text
name_ascii [] is = absurd is
name_ascii (byte ∷ more) is = (first_small byte is.0, each_small continues_name later_small more is.1)

minus_ascii : (minus : List ℕ) → IsMinus minus → AreAscii minus
minus_ascii [] is = tt
minus_ascii (byte ∷ more) is = subst AreAscii (sym (λ i. is.0 i ∷ is.1 i)) (lit< tt, tt)

whole_ascii : (whole : List ℕ) → IsWhole whole → AreAscii whole
whole_ascii [] is = absurd is
whole_ascii (byte ∷ more) (inl is) = subst AreAscii (sym (λ i. is.0 i ∷ is.1 i)) (lit< tt, tt)
whole_ascii (byte ∷ more) (inr is) = each_small is_ascii_digit digit_small (byte ∷ more) is.1

punctuator_ascii : (text : List ℕ) → IsPunctuator text → AreAscii text
punctuator_ascii text (inl is) = subst AreAscii (sym is.2) (punctuator_small is.0 is.1, tt)
punctuator_ascii text (inr is) = subst AreAscii (sym is) (lit< tt, (lit< tt, (lit< tt, tt)))

text_utf8 : (kind : TokenKind) (text : List ℕ) → IsText kind text → IsUtf8 text
text_utf8 kind.Name text is = ascii_utf8 text (name_ascii text is)
text_utf8 kind.Int text is = subst IsUtf8 (sym is.parts) (IsUtf8-append is.minus is.whole (ascii_utf8 is.minus (minus_ascii is.minus is.is_minus)) (ascii_utf8 is.whole (whole_ascii is.whole is.is_whole)))
text_utf8 kind.Punctuator text is = ascii_utf8 text (punctuator_ascii text is)
text_utf8 kind.Quoted text is = subst IsUtf8 (sym is.is) (IsUtf8-quoted_text is.value is.is_utf8)
text_utf8 kind.Block text is = absurd is

behind_utf8 : (others : List Piece) → AllByRecursion IsWritten others → IsUtf8 (flat_map (λ it. 32 ∷ it.text) others)
behind_utf8 [] are = IsUtf8-nil
behind_utf8 (next ∷ others) are =
    IsUtf8-append (32 ∷ next.text) (flat_map (λ it. 32 ∷ it.text) others)
    (IsUtf8-append (32 ∷ []) next.text (ascii_utf8 (32 ∷ []) (lit< tt, tt)) (text_utf8 next.kind next.text are.0))
    (behind_utf8 others are.1)

-- written pieces with a space between two are a text
pub IsUtf8-spaced : (pieces : List Piece) → AllByRecursion IsWritten pieces → IsUtf8 (spaced pieces)
IsUtf8-spaced [] are = IsUtf8-nil
IsUtf8-spaced (first ∷ others) are = IsUtf8-append first.text (flat_map (λ it. 32 ∷ it.text) others) (text_utf8 first.kind first.text are.0) (behind_utf8 others are.1)
