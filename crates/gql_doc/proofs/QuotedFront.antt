-- A printed string is a quoted string of the standard: it reads back, and where it stands at the front it is found.
use Rattle.std.proofs.Common.{◌≡◌, ◌≢◌, ℕ, ◌/◌, ◌%◌, ◌<◌, ◌≤◌, ◌==◌, true, false, lit<, List, [], ◌∷◌, ◌++◌, length, flat_map, Some, IsUtf8, inl, inr, refl, ap, sym, ◌∙◌, append_assoc, arith}
use Rattle.std.specs.Prelude.{nat_eq}
use Rattle.std.specs.List.{AllByRecursion as Each, starts_with}
use Rattle.std.specs.Char.{is_ascii_hexdigit}
use Rattle.std.proofs.lemmas.Bool.{agree_below_at, and_left, ne_eqb, le-ltb, lt-leb, eqb-true, not_from_false, or_from}
use Rattle.std.proofs.lemmas.Str.{encode_ascii}
use Rattle.gql_lex.specs.declared.token.TokenKind.TheVariants as kind
use Rattle.gql_lex.specs.StringTexts.{simple_escape, spelled, Piece, texts, values, is_plain, IsQuotedPiece, IsQuoted, begins_quotes}
use Rattle.gql_lex.proofs.QuotedTexts.{front-quoted_text}
use Rattle.gql_lex.proofs.Steps.{Finds}
use Rattle.gql_doc.specs.Quoting.{hex_of, quoted_byte, quoted_text}
use Rattle.gql_doc.specs.StringValue.{string_value}
use Rattle.gql_doc.proofs.Quoting.{by_way, IsUtf8-quoted_text}
use Rattle.gql_doc.proofs.StringTexts.{quoted-meant}

-- what is printed of a byte, which means it
written : ℕ → List ℕ → Piece
written b printed = record { text = printed; value = b ∷ [] }

hex_is_digit : (n : ℕ) → n < 16 → is_ascii_hexdigit (hex_of n) ≡ true
hex_is_digit n small = agree_below_at (λ k. is_ascii_hexdigit (hex_of k)) (λ k. true) 16 n refl small

control_spelled : (b : ℕ) → b < 32 → spelled 48 48 (hex_of (b / 16)) (hex_of (b % 16)) ≡ b
control_spelled b small = eqb-true _ b (agree_below_at (λ k. spelled 48 48 (hex_of (k / 16)) (hex_of (k % 16)) == k) (λ k. true) 32 b refl small)

control_right : (b : ℕ) → b < 32 → IsQuotedPiece (written b (92 ∷ 117 ∷ 48 ∷ 48 ∷ hex_of (b / 16) ∷ hex_of (b % 16) ∷ []))
unfolding written
control_right b small = inr (
  b,
  inr (inl (record {
    digits = 48 ∷ 48 ∷ hex_of (b / 16) ∷ hex_of (b % 16) ∷ [];
    text_is = refl;
    spells = record {
      a = 48;
      b = 48;
      c = hex_of (b / 16);
      d = hex_of (b % 16);
      text_is = refl;
      digits = (refl, (refl, (hex_is_digit (b / 16) (omega arith), (hex_is_digit (b % 16) (omega arith), tt))));
      number_is = sym (control_spelled b small);
    };
    no_high = and_left _ _ (lt-leb 0xD800 b (omega arith));
    no_low = and_left _ _ (lt-leb 0xDC00 b (omega arith));
  })),
  sym (encode_ascii b (omega arith)),
)

plain_right : (b : ℕ) → 32 ≤ b → b ≢ 34 → b ≢ 92 → IsQuotedPiece (written b (b ∷ []))
unfolding written
plain_right b low not_quote not_backslash =
    let plain : is_plain b ≡ true = not_from_false _ (or_from _ _ (ne_eqb b 34 not_quote) (or_from _ _ (ne_eqb b 92 not_backslash)
    (or_from _ _ (or_from _ _ (ne_eqb b 10 (λ e. omega arith)) (ne_eqb b 13 (λ e. omega arith))) (and_left _ _ (le-ltb b 32 low))))) in
    inl (b, plain, (refl, refl))

simple_right : (b byte : ℕ) → simple_escape byte ≡ Some b → b < 128 → IsQuotedPiece (written b (92 ∷ byte ∷ []))
unfolding written
simple_right b byte is small = inr (b, inl (record { byte = byte; text_is = refl; character_is = is }), sym (encode_ascii b small))

byte_right : (b : ℕ) → IsQuotedPiece (written b (quoted_byte b))
byte_right = by_way (λ b printed. IsQuotedPiece (written b printed)) (simple_right 34 34 refl (lit< tt)) (simple_right 92 92 refl (lit< tt)) (simple_right 10 110 refl (lit< tt)) control_right plain_right

-- a text that is printed, a byte a piece
pieces_of : List ℕ → List Piece
pieces_of [] = []
pieces_of (b ∷ v) = written b (quoted_byte b) ∷ pieces_of v

pieces_right : (v : List ℕ) → Each IsQuotedPiece (pieces_of v)
unfolding pieces_of
pieces_right [] = tt
pieces_right (b ∷ v) = (byte_right b, pieces_right v)

texts_of : (v : List ℕ) → flat_map quoted_byte v ≡ texts (pieces_of v)
unfolding pieces_of written
texts_of [] = refl
texts_of (b ∷ v) = ap (λ (xs : List ℕ). quoted_byte b ++ xs) (texts_of v)

values_of : (v : List ℕ) → v ≡ values (pieces_of v)
unfolding pieces_of written
values_of [] = refl
values_of (b ∷ v) = ap (λ (xs : List ℕ). b ∷ xs) (values_of v)

-- a text that is printed is a quoted string, which means it
quoted_text-is : (v : List ℕ) → IsQuoted (quoted_text v) v
quoted_text-is v = record { content = flat_map quoted_byte v; token_is = refl; means = record { pieces = pieces_of v; right = pieces_right v; content_is = texts_of v; value_is = values_of v } }

-- a text that is printed reads back
pub quoted_reads_back : (v : List ℕ) → IsUtf8 v → string_value kind.Quoted (quoted_text v) ≡ v
quoted_reads_back v utf8 = quoted-meant (quoted_text v) v (IsUtf8-quoted_text v utf8) (quoted_text-is v)

-- what is printed begins with no quote
no_quote : (b : ℕ) (rest : List ℕ) → starts_with nat_eq (quoted_byte b ++ rest) (34 ∷ 34 ∷ []) ≡ false
no_quote b rest = by_way (λ b printed. starts_with nat_eq (printed ++ rest) (34 ∷ 34 ∷ []) ≡ false) refl refl refl (λ b small. refl)
    (λ b low not_quote not_backslash. and_left (nat_eq 34 b) _ (ne_eqb 34 b (λ e. not_quote (sym e)))) b

single : (v tail : List ℕ) → starts_with nat_eq (34 ∷ tail) (34 ∷ 34 ∷ []) ≡ false → starts_with nat_eq (flat_map quoted_byte v ++ 34 ∷ tail) (34 ∷ 34 ∷ []) ≡ false
single [] tail alone = alone
single (b ∷ v) tail alone = ap (λ xs. starts_with nat_eq xs (34 ∷ 34 ∷ [])) (append_assoc (quoted_byte b) (flat_map quoted_byte v) (34 ∷ tail)) ∙ no_quote b (flat_map quoted_byte v ++ 34 ∷ tail)

-- a printed string that no quote follows is found
pub finds-quoted_text : (v tail : List ℕ) → starts_with nat_eq (34 ∷ tail) (34 ∷ 34 ∷ []) ≡ false → Finds (quoted_text v ++ tail) kind.Quoted (length (quoted_text v))
finds-quoted_text v tail alone =
    front-quoted_text (quoted_text v) tail v (quoted_text-is v) (ap (λ xs. begins_quotes (34 ∷ xs)) (append_assoc (flat_map quoted_byte v) (34 ∷ []) tail) ∙ single v tail alone)
