-- What string tokens mean is what the standard says of them.
use Rattle.std.proofs.Common.{◌≡◌, ◌≢◌, ℕ, zero, suc, ◌+◌, ◌-◌, ◌*◌, ◌<◌, ◌≤◌, ◌==◌, ◌⊎◌, inl, inr, Bool, true, false, ◌&&◌, ◌||◌, lit<, List, [], ◌∷◌, ◌++◌, length, take, drop, get_or, Some, IsUtf8, refl, ap, sym, ◌∙◌, subst, length-append, arith}
use Rattle.std.specs.Prelude.{nat_eq, nat_lt, nat_le}
use Rattle.std.specs.List.{AllByRecursion as Each, starts_with}
use Rattle.std.specs.Char.{is_ascii_hexdigit, digit_value, encode_utf8}
use Rattle.std.specs.Char.Utf16.{is_high_surrogate, is_low_surrogate, surrogate_pair_char}
use Rattle.std.specs.Str.{chars, encode_utf8_all}
use Rattle.std.proofs.lemmas.Bool.{cond-true, cond-false, and_parts, and_cases, and_left, or_left, or_right, and_from, eqb-true, eqb-false, ne_eqb, lt-ltb, le-leb, ltb-true, ltb-false, leb-true, leb-false, cases_lt}
use Rattle.std.proofs.lemmas.Bool.Decides.{nat_tests}
use Rattle.std.proofs.lemmas.List.{drop_at, take_at, get_or_at}
use Rattle.std.proofs.lemmas.Str.{chars-append, chars-encodes, encodes-chars, scalars-chars, encodes-append, encode_ascii, cons_from_encodes, IsUtf8-past_char, IsUtf8-take, IsCharBoundary-before_ascii}
use Rattle.gql_lex.specs.Longest.{Each as EachPasses}
use Rattle.gql_lex.specs.StringTexts.{simple_escape, spelled, IsEscape, Piece, texts, values, IsQuotedPiece, IsQuoted, three_quotes, escaped_quotes, begins_quotes, IsBlockPiece, AreBlockPieces, IsBlock}
use Rattle.gql_lex.specs.declared.token.TokenKind.TheVariants as kind
use Rattle.gql_lex.proofs.Escapes.{by_simple, digit_small, escape-passes}
use Rattle.gql_lex.proofs.Found.{starts_split}
use Rattle.gql_lex.proofs.QuotedTexts.{plain_byte}
use Rattle.gql_doc.specs.StringValue.{hex_digit, unit, character, unicode, escape, quoted_value, raw_value, block_string_value, block_value, between, value, string_value}
use Rattle.gql_doc.proofs.Meant.{from_scalars, to_scalars, raw_scalars}
use Rattle.gql_doc.proofs.Quoting.{AreAscii, encodes_ascii, scalars_ascii, encode_high}

-- ---- escapes

hex_value : (x : ℕ) → is_ascii_hexdigit x ≡ true → hex_digit x ≡ digit_value x
hex_value x is = cond-true (nat_lt (digit_value x) 16) _ _ (lt-ltb (digit_value x) 16 (digit_small x is))

hex_ascii : (x : ℕ) → is_ascii_hexdigit x ≡ true → x < 128
hex_ascii x is = grind (arith, nat_tests)

unit-spelled : (a b c d : ℕ) (rest : List ℕ) → EachPasses is_ascii_hexdigit (a ∷ b ∷ c ∷ d ∷ []) → unit (a ∷ b ∷ c ∷ d ∷ rest) ≡ spelled a b c d
unit-spelled a b c d rest are = λ i. ((hex_value a are.0 i * 16 + hex_value b are.1.0 i) * 16 + hex_value c are.1.1.0 i) * 16 + hex_value d are.1.1.1.0 i

spelled-below : (a b c d : ℕ) → EachPasses is_ascii_hexdigit (a ∷ b ∷ c ∷ d ∷ []) → spelled a b c d < 0x1_0000
spelled-below a b c d are =
    let first = digit_small a are.0 in
    let second = digit_small b are.1.0 in
    let third = digit_small c are.1.1.0 in
    let fourth = digit_small d are.1.1.1.0 in
    omega (arith, first, second, third, fourth)

-- a number that is no surrogate is a character
character-same : (n : ℕ) → (n < 0xD800) ⊎ ((0xE000 ≤ n) × (n < 0x11_0000)) → character n ≡ n
character-same n (inl h) = cond-true (nat_lt n 0xD800 || nat_le 0xE000 n && nat_lt n 0x11_0000) n 0xFFFD (or_left _ _ (lt-ltb n 0xD800 h))
character-same n (inr h) = cond-true (nat_lt n 0xD800 || nat_le 0xE000 n && nat_lt n 0x11_0000) n 0xFFFD (or_right (nat_lt n 0xD800) _ (and_from _ _ (le-leb 0xE000 n h.0) (lt-ltb n 0x11_0000 h.1)))

no_surrogate : (n : ℕ) → n < 0x1_0000 → is_high_surrogate n ≡ false → is_low_surrogate n ≡ false → (n < 0xD800) ⊎ ((0xE000 ≤ n) × (n < 0x11_0000))
no_surrogate n small no_high no_low = elim (and_cases (nat_le 0xD800 n) (nat_lt n 0xDC00) no_high) [
  | inl h ↦ inl (leb-false 0xD800 n h)
  | inr h ↦ elim (and_cases (nat_le 0xDC00 n) (nat_lt n 0xE000) no_low) [
    | inl k ↦ absurd (let high = ltb-false n 0xDC00 h in let low = leb-false 0xDC00 n k in omega arith)
    | inr k ↦ inr (ltb-false n 0xE000 k, omega arith)
  ]
]

abbrev Code : Type 0
Code = ℕ × ℕ

unicode_plain : (a b c d n : ℕ) (rest : List ℕ) → EachPasses is_ascii_hexdigit (a ∷ b ∷ c ∷ d ∷ []) → n ≡ spelled a b c d → is_high_surrogate n ≡ false → is_low_surrogate n ≡ false → unicode (a ∷ b ∷ c ∷ d ∷ rest) ≡ (n, 5)
unicode_plain a b c d n rest are is no_high no_low =
    let u : unit (a ∷ b ∷ c ∷ d ∷ rest) ≡ n = unit-spelled a b c d rest are ∙ sym is in
    let small : n < 0x1_0000 = subst (λ k. k < 0x1_0000) (sym is) (spelled-below a b c d are) in
    cond-false (is_high_surrogate (unit (a ∷ b ∷ c ∷ d ∷ rest))) _ _ (ap is_high_surrogate u ∙ no_high)
    ∙ ap (λ (k : ℕ). let p : Code = (character k, 5) in p) u
    ∙ ap (λ (k : ℕ). let p : Code = (k, 5) in p) (character-same n (no_surrogate n small no_high no_low))

pair_fits : (high low : ℕ) → is_high_surrogate high ≡ true → is_low_surrogate low ≡ true → (0xE000 ≤ surrogate_pair_char high low) × (surrogate_pair_char high low < 0x11_0000)
pair_fits high low is_high is_low =
    let p = and_parts (nat_le 0xD800 high) (nat_lt high 0xDC00) is_high in
    let q = and_parts (nat_le 0xDC00 low) (nat_lt low 0xE000) is_low in
    let from = leb-true 0xD800 high p.0 in
    let below = ltb-true high 0xDC00 p.1 in
    let low_from = leb-true 0xDC00 low q.0 in
    let low_below = ltb-true low 0xE000 q.1 in
    (omega arith, omega arith)

unicode_pair : (a b c d e f g h x y high low : ℕ) (rest : List ℕ) → EachPasses is_ascii_hexdigit (a ∷ b ∷ c ∷ d ∷ []) → high ≡ spelled a b c d → is_high_surrogate high ≡ true
    → EachPasses is_ascii_hexdigit (e ∷ f ∷ g ∷ h ∷ []) → low ≡ spelled e f g h → is_low_surrogate low ≡ true → unicode (a ∷ b ∷ c ∷ d ∷ x ∷ y ∷ e ∷ f ∷ g ∷ h ∷ rest) ≡ (surrogate_pair_char high low, 11)
unicode_pair a b c d e f g h x y high low rest are high_is is_high these low_is is_low =
    let u : unit (a ∷ b ∷ c ∷ d ∷ x ∷ y ∷ e ∷ f ∷ g ∷ h ∷ rest) ≡ high = unit-spelled a b c d (x ∷ y ∷ e ∷ f ∷ g ∷ h ∷ rest) are ∙ sym high_is in
    let v : unit (e ∷ f ∷ g ∷ h ∷ rest) ≡ low = unit-spelled e f g h rest these ∙ sym low_is in
    cond-true (is_high_surrogate (unit (a ∷ b ∷ c ∷ d ∷ x ∷ y ∷ e ∷ f ∷ g ∷ h ∷ rest))) _ _ (ap is_high_surrogate u ∙ is_high)
    ∙ (λ i. let p : Code = (character (surrogate_pair_char (u i) (v i)), 11) in p)
    ∙ ap (λ (k : ℕ). let p : Code = (k, 11) in p) (character-same (surrogate_pair_char high low) (inr (pair_fits high low is_high is_low)))

abbrev Reads : List ℕ → ℕ → Type 0
Reads text c = (rest : List ℕ) → quoted_value 0 (text ++ rest) ≡ c ∷ quoted_value 0 rest

pub other_reads : (c : ℕ) → c ≢ 92 → Reads (c ∷ []) c
other_reads c ne rest = ap (λ (p : Code). p.0 ∷ quoted_value p.1 rest) (cond-false (c == 92) (escape rest) (c, 0) (ne_eqb c 92 ne))

by_unicode : List ℕ → Code → List ℕ
by_unicode digits piece = piece.0 ∷ quoted_value piece.1 (117 ∷ digits)

unicode_reads : (a b c d n : ℕ) → EachPasses is_ascii_hexdigit (a ∷ b ∷ c ∷ d ∷ []) → n ≡ spelled a b c d → is_high_surrogate n ≡ false → is_low_surrogate n ≡ false → Reads (92 ∷ 117 ∷ a ∷ b ∷ c ∷ d ∷ []) n
unfolding by_unicode
unicode_reads a b c d n are is no_high no_low rest = ap (by_unicode (a ∷ b ∷ c ∷ d ∷ rest)) (unicode_plain a b c d n rest are is no_high no_low)

pair_reads : (a b c d e f g h high low : ℕ) → EachPasses is_ascii_hexdigit (a ∷ b ∷ c ∷ d ∷ []) → high ≡ spelled a b c d → is_high_surrogate high ≡ true
    → EachPasses is_ascii_hexdigit (e ∷ f ∷ g ∷ h ∷ []) → low ≡ spelled e f g h → is_low_surrogate low ≡ true → Reads (92 ∷ 117 ∷ a ∷ b ∷ c ∷ d ∷ 92 ∷ 117 ∷ e ∷ f ∷ g ∷ h ∷ []) (surrogate_pair_char high low)
unfolding by_unicode
pair_reads a b c d e f g h high low are high_is is_high these low_is is_low rest =
    ap (by_unicode (a ∷ b ∷ c ∷ d ∷ 92 ∷ 117 ∷ e ∷ f ∷ g ∷ h ∷ rest)) (unicode_pair a b c d e f g h 92 117 high low rest are high_is is_high these low_is is_low)

simple_reads : (byte c : ℕ) → simple_escape byte ≡ Some c → Reads (92 ∷ byte ∷ []) c
simple_reads = by_simple (λ byte c. Reads (92 ∷ byte ∷ []) c) (λ rest. refl) (λ rest. refl) (λ rest. refl) (λ rest. refl) (λ rest. refl) (λ rest. refl) (λ rest. refl) (λ rest. refl)

simple_ascii : (byte c : ℕ) → simple_escape byte ≡ Some c → byte < 128
simple_ascii = by_simple (λ byte c. byte < 128) (lit< tt) (lit< tt) (lit< tt) (lit< tt) (lit< tt) (lit< tt) (lit< tt) (lit< tt)

-- an escape is read as its character, and is ASCII
record IsRead (text : List ℕ) (c : ℕ) : Type 0 where
  pub reads : Reads text c
  pub ascii : AreAscii text

escape_read : (text : List ℕ) (c : ℕ) → IsEscape text c → IsRead text c
escape_read text c (inl is) = subst (λ (xs : List ℕ). IsRead xs c) (sym is.text_is) (record { reads = simple_reads is.byte c is.character_is; ascii = (lit< tt, (simple_ascii is.byte c is.character_is, tt)) })
escape_read text c (inr (inl is)) =
    let s = is.spells in
    let are = subst (EachPasses is_ascii_hexdigit) s.text_is s.digits in
    subst (λ (xs : List ℕ). IsRead xs c) (sym (is.text_is ∙ ap (λ (xs : List ℕ). 92 ∷ 117 ∷ xs) s.text_is)) (record {
      reads = unicode_reads s.a s.b s.c s.d c are s.number_is is.no_high is.no_low;
      ascii = (lit< tt, (lit< tt, (hex_ascii s.a are.0, (hex_ascii s.b are.1.0, (hex_ascii s.c are.1.1.0, (hex_ascii s.d are.1.1.1.0, tt))))));
    })
escape_read text c (inr (inr is)) =
    let s = is.spells_high in
    let t = is.spells_low in
    let are = subst (EachPasses is_ascii_hexdigit) s.text_is s.digits in
    let these = subst (EachPasses is_ascii_hexdigit) t.text_is t.digits in
    let first : IsRead (92 ∷ 117 ∷ s.a ∷ s.b ∷ s.c ∷ s.d ∷ 92 ∷ 117 ∷ t.a ∷ t.b ∷ t.c ∷ t.d ∷ []) (surrogate_pair_char is.high is.low) = record {
      reads = pair_reads s.a s.b s.c s.d t.a t.b t.c t.d is.high is.low are s.number_is is.is_high these t.number_is is.is_low;
      ascii = (
        lit< tt,
        (
          lit< tt,
          (
            hex_ascii s.a are.0,
            (
              hex_ascii s.b are.1.0,
              (
                hex_ascii s.c are.1.1.0,
                (
                  hex_ascii s.d are.1.1.1.0,
                  (
                    lit< tt,
                    (
                      lit< tt,
                      (hex_ascii t.a these.0, (hex_ascii t.b these.1.0, (hex_ascii t.c these.1.1.0, (hex_ascii t.d these.1.1.1.0, tt)))),
                    ),
                  ),
                ),
              ),
            ),
          ),
        ),
      );
    } in
    subst (λ k. IsRead text k) (sym is.character_is)
    (subst (λ (xs : List ℕ). IsRead xs (surrogate_pair_char is.high is.low)) (sym (is.text_is ∙ (λ i. 92 ∷ 117 ∷ (s.text_is i ++ 92 ∷ 117 ∷ t.text_is i)))) first)

-- ---- characters and pieces

-- ASCII at the front of the bytes is the front of the characters
front_chars : (xs ds rest : List ℕ) → AreAscii xs → encode_utf8_all ds ≡ xs ++ rest → (es : List ℕ) × (ds ≡ xs ++ es) × (encode_utf8_all es ≡ rest)
front_chars [] ds rest ascii is = (ds, refl, is)
front_chars (x ∷ xs) ds rest ascii is =
    let one = cons_from_encodes ds (xs ++ rest) x (is ∙ ap (λ (l : List ℕ). l ++ (xs ++ rest)) (sym (encode_ascii x ascii.0))) in
    let more = front_chars xs one.0 rest ascii.1 one.2 in
    (more.0, one.1 ∙ ap (λ (l : List ℕ). x ∷ l) more.1, more.2)

-- a small character is one byte
small_front : (c : ℕ) (ds : List ℕ) → c < 128 → encode_utf8_all (c ∷ ds) ≡ c ∷ encode_utf8_all ds
small_front c ds small = ap (λ (l : List ℕ). l ++ encode_utf8_all ds) (encode_ascii c small)

abbrev AreHigh : List ℕ → Type 0
AreHigh xs = (k : ℕ) → k < length xs → 128 ≤ get_or xs k 0

high_first : (x : ℕ) (xs : List ℕ) → AreHigh (x ∷ xs) → 128 ≤ x
high_first x xs high = high 0 (omega arith)

high_rest : (x : ℕ) (xs : List ℕ) → AreHigh (x ∷ xs) → AreHigh xs
high_rest x xs high = λ k below. high (suc k) (omega arith)

-- ---- quoted strings

quoted_some : (p : Piece) → IsQuotedPiece p → 0 < length p.text
quoted_some p (inl is) = (let long = ap length is.2.0 in omega (arith, long))
quoted_some p (inr is) = (let passes = escape-passes p.text [] is.0 is.1 in let long = ap length passes.text_is in omega (arith, long))

-- bytes that aren't ASCII stand for themselves
record HighPieces (bytes rest : List ℕ) (pieces : List Piece) : Type 0 where
  pub later : List Piece
  pub are : Each IsQuotedPiece later
  pub left : rest ≡ texts later
  pub meant : values pieces ≡ bytes ++ values later

no_escape : (x : ℕ) (xs ys : List ℕ) (p : Piece) (c : ℕ) → 128 ≤ x → IsEscape p.text c → x ∷ xs ≡ p.text ++ ys → ⊥
no_escape x xs ys p c high is same =
    let passes = escape-passes p.text [] c is in
    let at : x ∷ xs ≡ 92 ∷ (passes.behind ++ ys) = same ∙ ap (λ (l : List ℕ). l ++ ys) passes.text_is in
    let byte : x ≡ 92 = cc in
    omega (arith, byte, high)

high_pieces : (bytes rest : List ℕ) (pieces : List Piece) → AreHigh bytes → Each IsQuotedPiece pieces → bytes ++ rest ≡ texts pieces → HighPieces bytes rest pieces
high_pieces [] rest pieces high are same = record { later = pieces; are = are; left = same; meant = refl }
high_pieces (x ∷ bytes) rest [] high are same = absurd (cc)
high_pieces (x ∷ bytes) rest (p ∷ ps) high are same = by are.0 (high_pieces bytes rest ps (high_rest x bytes high) are.1)
  where
    by : IsQuotedPiece p → (bytes ++ rest ≡ texts ps → HighPieces bytes rest ps) → HighPieces (x ∷ bytes) rest (p ∷ ps)
    by (inr is) others = absurd (no_escape x (bytes ++ rest) (texts ps) p is.0 (high_first x bytes high) is.1 same)
    by (inl is) others =
        let at : x ∷ (bytes ++ rest) ≡ is.0 ∷ texts ps = same ∙ ap (λ (l : List ℕ). l ++ texts ps) is.2.0 in
        let byte : x ≡ is.0 = cc in
        let behind : bytes ++ rest ≡ texts ps = cc in
        let more = others behind in
        record {
          later = more.later;
          are = more.are;
          left = more.left;
          meant = ap (λ (l : List ℕ). l ++ values ps) (is.2.1 ∙ ap (λ y. y ∷ []) (sym byte)) ∙ ap (λ (l : List ℕ). x ∷ l) more.meant;
        }

abbrev Meant : List ℕ → List Piece → Type 0
Meant cs pieces = (encode_utf8_all (quoted_value 0 cs) ≡ values pieces)

abbrev AreMeant : List ℕ → Type 0
AreMeant text = (cs : List ℕ) (pieces : List Piece) → length cs < length text → Each IsQuotedPiece pieces → encode_utf8_all cs ≡ texts pieces → Meant cs pieces

big_meant : (c : ℕ) (cs : List ℕ) (pieces : List Piece) → 128 ≤ c → Each IsQuotedPiece pieces → encode_utf8_all (c ∷ cs) ≡ texts pieces → AreMeant (c ∷ cs) → Meant (c ∷ cs) pieces
big_meant c cs pieces big are same later =
    let high = high_pieces (encode_utf8 c) (encode_utf8_all cs) pieces (encode_high c big) are same in
    ap encode_utf8_all (other_reads c (λ e. omega arith) cs)
    ∙ ap (λ (l : List ℕ). encode_utf8 c ++ l) (later cs high.later (omega arith) high.are high.left)
    ∙ sym high.meant

small_meant : (c : ℕ) (cs : List ℕ) (p : Piece) (ps : List Piece) → c < 128 → IsQuotedPiece p → Each IsQuotedPiece ps → encode_utf8_all (c ∷ cs) ≡ p.text ++ texts ps → AreMeant (c ∷ cs) → Meant (c ∷ cs) (p ∷ ps)
small_meant c cs p ps small (inl is) others same later =
    let at : c ∷ encode_utf8_all cs ≡ is.0 ∷ texts ps = sym (small_front c cs small) ∙ same ∙ ap (λ (l : List ℕ). l ++ texts ps) is.2.0 in
    let byte : c ≡ is.0 = cc in
    let behind : encode_utf8_all cs ≡ texts ps = cc in
    let plain = eqb-false is.0 92 (plain_byte is.0 is.1).no_backslash in
    ap encode_utf8_all (other_reads c (λ e. plain (sym byte ∙ e)) cs)
    ∙ small_front c (quoted_value 0 cs) small
    ∙ (λ i. byte i ∷ later cs ps (omega arith) others behind i)
    ∙ ap (λ (l : List ℕ). l ++ values ps) (sym is.2.1)
small_meant c cs p ps small (inr is) others same later =
    let read = escape_read p.text is.0 is.1 in
    let front = front_chars p.text (c ∷ cs) (texts ps) read.ascii same in
    let long = ap length front.1 in
    let some = quoted_some p (inr is) in
    ap (λ (l : List ℕ). encode_utf8_all (quoted_value 0 l)) front.1
    ∙ ap encode_utf8_all (read.reads front.0)
    ∙ (λ i. sym is.2 i ++ later front.0 ps (omega (arith, long, some, length-append p.text front.0)) others front.2 i)

by_size : (c : ℕ) (cs : List ℕ) (pieces : List Piece) → Each IsQuotedPiece pieces → encode_utf8_all (c ∷ cs) ≡ texts pieces → AreMeant (c ∷ cs) → Meant (c ∷ cs) pieces
by_size c cs pieces are same later = elim (cases_lt c 128) [ inl small ↦ by_pieces pieces are same small | inr big ↦ big_meant c cs pieces big are same later ]
  where
    by_pieces : (pieces : List Piece) → Each IsQuotedPiece pieces → encode_utf8_all (c ∷ cs) ≡ texts pieces → c < 128 → Meant (c ∷ cs) pieces
    by_pieces [] are same small = absurd (let none = sym (small_front c cs small) ∙ same in cc)
    by_pieces (p ∷ ps) are same small = small_meant c cs p ps small are.0 are.1 same later

none_meant : (pieces : List Piece) → Each IsQuotedPiece pieces → [] ≡ texts pieces → Meant [] pieces
none_meant [] are same = refl
none_meant (p ∷ ps) are same = (let long = ap length same in let some = quoted_some p are.0 in absurd (omega (arith, long, some, length-append p.text (texts ps))))

-- the characters of pieces mean what the pieces mean
quoted_meant : (bound : ℕ) (cs : List ℕ) (pieces : List Piece) → length cs ≤ bound → Each IsQuotedPiece pieces → encode_utf8_all cs ≡ texts pieces → Meant cs pieces
quoted_meant bound [] pieces within are same = none_meant pieces are same
quoted_meant zero (c ∷ cs) pieces within are same = absurd (omega arith)
quoted_meant (suc bound) (c ∷ cs) pieces within are same = by_size c cs pieces are same (λ ds qs shorter these at. quoted_meant bound ds qs (omega (arith, shorter, within)) these at)

-- ---- the marks of strings

-- what stands between two marks
pub between_marks : (marks xs : List ℕ) → between (length marks) (marks ++ (xs ++ marks)) ≡ xs
between_marks marks xs =
    ap (take (length (marks ++ (xs ++ marks)) - 2 * length marks)) (drop_at marks (xs ++ marks) (length marks) refl)
    ∙ take_at xs marks (length (marks ++ (xs ++ marks)) - 2 * length marks) (omega (arith, length-append marks (xs ++ marks), length-append xs marks))

pub chars_between : (marks content : List ℕ) → AreAscii marks → IsUtf8 content → chars (marks ++ (content ++ marks)) ≡ marks ++ (chars content ++ marks)
chars_between marks content ascii utf8 =
    let marks_utf8 : IsUtf8 marks = (marks, (scalars_ascii marks ascii, encodes_ascii marks ascii)) in
    let same : chars marks ≡ marks = ap chars (sym (encodes_ascii marks ascii)) ∙ chars-encodes marks (scalars_ascii marks ascii) in
    chars-append marks (content ++ marks) marks_utf8
    ∙ ap (λ (l : List ℕ). chars marks ++ l) (chars-append content marks utf8)
    ∙ (λ i. same i ++ (chars content ++ same i))

-- the content of a token of UTF-8 is UTF-8
pub behind_marks : (marks xs : List ℕ) → AreAscii marks → IsUtf8 (marks ++ xs) → IsUtf8 xs
behind_marks [] xs ascii utf8 = utf8
behind_marks (m ∷ marks) xs ascii utf8 = behind_marks marks xs ascii.1 (IsUtf8-past_char (m ∷ (marks ++ xs)) (marks ++ xs) m utf8 (ap (λ (l : List ℕ). l ++ (marks ++ xs)) (sym (encode_ascii m ascii.0))))

pub before_mark : (content : List ℕ) (m : ℕ) (marks : List ℕ) → m < 128 → IsUtf8 (content ++ m ∷ marks) → IsUtf8 content
before_mark content m marks small utf8 =
    let all = content ++ m ∷ marks in
    let at : get_or all (length content) 0 ≡ m = get_or_at content m marks 0 (length content) refl in
    subst IsUtf8 (take_at content (m ∷ marks) (length content) refl)
    (IsUtf8-take all (length content) utf8 (IsCharBoundary-before_ascii all (length content) (omega (arith, length-append content (m ∷ marks))) (subst (λ b. b < 128) (sym at) small)))

-- what a quoted string means is its value
pub quoted-meant : (token value : List ℕ) → IsUtf8 token → IsQuoted token value → string_value kind.Quoted token ≡ value
quoted-meant token value utf8 is =
    let content = is.content in
    let m = is.means in
    let mark : AreAscii (34 ∷ []) = (lit< tt, tt) in
    let inner : IsUtf8 content = before_mark content 34 [] (lit< tt) (behind_marks (34 ∷ []) (content ++ 34 ∷ []) mark (subst IsUtf8 is.token_is utf8)) in
    let cs = chars content in
    ap (string_value kind.Quoted) is.token_is
    ∙ ap (λ (l : List ℕ). encode_utf8_all (quoted_value 0 (between 1 l))) (chars_between (34 ∷ []) content mark inner)
    ∙ ap (λ (l : List ℕ). encode_utf8_all (quoted_value 0 l)) (between_marks (34 ∷ []) cs)
    ∙ quoted_meant (length cs) cs m.pieces (omega arith) m.right (encodes-chars content inner ∙ m.content_is)
    ∙ sym m.value_is

-- ---- block strings

block_text-some : (p : Piece) (behind : List ℕ) → IsBlockPiece p behind → 0 < length p.text
block_text-some p behind (inl is) = (let long = ap length is.0 in omega (arith, long))
block_text-some p behind (inr is) = (let long = ap length is.2.0 in omega (arith, long))

record HighBlock (bytes rest : List ℕ) (pieces : List Piece) : Type 0 where
  pub later : List Piece
  pub are : AreBlockPieces later
  pub left : rest ≡ texts later
  pub meant : values pieces ≡ bytes ++ values later

high_block : (bytes rest : List ℕ) (pieces : List Piece) → AreHigh bytes → AreBlockPieces pieces → bytes ++ rest ≡ texts pieces → HighBlock bytes rest pieces
high_block [] rest pieces high are same = record { later = pieces; are = are; left = same; meant = refl }
high_block (x ∷ bytes) rest [] high are same = absurd (cc)
high_block (x ∷ bytes) rest (p ∷ ps) high are same = by are.0 (high_block bytes rest ps (high_rest x bytes high) are.1)
  where
    by : IsBlockPiece p (texts ps ++ three_quotes) → (bytes ++ rest ≡ texts ps → HighBlock bytes rest ps) → HighBlock (x ∷ bytes) rest (p ∷ ps)
    by (inl is) others =
        let at : x ∷ (bytes ++ rest) ≡ 92 ∷ (three_quotes ++ texts ps) = same ∙ ap (λ (l : List ℕ). l ++ texts ps) is.0 in
        let byte : x ≡ 92 = cc in
        let above = high_first x bytes high in
        absurd (omega (arith, byte, above))
    by (inr is) others =
        let at : x ∷ (bytes ++ rest) ≡ is.0 ∷ texts ps = same ∙ ap (λ (l : List ℕ). l ++ texts ps) is.2.0 in
        let byte : x ≡ is.0 = cc in
        let behind : bytes ++ rest ≡ texts ps = cc in
        let more = others behind in
        record {
          later = more.later;
          are = more.are;
          left = more.left;
          meant = ap (λ (l : List ℕ). l ++ values ps) (is.2.1 ∙ ap (λ y. y ∷ []) (sym byte)) ∙ ap (λ (l : List ℕ). x ∷ l) more.meant;
        }

abbrev Raw : List ℕ → List Piece → Type 0
Raw cs pieces = (encode_utf8_all (raw_value cs) ≡ values pieces)

abbrev AreRaw : List ℕ → Type 0
AreRaw text = (cs : List ℕ) (pieces : List Piece) → length cs < length text → AreBlockPieces pieces → encode_utf8_all cs ≡ texts pieces → Raw cs pieces

-- a character that no `\"""` begins with stays
kept : (c : ℕ) (cs : List ℕ) → (c == 92 && begins_quotes cs) ≡ false → raw_value (c ∷ cs) ≡ c ∷ raw_value cs
kept c cs is = cond-false (c == 92 && begins_quotes cs) _ _ is

big_raw : (c : ℕ) (cs : List ℕ) (pieces : List Piece) → 128 ≤ c → AreBlockPieces pieces → encode_utf8_all (c ∷ cs) ≡ texts pieces → AreRaw (c ∷ cs) → Raw (c ∷ cs) pieces
big_raw c cs pieces big are same later =
    let high = high_block (encode_utf8 c) (encode_utf8_all cs) pieces (encode_high c big) are same in
    ap encode_utf8_all (kept c cs (and_left (c == 92) _ (ne_eqb c 92 (λ e. omega arith))))
    ∙ ap (λ (l : List ℕ). encode_utf8 c ++ l) (later cs high.later (omega arith) high.are high.left)
    ∙ sym high.meant

marks_ascii : AreAscii three_quotes
marks_ascii = (lit< tt, (lit< tt, (lit< tt, tt)))

three_written : (cs : List ℕ) → encode_utf8_all (three_quotes ++ cs) ≡ three_quotes ++ encode_utf8_all cs
three_written cs = encodes-append three_quotes cs ∙ ap (λ (l : List ℕ). l ++ encode_utf8_all cs) (encodes_ascii three_quotes marks_ascii)

-- where three quotes begin the characters, they begin the bytes
no_mark : (byte : ℕ) (cs : List ℕ) (behind : List ℕ) (b q : Bool) → (byte == 92) ≡ b → begins_quotes cs ≡ q → encode_utf8_all cs ≡ behind → starts_with nat_eq (byte ∷ (behind ++ three_quotes)) escaped_quotes ≡ false → b && q ≡ false
no_mark byte cs behind false q is begins same free = refl
no_mark byte cs behind true false is begins same free = refl
no_mark byte cs behind true true is begins same free =
    let at : behind ≡ three_quotes ++ encode_utf8_all (drop 3 cs) = sym same ∙ ap encode_utf8_all (starts_split three_quotes cs begins) ∙ three_written (drop 3 cs) in
    let e : starts_with nat_eq (byte ∷ (behind ++ three_quotes)) escaped_quotes ≡ true =
    (λ i. starts_with nat_eq (eqb-true byte 92 is i ∷ (at i ++ three_quotes)) escaped_quotes) in
    absurd (cc)

small_raw : (c : ℕ) (cs : List ℕ) (p : Piece) (ps : List Piece) → c < 128 → IsBlockPiece p (texts ps ++ three_quotes) → AreBlockPieces ps → encode_utf8_all (c ∷ cs) ≡ p.text ++ texts ps → AreRaw (c ∷ cs) → Raw (c ∷ cs) (p ∷ ps)
small_raw c cs p ps small (inl is) others same later =
    let front = front_chars escaped_quotes (c ∷ cs) (texts ps) (lit< tt, marks_ascii) (same ∙ ap (λ (l : List ℕ). l ++ texts ps) is.0) in
    let long = ap length front.1 in
    ap (λ (l : List ℕ). encode_utf8_all (raw_value l)) front.1
    ∙ three_written (raw_value front.0)
    ∙ (λ i. sym is.1 i ++ later front.0 ps (omega (arith, long)) others front.2 i)
small_raw c cs p ps small (inr is) others same later =
    let at : c ∷ encode_utf8_all cs ≡ is.0 ∷ texts ps = sym (small_front c cs small) ∙ same ∙ ap (λ (l : List ℕ). l ++ texts ps) is.2.0 in
    let byte : c ≡ is.0 = cc in
    let behind : encode_utf8_all cs ≡ texts ps = cc in
    let stays = no_mark is.0 cs (texts ps) (is.0 == 92) (begins_quotes cs) refl refl behind is.1.no_escape in
    ap encode_utf8_all (kept c cs (ap (λ k. (k == 92) && begins_quotes cs) byte ∙ stays))
    ∙ small_front c (raw_value cs) small
    ∙ (λ i. byte i ∷ later cs ps (omega arith) others behind i)
    ∙ ap (λ (l : List ℕ). l ++ values ps) (sym is.2.1)

raw_by_size : (c : ℕ) (cs : List ℕ) (pieces : List Piece) → AreBlockPieces pieces → encode_utf8_all (c ∷ cs) ≡ texts pieces → AreRaw (c ∷ cs) → Raw (c ∷ cs) pieces
raw_by_size c cs pieces are same later = elim (cases_lt c 128) [ inl small ↦ by_pieces pieces are same small | inr big ↦ big_raw c cs pieces big are same later ]
  where
    by_pieces : (pieces : List Piece) → AreBlockPieces pieces → encode_utf8_all (c ∷ cs) ≡ texts pieces → c < 128 → Raw (c ∷ cs) pieces
    by_pieces [] are same small = absurd (let none = sym (small_front c cs small) ∙ same in cc)
    by_pieces (p ∷ ps) are same small = small_raw c cs p ps small are.0 are.1 same later

none_raw : (pieces : List Piece) → AreBlockPieces pieces → [] ≡ texts pieces → Raw [] pieces
none_raw [] are same = refl
none_raw (p ∷ ps) are same = (let long = ap length same in let some = block_text-some p (texts ps ++ three_quotes) are.0 in absurd (omega (arith, long, some, length-append p.text (texts ps))))

-- the characters of pieces have their raw text
raw_meant : (bound : ℕ) (cs : List ℕ) (pieces : List Piece) → length cs ≤ bound → AreBlockPieces pieces → encode_utf8_all cs ≡ texts pieces → Raw cs pieces
raw_meant bound [] pieces within are same = none_raw pieces are same
raw_meant zero (c ∷ cs) pieces within are same = absurd (omega arith)
raw_meant (suc bound) (c ∷ cs) pieces within are same = raw_by_size c cs pieces are same (λ ds qs shorter these at. raw_meant bound ds qs (omega (arith, shorter, within)) these at)

-- what a block string means is the value of its raw text
pub block-meant : (token raw : List ℕ) → IsUtf8 token → IsBlock token raw → string_value kind.Block token ≡ encode_utf8_all (block_string_value (chars raw))
block-meant token raw utf8 is =
    let content = is.content in
    let m = is.means in
    let inner : IsUtf8 content = before_mark content 34 (34 ∷ 34 ∷ []) (lit< tt) (behind_marks three_quotes (content ++ three_quotes) marks_ascii (subst IsUtf8 is.token_is utf8)) in
    let cs = chars content in
    let written : encode_utf8_all (raw_value cs) ≡ raw = raw_meant (length cs) cs m.pieces (omega arith) m.right (encodes-chars content inner ∙ m.content_is) ∙ sym m.raw_is in
    let read : raw_value cs ≡ chars raw =
    sym (chars-encodes (raw_value cs) (to_scalars (raw_value cs) (raw_scalars cs (from_scalars cs (scalars-chars content inner))))) ∙ ap chars written in
    ap (string_value kind.Block) is.token_is
    ∙ ap (λ (l : List ℕ). encode_utf8_all (block_value (between 3 l))) (chars_between three_quotes content marks_ascii inner)
    ∙ ap (λ (l : List ℕ). encode_utf8_all (block_value l)) (between_marks three_quotes cs)
    ∙ ap (λ (l : List ℕ). encode_utf8_all (block_string_value l)) read
