-- An escape is what the lexer takes for one.
use Rattle.std.proofs.Common.{◌≡◌, ◌≢◌, ℕ, ◌+◌, ◌*◌, ◌<◌, ◌≤◌, ◌==◌, inl, inr, Bool, true, false, ◌&&◌, ◌||◌, List, [], ◌∷◌, ◌++◌, length, take, drop, Option, Some, None, refl, ap, sym, ◌∙◌, subst, append_assoc, length-append, length-drop, arith}
use Rattle.std.specs.Prelude.{nat_lt, nat_le, if◌then◌else◌}
use Rattle.std.specs.Char.{is_ascii_hexdigit, digit_value}
use Rattle.std.specs.Char.Utf16.{is_high_surrogate, is_low_surrogate, surrogate_pair_char}
use Rattle.std.proofs.lemmas.Bool.{agree_below, agree_below_at, cond_both, cond-true, cond-false, eqb-true, and_parts, and_from, and_left, and_right, ltb-true, leb-true, lt-ltb, le-ltb, le-leb, lt-leb, cases_lt}
use Rattle.std.proofs.lemmas.Bool.Decides.{nat_tests}
use Rattle.std.proofs.lemmas.List.{drop_at}
use Rattle.gql_lex.proofs.Answers.{take-split}
use Rattle.gql_lex.specs.declared.run.Unit.{Unit as Digits}
use Rattle.gql_lex.specs.declared.run.Unit.TheVariants.{Plain, High, Low}
use Rattle.gql_lex.specs.Longest.{Each}
use Rattle.gql_lex.specs.Runs.{is_d, is_8_to_b, is_c_to_f, unit_by, unit_of, begins_with_low, unicode_escape, is_escape, escape}
use Rattle.gql_lex.specs.StringTexts.{simple_escape, spelled, Spells, IsEscape}

-- ---- simple escapes

one_of : (P : ℕ → ℕ → Type 0) (byte k v c : ℕ) (later : Option ℕ) → P k v → (later ≡ Some c → P byte c) → (if byte == k then Some v else later) ≡ Some c → P byte c
one_of P byte k v c later here more is = by (byte == k) refl is
  where
    by : (b : Bool) → byte == k ≡ b → (if b then Some v else later) ≡ Some c → P byte c
    by true same h = subst (λ x. P x c) (sym (eqb-true byte k same)) (subst (P k) (let e : v ≡ c = cc in e) here)
    by false same h = more h

-- what is so of each of the eight is so of a simple escape
pub by_simple : (P : ℕ → ℕ → Type 0) → P 34 34 → P 92 92 → P 47 47 → P 98 8 → P 102 12 → P 110 10 → P 114 13 → P 116 9
    → (byte c : ℕ) → simple_escape byte ≡ Some c → P byte c
by_simple P quote backslash slash b f n r t byte c =
    one_of P byte 34 34 c _ quote (one_of P byte 92 92 c _ backslash (one_of P byte 47 47 c _ slash (one_of P byte 98 8 c _ b
    (one_of P byte 102 12 c _ f (one_of P byte 110 10 c _ n (one_of P byte 114 13 c _ r (one_of P byte 116 9 c None t (λ is. absurd (cc)))))))))

abbrev HasCharacter : ℕ → Type 0
HasCharacter byte = (c : ℕ) × (simple_escape byte ≡ Some c)

or_one : (byte k : ℕ) (later : Bool) → HasCharacter k → (later ≡ true → HasCharacter byte) → byte == k || later ≡ true → HasCharacter byte
or_one byte k later here more is = by (byte == k) refl is
  where
    by : (b : Bool) → byte == k ≡ b → b || later ≡ true → HasCharacter byte
    by true same h = subst HasCharacter (sym (eqb-true byte k same)) here
    by false same h = more h

simple_from : (byte : ℕ) → is_escape byte ≡ true → HasCharacter byte
simple_from byte =
    or_one byte 34 _ (34, refl) (or_one byte 92 _ (92, refl) (or_one byte 47 _ (47, refl) (or_one byte 98 _ (8, refl)
    (or_one byte 102 _ (12, refl) (or_one byte 110 _ (10, refl) (or_one byte 114 _ (13, refl) (λ is. subst HasCharacter (sym (eqb-true byte 116 is)) (9, refl))))))))

-- ---- digits

small_digit : (x : ℕ) → is_ascii_hexdigit x ≡ true → x < 128
small_digit x is = grind (arith, nat_tests)

at_true : (b p q : Bool) → b ≡ true → b && p ≡ b && q → p ≡ q
at_true true p q is same = same
at_true false p q is same = absurd (cc)

-- two tests that agree on each hexadecimal digit, by trying
pub at_digits : (f g : ℕ → Bool) → agree_below (λ x. is_ascii_hexdigit x && f x) (λ x. is_ascii_hexdigit x && g x) 128 ≡ true → (x : ℕ) → is_ascii_hexdigit x ≡ true → f x ≡ g x
at_digits f g agree x is = at_true (is_ascii_hexdigit x) (f x) (g x) is (agree_below_at (λ x. is_ascii_hexdigit x && f x) (λ x. is_ascii_hexdigit x && g x) 128 x agree (small_digit x is))

pub digit_small : (x : ℕ) → is_ascii_hexdigit x ≡ true → digit_value x < 16
digit_small x is = ltb-true (digit_value x) 16 (at_digits (λ x. nat_lt (digit_value x) 16) (λ x. true) refl x is)

digit_d : (x : ℕ) → is_ascii_hexdigit x ≡ true → is_d x ≡ (digit_value x == 13)
digit_d = at_digits is_d (λ x. digit_value x == 13) refl

digit_8_to_b : (x : ℕ) → is_ascii_hexdigit x ≡ true → is_8_to_b x ≡ (nat_le 8 (digit_value x) && nat_lt (digit_value x) 12)
digit_8_to_b = at_digits is_8_to_b (λ x. nat_le 8 (digit_value x) && nat_lt (digit_value x) 12) refl

digit_c_to_f : (x : ℕ) → is_ascii_hexdigit x ≡ true → is_c_to_f x ≡ nat_le 12 (digit_value x)
digit_c_to_f = at_digits is_c_to_f (λ x. nat_le 12 (digit_value x)) refl

-- what a number is of a pair
kind_of : ℕ → Digits
kind_of n = if is_high_surrogate n then High else (if is_low_surrogate n then Low else Plain)

kind_below : (n : ℕ) → n < 0xD800 → kind_of n ≡ Plain
unfolding kind_of
kind_below n h = cond-false (is_high_surrogate n) _ _ (and_left _ _ (lt-leb 0xD800 n h)) ∙ cond-false (is_low_surrogate n) _ _ (and_left _ _ (lt-leb 0xDC00 n (omega arith)))

kind_high : (n : ℕ) → 0xD800 ≤ n → n < 0xDC00 → kind_of n ≡ High
unfolding kind_of
kind_high n h k = cond-true (is_high_surrogate n) _ _ (and_from _ _ (le-leb 0xD800 n h) (lt-ltb n 0xDC00 k))

kind_low : (n : ℕ) → 0xDC00 ≤ n → n < 0xE000 → kind_of n ≡ Low
unfolding kind_of
kind_low n h k = cond-false (is_high_surrogate n) _ _ (and_right _ _ (le-ltb n 0xDC00 h)) ∙ cond-true (is_low_surrogate n) _ _ (and_from _ _ (le-leb 0xDC00 n h) (lt-ltb n 0xE000 k))

kind_above : (n : ℕ) → 0xE000 ≤ n → kind_of n ≡ Plain
unfolding kind_of
kind_above n h = cond-false (is_high_surrogate n) _ _ (and_right _ _ (le-ltb n 0xDC00 (omega arith))) ∙ cond-false (is_low_surrogate n) _ _ (and_right _ _ (le-ltb n 0xE000 h))

by_values : (v w n : ℕ) → v < 16 → w < 16 → (v * 16 + w) * 256 ≤ n → n < (v * 16 + w) * 256 + 256
    → (if (v == 13) && (nat_le 8 w && nat_lt w 12) then High else (if (v == 13) && nat_le 12 w then Low else Plain)) ≡ kind_of n
by_values v w n small_v small_w from below = elim (cases_lt v 13) [
  | inl less ↦ apart (λ e. omega arith) ∙ sym (kind_below n (omega arith))
  | inr more ↦ elim (cases_lt 13 v) [
    | inl greater ↦ apart (λ e. omega arith) ∙ sym (kind_above n (omega arith))
    | inr same ↦ (let is : v ≡ 13 = omega arith in let at : v == 13 ≡ true = eq_13 is in ap (λ b. if b && (nat_le 8 w && nat_lt w 12) then High else (if b && nat_le 12 w then Low else Plain)) at ∙ by_second is)
  ]
]
  where
    eq_13 : v ≡ 13 → v == 13 ≡ true
    eq_13 e = grind (arith, nat_tests)

    apart : v ≢ 13 → (if (v == 13) && (nat_le 8 w && nat_lt w 12) then High else (if (v == 13) && nat_le 12 w then Low else Plain)) ≡ Plain
    apart ne = (let no : v == 13 ≡ false = grind (arith, nat_tests) in ap (λ b. if b && (nat_le 8 w && nat_lt w 12) then High else (if b && nat_le 12 w then Low else Plain)) no)

    by_second : v ≡ 13 → (if nat_le 8 w && nat_lt w 12 then High else (if nat_le 12 w then Low else Plain)) ≡ kind_of n
    by_second is = elim (cases_lt w 8) [
      | inl less ↦ cond-false (nat_le 8 w && nat_lt w 12) _ _ (and_left _ _ (lt-leb 8 w less)) ∙ cond-false (nat_le 12 w) _ _ (lt-leb 12 w (omega arith)) ∙ sym (kind_below n (omega arith))
      | inr from_8 ↦ elim (cases_lt w 12) [
        | inl less ↦ cond-true (nat_le 8 w && nat_lt w 12) _ _ (and_from _ _ (le-leb 8 w from_8) (lt-ltb w 12 less)) ∙ sym (kind_high n (omega arith) (omega arith))
        | inr from_12 ↦ cond-false (nat_le 8 w && nat_lt w 12) _ _ (and_right _ _ (le-ltb w 12 from_12)) ∙ cond-true (nat_le 12 w) _ _ (le-leb 12 w from_12) ∙ sym (kind_low n (omega arith) (omega arith))
      ]
    ]

-- the classes of the digits say what the number is
unit_by-spelled : (a b c d : ℕ) → Each is_ascii_hexdigit (a ∷ b ∷ c ∷ d ∷ []) → unit_by a b ≡ kind_of (spelled a b c d)
unit_by-spelled a b c d are =
    let first = digit_small a are.0 in
    let second = digit_small b are.1.0 in
    let third = digit_small c are.1.1.0 in
    let fourth = digit_small d are.1.1.1.0 in
    (λ i. if digit_d a are.0 i && digit_8_to_b b are.1.0 i then High else (if digit_d a are.0 i && digit_c_to_f b are.1.0 i then Low else Plain))
    ∙ by_values (digit_value a) (digit_value b) (spelled a b c d) first second (omega (arith, third, fourth)) (omega (arith, third, fourth))

kind_of-high : (n : ℕ) → is_high_surrogate n ≡ true → kind_of n ≡ High
unfolding kind_of
kind_of-high n h = cond-true (is_high_surrogate n) _ _ h

no_both : (n : ℕ) → is_low_surrogate n ≡ true → is_high_surrogate n ≡ false
no_both n h = (let p = and_parts (nat_le 0xDC00 n) (nat_lt n 0xE000) h in and_right _ _ (le-ltb n 0xDC00 (leb-true 0xDC00 n p.0)))

kind_of-low : (n : ℕ) → is_low_surrogate n ≡ true → kind_of n ≡ Low
unfolding kind_of
kind_of-low n h = cond-false (is_high_surrogate n) _ _ (no_both n h) ∙ cond-true (is_low_surrogate n) _ _ h

kind_of-plain : (n : ℕ) → is_high_surrogate n ≡ false → is_low_surrogate n ≡ false → kind_of n ≡ Plain
unfolding kind_of
kind_of-plain n h k = cond-false (is_high_surrogate n) _ _ h ∙ cond-false (is_low_surrogate n) _ _ k

-- what the kind says of the number
abbrev Says : ℕ → Digits → Type 0
Says n High = (is_high_surrogate n ≡ true)
Says n Low = (is_low_surrogate n ≡ true)
Says n Plain = (is_high_surrogate n ≡ false) × (is_low_surrogate n ≡ false)

kind_says : (n : ℕ) → Says n (kind_of n)
unfolding kind_of
kind_says n = cond_both (is_high_surrogate n) _ _ (Says n) (λ h. h) (λ h. cond_both (is_low_surrogate n) _ _ (Says n) (λ k. k) (λ k. (h, k)))

-- four digits at the front of a text
record HasDigits (text : List ℕ) (found : Digits) : Type 0 where
  pub number : ℕ
  pub spells : Spells (take 4 text) number
  pub says : Says number found
  pub long : 4 ≤ length text

hex_parts : (p q r s : Bool) → p && (q && (r && s)) ≡ true → (p ≡ true) × (q ≡ true) × (r ≡ true) × (s ≡ true)
hex_parts p q r s is =
    let one = and_parts p (q && (r && s)) is in
    let two = and_parts q (r && s) one.1 in
    let three = and_parts r s two.1 in
    (one.0, two.0, three.0, three.1)

unit_is : (text : List ℕ) (found : Digits) → unit_of text ≡ Some found → HasDigits text found
unit_is [] found is = absurd (cc)
unit_is (a ∷ []) found is = absurd (cc)
unit_is (a ∷ b ∷ []) found is = absurd (cc)
unit_is (a ∷ b ∷ c ∷ []) found is = absurd (cc)
unit_is (a ∷ b ∷ c ∷ d ∷ rest) found is = by (is_ascii_hexdigit a && (is_ascii_hexdigit b && (is_ascii_hexdigit c && is_ascii_hexdigit d))) refl is
  where
    by : (t : Bool) → is_ascii_hexdigit a && (is_ascii_hexdigit b && (is_ascii_hexdigit c && is_ascii_hexdigit d)) ≡ t → (if t then Some (unit_by a b) else None) ≡ Some found → HasDigits (a ∷ b ∷ c ∷ d ∷ rest) found
    by false e h = absurd (cc)
    by true e h =
        let p = hex_parts _ _ _ _ e in
        let are : Each is_ascii_hexdigit (a ∷ b ∷ c ∷ d ∷ []) = (p.0, (p.1, (p.2, (p.3, tt)))) in
        let same : unit_by a b ≡ found = cc in
        record {
          number = spelled a b c d;
          spells = record { a = a; b = b; c = c; d = d; text_is = refl; digits = are; number_is = refl };
          says = subst (Says (spelled a b c d)) (sym (unit_by-spelled a b c d are) ∙ same) (kind_says (spelled a b c d));
          long = omega arith;
        }

unit_found : (digits rest : List ℕ) (n : ℕ) → Spells digits n → unit_of (digits ++ rest) ≡ Some (kind_of n)
unit_found digits rest n is =
    let are = subst (Each is_ascii_hexdigit) is.text_is is.digits in
    ap (λ (xs : List ℕ). unit_of (xs ++ rest)) is.text_is
    ∙ cond-true (is_ascii_hexdigit is.a && (is_ascii_hexdigit is.b && (is_ascii_hexdigit is.c && is_ascii_hexdigit is.d))) (Some (unit_by is.a is.b)) None
    (and_from _ _ are.0 (and_from _ _ are.1.0 (and_from _ _ are.1.1.0 are.1.1.1.0)))
    ∙ ap Some (unit_by-spelled is.a is.b is.c is.d are ∙ ap kind_of (sym is.number_is))

-- ---- escapes

-- behind the backslash, the lexer passes the escape
pub record Passes (text rest : List ℕ) : Type 0 where
  pub behind : List ℕ
  pub text_is : text ≡ 92 ∷ behind
  pub passes : escape (behind ++ rest) ≡ Some (length behind)

escape_by : List ℕ → Option Digits → Option ℕ
escape_by rest found = elim found [ None ↦ None | Some Plain ↦ Some 5 | Some Low ↦ None | Some High ↦ if begins_with_low (drop 4 rest) then Some 11 else None ]

low_by : Option Digits → Bool
low_by found = elim found [ Some Low ↦ true | _ ↦ false ]

simple_passes : (byte c : ℕ) → simple_escape byte ≡ Some c → (rest : List ℕ) → escape (byte ∷ rest) ≡ Some 1
simple_passes = by_simple (λ byte c. (rest : List ℕ) → escape (byte ∷ rest) ≡ Some 1) (λ rest. refl) (λ rest. refl) (λ rest. refl) (λ rest. refl) (λ rest. refl) (λ rest. refl) (λ rest. refl) (λ rest. refl)

four : (digits : List ℕ) (n : ℕ) → Spells digits n → length digits ≡ 4
four digits n is = ap length is.text_is

pub escape-passes : (text rest : List ℕ) (c : ℕ) → IsEscape text c → Passes text rest
unfolding escape_by low_by
escape-passes text rest c (inl is) = record { behind = is.byte ∷ []; text_is = is.text_is; passes = simple_passes is.byte c is.character_is rest }
escape-passes text rest c (inr (inl is)) =
    let long : 5 ≡ length (117 ∷ is.digits) = (let e = four is.digits c is.spells in omega (arith, e)) in
    record {
      behind = 117 ∷ is.digits;
      text_is = is.text_is;
      passes = ap (escape_by (is.digits ++ rest)) (unit_found is.digits rest c is.spells ∙ ap Some (kind_of-plain c is.no_high is.no_low)) ∙ ap Some long;
    }
escape-passes text rest c (inr (inr is)) =
    let low_text = 92 ∷ 117 ∷ (is.more_digits ++ rest) in
    let whole : (is.digits ++ 92 ∷ 117 ∷ is.more_digits) ++ rest ≡ is.digits ++ low_text = append_assoc is.digits (92 ∷ 117 ∷ is.more_digits) rest in
    let low : begins_with_low low_text ≡ true = ap low_by (unit_found is.more_digits rest is.low is.spells_low ∙ ap Some (kind_of-low is.low is.is_low)) in
    let first = four is.digits is.high is.spells_high in
    let second = four is.more_digits is.low is.spells_low in
    let behind : drop 4 (is.digits ++ low_text) ≡ low_text = drop_at is.digits low_text 4 first in
    let long : 11 ≡ length (117 ∷ (is.digits ++ 92 ∷ 117 ∷ is.more_digits)) = omega (arith, first, second, length-append is.digits (92 ∷ 117 ∷ is.more_digits)) in
    record {
      behind = 117 ∷ (is.digits ++ 92 ∷ 117 ∷ is.more_digits);
      text_is = is.text_is;
      passes =
          ap unicode_escape whole
          ∙ ap (escape_by (is.digits ++ low_text)) (unit_found is.digits low_text is.high is.spells_high ∙ ap Some (kind_of-high is.high is.is_high))
          ∙ ap (λ b. if b then Some 11 else None) (ap begins_with_low behind ∙ low)
          ∙ ap Some long;
    }

-- what the lexer passes is an escape
pub record IsPassed (text : List ℕ) (more : ℕ) : Type 0 where
  pub character : ℕ
  pub is_escape : IsEscape (92 ∷ take more text) character
  pub fits : more ≤ length text

low_by-digits : (rest : List ℕ) (found : Option Digits) → unit_of rest ≡ found → low_by found ≡ true → HasDigits rest Low
unfolding low_by
low_by-digits rest None e h = absurd (cc)
low_by-digits rest (Some Plain) e h = absurd (cc)
low_by-digits rest (Some High) e h = absurd (cc)
low_by-digits rest (Some Low) e h = unit_is rest Low e

low_is : (text : List ℕ) → begins_with_low text ≡ true → (rest : List ℕ) × (text ≡ 92 ∷ 117 ∷ rest) × HasDigits rest Low
unfolding low_by
low_is [] is = absurd (cc)
low_is (a ∷ []) is = absurd (cc)
low_is (a ∷ b ∷ rest) is =
    let one = and_parts (a == 92) (b == 117 && low_by (unit_of rest)) is in
    let two = and_parts (b == 117) (low_by (unit_of rest)) one.1 in
    (rest, (λ i. eqb-true a 92 one.0 i ∷ eqb-true b 117 two.0 i ∷ rest), low_by-digits rest (unit_of rest) refl two.1)

pair_is : (rest : List ℕ) (more : ℕ) → HasDigits rest High → (b : Bool) → begins_with_low (drop 4 rest) ≡ b → (if b then Some 11 else None) ≡ Some more → IsPassed (117 ∷ rest) more
pair_is rest more high false e is = absurd (cc)
pair_is rest more high true e is =
    let low = low_is (drop 4 rest) e in
    let digits = low.2 in
    let long : 10 ≤ length rest = (let at = ap length low.1 in let some = digits.long in omega (arith, at, some, length-drop 4 rest)) in
    let text : take 10 rest ≡ take 4 rest ++ 92 ∷ 117 ∷ take 4 low.0 = take-split 4 6 rest ∙ ap (λ (xs : List ℕ). take 4 rest ++ take 6 xs) low.1 in
    subst (IsPassed (117 ∷ rest)) (let same : 11 ≡ more = cc in same) (record {
      character = surrogate_pair_char high.number digits.number;
      is_escape = inr (inr (record {
        digits = take 4 rest;
        more_digits = take 4 low.0;
        high = high.number;
        low = digits.number;
        text_is = ap (λ (xs : List ℕ). 92 ∷ 117 ∷ xs) text;
        spells_high = high.spells;
        is_high = high.says;
        spells_low = digits.spells;
        is_low = digits.says;
        character_is = refl;
      }));
      fits = omega (arith, long);
    })

unicode_is : (rest : List ℕ) (more : ℕ) (found : Option Digits) → unit_of rest ≡ found → escape_by rest found ≡ Some more → IsPassed (117 ∷ rest) more
unfolding escape_by
unicode_is rest more None e is = absurd (cc)
unicode_is rest more (Some Low) e is = absurd (cc)
unicode_is rest more (Some High) e is = pair_is rest more (unit_is rest High e) (begins_with_low (drop 4 rest)) refl is
unicode_is rest more (Some Plain) e is =
    let one = unit_is rest Plain e in
    let long = one.long in
    subst (IsPassed (117 ∷ rest)) (let same : 5 ≡ more = cc in same) (record {
      character = one.number;
      is_escape = inr (inl (record { digits = take 4 rest; text_is = refl; spells = one.spells; no_high = one.says.0; no_low = one.says.1 }));
      fits = omega (arith, long);
    })

simple_is : (byte more : ℕ) (rest : List ℕ) (b : Bool) → is_escape byte ≡ b → (if b then Some 1 else None) ≡ Some more → IsPassed (byte ∷ rest) more
simple_is byte more rest false e is = absurd (cc)
simple_is byte more rest true e is =
    let one = simple_from byte e in
    subst (IsPassed (byte ∷ rest)) (let same : 1 ≡ more = cc in same) (record {
      character = one.0;
      is_escape = inl (record { byte = byte; text_is = refl; character_is = one.1 });
      fits = omega arith;
    })

by_first : (byte more : ℕ) (rest : List ℕ) (b : Bool) → byte == 117 ≡ b → (if b then unicode_escape rest else (if is_escape byte then Some 1 else None)) ≡ Some more → IsPassed (byte ∷ rest) more
unfolding escape_by
by_first byte more rest true e is = subst (λ x. IsPassed (x ∷ rest) more) (sym (eqb-true byte 117 e)) (unicode_is rest more (unit_of rest) refl is)
by_first byte more rest false e is = simple_is byte more rest (is_escape byte) refl is

pub escape-is : (text : List ℕ) (more : ℕ) → escape text ≡ Some more → IsPassed text more
escape-is [] more is = absurd (cc)
escape-is (byte ∷ rest) more is = by_first byte more rest (byte == 117) refl is
