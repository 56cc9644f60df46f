-- What is counted as a number is one.
use Rattle.std.proofs.Common.{◌≡◌, ◌≢◌, ℕ, zero, suc, ◌+◌, ◌<◌, ◌==◌, ◌⊎◌, inl, inr, Bool, true, false, ◌&&◌, ◌||◌, List, [], ◌∷◌, ◌++◌, take, drop, refl, ap, sym, ◌∙◌, subst, arith, append_assoc}
use Rattle.std.specs.Prelude.{nat_eq, nat_lt, if◌then◌else◌}
use Rattle.std.specs.List.{starts_with}
use Rattle.std.specs.Char.{is_ascii_digit}
use Rattle.std.proofs.lemmas.Bool.{eqb-true}
use Rattle.std.proofs.lemmas.Bool.Decides.{nat_tests}
use Rattle.gql_lex.specs.Numbers.{digits, minus_len, whole_len, fraction_len, power_len, exponent_len, integer_len, decimal_len, number_len}
use Rattle.gql_lex.specs.Longest.{Each, AreDigits, IsMinus, IsWhole, IsFraction, IsPower, IsExponent, IsNumber}
use Rattle.gql_lex.proofs.Answers.{take-split}
use Rattle.gql_lex.proofs.Longest.{Each-prefix_len}

both_true : (a b : Bool) → a && b ≡ true → (a ≡ true) × (b ≡ true)
both_true true b h = (refl, h)
both_true false b h = absurd (cc)

either_true : (a b : Bool) → a || b ≡ true → (a ≡ true) ⊎ (b ≡ true)
either_true true b h = inl refl
either_true false b h = inr h

begins_is : (byte c : ℕ) (xs : List ℕ) → starts_with nat_eq (byte ∷ xs) (c ∷ []) ≡ true → byte ≡ c
begins_is byte c xs h = sym (eqb-true c byte (both_true (nat_eq c byte) true h).0)

begins_else : (byte c : ℕ) (xs : List ℕ) → starts_with nat_eq (byte ∷ xs) (c ∷ []) ≡ false → byte ≢ c
begins_else byte c xs h e = no (nat_eq c byte) h (let same : nat_eq c byte ≡ true = grind (arith, nat_tests) in same)
  where
    no : (b : Bool) → b && true ≡ false → b ≡ true → ⊥
    no true h t = cc
    no false h t = cc

some_positive : (n : ℕ) → nat_lt 0 n ≡ true → 0 < n
some_positive n h = grind (arith, nat_tests)

-- -?
minus_by : (byte : ℕ) (xs : List ℕ) (b : Bool) → starts_with nat_eq (byte ∷ xs) (45 ∷ []) ≡ b → IsMinus (take (if b then 1 else 0) (byte ∷ xs))
minus_by byte xs true is = (begins_is byte 45 xs is, refl)
minus_by byte xs false is = tt

pub minus-is : (text : List ℕ) → IsMinus (take (minus_len text) text)
minus-is [] = tt
minus-is (byte ∷ xs) = minus_by byte xs (starts_with nat_eq (byte ∷ xs) (45 ∷ [])) refl

-- 0|[1-9][0-9]*
whole_digits : (byte : ℕ) (xs : List ℕ) (n : ℕ) → byte ≢ 48 → 0 < n → Each is_ascii_digit (take n (byte ∷ xs)) → IsWhole (take n (byte ∷ xs))
whole_digits byte xs zero ne some each = absurd (omega arith)
whole_digits byte xs (suc n) ne some each = inr (ne, each)

whole_by : (byte : ℕ) (xs : List ℕ) (b : Bool) → starts_with nat_eq (byte ∷ xs) (48 ∷ []) ≡ b → 0 < (if b then 1 else digits (byte ∷ xs)) → IsWhole (take (if b then 1 else digits (byte ∷ xs)) (byte ∷ xs))
whole_by byte xs true is some = inl (begins_is byte 48 xs is, refl)
whole_by byte xs false is some = whole_digits byte xs (digits (byte ∷ xs)) (begins_else byte 48 xs is) some (Each-prefix_len is_ascii_digit (byte ∷ xs))

pub whole-is : (text : List ℕ) → 0 < whole_len text → IsWhole (take (whole_len text) text)
whole-is [] some = absurd (omega arith)
whole-is (byte ∷ xs) some = whole_by byte xs (starts_with nat_eq (byte ∷ xs) (48 ∷ [])) refl some

-- [0-9]+
digits_by : (x : ℕ) (xs : List ℕ) (n : ℕ) → 0 < n → Each is_ascii_digit (take n (x ∷ xs)) → AreDigits (take n (x ∷ xs))
digits_by x xs zero some each = absurd (omega arith)
digits_by x xs (suc n) some each = each

digits-are : (text : List ℕ) → 0 < digits text → AreDigits (take (digits text) text)
digits-are [] some = absurd (omega arith)
digits-are (x ∷ xs) some = digits_by x xs (digits (x ∷ xs)) some (Each-prefix_len is_ascii_digit (x ∷ xs))

one_more : (byte : ℕ) (xs : List ℕ) (n : ℕ) → byte ∷ take n xs ≡ take (1 + n) (byte ∷ xs)
one_more byte xs n = ap (λ k. take k (byte ∷ xs)) (let e : suc n ≡ 1 + n = omega arith in e)

-- (\.[0-9]+)?
fraction_by : (byte : ℕ) (xs : List ℕ) (b : Bool) → byte == 46 && nat_lt 0 (digits xs) ≡ b → IsFraction (take (if b then 1 + digits xs else 0) (byte ∷ xs))
fraction_by byte xs true is =
    let p = both_true (byte == 46) (nat_lt 0 (digits xs)) is in
    subst IsFraction (one_more byte xs (digits xs)) (eqb-true byte 46 p.0, digits-are xs (some_positive (digits xs) p.1))
fraction_by byte xs false is = tt

fraction-is : (text : List ℕ) → IsFraction (take (fraction_len text) text)
fraction-is [] = tt
fraction-is (byte ∷ xs) = fraction_by byte xs (byte == 46 && nat_lt 0 (digits xs)) refl

-- [+-]?[0-9]+
signs : (byte : ℕ) (xs : List ℕ) → starts_with nat_eq (byte ∷ xs) (43 ∷ []) || starts_with nat_eq (byte ∷ xs) (45 ∷ []) ≡ true → (byte ≡ 43) ⊎ (byte ≡ 45)
signs byte xs is = by (either_true (starts_with nat_eq (byte ∷ xs) (43 ∷ [])) (starts_with nat_eq (byte ∷ xs) (45 ∷ [])) is)
  where
    by : (starts_with nat_eq (byte ∷ xs) (43 ∷ []) ≡ true) ⊎ (starts_with nat_eq (byte ∷ xs) (45 ∷ []) ≡ true) → (byte ≡ 43) ⊎ (byte ≡ 45)
    by (inl h) = inl (begins_is byte 43 xs h)
    by (inr h) = inr (begins_is byte 45 xs h)

power_digits : (byte : ℕ) (xs : List ℕ) (n : ℕ) → 0 < n → Each is_ascii_digit (take n (byte ∷ xs)) → IsPower (take n (byte ∷ xs))
power_digits byte xs zero some each = absurd (omega arith)
power_digits byte xs (suc n) some each = inr each

power_signed : (byte : ℕ) (xs : List ℕ) → (byte ≡ 43) ⊎ (byte ≡ 45) → (b : Bool) → nat_lt 0 (digits xs) ≡ b → 0 < (if b then 1 + digits xs else 0) → IsPower (take (if b then 1 + digits xs else 0) (byte ∷ xs))
power_signed byte xs sign true is some = subst IsPower (one_more byte xs (digits xs)) (inl (sign, digits-are xs (some_positive (digits xs) is)))
power_signed byte xs sign false is some = absurd (omega arith)

power_plain : (byte : ℕ) (xs : List ℕ) (b : Bool) → nat_lt 0 (digits (byte ∷ xs)) ≡ b → 0 < (if b then 0 + digits (byte ∷ xs) else 0) → IsPower (take (if b then 0 + digits (byte ∷ xs) else 0) (byte ∷ xs))
power_plain byte xs true is some =
    subst (λ n. IsPower (take n (byte ∷ xs))) (let e : digits (byte ∷ xs) ≡ 0 + digits (byte ∷ xs) = omega arith in e)
    (power_digits byte xs (digits (byte ∷ xs)) (some_positive (digits (byte ∷ xs)) is) (Each-prefix_len is_ascii_digit (byte ∷ xs)))
power_plain byte xs false is some = absurd (omega arith)

power_of : List ℕ → ℕ → ℕ
power_of text s = if nat_lt 0 (digits (drop s text)) then s + digits (drop s text) else 0

power_by : (byte : ℕ) (xs : List ℕ) (b : Bool) → starts_with nat_eq (byte ∷ xs) (43 ∷ []) || starts_with nat_eq (byte ∷ xs) (45 ∷ []) ≡ b → 0 < power_of (byte ∷ xs) (if b then 1 else 0) → IsPower (take (power_of (byte ∷ xs) (if b then 1 else 0)) (byte ∷ xs))
unfolding power_of
power_by byte xs true is some = power_signed byte xs (signs byte xs is) (nat_lt 0 (digits xs)) refl some
power_by byte xs false is some = power_plain byte xs (nat_lt 0 (digits (byte ∷ xs))) refl some

power-is : (text : List ℕ) → 0 < power_len text → IsPower (take (power_len text) text)
unfolding power_of
power-is [] some = absurd (omega arith)
power-is (byte ∷ xs) some = power_by byte xs (starts_with nat_eq (byte ∷ xs) (43 ∷ []) || starts_with nat_eq (byte ∷ xs) (45 ∷ [])) refl some

-- ([eE][+-]?[0-9]+)?
letters : (byte : ℕ) → (byte == 69 ≡ true) ⊎ (byte == 101 ≡ true) → (byte ≡ 69) ⊎ (byte ≡ 101)
letters byte (inl h) = inl (eqb-true byte 69 h)
letters byte (inr h) = inr (eqb-true byte 101 h)

exponent_by : (byte : ℕ) (xs : List ℕ) (b : Bool) → (byte == 69 || byte == 101) && nat_lt 0 (power_len xs) ≡ b → IsExponent (take (if b then 1 + power_len xs else 0) (byte ∷ xs))
exponent_by byte xs true is =
    let p = both_true (byte == 69 || byte == 101) (nat_lt 0 (power_len xs)) is in
    subst IsExponent (one_more byte xs (power_len xs)) (letters byte (either_true (byte == 69) (byte == 101) p.0), power-is xs (some_positive (power_len xs) p.1))
exponent_by byte xs false is = tt

exponent-is : (text : List ℕ) → IsExponent (take (exponent_len text) text)
exponent-is [] = tt
exponent-is (byte ∷ xs) = exponent_by byte xs ((byte == 69 || byte == 101) && nat_lt 0 (power_len xs)) refl

-- the integer is the minus and the whole part
pub integer_parts : (text : List ℕ) → 0 < integer_len text → (0 < whole_len (drop (minus_len text) text)) × (integer_len text ≡ minus_len text + whole_len (drop (minus_len text) text))
integer_parts text some = by (whole_len (drop (minus_len text) text)) (whole_len (drop (minus_len text) text) == 0) refl some
  where
    by : (w : ℕ) (b : Bool) → w == 0 ≡ b → 0 < (if b then 0 else minus_len text + w) → (0 < w) × ((if b then 0 else minus_len text + w) ≡ minus_len text + w)
    by w true is h = absurd (omega arith)
    by w false is h = (let e : 0 < w = grind (arith, nat_tests) in e, refl)

four : (a b c d : List ℕ) → ((a ++ b) ++ c) ++ d ≡ a ++ (b ++ (c ++ d))
four a b c d = simp append_assoc

-- what is counted as a number is one, in its four parts
pub number-is : (text : List ℕ) → 0 < integer_len text → IsNumber (take (number_len text) text)
number-is text some =
    let p = integer_parts text some in
    let m = minus_len text in
    let behind = drop m text in
    let w = whole_len behind in
    let i = integer_len text in
    let d = decimal_len text in
    record {
      minus = take m text;
      whole = take w behind;
      fraction = take (fraction_len (drop i text)) (drop i text);
      exponent = take (exponent_len (drop d text)) (drop d text);
      parts =
          take-split d (exponent_len (drop d text)) text
          ∙ ap (λ xs. xs ++ take (exponent_len (drop d text)) (drop d text)) (take-split i (fraction_len (drop i text)) text
          ∙ ap (λ xs. xs ++ take (fraction_len (drop i text)) (drop i text)) (ap (λ n. take n text) p.1 ∙ take-split m w text))
          ∙ four (take m text) (take w behind) (take (fraction_len (drop i text)) (drop i text)) (take (exponent_len (drop d text)) (drop d text));
      is_minus = minus-is text;
      is_whole = whole-is behind p.0;
      is_fraction = fraction-is (drop i text);
      is_exponent = exponent-is (drop d text);
    }
