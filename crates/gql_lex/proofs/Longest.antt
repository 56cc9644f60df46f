-- The names and numbers that are found are the longest.
use Rattle.std.proofs.Common.{◌≡◌, ◌≢◌, ℕ, suc, ◌+◌, ◌<◌, ◌≤◌, ◌==◌, ◌⊎◌, inl, inr, Bool, true, false, ◌&&◌, ◌||◌, cond, List, [], ◌∷◌, ◌++◌, length, take, drop, refl, ap, sym, ◌∙◌, subst, lit<, arith, append_assoc, add_assoc, zero-add, length-append}
use Rattle.std.proofs.lemmas.List.{drop-drop, drop_at}
use Rattle.std.specs.Prelude.{nat_eq, nat_lt, if◌then◌else◌}
use Rattle.std.specs.List.{starts_with, prefix_len}
use Rattle.std.specs.Char.{is_ascii_digit}
use Rattle.std.proofs.lemmas.Bool.{eq-eqb}
use Rattle.std.proofs.lemmas.Bool.Decides.{nat_tests}
use Rattle.gql_lex.specs.Classes.{begins_name, continues_name}
use Rattle.gql_lex.specs.Numbers.{digits, minus_len, whole_len, fraction_len, sign_len, power_len, exponent_len, integer_len, number_len}
use Rattle.gql_lex.specs.Longest.{Each, IsName, AreDigits, IsMinus, IsWhole, IsFraction, IsPower, IsExponent, IsNumber, NoneIsLonger}

-- what passes is counted, and then what passes behind it
pub prefix_len-Each : (test : ℕ → Bool) (xs rest : List ℕ) → Each test xs → prefix_len test (xs ++ rest) ≡ length xs + prefix_len test rest
prefix_len-Each test [] rest each = sym (zero-add _)
prefix_len-Each test (x ∷ xs) rest each =
    ap (λ b. cond b (1 + prefix_len test (xs ++ rest)) 0) each.0
    ∙ (let h = prefix_len-Each test xs rest each.1 in omega (arith, h))

-- ---- names

Each-by : (test : ℕ → Bool) (x : ℕ) (xs : List ℕ) (b : Bool) → test x ≡ b → Each test (take (prefix_len test xs) xs) → Each test (take (cond b (1 + prefix_len test xs) 0) (x ∷ xs))
Each-by test x xs true is more = subst (λ n. Each test (take n (x ∷ xs))) (let e : suc (prefix_len test xs) ≡ 1 + prefix_len test xs = omega arith in e) (is, more)
Each-by test x xs false is more = tt

-- what is counted passes
pub Each-prefix_len : (test : ℕ → Bool) (xs : List ℕ) → Each test (take (prefix_len test xs) xs)
Each-prefix_len test [] = tt
Each-prefix_len test (x ∷ xs) = Each-by test x xs (test x) refl (Each-prefix_len test xs)

pub name-is : (byte : ℕ) (rest : List ℕ) → begins_name byte ≡ true → IsName (take (1 + prefix_len continues_name rest) (byte ∷ rest))
name-is byte rest begins = subst (λ n. IsName (take n (byte ∷ rest))) (let e : suc (prefix_len continues_name rest) ≡ 1 + prefix_len continues_name rest = omega arith in e) (begins, Each-prefix_len continues_name rest)

pub name-longest : (byte : ℕ) (rest : List ℕ) → NoneIsLonger IsName (byte ∷ rest) (1 + prefix_len continues_name rest)
name-longest byte rest [] after is at = absurd is
name-longest byte rest (first ∷ more) after is at =
    let same : rest ≡ more ++ after = cc in
    let counted : prefix_len continues_name rest ≡ length more + prefix_len continues_name after = ap (prefix_len continues_name) same ∙ prefix_len-Each continues_name more after is.1 in
    omega (arith, counted)

-- ---- numbers

begins : (byte c : ℕ) (xs : List ℕ) → byte ≡ c → starts_with nat_eq (byte ∷ xs) (c ∷ []) ≡ true
begins byte c xs e = ap (λ b. b && true) (eq-eqb c byte (sym e))

begins_not : (byte c : ℕ) (xs : List ℕ) → byte ≢ c → starts_with nat_eq (byte ∷ xs) (c ∷ []) ≡ false
begins_not byte c xs ne = ap (λ b. b && true) (let e : nat_eq c byte ≡ false = grind (arith, nat_tests) in e)

digit_not : (byte c : ℕ) → is_ascii_digit byte ≡ true → c < 48 → byte ≢ c
digit_not byte c is low e = (let h : 48 ≤ byte = grind (arith, nat_tests) in omega (arith, h, e))

not_digit : (byte : ℕ) → (byte < 48) ⊎ (57 < byte) → is_ascii_digit byte ≡ false
not_digit byte (inl h) = grind (arith, nat_tests)
not_digit byte (inr h) = grind (arith, nat_tests)

-- no digit stands at the front
digits_none : (byte : ℕ) (xs : List ℕ) → (byte < 48) ⊎ (57 < byte) → digits (byte ∷ xs) ≡ 0
digits_none byte xs h = ap (λ b. cond b (1 + digits xs) 0) (not_digit byte h)

digits_all : (xs rest : List ℕ) → Each is_ascii_digit xs → digits (xs ++ rest) ≡ length xs + digits rest
digits_all xs rest each = prefix_len-Each is_ascii_digit xs rest each

Each_first : (xs : List ℕ) → AreDigits xs → Each is_ascii_digit xs × (0 < length xs)
Each_first [] is = absurd is
Each_first (x ∷ xs) is = (is, omega arith)

-- -?
pub minus_len-is : (minus : List ℕ) (byte : ℕ) (xs : List ℕ) → IsMinus minus → byte ≢ 45 → minus_len (minus ++ (byte ∷ xs)) ≡ length minus
minus_len-is [] byte xs is ne = ap (λ b. if b then 1 else 0) (begins_not byte 45 xs ne)
minus_len-is (m ∷ more) byte xs is ne = ap (λ b. if b then 1 else 0) (begins m 45 (more ++ (byte ∷ xs)) is.0) ∙ ap (λ k. suc (length k)) (sym is.1)

-- 0|[1-9][0-9]*, and digits that follow it
pub whole_len-is : (byte : ℕ) (more xs : List ℕ) → IsWhole (byte ∷ more) → (k : ℕ) × (whole_len (byte ∷ (more ++ xs)) ≡ suc (length more) + k) × (digits xs ≡ 0 → k ≡ 0)
whole_len-is byte more xs (inl is) = (0, ap (λ b. if b then 1 else digits (byte ∷ (more ++ xs))) (begins byte 48 (more ++ xs) is.0) ∙ ap (λ l. suc (length l) + 0) (sym is.1), λ h. refl)
whole_len-is byte more xs (inr is) = (digits xs, ap (λ b. if b then 1 else digits (byte ∷ (more ++ xs))) (begins_not byte 48 (more ++ xs) is.0) ∙ digits_all (byte ∷ more) xs is.1, λ h. h)

positive : (n : ℕ) → 0 < n → nat_lt 0 n ≡ true
positive n h = grind (arith, nat_tests)

power_by : (text : List ℕ) (s d : ℕ) → sign_len text ≡ s → digits (drop s text) ≡ d → 0 < d → power_len text ≡ s + d
power_by text s d sign_is digits_are some =
    ap (λ k. if nat_lt 0 (digits (drop k text)) then k + digits (drop k text) else 0) sign_is
    ∙ ap (λ k. if nat_lt 0 k then s + k else 0) digits_are
    ∙ ap (λ b. if b then s + d else 0) (positive d some)

or_true : (b : Bool) → b || true ≡ true
or_true true = refl
or_true false = refl

signed : (byte : ℕ) (xs : List ℕ) → (byte ≡ 43) ⊎ (byte ≡ 45) → sign_len (byte ∷ xs) ≡ 1
signed byte xs (inl e) = ap (λ b. if b || starts_with nat_eq (byte ∷ xs) (45 ∷ []) then 1 else 0) (begins byte 43 xs e)
signed byte xs (inr e) = ap (λ b. if starts_with nat_eq (byte ∷ xs) (43 ∷ []) || b then 1 else 0) (begins byte 45 xs e) ∙ ap (λ b. if b then 1 else 0) (or_true (starts_with nat_eq (byte ∷ xs) (43 ∷ [])))

unsigned : (byte : ℕ) (xs : List ℕ) → is_ascii_digit byte ≡ true → sign_len (byte ∷ xs) ≡ 0
unsigned byte xs is =
    ap (λ b. if b || starts_with nat_eq (byte ∷ xs) (45 ∷ []) then 1 else 0) (begins_not byte 43 xs (digit_not byte 43 is (lit< tt)))
    ∙ ap (λ b. if b then 1 else 0) (begins_not byte 45 xs (digit_not byte 45 is (lit< tt)))

-- [+-]?[0-9]+
power_len-least : (power rest : List ℕ) → IsPower power → (length power ≤ power_len (power ++ rest)) × (0 < length power)
power_len-least [] rest is = absurd is
power_len-least (byte ∷ more) rest (inl is) =
    let d = Each_first more is.1 in
    let counted = digits_all more rest d.0 in
    let some : 0 < length more + digits rest = omega (arith, d.1) in
    let e = power_by (byte ∷ (more ++ rest)) 1 (length more + digits rest) (signed byte (more ++ rest) is.0) counted some in
    (omega (arith, e), omega arith)
power_len-least (byte ∷ more) rest (inr is) =
    let counted = digits_all (byte ∷ more) rest is in
    let some : 0 < length (byte ∷ more) + digits rest = omega arith in
    let e = power_by (byte ∷ (more ++ rest)) 0 (length (byte ∷ more) + digits rest) (unsigned byte (more ++ rest) is.0) counted some in
    (omega (arith, e), omega arith)

is_e : (byte : ℕ) → (byte ≡ 69) ⊎ (byte ≡ 101) → byte == 69 || byte == 101 ≡ true
is_e byte (inl e) = ap (λ b. b || byte == 101) (eq-eqb byte 69 e)
is_e byte (inr e) = ap (λ b. byte == 69 || b) (eq-eqb byte 101 e) ∙ or_true (byte == 69)

above_nine : (byte : ℕ) → (byte ≡ 69) ⊎ (byte ≡ 101) → 57 < byte
above_nine byte (inl e) = omega arith
above_nine byte (inr e) = omega arith

exponent_by : (byte : ℕ) (xs : List ℕ) → (byte ≡ 69) ⊎ (byte ≡ 101) → 0 < power_len xs → exponent_len (byte ∷ xs) ≡ 1 + power_len xs
exponent_by byte xs e some =
    ap (λ b. if b && nat_lt 0 (power_len xs) then 1 + power_len xs else 0) (is_e byte e)
    ∙ ap (λ b. if b then 1 + power_len xs else 0) (positive (power_len xs) some)

-- ([eE][+-]?[0-9]+)?
exponent_len-least : (byte : ℕ) (power rest : List ℕ) → IsExponent (byte ∷ power) → suc (length power) ≤ exponent_len (byte ∷ (power ++ rest))
exponent_len-least byte power rest is =
    let p = power_len-least power rest is.1 in
    let some : 0 < power_len (power ++ rest) = omega (arith, p.0, p.1) in
    let e = exponent_by byte (power ++ rest) is.0 some in
    omega (arith, e, p.0)

fraction_none : (byte : ℕ) (xs : List ℕ) → byte ≢ 46 → fraction_len (byte ∷ xs) ≡ 0
fraction_none byte xs ne = ap (λ b. if b && nat_lt 0 (digits xs) then 1 + digits xs else 0) (let e : byte == 46 ≡ false = grind (arith, nat_tests) in e)

fraction_by : (byte : ℕ) (xs : List ℕ) → byte ≡ 46 → 0 < digits xs → fraction_len (byte ∷ xs) ≡ 1 + digits xs
fraction_by byte xs e some =
    ap (λ b. if b && nat_lt 0 (digits xs) then 1 + digits xs else 0) (eq-eqb byte 46 e)
    ∙ ap (λ b. if b then 1 + digits xs else 0) (positive (digits xs) some)

-- what is counted behind the whole part of `text`
behind_whole : List ℕ → ℕ
behind_whole text = fraction_len text + exponent_len (drop (fraction_len text) text)

exponent_alone : (byte : ℕ) (power rest : List ℕ) → IsExponent (byte ∷ power) → suc (length power) ≤ behind_whole (byte ∷ (power ++ rest))
unfolding behind_whole
exponent_alone byte power rest is =
    let none = fraction_none byte (power ++ rest) (λ e. (let h = above_nine byte is.0 in omega (arith, h, e))) in
    let least = exponent_len-least byte power rest is in
    subst (λ f. suc (length power) ≤ f + exponent_len (drop f (byte ∷ (power ++ rest)))) (sym none) (omega (arith, least))

fraction_exponent : (byte : ℕ) (more exponent rest : List ℕ) → IsFraction (byte ∷ more) → IsExponent exponent → suc (length more) + length exponent ≤ behind_whole (byte ∷ (more ++ (exponent ++ rest)))
unfolding behind_whole
fraction_exponent byte more [] rest is none =
    let d = Each_first more is.1 in
    let counted = digits_all more rest d.0 in
    let some : 0 < digits (more ++ rest) = omega (arith, counted, d.1) in
    let f = fraction_by byte (more ++ rest) is.0 some in
    omega (arith, f, counted)
fraction_exponent byte more (e ∷ power) rest is is_exponent =
    let d = Each_first more is.1 in
    let last = digits_none e (power ++ rest) (inr (above_nine e is_exponent.0)) in
    let counted = digits_all more (e ∷ (power ++ rest)) d.0 in
    let some : 0 < digits (more ++ (e ∷ (power ++ rest))) = omega (arith, counted, d.1) in
    let f = fraction_by byte (more ++ (e ∷ (power ++ rest))) is.0 some in
    let exact : fraction_len (byte ∷ (more ++ (e ∷ (power ++ rest)))) ≡ suc (length more) = omega (arith, f, counted, last) in
    let behind : drop (suc (length more)) (byte ∷ (more ++ (e ∷ (power ++ rest)))) ≡ e ∷ (power ++ rest) = drop_at more (e ∷ (power ++ rest)) (length more) refl in
    let least = exponent_len-least e power rest is_exponent in
    subst (λ n. suc (length more) + suc (length power) ≤ n + exponent_len (drop n (byte ∷ (more ++ (e ∷ (power ++ rest)))))) (sym exact)
    (subst (λ xs. suc (length more) + suc (length power) ≤ suc (length more) + exponent_len xs) (sym behind) (omega (arith, least)))

-- where a digit more is counted, nothing is left to count of a fraction and an exponent
tail_least : (fraction exponent rest : List ℕ) (k : ℕ) → IsFraction fraction → IsExponent exponent → (digits (fraction ++ (exponent ++ rest)) ≡ 0 → k ≡ 0) → length fraction + length exponent ≤ k + behind_whole (drop k (fraction ++ (exponent ++ rest)))
tail_least [] [] rest k is_fraction is_exponent none = omega arith
tail_least [] (e ∷ power) rest k is_fraction is_exponent none =
    let zero_is = none (digits_none e (power ++ rest) (inr (above_nine e is_exponent.0))) in
    let least = exponent_alone e power rest is_exponent in
    subst (λ n. 0 + suc (length power) ≤ n + behind_whole (drop n (e ∷ (power ++ rest)))) (sym zero_is) (omega (arith, least))
tail_least (byte ∷ more) exponent rest k is_fraction is_exponent none =
    let zero_is = none (digits_none byte (more ++ (exponent ++ rest)) (inl (let p = is_fraction.0 in omega (arith, p)))) in
    let least = fraction_exponent byte more exponent rest is_fraction is_exponent in
    subst (λ n. suc (length more) + length exponent ≤ n + behind_whole (drop n (byte ∷ (more ++ (exponent ++ rest))))) (sym zero_is) (omega (arith, least))

pub integer_by : (text : List ℕ) (m w : ℕ) → minus_len text ≡ m → whole_len (drop m text) ≡ w → 0 < w → integer_len text ≡ m + w
integer_by text m w minus_is whole_is some =
    ap (λ k. if whole_len (drop k text) == 0 then 0 else k + whole_len (drop k text)) minus_is
    ∙ ap (λ k. if k == 0 then 0 else m + k) whole_is
    ∙ ap (λ b. if b then 0 else m + w) (let e : w == 0 ≡ false = grind (arith, nat_tests) in e)

number_by : (text : List ℕ) (i : ℕ) → integer_len text ≡ i → number_len text ≡ i + behind_whole (drop i text)
unfolding behind_whole
number_by text i is =
    ap (λ k. k + fraction_len (drop k text) + exponent_len (drop (k + fraction_len (drop k text)) text)) is
    ∙ ap (λ xs. i + fraction_len (drop i text) + exponent_len xs) (sym (drop-drop (fraction_len (drop i text)) i text))
    ∙ add_assoc i (fraction_len (drop i text)) (exponent_len (drop (fraction_len (drop i text)) (drop i text)))

pub whole_not_minus : (byte : ℕ) (more : List ℕ) → IsWhole (byte ∷ more) → byte ≢ 45
whole_not_minus byte more (inl is) e = (let p = is.0 in omega (arith, p, e))
whole_not_minus byte more (inr is) e = digit_not byte 45 is.1.0 (lit< tt) e

-- a number at the front, by its parts, is no longer than the one that is found
parts_fit : (minus whole fraction exponent rest : List ℕ) → IsMinus minus → IsWhole whole → IsFraction fraction → IsExponent exponent →
    (length minus + (length whole + (length fraction + length exponent)) ≤ number_len (minus ++ (whole ++ (fraction ++ (exponent ++ rest)))))
    × (0 < integer_len (minus ++ (whole ++ (fraction ++ (exponent ++ rest)))))
parts_fit minus [] fraction exponent rest is_minus is_whole is_fraction is_exponent = absurd is_whole
parts_fit minus (byte ∷ more) fraction exponent rest is_minus is_whole is_fraction is_exponent =
    let tail = fraction ++ (exponent ++ rest) in
    let text = minus ++ (byte ∷ (more ++ tail)) in
    let m = length minus in
    let w = whole_len-is byte more tail is_whole in
    let k = w.0 in
    let minus_is = minus_len-is minus byte (more ++ tail) is_minus (whole_not_minus byte more is_whole) in
    let behind : drop m text ≡ byte ∷ (more ++ tail) = drop_at minus (byte ∷ (more ++ tail)) m refl in
    let some : 0 < suc (length more) + k = omega arith in
    let i = integer_by text m (suc (length more) + k) minus_is (ap whole_len behind ∙ w.1) some in
    let n = number_by text (m + (suc (length more) + k)) i in
    let left : drop (m + (suc (length more) + k)) text ≡ drop k tail =
    sym (drop-drop (suc (length more) + k) m text) ∙ ap (drop (suc (length more) + k)) behind ∙ sym (drop-drop k (suc (length more)) (byte ∷ (more ++ tail))) ∙ ap (drop k) (drop_at more tail (length more) refl) in
    let least = tail_least fraction exponent rest k is_fraction is_exponent w.2 in
    let counted : number_len text ≡ (m + (suc (length more) + k)) + behind_whole (drop k tail) = n ∙ ap (λ xs. (m + (suc (length more) + k)) + behind_whole xs) left in
    (omega (arith, counted, least), omega (arith, i, some))

flat : (minus whole fraction exponent rest : List ℕ) → (minus ++ (whole ++ (fraction ++ exponent))) ++ rest ≡ minus ++ (whole ++ (fraction ++ (exponent ++ rest)))
flat minus whole fraction exponent rest = simp append_assoc

length_of : (minus whole fraction exponent : List ℕ) → length (minus ++ (whole ++ (fraction ++ exponent))) ≡ length minus + (length whole + (length fraction + length exponent))
length_of minus whole fraction exponent = simp length-append

-- no number at the front is longer than the one that is found
pub number-longest : (text : List ℕ) → NoneIsLonger IsNumber text (number_len text)
number-longest text other rest is at =
    let whole_text = at ∙ ap (λ o. o ++ rest) is.parts ∙ flat is.minus is.whole is.fraction is.exponent rest in
    let fit = parts_fit is.minus is.whole is.fraction is.exponent rest is.is_minus is.is_whole is.is_fraction is.is_exponent in
    let long = ap length is.parts ∙ length_of is.minus is.whole is.fraction is.exponent in
    let same = ap number_len whole_text in
    omega (arith, fit.0, long, same)

-- where none is found, none stands at the front
pub number-none : (text : List ℕ) → integer_len text ≡ 0 → (other rest : List ℕ) → IsNumber other → text ≢ other ++ rest
number-none text none other rest is at =
    let whole_text = at ∙ ap (λ o. o ++ rest) is.parts ∙ flat is.minus is.whole is.fraction is.exponent rest in
    let fit = parts_fit is.minus is.whole is.fraction is.exponent rest is.is_minus is.is_whole is.is_fraction is.is_exponent in
    let same = ap integer_len whole_text in
    omega (arith, fit.1, none, same)
