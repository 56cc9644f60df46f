-- What is found at the front is a name, an integer or a punctuator that stands there alone.
use Rattle.std.proofs.Common.{◌≡◌, ◌≢◌, ℕ, suc, ◌+◌, ◌<◌, ◌==◌, inl, inr, Bool, true, false, ◌||◌, List, [], ◌∷◌, ◌++◌, length, drop, Some, refl, ap, sym, ◌∙◌, arith, append_assoc, length-append}
use Rattle.std.specs.Prelude.{nat_eq, if◌then◌else◌}
use Rattle.std.specs.List.{starts_with, prefix_len}
use Rattle.std.specs.Char.{is_ascii_digit}
use Rattle.std.proofs.lemmas.Bool.{cond-true, cond-false, eq-eqb, ne_eqb, or_from, or_left, or_right, and_left}
use Rattle.std.proofs.lemmas.Bool.Decides.{nat_tests}
use Rattle.std.proofs.lemmas.List.{drop_at}
use Rattle.gql_lex.specs.declared.scan.Found.{Found}
use Rattle.gql_lex.specs.declared.scan.Found.TheVariants.{Token, Wrong}
use Rattle.gql_lex.specs.declared.scan.Fault.TheVariants as fault
use Rattle.gql_lex.specs.declared.token.TokenKind.TheVariants as kind
use Rattle.gql_lex.specs.Classes.{begins_name, continues_name, is_punctuator, is_blank, byte_order_mark}
use Rattle.gql_lex.specs.Numbers.{digits, whole_len, fraction_len, exponent_len, integer_len, decimal_len, number_len, runs_on, number}
use Rattle.gql_lex.specs.Longest.{IsName, IsMinus, IsWhole}
use Rattle.gql_lex.specs.Front.{front}
use Rattle.gql_lex.specs.Tokens.{blanks}
use Rattle.gql_lex.specs.declared.run.Pieces.TheVariants.{Blanks}
use Rattle.gql_lex.proofs.Texts.{IsInteger, IsPunctuator}
use Rattle.gql_lex.proofs.Runs.{run_len-none}
use Rattle.gql_lex.proofs.Longest.{prefix_len-Each, minus_len-is, whole_len-is, integer_by, whole_not_minus}

-- ---- names

pub front-name : (text tail : List ℕ) → IsName text → prefix_len continues_name tail ≡ 0 → front (text ++ tail) ≡ Some (Token kind.Name (length text))
front-name [] tail is ends = absurd is
front-name (byte ∷ more) tail is ends =
    let counted = prefix_len-Each continues_name more tail is.1 in
    cond-true (begins_name byte) _ _ is.0
    ∙ ap (λ n. Some (Token kind.Name n)) (let e : 1 + prefix_len continues_name (more ++ tail) ≡ suc (length more) = omega (arith, counted, ends) in e)

-- ---- integers

-- behind an integer nothing more of a number follows, and nothing that may not follow it
pub record EndsNumber (tail : List ℕ) : Type 0 where
  pub no_digit : digits tail ≡ 0
  pub no_fraction : fraction_len tail ≡ 0
  pub no_exponent : exponent_len tail ≡ 0
  pub stops : runs_on tail ≡ false

integer_len-is : (minus whole tail : List ℕ) → IsMinus minus → IsWhole whole → digits tail ≡ 0 → (integer_len (minus ++ (whole ++ tail)) ≡ length minus + length whole) × (0 < length whole)
integer_len-is minus [] tail is_minus is_whole none = absurd is_whole
integer_len-is minus (byte ∷ more) tail is_minus is_whole none =
    let text = minus ++ (byte ∷ (more ++ tail)) in
    let w = whole_len-is byte more tail is_whole in
    let same : suc (length more) + w.0 ≡ suc (length more) = omega (arith, w.2 none) in
    let minus_is = minus_len-is minus byte (more ++ tail) is_minus (whole_not_minus byte more is_whole) in
    let behind : drop (length minus) text ≡ byte ∷ (more ++ tail) = drop_at minus (byte ∷ (more ++ tail)) (length minus) refl in
    (integer_by text (length minus) (suc (length more)) minus_is (ap whole_len behind ∙ w.1 ∙ same) (omega arith), omega arith)

number_of : List ℕ → ℕ → ℕ → Found
number_of text i n = if i == 0 || runs_on (drop n text) then Wrong fault.Number 0 else (if n == i then Token kind.Int n else Wrong fault.Float 0)

number_len-is : (text tail : List ℕ) (i : ℕ) → integer_len text ≡ i → drop i text ≡ tail → fraction_len tail ≡ 0 → exponent_len tail ≡ 0 → number_len text ≡ i
number_len-is text tail i is behind no_fraction no_exponent =
    let d : decimal_len text ≡ i = ap (λ k. k + fraction_len (drop k text)) is ∙ ap (λ xs. i + fraction_len xs) behind ∙ (omega (arith, no_fraction)) in
    ap (λ k. k + exponent_len (drop k text)) d ∙ ap (λ xs. i + exponent_len xs) behind ∙ omega (arith, no_exponent)

number-at : (text tail : List ℕ) (i : ℕ) → integer_len text ≡ i → 0 < i → drop i text ≡ tail → EndsNumber tail → number text ≡ Token kind.Int i
unfolding number_of
number-at text tail i is some behind ends =
    let n = number_len-is text tail i is behind ends.no_fraction ends.no_exponent in
    let goes : i == 0 || runs_on (drop i text) ≡ false = or_from (i == 0) (runs_on (drop i text)) (ne_eqb i 0 (λ e. omega arith)) (ap runs_on behind ∙ ends.stops) in
    (λ j. number_of text (is j) (n j))
    ∙ cond-false (i == 0 || runs_on (drop i text)) _ _ goes
    ∙ cond-true (i == i) _ _ (eq-eqb i i refl)

-- what begins a number begins nothing else
begins_number : ℕ → Bool
begins_number byte = byte == 45 || is_ascii_digit byte

front_number : (byte : ℕ) (rest : List ℕ) → begins_number byte ≡ true → front (byte ∷ rest) ≡ Some (number (byte ∷ rest))
unfolding begins_number
front_number byte rest is =
    let no_name : begins_name byte ≡ false = grind (arith, nat_tests) in
    let no_mark : is_punctuator byte ≡ false = grind (arith, nat_tests) in
    let no_dots : nat_eq 46 byte ≡ false = grind (arith, nat_tests) in
    cond-false (begins_name byte) _ _ no_name
    ∙ cond-false (is_punctuator byte) _ _ no_mark
    ∙ cond-false (starts_with nat_eq (byte ∷ rest) (46 ∷ 46 ∷ 46 ∷ [])) _ _ (and_left (nat_eq 46 byte) _ no_dots)
    ∙ cond-true (byte == 45 || is_ascii_digit byte) _ _ is

integer_begins : (minus whole : List ℕ) → IsMinus minus → IsWhole whole → (byte : ℕ) × (more : List ℕ) × (minus ++ whole ≡ byte ∷ more) × (begins_number byte ≡ true)
unfolding begins_number
integer_begins minus [] is_minus is_whole = absurd is_whole
integer_begins (m ∷ minus) (byte ∷ more) is_minus is_whole = (m, minus ++ (byte ∷ more), refl, or_left (m == 45) (is_ascii_digit m) (eq-eqb m 45 is_minus.0))
integer_begins [] (byte ∷ more) is_minus (inl is) = (byte, more, refl, ap (λ b. b == 45 || is_ascii_digit b) is.0)
integer_begins [] (byte ∷ more) is_minus (inr is) = (byte, more, refl, or_right (byte == 45) (is_ascii_digit byte) is.1.0)

pub front-integer : (text tail : List ℕ) → IsInteger text → EndsNumber tail → front (text ++ tail) ≡ Some (Token kind.Int (length text))
front-integer text tail is ends =
    let minus = is.minus in
    let whole = is.whole in
    let i = integer_len-is minus whole tail is.is_minus is.is_whole ends.no_digit in
    let b = integer_begins minus whole is.is_minus is.is_whole in
    let long : length text ≡ length minus + length whole = ap length is.parts ∙ length-append minus whole in
    let counted : integer_len (text ++ tail) ≡ length text = ap (λ xs. integer_len (xs ++ tail)) is.parts ∙ ap integer_len (append_assoc minus whole tail) ∙ i.0 ∙ sym long in
    let begins = is.parts ∙ b.2 in
    ap (λ xs. front (xs ++ tail)) begins
    ∙ front_number b.0 (b.1 ++ tail) b.3
    ∙ ap (λ xs. Some (number (xs ++ tail))) (sym begins)
    ∙ ap Some (number-at (text ++ tail) tail (length text) counted (omega (arith, i.1, long)) (drop_at text tail (length text) refl) ends)

-- ---- punctuators

pub front-mark : (byte : ℕ) (tail : List ℕ) → is_punctuator byte ≡ true → front (byte ∷ tail) ≡ Some (Token kind.Punctuator 1)
front-mark byte tail is =
    let no_name : begins_name byte ≡ false = grind (arith, nat_tests) in
    cond-false (begins_name byte) _ _ no_name ∙ cond-true (is_punctuator byte) _ _ is

pub front-punctuator : (text tail : List ℕ) → IsPunctuator text → front (text ++ tail) ≡ Some (Token kind.Punctuator (length text))
front-punctuator text tail (inl is) = ap (λ xs. front (xs ++ tail)) is.2 ∙ front-mark is.0 tail is.1 ∙ ap (λ xs. Some (Token kind.Punctuator (length xs))) (sym is.2)
front-punctuator text tail (inr is) = ap (λ xs. front (xs ++ tail)) is ∙ ap (λ xs. Some (Token kind.Punctuator (length xs))) (sym is)

-- ---- no blank begins them

no_blank : (byte : ℕ) (rest : List ℕ) → 32 < byte → byte ≢ 35 → byte ≢ 44 → byte < 128 → blanks (byte ∷ rest) ≡ 0
no_blank byte rest above no_hash no_comma small =
    let no_space : is_blank byte ≡ false = or_from _ _ (ne_eqb byte 9 (λ e. omega arith)) (or_from _ _ (or_from _ _ (ne_eqb byte 10 (λ e. omega arith)) (ne_eqb byte 13 (λ e. omega arith))) (or_from _ _ (ne_eqb byte 32 (λ e. omega arith)) (ne_eqb byte 44 no_comma))) in
    let no_bom : nat_eq 239 byte ≡ false = ne_eqb 239 byte (λ e. omega arith) in
    run_len-none Blanks (byte ∷ rest) (
    cond-false (is_blank byte) _ _ no_space
    ∙ cond-false (byte == 35) _ _ (ne_eqb byte 35 no_hash)
    ∙ cond-false (starts_with nat_eq (byte ∷ rest) byte_order_mark) _ _ (and_left (nat_eq 239 byte) _ no_bom))

pub blanks-name : (text tail : List ℕ) → IsName text → blanks (text ++ tail) ≡ 0
blanks-name [] tail is = absurd is
blanks-name (byte ∷ more) tail is =
    let begins = is.0 in
    let above : 64 < byte = grind (arith, nat_tests) in
    let small : byte < 128 = grind (arith, nat_tests) in
    no_blank byte (more ++ tail) (omega arith) (λ e. omega arith) (λ e. omega arith) small

blanks_number : (byte : ℕ) (rest : List ℕ) → begins_number byte ≡ true → blanks (byte ∷ rest) ≡ 0
unfolding begins_number
blanks_number byte rest is =
    let above : 44 < byte = grind (arith, nat_tests) in
    let small : byte < 128 = grind (arith, nat_tests) in
    no_blank byte rest (omega arith) (λ e. omega arith) (λ e. omega arith) small

pub blanks-integer : (text tail : List ℕ) → IsInteger text → blanks (text ++ tail) ≡ 0
blanks-integer text tail is =
    let b = integer_begins is.minus is.whole is.is_minus is.is_whole in
    ap (λ xs. blanks (xs ++ tail)) (is.parts ∙ b.2) ∙ blanks_number b.0 (b.1 ++ tail) b.3

blanks_mark : (byte : ℕ) (rest : List ℕ) → is_punctuator byte ≡ true → blanks (byte ∷ rest) ≡ 0
blanks_mark byte rest is =
    let above : 32 < byte = grind (arith, nat_tests) in
    let small : byte < 128 = grind (arith, nat_tests) in
    let no_hash : byte ≢ 35 = λ e. (let h = ap is_punctuator (sym e) ∙ is in cc) in
    let no_comma : byte ≢ 44 = λ e. (let h = ap is_punctuator (sym e) ∙ is in cc) in
    no_blank byte rest above no_hash no_comma small

pub blanks-punctuator : (text tail : List ℕ) → IsPunctuator text → blanks (text ++ tail) ≡ 0
blanks-punctuator text tail (inl is) = ap (λ xs. blanks (xs ++ tail)) is.2 ∙ blanks_mark is.0 tail is.1
blanks-punctuator text tail (inr is) = ap (λ xs. blanks (xs ++ tail)) is
