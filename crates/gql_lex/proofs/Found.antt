-- What is found lies within the text.
use Rattle.std.proofs.Common.{◌≡◌, ℕ, zero, suc, ◌+◌, ◌-◌, ◌<◌, ◌≤◌, ◌==◌, Bool, true, false, ◌&&◌, List, [], ◌∷◌, ◌++◌, length, drop, get_or, refl, ap, sym, ◌∙◌, subst, lit<, arith, length-drop}
use Rattle.std.specs.Prelude.{nat_eq, if◌then◌else◌}
use Rattle.std.specs.List.{starts_with, prefix_len}
use Rattle.std.specs.Char.{is_ascii_digit}
use Rattle.std.proofs.lemmas.Bool.{eqb-true}
use Rattle.std.proofs.lemmas.Bool.Decides.{nat_tests}
use Rattle.std.proofs.lemmas.List.{get_or-drop}
use Rattle.std.proofs.lemmas.List.Sums.{prefix_len_passes}
use Rattle.gql_lex.specs.declared.scan.Found.{Found}
use Rattle.gql_lex.specs.declared.scan.Found.TheVariants.{Token, Wrong}
use Rattle.gql_lex.specs.declared.token.TokenKind.{TokenKind}
use Rattle.gql_lex.specs.Classes.{begins_name, continues_name}
use Rattle.gql_lex.specs.inner.Found.{Lies, Encloses}
use Rattle.gql_lex.specs.Numbers.{digits, minus_len, whole_len, integer_len}

both_true : (a b : Bool) → a && b ≡ true → (a ≡ true) × (b ≡ true)
both_true true b h = (refl, h)
both_true false b h = absurd (cc)

-- ---- what a text begins with

pub begins_with : (xs : List ℕ) (byte : ℕ) → starts_with nat_eq xs (byte ∷ []) ≡ true → (0 < length xs) × (get_or xs 0 0 ≡ byte)
begins_with [] byte h = absurd (cc)
begins_with (x ∷ xs) byte h = (omega arith, sym (eqb-true byte x (both_true (nat_eq byte x) true h).0))

pub begins_with_three : (xs : List ℕ) (byte : ℕ) → starts_with nat_eq xs (byte ∷ byte ∷ byte ∷ []) ≡ true → (3 ≤ length xs) × (get_or xs 2 0 ≡ byte)
begins_with_three [] byte h = absurd (cc)
begins_with_three (x ∷ []) byte h = absurd (let e = (both_true (nat_eq byte x) false h).1 in cc)
begins_with_three (x ∷ y ∷ []) byte h = absurd (let e = (both_true (nat_eq byte y) false (both_true (nat_eq byte x) (nat_eq byte y && false) h).1).1 in cc)
begins_with_three (x ∷ y ∷ z ∷ xs) byte h = (omega arith, sym (eqb-true byte z (both_true (nat_eq byte z) true (both_true (nat_eq byte y) (nat_eq byte z && true) (both_true (nat_eq byte x) (nat_eq byte y && (nat_eq byte z && true)) h).1).1).0))

-- a text is what it starts with, and then the rest
pub starts_split : (front text : List ℕ) → starts_with nat_eq text front ≡ true → text ≡ front ++ drop (length front) text
starts_split [] text is = refl
starts_split (x ∷ front) [] is = absurd (cc)
starts_split (x ∷ front) (y ∷ text) is =
    let p = both_true (nat_eq x y) (starts_with nat_eq text front) is in
    ap (λ z. z ∷ text) (sym (eqb-true x y p.0)) ∙ ap (λ xs. x ∷ xs) (starts_split front text p.1)

-- ---- strings

Lies-closed : (text : List ℕ) (count more : ℕ) (found : Found) → Encloses count more found → 0 < more → count + more ≤ length text → get_or text (count + more - 1) 0 < 128 → Lies text found
Lies-closed text count more (Token kind len) is some fits last = (omega (arith, is), omega (arith, is), subst (λ n. get_or text (n - 1) 0 < 128) (sym is) last)
Lies-closed text count more (Wrong fault inside) is some fits last = omega (arith, is)

small_at : (text : List ℕ) (count i byte : ℕ) → get_or (drop count text) i 0 ≡ byte → byte < 128 → get_or text (count + i) 0 < 128
small_at text count i byte at small = subst (λ x. x < 128) (sym (sym (get_or-drop count text i 0) ∙ at)) small

small_behind : (text : List ℕ) (n m : ℕ) → n ≡ m → get_or text m 0 < 128 → get_or text n 0 < 128
small_behind text n m e h = subst (λ k. get_or text k 0 < 128) (sym e) h

-- a quoted string ends at its quote
pub Lies-quoted : (text : List ℕ) (count : ℕ) (found : Found) → Encloses count 2 found → count ≤ length text → starts_with nat_eq (drop count text) (34 ∷ []) ≡ true → Lies (34 ∷ text) found
Lies-quoted text count found is fits closes =
    let b = begins_with (drop count text) 34 closes in
    let long : count + 2 ≤ length (34 ∷ text) = omega (arith, b.0, length-drop count text) in
    Lies-closed (34 ∷ text) count 2 found is (omega arith) long
    (small_behind (34 ∷ text) (count + 2 - 1) (suc (count + 0)) (omega arith) (small_at text count 0 34 b.1 (lit< tt)))

-- a block string ends at its last quote
pub Lies-block : (text : List ℕ) (count : ℕ) (found : Found) → Encloses count 6 found → count ≤ length text → starts_with nat_eq (drop count text) (34 ∷ 34 ∷ 34 ∷ []) ≡ true → Lies (34 ∷ 34 ∷ 34 ∷ text) found
Lies-block text count found is fits closes =
    let b = begins_with_three (drop count text) 34 closes in
    let long : count + 6 ≤ length (34 ∷ 34 ∷ 34 ∷ text) = omega (arith, b.0, length-drop count text) in
    Lies-closed (34 ∷ 34 ∷ 34 ∷ text) count 6 found is (omega arith) long
    (small_behind (34 ∷ 34 ∷ 34 ∷ text) (count + 6 - 1) (suc (suc (suc (count + 2)))) (omega arith) (small_at text count 2 34 b.1 (lit< tt)))

-- ---- numbers and names

small_digit : (byte : ℕ) → is_ascii_digit byte ≡ true → byte < 128
small_digit byte h = grind (arith, nat_tests)

small_name : (byte : ℕ) → continues_name byte ≡ true → byte < 128
small_name byte h = grind (arith, nat_tests)

last_digit : (text : List ℕ) → 0 < digits text → get_or text (digits text - 1) 0 < 128
last_digit text some = small_digit (get_or text (digits text - 1) 0) (prefix_len_passes is_ascii_digit text (digits text - 1) 0 (omega arith))

last_whole : (text : List ℕ) → 0 < whole_len text → get_or text (whole_len text - 1) 0 < 128
last_whole text some = by (starts_with nat_eq text (48 ∷ [])) refl some
  where
    by : (b : Bool) → starts_with nat_eq text (48 ∷ []) ≡ b → 0 < (if b then 1 else digits text) → get_or text ((if b then 1 else digits text) - 1) 0 < 128
    by true is h = subst (λ x. x < 128) (sym (begins_with text 48 is).1) (lit< tt)
    by false is h = last_digit text h

last_integer : (text : List ℕ) → 0 < integer_len text → get_or text (integer_len text - 1) 0 < 128
last_integer text some = by (whole_len (drop (minus_len text) text) == 0) refl some
  where
    by : (b : Bool) → whole_len (drop (minus_len text) text) == 0 ≡ b → 0 < (if b then 0 else minus_len text + whole_len (drop (minus_len text) text)) → get_or text ((if b then 0 else minus_len text + whole_len (drop (minus_len text) text)) - 1) 0 < 128
    by true is h = absurd (omega arith)
    by false is h =
        let more : 0 < whole_len (drop (minus_len text) text) = grind (arith, nat_tests) in
        small_behind text (minus_len text + whole_len (drop (minus_len text) text) - 1) (minus_len text + (whole_len (drop (minus_len text) text) - 1)) (omega arith)
        (small_at text (minus_len text) (whole_len (drop (minus_len text) text) - 1) (get_or (drop (minus_len text) text) (whole_len (drop (minus_len text) text) - 1) 0) refl (last_whole (drop (minus_len text) text) more))

-- an integer ends at a digit
pub Lies-integer : (text : List ℕ) (kind : TokenKind) (len : ℕ) → len ≡ integer_len text → 0 < len → len ≤ length text → Lies text (Token kind len)
Lies-integer text kind len is some fits = (some, fits, small_behind text (len - 1) (integer_len text - 1) (ap (λ n. n - 1) is) (last_integer text (omega (arith, is))))

last_name : (byte : ℕ) (rest : List ℕ) (len : ℕ) → byte < 128 → len ≡ prefix_len continues_name rest → get_or (byte ∷ rest) len 0 < 128
last_name byte rest zero small is = small
last_name byte rest (suc len) small is = small_name (get_or rest len 0) (prefix_len_passes continues_name rest len 0 (omega (arith, is)))

small_first : (byte : ℕ) → begins_name byte ≡ true → byte < 128
small_first byte h = grind (arith, nat_tests)

-- a name ends at one of its characters
pub Lies-name : (text : List ℕ) (kind : TokenKind) (len : ℕ) → 1 ≤ length text → begins_name (get_or text 0 0) ≡ true → len ≡ prefix_len continues_name (drop 1 text) → len ≤ length (drop 1 text) → Lies text (Token kind (1 + len))
Lies-name [] kind len some begins counted fits = absurd (omega arith)
Lies-name (byte ∷ rest) kind len some begins counted fits =
    (omega arith, omega arith, small_behind (byte ∷ rest) (1 + len - 1) len (omega arith) (last_name byte rest len (small_first byte begins) counted))
