-- The content of a JSON string of a UTF-8 text is UTF-8.
use Rattle.std.proofs.Common.{◌≡◌, ℕ, zero, suc, ◌+◌, ◌*◌, ◌<◌, ◌≤◌, List, [], ◌∷◌, ◌++◌, length, get_or, true, false, cond, ◌==◌, ◌&&◌, ◌||◌, refl, sym, ap, ◌∙◌, subst, arith, Option, Some, None, inl, inr, IsUtf8, append-nil, length-append}
use Rattle.std.specs.Prelude.{IfSome, nat_lt, option_and_then}
use Rattle.std.specs.Char.{digit_value, is_digit, encode_utf8}
use Rattle.std.proofs.lemmas.Bool.{cond_both, ltb-true, leb-true, eqb-true, and_parts, cases_lt, le-ltb, ne_eqb}
use Rattle.std.proofs.lemmas.Bool.Decides.{nat_tests}
use Rattle.std.proofs.lemmas.Str.{IsUtf8-append, IsUtf8-nil, IsUtf8-encode, IsUtf8-drop, IsCharBoundary-after_ascii, length-encode, len_utf8_bounds, inside_one, byte_from_char}
use lib.Utf8.{scalar, scalars, encodes}
use Rattle.json.specs.Text.{code_unit, short_escape, is_high_surrogate, is_low_surrogate, surrogate_pair, plain, after_backslash, after_u, after_high, prepend, content}
use Rattle.gql_payload.proofs.Utf8.{ascii_byte}

-- a text, if there is one
abbrev pub IfUtf8 : Option (List ℕ) → Type 0
IfUtf8 o = IfSome o IsUtf8

prepend_utf8 : (front : List ℕ) (o : Option (List ℕ)) → IsUtf8 front → IfUtf8 o → IfUtf8 (prepend front o)
prepend_utf8 front None h k = tt
prepend_utf8 front (Some s) h k = IsUtf8-append front s h k

-- what stands behind an ASCII byte of a text is a text
pub behind_ascii : (x : ℕ) (xs : List ℕ) → x < 128 → IsUtf8 (x ∷ xs) → IsUtf8 xs
behind_ascii x xs small h = IsUtf8-drop (x ∷ xs) 1 h (IsCharBoundary-after_ascii (x ∷ xs) 0 h (omega arith) small)

-- so many bytes at most, read as a text
abbrev Reads : ℕ → Type 0
Reads n = (xs : List ℕ) → length xs ≤ n → IsUtf8 xs → IfUtf8 (content plain xs)

-- ---- escapes

short_small : (x : ℕ) → IfSome (short_escape x) (λ c. (x < 128) × (c < 128))
unfolding short_escape
short_small x =
    let P : Option ℕ → Type 0 = λ o. IfSome o (λ c. (x < 128) × (c < 128)) in
    let at : (y c : ℕ) → y < 128 → c < 128 → (x == y) ≡ true → (x < 128) × (c < 128) = λ y c h k e. (let same = eqb-true x y e in (omega arith, k)) in
    cond_both ((x == 34) || (x == 92) || (x == 47)) (Some x) _ P
    (λ e. (let small : x < 128 = grind (arith, nat_tests) in (small, small)))
    (λ _. cond_both (x == 98) (Some 8) _ P (at 98 8 (omega arith) (omega arith))
    (λ _. cond_both (x == 102) (Some 12) _ P (at 102 12 (omega arith) (omega arith))
    (λ _. cond_both (x == 110) (Some 10) _ P (at 110 10 (omega arith) (omega arith))
    (λ _. cond_both (x == 114) (Some 13) _ P (at 114 13 (omega arith) (omega arith))
    (λ _. cond_both (x == 116) (Some 9) _ P (at 116 9 (omega arith) (omega arith)) (λ _. tt))))))

-- a hex digit is ASCII, and of 4 bits
hex_small : (a : ℕ) → is_digit a 16 ≡ true → (a < 128) × (digit_value a < 16)
hex_small a e =
    let value : digit_value a < 16 = ltb-true (digit_value a) 16 e in
    (grind (arith, nat_tests, value), value)

-- what four hex digits spell
abbrev IsUnit : ℕ → ℕ → ℕ → ℕ → ℕ → Type 0
IsUnit a b c d u = (a < 128) × (b < 128) × (c < 128) × (d < 128) × (u < 65536)

unit_small : (a b c d : ℕ) → IfSome (code_unit a b c d) (IsUnit a b c d)
unfolding code_unit
unit_small a b c d =
    cond_both (is_digit a 16 && is_digit b 16 && is_digit c 16 && is_digit d 16) (Some (digit_value a * 4096 + digit_value b * 256 + digit_value c * 16 + digit_value d)) None (λ o. IfSome o (IsUnit a b c d))
    (λ e. (
    let p = and_parts _ _ e in
    let q = and_parts _ _ p.0 in
    let r = and_parts _ _ q.0 in
    let ha = hex_small a r.0 in
    let hb = hex_small b r.1 in
    let hc = hex_small c q.1 in
    let hd = hex_small d p.1 in
    (ha.0, hb.0, hc.0, hd.0, omega (arith, ha.1, hb.1, hc.1, hd.1))
    ))
    (λ _. tt)

behind_four : (a b c d : ℕ) (xs : List ℕ) → a < 128 → b < 128 → c < 128 → d < 128 → IsUtf8 (a ∷ b ∷ c ∷ d ∷ xs) → IsUtf8 xs
behind_four a b c d xs ha hb hc hd h = behind_ascii d xs hd (behind_ascii c (d ∷ xs) hc (behind_ascii b (c ∷ d ∷ xs) hb (behind_ascii a (b ∷ c ∷ d ∷ xs) ha h)))

is_scalar_value : (u : ℕ) → u < 65536 → is_high_surrogate u ≡ false → is_low_surrogate u ≡ false → scalar u ≡ true
is_scalar_value u small high low = grind (arith, nat_tests)

pair_is_scalar : (high low : ℕ) → is_high_surrogate high ≡ true → is_low_surrogate low ≡ true → scalar (surrogate_pair high low) ≡ true
pair_is_scalar high low h l =
    let p = and_parts _ _ h in
    let q = and_parts _ _ l in
    let a = leb-true 0xd800 high p.0 in
    let b = ltb-true high 0xdc00 p.1 in
    let c = leb-true 0xdc00 low q.0 in
    let d = ltb-true low 0xe000 q.1 in
    above (surrogate_pair high low) (omega (arith, a, b, c, d)) (omega (arith, a, b, c, d))
  where
    above : (c : ℕ) → 0x10000 ≤ c → c < 0x110000 → scalar c ≡ true
    above c h k = grind (arith, nat_tests)

module _ (n : ℕ) (reads : Reads n) where
  low_utf8 : (high : ℕ) (xs : List ℕ) (unit : Option ℕ) → is_high_surrogate high ≡ true → IfSome unit (λ u. IfUtf8 (content plain xs))
      → IfUtf8 (option_and_then (λ l. cond (is_low_surrogate l) (prepend (encode_utf8 (surrogate_pair high l)) (content plain xs)) None) unit)
  low_utf8 high xs None h k = tt
  low_utf8 high xs (Some l) h k =
      cond_both (is_low_surrogate l) (prepend (encode_utf8 (surrogate_pair high l)) (content plain xs)) None IfUtf8
      (λ e. prepend_utf8 _ _ (IsUtf8-encode (surrogate_pair high l) (pair_is_scalar high l h e)) k) (λ _. tt)

  behind_unit : (a b c d : ℕ) (xs : List ℕ) (unit : Option ℕ) → length xs ≤ n → IsUtf8 (a ∷ b ∷ c ∷ d ∷ xs) → IfSome unit (IsUnit a b c d) → IfSome unit (λ u. IfUtf8 (content plain xs))
  behind_unit a b c d xs None within h k = tt
  behind_unit a b c d xs (Some u) within h k = reads xs within (behind_four a b c d xs k.0 k.1 k.2 k.3 h)

  high_utf8 : (high : ℕ) (xs : List ℕ) → is_high_surrogate high ≡ true → length xs ≤ n → IsUtf8 xs → IfUtf8 (content (after_high high) xs)
  unfolding content
  high_utf8 high [] h within k = tt
  high_utf8 high (s ∷ []) h within k = tt
  high_utf8 high (s ∷ u ∷ []) h within k = tt
  high_utf8 high (s ∷ u ∷ a ∷ []) h within k = tt
  high_utf8 high (s ∷ u ∷ a ∷ b ∷ []) h within k = tt
  high_utf8 high (s ∷ u ∷ a ∷ b ∷ c ∷ []) h within k = tt
  high_utf8 high (s ∷ u ∷ a ∷ b ∷ c ∷ d ∷ xs) h within k =
      cond_both ((s == 92) && (u == 117)) _ None IfUtf8
      (λ e. (
      let p = and_parts _ _ e in
      let first = eqb-true s 92 p.0 in
      let second = eqb-true u 117 p.1 in
      let rest : IsUtf8 (a ∷ b ∷ c ∷ d ∷ xs) = behind_ascii u (a ∷ b ∷ c ∷ d ∷ xs) (omega (arith, second)) (behind_ascii s (u ∷ a ∷ b ∷ c ∷ d ∷ xs) (omega (arith, first)) k) in
      low_utf8 high xs (code_unit a b c d) h (behind_unit a b c d xs (code_unit a b c d) (omega arith) rest (unit_small a b c d))
      ))
      (λ _. tt)

  unit_utf8 : (a b c d : ℕ) (xs : List ℕ) (unit : Option ℕ) → length xs ≤ n → IsUtf8 (a ∷ b ∷ c ∷ d ∷ xs) → IfSome unit (IsUnit a b c d)
      → IfUtf8 (option_and_then (λ u. cond (is_high_surrogate u) (content (after_high u) xs) (cond (is_low_surrogate u) None (prepend (encode_utf8 u) (content plain xs)))) unit)
  unit_utf8 a b c d xs None within h k = tt
  unit_utf8 a b c d xs (Some u) within h k =
      let rest = behind_four a b c d xs k.0 k.1 k.2 k.3 h in
      cond_both (is_high_surrogate u) (content (after_high u) xs) _ IfUtf8
      (λ e. high_utf8 u xs e within rest)
      (λ high. cond_both (is_low_surrogate u) None (prepend (encode_utf8 u) (content plain xs)) IfUtf8 (λ _. tt)
      (λ low. prepend_utf8 _ _ (IsUtf8-encode u (is_scalar_value u k.4 high low)) (reads xs within rest)))

  u_utf8 : (xs : List ℕ) → length xs ≤ n → IsUtf8 xs → IfUtf8 (content after_u xs)
  unfolding content
  u_utf8 [] within h = tt
  u_utf8 (a ∷ []) within h = tt
  u_utf8 (a ∷ b ∷ []) within h = tt
  u_utf8 (a ∷ b ∷ c ∷ []) within h = tt
  u_utf8 (a ∷ b ∷ c ∷ d ∷ xs) within h = unit_utf8 a b c d xs (code_unit a b c d) (omega arith) h (unit_small a b c d)

  short_utf8 : (x : ℕ) (xs : List ℕ) (o : Option ℕ) → length xs ≤ n → IsUtf8 (x ∷ xs) → IfSome o (λ c. (x < 128) × (c < 128)) → IfUtf8 (option_and_then (λ c. prepend (c ∷ []) (content plain xs)) o)
  short_utf8 x xs None within h k = tt
  short_utf8 x xs (Some c) within h k = prepend_utf8 (c ∷ []) (content plain xs) (ascii_byte c k.1) (reads xs within (behind_ascii x xs k.0 h))

  backslash_utf8 : (xs : List ℕ) → length xs ≤ n → IsUtf8 xs → IfUtf8 (content after_backslash xs)
  unfolding content
  backslash_utf8 [] within h = tt
  backslash_utf8 (x ∷ xs) within h =
      let shorter : length xs ≤ n = omega arith in
      cond_both (x == 117) (content after_u xs) _ IfUtf8
      (λ e. (let same = eqb-true x 117 e in u_utf8 xs shorter (behind_ascii x xs (omega (arith, same)) h)))
      (λ _. short_utf8 x xs (short_escape x) shorter h (short_small x))

  -- an ASCII byte
  ascii_utf8 : (x : ℕ) (xs : List ℕ) → x < 128 → length xs ≤ n → IsUtf8 (x ∷ xs) → IfUtf8 (content plain (x ∷ xs))
  unfolding content
  ascii_utf8 x xs small within h =
      let rest = behind_ascii x xs small h in
      cond_both (x == 34) (Some []) _ IfUtf8 (λ _. IsUtf8-nil)
      (λ _. cond_both (x == 92) (content after_backslash xs) _ IfUtf8 (λ _. backslash_utf8 xs within rest)
      (λ _. cond_both (nat_lt x 32) None (prepend (x ∷ []) (content plain xs)) IfUtf8 (λ _. tt)
      (λ _. prepend_utf8 (x ∷ []) (content plain xs) (ascii_byte x small) (reads xs within rest))))

-- ---- characters beyond ASCII

-- a byte of such a character stands for itself
content-high_byte : (x : ℕ) (xs : List ℕ) → 128 ≤ x → content plain (x ∷ xs) ≡ prepend (x ∷ []) (content plain xs)
unfolding content
content-high_byte x xs high =
    λ j. cond (ne_eqb x 34 (λ z. omega arith) j) (Some []) (cond (ne_eqb x 92 (λ z. omega arith) j) (content after_backslash xs) (cond (le-ltb x 32 (omega arith) j) None (prepend (x ∷ []) (content plain xs))))

-- and so do several of them
content-high : (run rest : List ℕ) → ((k : ℕ) → k < length run → 128 ≤ get_or run k 0) → content plain (run ++ rest) ≡ prepend run (content plain rest)
content-high [] rest h = sym (none (content plain rest))
  where
    none : (o : Option (List ℕ)) → prepend [] o ≡ o
    none None = refl
    none (Some s) = refl
content-high (x ∷ run) rest h =
    content-high_byte x (run ++ rest) (h 0 (omega arith)) ∙ (ap (prepend (x ∷ [])) (content-high run rest (λ k within. h (suc k) (omega arith))) ∙ both (content plain rest))
  where
    both : (o : Option (List ℕ)) → prepend (x ∷ []) (prepend run o) ≡ prepend (x ∷ run) o
    both None = refl
    both (Some s) = refl

-- a character beyond ASCII before the rest of a text
high_char : (n c : ℕ) (rest : List ℕ) → Reads n → 128 ≤ c → scalar c ≡ true → IsUtf8 rest → length (encode_utf8 c ++ rest) ≤ suc n → IfUtf8 (content plain (encode_utf8 c ++ rest))
high_char n c rest reads big ok h within =
    let high : (k : ℕ) → k < length (encode_utf8 c) → 128 ≤ get_or (encode_utf8 c) k 0 = λ k below. elim (cases_lt (get_or (encode_utf8 c) k 0) 128) [
      | inl low ↦ absurd (omega (arith, inside_one c [] (encode_utf8 c) k (sym (append-nil _)) below low))
      | inr high ↦ high
    ] in
    let shorter : length rest ≤ n = omega (arith, within, length-append (encode_utf8 c) rest, length-encode c, (len_utf8_bounds c).0) in
    subst IfUtf8 (sym (content-high (encode_utf8 c) rest high)) (prepend_utf8 (encode_utf8 c) (content plain rest) (IsUtf8-encode c ok) (reads rest shorter h))

-- ---- texts

first_char : (n : ℕ) (x : ℕ) (xs cs : List ℕ) → Reads n → 128 ≤ x → scalars cs ≡ true → encodes cs ≡ x ∷ xs → length (x ∷ xs) ≤ suc n → IfUtf8 (content plain (x ∷ xs))
first_char n x xs [] reads big ok is within = absurd (let e : 0 ≡ suc (length xs) = ap length is in omega (arith, e))
first_char n x xs (c ∷ cs) reads big ok is within =
    let p = and_parts (scalar c) (scalars cs) ok in
    let far : 128 ≤ c = elim (cases_lt c 128) [
      | inl small ↦ absurd (let e : x ≡ c = ap (λ (bytes : List ℕ). get_or bytes 0 0) (sym is) ∙ byte_from_char (encodes (c ∷ cs)) (encodes cs) c refl small in omega (arith, e))
      | inr far ↦ far
    ] in
    subst (λ (bytes : List ℕ). IfUtf8 (content plain bytes)) is (high_char n c (encodes cs) reads far p.0 (cs, (p.1, refl)) (subst (λ (bytes : List ℕ). length bytes ≤ suc n) (sym is) within))

reads_all : (n : ℕ) → Reads n
unfolding content
reads_all n [] within h = tt
reads_all zero (x ∷ xs) within h = absurd (omega (arith, within))
reads_all (suc n) (x ∷ xs) within h = elim (cases_lt x 128) [
  | inl small ↦ ascii_utf8 n (reads_all n) x xs small (omega (arith, within)) h
  | inr big ↦ first_char n x xs h.0 (reads_all n) big h.1.0 h.1.1 within
]

-- what a string of a text has is a text
pub content_utf8 : (xs : List ℕ) → IsUtf8 xs → IfUtf8 (content plain xs)
content_utf8 xs h = reads_all (length xs) xs (omega arith) h
