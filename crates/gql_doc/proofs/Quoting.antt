-- A string that is printed reads back.
use Rattle.std.proofs.Common.{◌≡◌, ◌≢◌, ℕ, suc, ◌+◌, ◌/◌, ◌%◌, ◌<◌, ◌≤◌, ◌==◌, nat_lt, true, lit<, List, [], ◌∷◌, ◌++◌, length, get_or, flat_map, IsUtf8, inl, inr, refl, ap, sym, ◌∙◌, subst, arith}
use Rattle.std.specs.List.{AllByRecursion}
use Rattle.std.proofs.lemmas.Bool.{cond_both, cond-false, and_from, eqb-true, eqb-false, ltb-true, ltb-false, and_parts, cases_lt, ne_eqb, le-ltb}
use Rattle.std.proofs.lemmas.List.{append-nil}
use Rattle.std.proofs.lemmas.Str.{encodes-append, encode_ascii, inside_one}
use Rattle.std.proofs.lemmas.Grind.{flat_map-append}
use lib.Utf8.{scalar, scalars, encode, encodes, low_scalar}
use Rattle.gql_doc.specs.Quoting.{hex_of, quoted_byte, quoted_text}

-- what is so of each of the ways in which a byte is printed is so of a printed byte
pub by_way : (P : ℕ → List ℕ → Type 0)
    → P 34 (92 ∷ 34 ∷ []) → P 92 (92 ∷ 92 ∷ []) → P 10 (92 ∷ 110 ∷ [])
    → ((b : ℕ) → b < 32 → P b (92 ∷ 117 ∷ 48 ∷ 48 ∷ hex_of (b / 16) ∷ hex_of (b % 16) ∷ []))
    → ((b : ℕ) → 32 ≤ b → b ≢ 34 → b ≢ 92 → P b (b ∷ []))
    → (b : ℕ) → P b (quoted_byte b)
by_way P quote backslash line_feed control other b =
    cond_both (b == 34) _ _ (P b) (λ e. subst (λ c. P c (92 ∷ 34 ∷ [])) (sym (eqb-true b 34 e)) quote)
    (λ not_quote. cond_both (b == 92) _ _ (P b) (λ e. subst (λ c. P c (92 ∷ 92 ∷ [])) (sym (eqb-true b 92 e)) backslash)
    (λ not_backslash. cond_both (b == 10) _ _ (P b) (λ e. subst (λ c. P c (92 ∷ 110 ∷ [])) (sym (eqb-true b 10 e)) line_feed)
    (λ _. cond_both (nat_lt b 32) _ _ (P b) (λ e. control b (ltb-true b 32 e))
    (λ high. other b (ltb-false b 32 high) (eqb-false b 34 not_quote) (eqb-false b 92 not_backslash)))))

-- ---- its bytes

abbrev pub AreAscii : List ℕ → Type 0
AreAscii = AllByRecursion (λ b. b < 128)

hex_small : (n : ℕ) → n < 16 → hex_of n < 128
hex_small n small = cond_both (nat_lt n 10) (48 + n) (87 + n) (λ x. x < 128) (λ _. omega arith) (λ _. omega arith)

-- a small byte is printed in ASCII
ascii_printed : (b : ℕ) → b < 128 → AreAscii (quoted_byte b)
ascii_printed = by_way (λ b printed. b < 128 → AreAscii printed)
    (λ h. (lit< tt, (lit< tt, tt))) (λ h. (lit< tt, (lit< tt, tt))) (λ h. (lit< tt, (lit< tt, tt)))
    (λ b small h. (lit< tt, (lit< tt, (lit< tt, (lit< tt, (hex_small (b / 16) (omega arith), (hex_small (b % 16) (omega arith), tt)))))))
    (λ b low not_quote not_backslash h. (h, tt))

pub encodes_ascii : (xs : List ℕ) → AreAscii xs → encodes xs ≡ xs
encodes_ascii [] h = refl
encodes_ascii (x ∷ xs) h = ap (λ l. l ++ encodes xs) (encode_ascii x h.0) ∙ ap (λ l. x ∷ l) (encodes_ascii xs h.1)

pub scalars_ascii : (xs : List ℕ) → AreAscii xs → scalars xs ≡ true
scalars_ascii [] h = refl
scalars_ascii (x ∷ xs) h = and_from (scalar x) (scalars xs) (low_scalar x (let small = h.0 in omega arith)) (scalars_ascii xs h.1)

high_plain : (b : ℕ) → 128 ≤ b → quoted_byte b ≡ b ∷ []
high_plain b high =
    cond-false (b == 34) _ _ (ne_eqb b 34 (λ e. omega arith))
    ∙ cond-false (b == 92) _ _ (ne_eqb b 92 (λ e. omega arith))
    ∙ cond-false (b == 10) _ _ (ne_eqb b 10 (λ e. omega arith))
    ∙ cond-false (nat_lt b 32) _ _ (le-ltb b 32 (omega arith))

high_printed : (xs : List ℕ) → ((k : ℕ) → k < length xs → 128 ≤ get_or xs k 0) → flat_map quoted_byte xs ≡ xs
high_printed [] h = refl
high_printed (x ∷ xs) h = ap (λ l. l ++ flat_map quoted_byte xs) (high_plain x (h 0 (omega arith))) ∙ ap (λ l. x ∷ l) (high_printed xs (λ k below. h (suc k) (omega arith)))

pub encode_high : (c : ℕ) → 128 ≤ c → (k : ℕ) → k < length (encode c) → 128 ≤ get_or (encode c) k 0
encode_high c big k below = elim (cases_lt (get_or (encode c) k 0) 128) [
  | inl low ↦ absurd (let e = inside_one c [] (encode c) k (sym (append-nil (encode c))) below low in omega arith)
  | inr high ↦ high
]

-- the bytes of a character are printed as the character is
char_printed : (c : ℕ) → flat_map quoted_byte (encode c) ≡ encodes (quoted_byte c)
char_printed c = elim (cases_lt c 128) [
  | inl small ↦ ap (flat_map quoted_byte) (encode_ascii c small) ∙ append-nil (quoted_byte c) ∙ sym (encodes_ascii (quoted_byte c) (ascii_printed c small))
  | inr big ↦ high_printed (encode c) (encode_high c big) ∙ sym (append-nil (encode c)) ∙ ap encodes (sym (high_plain c big))
]

all_printed : (cs : List ℕ) → flat_map quoted_byte (encodes cs) ≡ encodes (flat_map quoted_byte cs)
all_printed [] = refl
all_printed (c ∷ cs) =
    flat_map-append quoted_byte (encode c) (encodes cs)
    ∙ (λ i. char_printed c i ++ all_printed cs i)
    ∙ sym (encodes-append (quoted_byte c) (flat_map quoted_byte cs))

-- a text is printed as its characters are
pub quoted_text-encodes : (cs : List ℕ) → quoted_text (encodes cs) ≡ encodes (quoted_text cs)
quoted_text-encodes cs =
    ap (λ l. 34 ∷ (l ++ 34 ∷ [])) (all_printed cs)
    ∙ ap (λ l. 34 ∷ (encodes (flat_map quoted_byte cs) ++ l)) (sym (encodes_ascii (34 ∷ []) (lit< tt, tt)))
    ∙ ap (λ l. 34 ∷ l) (sym (encodes-append (flat_map quoted_byte cs) (34 ∷ [])))
    ∙ ap (λ l. l ++ encodes (flat_map quoted_byte cs ++ 34 ∷ [])) (sym (encode_ascii 34 (lit< tt)))

scalars-append : (xs ys : List ℕ) → scalars xs ≡ true → scalars ys ≡ true → scalars (xs ++ ys) ≡ true
scalars-append [] ys h k = k
scalars-append (x ∷ xs) ys h k = let p = and_parts (scalar x) (scalars xs) h in and_from (scalar x) (scalars (xs ++ ys)) p.0 (scalars-append xs ys p.1 k)

char_scalars : (c : ℕ) → scalar c ≡ true → scalars (quoted_byte c) ≡ true
char_scalars c h = elim (cases_lt c 128) [
  | inl small ↦ scalars_ascii (quoted_byte c) (ascii_printed c small)
  | inr big ↦ ap scalars (high_plain c big) ∙ and_from (scalar c) true h refl
]

all_scalars : (cs : List ℕ) → scalars cs ≡ true → scalars (flat_map quoted_byte cs) ≡ true
all_scalars [] h = refl
all_scalars (c ∷ cs) h = let p = and_parts (scalar c) (scalars cs) h in scalars-append (quoted_byte c) (flat_map quoted_byte cs) (char_scalars c p.0) (all_scalars cs p.1)

quoted_scalars : (cs : List ℕ) → scalars cs ≡ true → scalars (quoted_text cs) ≡ true
quoted_scalars cs h = scalars-append (flat_map quoted_byte cs) (34 ∷ []) (all_scalars cs h) refl

-- ---- the laws

-- a text is printed as a text
pub IsUtf8-quoted_text : (v : List ℕ) → IsUtf8 v → IsUtf8 (quoted_text v)
IsUtf8-quoted_text v u = (quoted_text u.0, (quoted_scalars u.0 u.1.0, sym (quoted_text-encodes u.0) ∙ ap quoted_text u.1.1))
