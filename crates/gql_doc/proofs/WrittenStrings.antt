-- How a string is written between quotes, a character at a time.
use Rattle.std.proofs.Common.{◌≡◌, ◌≢◌, ℕ, suc, ◌<◌, ◌≤◌, List, [], ◌∷◌, ◌++◌, length, get_or, flat_map, refl, sym, ◌∙◌, ap, append_assoc, arith}
use Rattle.std.proofs.lemmas.Bool.Decides.{nat_tests}
use Rattle.std.proofs.lemmas.List.{append-nil, nil_from_length}
use Rattle.std.proofs.lemmas.Str.{inside_one}
use Rattle.std.proofs.lemmas.Grind.{flat_map-append}
use Rattle.std.specs.Char.{encode_utf8}
use Rattle.gql_lex.specs.declared.token.TokenKind.{TokenKind}
use Rattle.gql_doc.specs.Quoting.{quoted_byte}
use Rattle.gql_doc.specs.inner.Writing.{Adds}
use Rattle.gql_doc.specs.Printed.{string}

plain_byte : (b : ℕ) → b ≢ 34 → b ≢ 92 → b ≢ 10 → 32 ≤ b → quoted_byte b ≡ b ∷ []
plain_byte b not_quote not_backslash not_line high = grind (arith, nat_tests)

all_plain : (bs : List ℕ) → ((k : ℕ) → k < length bs → quoted_byte (get_or bs k 0) ≡ get_or bs k 0 ∷ []) → flat_map quoted_byte bs ≡ bs
all_plain [] plain = refl
all_plain (b ∷ bs) plain =
    let first : quoted_byte b ≡ b ∷ [] = plain 0 (omega arith) in
    let others : flat_map quoted_byte bs ≡ bs = all_plain bs (λ k lt. plain (suc k) (omega arith)) in
    λ i. first i ++ others i

-- a byte of a character is beyond ASCII, or the character
byte_plain : (c b : ℕ) → c ≢ 34 → c ≢ 92 → c ≢ 10 → 32 ≤ c → (b < 128 → c ≡ b) → quoted_byte b ≡ b ∷ []
byte_plain c b not_quote not_backslash not_line high same =
    plain_byte b
    (λ e. not_quote (same (omega arith) ∙ e))
    (λ e. not_backslash (same (omega arith) ∙ e))
    (λ e. not_line (same (omega arith) ∙ e))
    (grind (arith, same))

pub quoted-plain : (c : ℕ) → c ≢ 34 → c ≢ 92 → c ≢ 10 → 32 ≤ c → flat_map quoted_byte (encode_utf8 c) ≡ encode_utf8 c
quoted-plain c not_quote not_backslash not_line high =
    all_plain (encode_utf8 c) (λ k lt. byte_plain c (get_or (encode_utf8 c) k 0) not_quote not_backslash not_line high
    (λ ascii. inside_one c [] (encode_utf8 c) k (sym (append-nil (encode_utf8 c))) lt ascii))

-- an iteration writes a character
pub quoted-turn : (old new rest left total : List ℕ) (c : ℕ) → new ≡ old ++ flat_map quoted_byte (encode_utf8 c) → rest ≡ encode_utf8 c ++ left
    → old ++ flat_map quoted_byte rest ≡ total → new ++ flat_map quoted_byte left ≡ total
quoted-turn old new rest left total c new_is rest_is so_far =
    ap (λ bytes. bytes ++ flat_map quoted_byte left) new_is
    ∙ (append_assoc old (flat_map quoted_byte (encode_utf8 c)) (flat_map quoted_byte left)
    ∙ (ap (λ bytes. old ++ bytes) (sym (flat_map-append quoted_byte (encode_utf8 c) left) ∙ ap (flat_map quoted_byte) (sym rest_is))
    ∙ so_far))

-- the quotes around a value
pub string-written : {old mid new : List ℕ} {k : TokenKind} (value rest : List ℕ) → mid ++ flat_map quoted_byte rest ≡ (old ++ 34 ∷ []) ++ flat_map quoted_byte value → length rest ≡ 0
    → Adds mid new (record { kind = k; text = 34 ∷ [] } ∷ []) → Adds old new (string value ∷ [])
string-written {old = old} {mid = mid} {new = new} value rest so_far done last =
    let inside : List ℕ = flat_map quoted_byte value in
    let mid_is : mid ≡ (old ++ 34 ∷ []) ++ inside = sym (append-nil mid) ∙ (ap (λ bytes. mid ++ flat_map quoted_byte bytes) (sym (nil_from_length rest done)) ∙ so_far) in
    record { is = last.is ∙ rw mid_is (simp append_assoc) }
