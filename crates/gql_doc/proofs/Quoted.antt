-- How a quoted string is read, a piece at a time.
use Rattle.std.proofs.Common.{◌≡◌, ℕ, zero, suc, ◌<◌, List, [], ◌∷◌, ◌++◌, length, drop, get_or, refl, ap, sym, ◌∙◌, append_assoc, arith}
use Rattle.std.specs.Str.{encode_utf8_all}
use Rattle.std.specs.Char.{encode_utf8}
use Rattle.gql_doc.specs.StringValue.{quoted_piece, quoted_value}

-- the characters of a piece are passed
quoted_value-inside : (n : ℕ) (text : List ℕ) → quoted_value n text ≡ quoted_value 0 (drop n text)
quoted_value-inside zero [] = refl
quoted_value-inside zero (c ∷ rest) = refl
quoted_value-inside (suc n) [] = refl
quoted_value-inside (suc n) (c ∷ rest) = quoted_value-inside n rest

-- an iteration writes what a piece stands for
pub quoted_value-turn : (written text : List ℕ) (first : ℕ) (behind : List ℕ) (piece : ℕ × ℕ) (rest total : List ℕ) → 0 < length text → first ≡ get_or text 0 first → behind ≡ drop 1 text → piece ≡ quoted_piece first behind → rest ≡ drop piece.1 behind
    → written ++ encode_utf8_all (quoted_value 0 text) ≡ total → (written ++ encode_utf8 piece.0) ++ encode_utf8_all (quoted_value 0 rest) ≡ total
quoted_value-turn written [] first behind piece rest total some first_is behind_is piece_is rest_is so_far = absurd (omega arith)
quoted_value-turn written (c ∷ text) first behind piece rest total some first_is behind_is piece_is rest_is so_far =
    let is : piece ≡ quoted_piece c text = piece_is ∙ ap (λ x. quoted_piece x behind) first_is ∙ ap (quoted_piece c) behind_is in
    let now : rest ≡ drop (quoted_piece c text).1 text = rest_is ∙ ap (λ (p : ℕ × ℕ). drop p.1 behind) is ∙ ap (drop (quoted_piece c text).1) behind_is in
    append_assoc written (encode_utf8 piece.0) (encode_utf8_all (quoted_value 0 rest))
    ∙ ap (λ (p : ℕ × ℕ). written ++ (encode_utf8 p.0 ++ encode_utf8_all (quoted_value 0 rest))) is
    ∙ ap (λ t. written ++ (encode_utf8 (quoted_piece c text).0 ++ encode_utf8_all t)) (ap (quoted_value 0) now ∙ sym (quoted_value-inside (quoted_piece c text).1 text))
    ∙ so_far
