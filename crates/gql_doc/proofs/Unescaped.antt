-- A quoted string without a backslash means what stands between its quotes.
use Rattle.std.proofs.Common.{◌≡◌, ◌≢◌, ℕ, suc, ◌+◌, ◌-◌, ◌≤◌, ◌==◌, Bool, false, true≢false, lit<, List, [], ◌∷◌, ◌++◌, length, take, drop, get_or, IsUtf8, refl, ap, sym, ◌∙◌, subst, length-drop, arith}
use Rattle.std.specs.List.{list_any}
use Rattle.std.specs.Char.{encode_utf8}
use Rattle.std.specs.Str.{chars, encode_utf8_all}
use Rattle.std.proofs.lemmas.Bool.{or_parts}
use Rattle.std.proofs.lemmas.List.{take-append-drop, drop_more, nil_from_length}
use Rattle.std.proofs.lemmas.List.Folds.{list_any-append}
use Rattle.std.proofs.lemmas.Str.{encodes-chars}
use Rattle.gql_lex.specs.declared.token.TokenKind.TheVariants as kind
use Rattle.gql_doc.specs.StringValue.{quoted_value, between, string_value}
use Rattle.gql_doc.proofs.Quoting.{AreAscii}
use Rattle.gql_doc.proofs.StringTexts.{other_reads, between_marks, chars_between, behind_marks, before_mark}

abbrev pub is_backslash : ℕ → Bool
is_backslash byte = byte == 92

no_backslash : (c : ℕ) → list_any is_backslash (encode_utf8 c) ≡ false → c ≢ 92
unfolding encode_utf8
no_backslash c none is = true≢false (ap (λ x. list_any is_backslash (encode_utf8 x)) (sym is) ∙ none)

-- characters that are no backslash stand for themselves
quoted_plain : (cs : List ℕ) → list_any is_backslash (encode_utf8_all cs) ≡ false → quoted_value 0 cs ≡ cs
quoted_plain [] none = refl
quoted_plain (c ∷ cs) none =
    let parts = or_parts (list_any is_backslash (encode_utf8 c)) (list_any is_backslash (encode_utf8_all cs)) (sym (list_any-append is_backslash (encode_utf8 c) (encode_utf8_all cs)) ∙ none) in
    other_reads c (no_backslash c parts.0) cs ∙ ap (λ more. c ∷ more) (quoted_plain cs parts.1)

mark : AreAscii (34 ∷ [])
mark = (lit< tt, tt)

-- the same of a text that is given by its content
content_means : (content : List ℕ) → IsUtf8 content → list_any is_backslash content ≡ false → string_value kind.Quoted (34 ∷ (content ++ 34 ∷ [])) ≡ content
content_means content utf8 none =
    ap (λ cs. encode_utf8_all (quoted_value 0 (between 1 cs))) (chars_between (34 ∷ []) content mark utf8)
    ∙ ap (λ cs. encode_utf8_all (quoted_value 0 cs)) (between_marks (34 ∷ []) (chars content))
    ∙ ap encode_utf8_all (quoted_plain (chars content) (ap (list_any is_backslash) (encodes-chars content utf8) ∙ none))
    ∙ encodes-chars content utf8

-- a list that ends with a byte
before_last : (rest : List ℕ) (n last : ℕ) → length rest ≡ suc n → get_or rest n 0 ≡ last → rest ≡ take n rest ++ last ∷ []
before_last rest n last long is =
    let none : drop (n + 1) rest ≡ [] = nil_from_length (drop (n + 1) rest) (omega (arith, length-drop (n + 1) rest, long)) in
    sym (take-append-drop n rest)
    ∙ ap (λ l. take n rest ++ l) (drop_more rest n 0 (omega (arith, long)) ∙ (λ i. is i ∷ none i))

one_less : (n : ℕ) → suc n - 1 ≡ n
one_less n = omega arith

-- a text that begins and ends with a quote, and has no backslash: what the code cuts from it is what it means
pub unescaped_means : (text behind content : List ℕ) → IsUtf8 text → 2 ≤ length text → get_or text 0 0 ≡ 34 → get_or text (length text - 1) 0 ≡ 34 → list_any is_backslash text ≡ false
    → behind ≡ drop 1 text → content ≡ take (length behind - 1) behind → content ≡ string_value kind.Quoted text
unescaped_means [] behind content utf8 long first last none behind_is content_is = absurd (omega arith)
unescaped_means (byte ∷ []) behind content utf8 long first last none behind_is content_is = absurd (omega arith)
unescaped_means (byte ∷ next ∷ rest) behind content utf8 long first last none behind_is content_is =
    let inside : List ℕ = take (length rest) (next ∷ rest) in
    let is : content ≡ inside = content_is ∙ ap (λ (l : List ℕ). take (length l - 1) l) behind_is ∙ ap (λ n. take n (next ∷ rest)) (one_less (length rest)) in
    let closing : get_or (next ∷ rest) (length rest) 0 ≡ 34 = ap (λ n. get_or (byte ∷ next ∷ rest) n 0) (sym (one_less (suc (length rest)))) ∙ last in
    let whole : byte ∷ next ∷ rest ≡ 34 ∷ (inside ++ 34 ∷ []) = (λ i. first i ∷ before_last (next ∷ rest) (length rest) 34 refl closing i) in
    let inner : IsUtf8 inside = before_mark inside 34 [] (lit< tt) (behind_marks (34 ∷ []) (inside ++ 34 ∷ []) mark (subst IsUtf8 whole utf8)) in
    let parts = or_parts (list_any is_backslash inside) (list_any is_backslash (34 ∷ [])) (sym (list_any-append is_backslash inside (34 ∷ [])) ∙ (sym (ap (list_any is_backslash) whole) ∙ none)) in
    is ∙ sym (ap (string_value kind.Quoted) whole ∙ content_means inside inner parts.0)
