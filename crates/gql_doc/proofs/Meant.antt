-- What the tokens of a UTF-8 text mean is UTF-8.
use Rattle.std.proofs.Common.{◌≡◌, ℕ, zero, suc, ◌-◌, ◌*◌, ◌==◌, nat_lt, true, ◌&&◌, ◌||◌, List, [], ◌∷◌, ◌++◌, length, take, drop, map, flat_map, reverse, Option, Some, None, IsUtf8, inl, inr, refl}
use Rattle.std.specs.Prelude.{nat_eq, nat_le, unwrap_or}
use Rattle.std.specs.List.{AllByRecursion as Each, starts_with, prefix_len}
use Rattle.std.specs.Char.Utf16.{is_high_surrogate, surrogate_pair_char}
use Rattle.std.specs.Str.{chars}
use Rattle.std.proofs.lemmas.Bool.{cond_both, both_ways, or_cases, and_parts, and_from}
use Rattle.std.proofs.lemmas.Str.{scalars-chars}
use lib.Utf8.{scalar, scalars}
use Rattle.gql_lex.specs.declared.token.TokenKind.{TokenKind}
use Rattle.gql_lex.specs.declared.token.TokenKind.TheVariants as kind
use Rattle.gql_lex.specs.Tokens.{Lexeme, End, Lexes}
use Rattle.gql_lex.specs.StringTexts.{simple_escape}
use Rattle.gql_lex.proofs.Escapes.{by_simple}
use Rattle.gql_lex.proofs.Lexing.{tokens-utf8}
use Rattle.gql_doc.specs.StringValue.{escaped, unit, character, unicode, escape, quoted_piece, quoted_value, raw_value, ends_line, with_front, lines, is_blank_line, common_indent, unindented, after_blank_lines, before_blank_lines, joined, block_value, between, value, string_value}

-- ---- characters

-- each is a character
abbrev pub Scalars : List ℕ → Type 0
Scalars = Each (λ c. scalar c ≡ true)

pub from_scalars : (cs : List ℕ) → scalars cs ≡ true → Scalars cs
from_scalars [] h = tt
from_scalars (c ∷ cs) h = let p = and_parts (scalar c) (scalars cs) h in (p.0, from_scalars cs p.1)

pub to_scalars : (cs : List ℕ) → Scalars cs → scalars cs ≡ true
to_scalars [] h = refl
to_scalars (c ∷ cs) h = and_from (scalar c) (scalars cs) h.0 (to_scalars cs h.1)

-- ---- quoted strings

character_scalar : (code : ℕ) → scalar (character code) ≡ true
character_scalar code =
    let low = nat_lt code 0xD800 in
    let high = nat_le 0xE000 code && nat_lt code 0x11_0000 in
    cond_both (low || high) code 0xFFFD (λ c. scalar c ≡ true) (λ either. cond_both low true high (λ b. b ≡ true) (λ _. refl) (λ not_low. elim (or_cases low high either) [ inl is ↦ absurd (both_ways low not_low is) | inr is ↦ is ])) (λ _. refl)

escaped_scalar : (c : ℕ) → scalar c ≡ true → scalar (escaped c) ≡ true
escaped_scalar c h =
    by (simple_escape c) refl
  where
    by : (o : Option ℕ) → simple_escape c ≡ o → scalar (unwrap_or o c) ≡ true
    by None is = h
    by (Some d) is = by_simple (λ byte character. scalar character ≡ true) refl refl refl refl refl refl refl refl c d is

unicode_scalar : (digits : List ℕ) → scalar (unicode digits).0 ≡ true
unicode_scalar digits = cond_both (is_high_surrogate (unit digits)) _ _ (λ (p : ℕ × ℕ). scalar p.0 ≡ true) (λ _. character_scalar (surrogate_pair_char (unit digits) (unit (drop 6 digits)))) (λ _. character_scalar (unit digits))

piece_scalar : (c : ℕ) (rest : List ℕ) → scalar c ≡ true → Scalars rest → scalar (quoted_piece c rest).0 ≡ true
piece_scalar c rest h hs = cond_both (c == 92) _ _ (λ (p : ℕ × ℕ). scalar p.0 ≡ true) (λ _. escape_scalar rest hs) (λ _. h)
  where
    escape_scalar : (rest : List ℕ) → Scalars rest → scalar (escape rest).0 ≡ true
    escape_scalar [] hs = refl
    escape_scalar (d ∷ rest) hs = cond_both (d == 117) _ _ (λ (p : ℕ × ℕ). scalar p.0 ≡ true) (λ _. unicode_scalar rest) (λ _. escaped_scalar d hs.0)

quoted_scalars : (inside : ℕ) (cs : List ℕ) → Scalars cs → Scalars (quoted_value inside cs)
quoted_scalars inside [] h = tt
quoted_scalars (suc inside) (c ∷ cs) h = quoted_scalars inside cs h.1
quoted_scalars zero (c ∷ cs) h = (piece_scalar c cs h.0 h.1, quoted_scalars (quoted_piece c cs).1 cs h.1)

-- ---- parts of lists

Each-take : {A : Type 0} (P : A → Type 0) → (n : ℕ) (xs : List A) → Each P xs → Each P (take n xs)
Each-take P zero xs h = tt
Each-take P (suc n) [] h = tt
Each-take P (suc n) (x ∷ xs) h = (h.0, Each-take P n xs h.1)

Each-drop : {A : Type 0} (P : A → Type 0) → (n : ℕ) (xs : List A) → Each P xs → Each P (drop n xs)
Each-drop P zero xs h = h
Each-drop P (suc n) [] h = tt
Each-drop P (suc n) (x ∷ xs) h = Each-drop P n xs h.1

Each-append : {A : Type 0} (P : A → Type 0) → (xs ys : List A) → Each P xs → Each P ys → Each P (xs ++ ys)
Each-append P [] ys h k = k
Each-append P (x ∷ xs) ys h k = (h.0, Each-append P xs ys h.1 k)

-- ---- block strings

pub raw_scalars : (cs : List ℕ) → Scalars cs → Scalars (raw_value cs)
raw_scalars [] h = tt
raw_scalars (c ∷ cs) h = cond_both (c == 92 && starts_with nat_eq cs (34 ∷ 34 ∷ 34 ∷ [])) _ _ Scalars (λ _. raw_scalars cs h.1) (λ _. (h.0, raw_scalars cs h.1))

front_scalars : (c : ℕ) (ls : List (List ℕ)) → scalar c ≡ true → Each Scalars ls → Each Scalars (with_front (c ∷ []) ls)
front_scalars c [] h hs = tt
front_scalars c (l ∷ ls) h hs = ((h, hs.0), hs.1)

lines_scalars : (cs : List ℕ) → Scalars cs → Each Scalars (lines cs)
lines_scalars [] h = (tt, tt)
lines_scalars (c ∷ cs) h =
    cond_both (ends_line c cs) _ _ (Each Scalars) (λ _. (tt, lines_scalars cs h.1))
    (λ _. cond_both (c == 13) _ _ (Each Scalars) (λ _. lines_scalars cs h.1) (λ _. front_scalars c (lines cs) h.0 (lines_scalars cs h.1)))

dropped_scalars : (n : ℕ) (ls : List (List ℕ)) → Each Scalars ls → Each Scalars (map (λ line. drop n line) ls)
dropped_scalars n [] h = tt
dropped_scalars n (l ∷ ls) h = (Each-drop (λ c. scalar c ≡ true) n l h.0, dropped_scalars n ls h.1)

unindented_scalars : (ls : List (List ℕ)) → Each Scalars ls → Each Scalars (unindented ls)
unindented_scalars [] h = tt
unindented_scalars (first ∷ ls) h = (h.0, dropped_scalars (unwrap_or (common_indent ls) 0) ls h.1)

broken_scalars : (ls : List (List ℕ)) → Each Scalars ls → Scalars (flat_map (λ next. 10 ∷ next) ls)
broken_scalars [] h = tt
broken_scalars (l ∷ ls) h = (refl, Each-append (λ c. scalar c ≡ true) l (flat_map (λ next. 10 ∷ next) ls) h.0 (broken_scalars ls h.1))

joined_scalars : (ls : List (List ℕ)) → Each Scalars ls → Scalars (joined ls)
joined_scalars [] h = tt
joined_scalars (l ∷ ls) h = Each-append (λ c. scalar c ≡ true) l (flat_map (λ next. 10 ∷ next) ls) h.0 (broken_scalars ls h.1)

block_scalars : (cs : List ℕ) → Scalars cs → Scalars (block_value cs)
block_scalars cs h =
    let start = unindented (lines (raw_value cs)) in
    let kept = after_blank_lines start in
    joined_scalars (before_blank_lines kept)
    (Each-take Scalars (length kept - prefix_len is_blank_line (reverse kept)) kept
    (Each-drop Scalars (prefix_len is_blank_line start) start
    (unindented_scalars (lines (raw_value cs)) (lines_scalars (raw_value cs) (raw_scalars cs h)))))

-- ---- tokens

between_scalars : (marks : ℕ) (cs : List ℕ) → Scalars cs → Scalars (between marks cs)
between_scalars marks cs h = Each-take (λ c. scalar c ≡ true) (length cs - 2 * marks) (drop marks cs) (Each-drop (λ c. scalar c ≡ true) marks cs h)

value_scalars : (kind : TokenKind) (cs : List ℕ) → Scalars cs → Scalars (value kind cs)
value_scalars kind.Block cs h = block_scalars (between 3 cs) (between_scalars 3 cs h)
value_scalars kind.Quoted cs h = quoted_scalars 0 (between 1 cs) (between_scalars 1 cs h)
value_scalars kind.Name cs h = quoted_scalars 0 (between 1 cs) (between_scalars 1 cs h)
value_scalars kind.Int cs h = quoted_scalars 0 (between 1 cs) (between_scalars 1 cs h)
value_scalars kind.Punctuator cs h = quoted_scalars 0 (between 1 cs) (between_scalars 1 cs h)

-- what a token of UTF-8 means is UTF-8
pub IsUtf8-string_value : (kind : TokenKind) (token : List ℕ) → IsUtf8 token → IsUtf8 (string_value kind token)
IsUtf8-string_value kind token utf8 =
    let cs = value kind (chars token) in
    (cs, (to_scalars cs (value_scalars kind (chars token) (from_scalars (chars token) (scalars-chars token utf8))), refl))

-- what the tokens of a UTF-8 text mean is UTF-8
pub values-utf8 : (text : List ℕ) (tokens : List Lexeme) (end : End) → IsUtf8 text → Lexes [] text tokens end → Each (λ (token : Lexeme). IsUtf8 (string_value token.kind token.text)) tokens
values-utf8 text tokens end utf8 lexes = each tokens (tokens-utf8 [] text tokens end utf8 lexes)
  where
    each : (tokens : List Lexeme) → Each (λ (token : Lexeme). IsUtf8 token.text) tokens → Each (λ (token : Lexeme). IsUtf8 (string_value token.kind token.text)) tokens
    each [] h = tt
    each (token ∷ tokens) h = (IsUtf8-string_value token.kind token.text h.0, each tokens h.1)
