-- What is found is sound: a token lies within the text, begins and ends with ASCII, and is right for its kind.
use Rattle.std.proofs.Common.{◌≡◌, ℕ, ◌+◌, ◌-◌, ◌<◌, ◌≤◌, ◌==◌, inl, inr, true, ◌||◌, List, [], ◌∷◌, ◌++◌, length, take, drop, get_or, Option, Some, None, refl, ap, sym, ◌∙◌, subst, lit<, arith, append_assoc, length-append, length-drop}
use Rattle.std.specs.Prelude.{nat_eq}
use Rattle.std.specs.List.{starts_with, prefix_len}
use Rattle.std.specs.Char.{is_ascii_digit}
use Rattle.std.proofs.lemmas.Bool.{cond_both, or_parts, eqb-true, eqb-false}
use Rattle.std.proofs.lemmas.Bool.Decides.{nat_tests}
use Rattle.std.proofs.lemmas.List.{length-take-le, take_at, take-append-drop}
use Rattle.std.proofs.lemmas.List.Sums.{prefix_len-le-length}
use Rattle.gql_lex.specs.declared.run.Pieces.TheVariants.{QuotedItems, SoundItems, BlockItems}
use Rattle.gql_lex.specs.declared.scan.Found.{Found}
use Rattle.gql_lex.specs.declared.scan.Found.TheVariants.{Token, Wrong}
use Rattle.gql_lex.specs.declared.token.TokenKind.{TokenKind}
use Rattle.gql_lex.specs.declared.token.TokenKind.TheVariants as kind
use Rattle.gql_lex.specs.Classes.{begins_name, continues_name, is_punctuator}
use Rattle.gql_lex.specs.Numbers.{digits, minus_len, whole_len, integer_len, number_len, runs_on, number}
use Rattle.gql_lex.specs.Runs.{run_len}
use Rattle.gql_lex.specs.Strings.{closed_quoted, quoted, allowed_len, closed_block, block, string}
use Rattle.gql_lex.specs.Front.{front}
use Rattle.gql_lex.specs.StringTexts.{three_quotes}
use Rattle.gql_lex.proofs.BlockTexts.{block_content-is}
use Rattle.gql_lex.proofs.QuotedTexts.{quoted_content-is}
use Rattle.gql_lex.proofs.Answers.{take-split}
use Rattle.gql_lex.proofs.Found.{begins_with, begins_with_three, starts_split, Lies-quoted, Lies-block, Lies-integer, Lies-name}
use Rattle.gql_lex.proofs.Longest.{name-is}
use Rattle.gql_lex.proofs.Texts.{IsTextOf}
use Rattle.gql_lex.proofs.Written.{minus-is, whole-is, integer_parts}

pub record IsSound (text : List ℕ) (kind : TokenKind) (len : ℕ) : Type 0 where
  pub some : 0 < len
  pub fits : len ≤ length text
  pub first : get_or text 0 0 < 128
  pub last : get_or text (len - 1) 0 < 128
  pub right : IsTextOf kind (take len text)

-- what is found is sound, where it is a token
abbrev Sound : List ℕ → Found → Type 0
Sound text (Token kind len) = IsSound text kind len
Sound text (Wrong fault inside) = Unit {0}

abbrev SoundOption : List ℕ → Option Found → Type 0
SoundOption text None = Unit {0}
SoundOption text (Some found) = Sound text found

-- ---- names and punctuators

name_sound : (byte : ℕ) (rest : List ℕ) → begins_name byte ≡ true → IsSound (byte ∷ rest) kind.Name (1 + prefix_len continues_name rest)
name_sound byte rest is =
    let lies = Lies-name (byte ∷ rest) kind.Name (prefix_len continues_name rest) (omega arith) is refl (prefix_len-le-length continues_name rest) in
    record { some = lies.0; fits = lies.1; first = grind (arith, nat_tests); last = lies.2; right = name-is byte rest is }

mark_sound : (byte : ℕ) (rest : List ℕ) → is_punctuator byte ≡ true → IsSound (byte ∷ rest) kind.Punctuator 1
mark_sound byte rest is =
    let small : byte < 128 = grind (arith, nat_tests) in
    record { some = lit< tt; fits = omega arith; first = small; last = small; right = inl (byte, is, refl) }

dots_sound : (text : List ℕ) → starts_with nat_eq text (46 ∷ 46 ∷ 46 ∷ []) ≡ true → IsSound text kind.Punctuator 3
dots_sound text is = subst (λ xs. IsSound xs kind.Punctuator 3) (sym (starts_split (46 ∷ 46 ∷ 46 ∷ []) text is)) (record { some = lit< tt; fits = omega arith; first = lit< tt; last = lit< tt; right = inr refl })

-- ---- integers

whole_len-fits : (text : List ℕ) → whole_len text ≤ length text
whole_len-fits text = cond_both (starts_with nat_eq text (48 ∷ [])) 1 (digits text) (λ n. n ≤ length text) (λ is. (let b = (begins_with text 48 is).0 in omega arith)) (λ _. prefix_len-le-length is_ascii_digit text)

integer_sound : (text : List ℕ) → get_or text 0 0 < 128 → 0 < integer_len text → IsSound text kind.Int (integer_len text)
integer_sound text first some =
    let m = minus_len text in
    let behind = drop m text in
    let p = integer_parts text some in
    let within : whole_len behind ≤ length behind = whole_len-fits behind in
    let fits : integer_len text ≤ length text = omega (arith, p.0, p.1, within, length-drop m text) in
    let lies = Lies-integer text kind.Int (integer_len text) refl some fits in
    record {
      some = some;
      fits = fits;
      first = first;
      last = lies.2;
      right = record {
        minus = take m text;
        whole = take (whole_len behind) behind;
        parts = ap (λ n. take n text) p.1 ∙ take-split m (whole_len behind) text;
        is_minus = minus-is text;
        is_whole = whole-is behind p.0;
      };
    }

number_sound : (text : List ℕ) → get_or text 0 0 < 128 → Sound text (number text)
number_sound text first =
    cond_both (integer_len text == 0 || runs_on (drop (number_len text) text)) _ _ (Sound text) (λ _. tt)
    (λ goes. cond_both (number_len text == integer_len text) _ _ (Sound text)
    (λ same. (
    let not_zero = eqb-false (integer_len text) 0 (or_parts _ _ goes).0 in
    let e = eqb-true (number_len text) (integer_len text) same in
    subst (IsSound text kind.Int) (sym e) (integer_sound text first (omega (arith, not_zero)))))
    (λ _. tt))

-- ---- strings

closed_quoted_sound : (text content : List ℕ) → (run_len SoundItems 0 content ≡ length content → IsSound text kind.Quoted (length content + 2)) → Sound text (closed_quoted content)
closed_quoted_sound text content is = cond_both (run_len SoundItems 0 content == length content) _ _ (Sound text) (λ same. is (eqb-true (run_len SoundItems 0 content) (length content) same)) (λ _. tt)

closed_block_sound : (text content : List ℕ) → (allowed_len content ≡ length content → IsSound text kind.Block (length content + 6)) → Sound text (closed_block content)
closed_block_sound text content is = cond_both (allowed_len content == length content) _ _ (Sound text) (λ same. is (eqb-true (allowed_len content) (length content) same)) (λ _. tt)

quoted_right : (content tail : List ℕ) → run_len QuotedItems 0 (content ++ 34 ∷ tail) ≡ length content → run_len SoundItems 0 content ≡ length content → IsTextOf kind.Quoted (take (length content + 2) (34 ∷ (content ++ 34 ∷ tail)))
quoted_right content tail goes sound =
    let token = 34 ∷ (content ++ 34 ∷ []) in
    let whole : token ++ tail ≡ 34 ∷ (content ++ 34 ∷ tail) = ap (λ (xs : List ℕ). 34 ∷ xs) (append_assoc content (34 ∷ []) tail) in
    let long : length token ≡ length content + 2 = omega (arith, length-append content (34 ∷ [])) in
    let means = quoted_content-is content tail goes sound in
    (means.0, record { content = content; token_is = ap (take (length content + 2)) (sym whole) ∙ take_at token tail (length content + 2) long; means = means.1 })

quoted_sound : (text : List ℕ) → Sound (34 ∷ text) (quoted text)
quoted_sound text =
    let n = run_len QuotedItems 0 text in
    cond_both (starts_with nat_eq (drop n text) (34 ∷ [])) _ _ (Sound (34 ∷ text))
    (λ closes. (
    let content = take n text in
    let tail = drop 1 (drop n text) in
    let within : n ≤ length text = (let b = (begins_with (drop n text) 34 closes).0 in omega (arith, length-drop n text)) in
    let long : length content ≡ n = length-take-le n text within in
    let whole : text ≡ content ++ 34 ∷ tail = sym (take-append-drop n text) ∙ ap (λ (xs : List ℕ). content ++ xs) (starts_split (34 ∷ []) (drop n text) closes) in
    let lies = Lies-quoted text n (Token kind.Quoted (length content + 2)) (ap (λ k. k + 2) long) within closes in
    closed_quoted_sound (34 ∷ text) content (λ sound. record {
      some = lies.0;
      fits = lies.1;
      first = lit< tt;
      last = lies.2;
      right = subst (λ (xs : List ℕ). IsTextOf kind.Quoted (take (length content + 2) (34 ∷ xs))) (sym whole) (quoted_right content tail (ap (run_len QuotedItems 0) (sym whole) ∙ sym long) sound);
    })))
    (λ _. tt)

block_right : (content tail : List ℕ) → run_len BlockItems 0 ((content ++ three_quotes) ++ tail) ≡ length content → allowed_len content ≡ length content → IsTextOf kind.Block (take (length content + 6) (three_quotes ++ ((content ++ three_quotes) ++ tail)))
block_right content tail goes sound =
    let token = three_quotes ++ (content ++ three_quotes) in
    let long : length token ≡ length content + 6 = omega (arith, length-append content three_quotes) in
    let means = block_content-is content tail goes sound in
    (means.0, record { content = content; token_is = take_at token tail (length content + 6) long; means = means.1 })

block_sound : (text : List ℕ) → Sound (34 ∷ 34 ∷ 34 ∷ text) (block text)
block_sound text =
    let n = run_len BlockItems 0 text in
    cond_both (starts_with nat_eq (drop n text) (34 ∷ 34 ∷ 34 ∷ [])) _ _ (Sound (34 ∷ 34 ∷ 34 ∷ text))
    (λ closes. (
    let content = take n text in
    let tail = drop 3 (drop n text) in
    let within : n ≤ length text = (let b = (begins_with_three (drop n text) 34 closes).0 in omega (arith, length-drop n text)) in
    let long : length content ≡ n = length-take-le n text within in
    let whole : text ≡ (content ++ three_quotes) ++ tail =
    sym (take-append-drop n text) ∙ ap (λ (xs : List ℕ). content ++ xs) (starts_split three_quotes (drop n text) closes) ∙ sym (append_assoc content three_quotes tail) in
    let lies = Lies-block text n (Token kind.Block (length content + 6)) (ap (λ k. k + 6) long) within closes in
    closed_block_sound (34 ∷ 34 ∷ 34 ∷ text) content (λ sound. record {
      some = lies.0;
      fits = lies.1;
      first = lit< tt;
      last = lies.2;
      right = subst (λ (xs : List ℕ). IsTextOf kind.Block (take (length content + 6) (34 ∷ 34 ∷ 34 ∷ xs))) (sym whole) (block_right content tail (ap (run_len BlockItems 0) (sym whole) ∙ sym long) sound);
    })))
    (λ _. tt)

block_by : (rest : List ℕ) → starts_with nat_eq rest (34 ∷ 34 ∷ []) ≡ true → Sound (34 ∷ rest) (block (drop 2 rest))
block_by rest is = subst (λ xs. Sound (34 ∷ xs) (block (drop 2 rest))) (sym (starts_split (34 ∷ 34 ∷ []) rest is)) (block_sound (drop 2 rest))

string_sound : (rest : List ℕ) → Sound (34 ∷ rest) (string rest)
string_sound rest = cond_both (starts_with nat_eq rest (34 ∷ 34 ∷ [])) _ _ (Sound (34 ∷ rest)) (block_by rest) (λ _. quoted_sound rest)

-- ---- all of them

front_sound : (text : List ℕ) → SoundOption text (front text)
front_sound [] = tt
front_sound (byte ∷ rest) =
    let P = SoundOption (byte ∷ rest) in
    cond_both (begins_name byte) _ _ P (name_sound byte rest)
    (λ _. cond_both (is_punctuator byte) _ _ P (mark_sound byte rest)
    (λ _. cond_both (starts_with nat_eq (byte ∷ rest) (46 ∷ 46 ∷ 46 ∷ [])) _ _ P (dots_sound (byte ∷ rest))
    (λ _. cond_both (byte == 45 || is_ascii_digit byte) _ _ P (λ is. number_sound (byte ∷ rest) (grind (arith, nat_tests)))
    (λ _. cond_both (byte == 34) _ _ P (λ is. subst (λ b. Sound (b ∷ rest) (string rest)) (sym (eqb-true byte 34 is)) (string_sound rest)) (λ _. tt)))))

-- a token that is found is sound
pub token-sound : (text : List ℕ) (kind : TokenKind) (len : ℕ) → front text ≡ Some (Token kind len) → IsSound text kind len
token-sound text kind len found = subst (SoundOption text) found (front_sound text)
