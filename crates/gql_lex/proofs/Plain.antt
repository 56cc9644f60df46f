-- Between quotes, what has no quote, no backslash and no control character is passed byte by byte.
use Rattle.std.proofs.Common.{◌≡◌, ℕ, suc, ◌+◌, ◌<◌, ◌==◌, Bool, true, false, List, [], ◌∷◌, ◌++◌, length, take, drop, get_or, Option, Some, None, refl, ap, sym, ◌∙◌, subst, zero-add, length-take, take-append-drop, arith}
use Rattle.std.specs.Prelude.{◌||◌}
use Rattle.std.specs.List.{list_all, list_any}
use Rattle.std.proofs.lemmas.Bool.{and_parts, or_from, false_from_ne_true}
use Rattle.std.proofs.lemmas.Bool.Decides.{nat_tests}
use Rattle.std.proofs.lemmas.List.{drop_more, get_or-take}
use Rattle.std.specs.Option.{is_some}
use Rattle.std.proofs.lemmas.List.Folds.{list_any_at}
use Rattle.memchr.specs.Find.{IsFirstByte, is_byte2}
use Rattle.gql_lex.specs.Classes.{is_line_end}
use Rattle.gql_lex.specs.declared.run.Pieces.TheVariants.{QuotedItems, SoundItems}
use Rattle.gql_lex.specs.declared.scan.Found.TheVariants.{Token}
use Rattle.gql_lex.specs.declared.token.TokenKind.TheVariants as kind
use Rattle.gql_lex.specs.Runs.{piece, run_len}
use Rattle.gql_lex.specs.Strings.{quoted}
use Rattle.gql_lex.specs.inner.Lines.{is_no_control}
use Rattle.gql_lex.proofs.Contents.{quoted-closed}
use Rattle.gql_lex.proofs.Runs.{run_len-more, run_len-none}

-- where no place passes a test, nothing does
pub none_passes : (test : ℕ → Bool) (text : List ℕ) → ((k : ℕ) → k < length text → ¬ (test (get_or text k 0) ≡ true)) → list_any test text ≡ false
none_passes test [] none = refl
none_passes test (byte ∷ rest) none =
    or_from (test byte) (list_any test rest) (false_from_ne_true (test byte) (none 0 (omega arith))) (none_passes test rest (λ k lt. none (suc k) (omega arith)))

-- whether a line ends in a text, by the place of the first byte that ends one
pub found_any : (found : Option ℕ) (text : List ℕ) → IsFirstByte (is_byte2 10 13) text found → is_some found ≡ list_any is_line_end text
found_any None text none = sym (none_passes is_line_end text (λ k lt passes. none k (omega arith) lt passes))
found_any (Some k) text first = sym (list_any_at is_line_end text k 0 first.0.high first.1)

quoted_one : (byte : ℕ) (rest : List ℕ) → ¬ ((byte == 34 || byte == 92) ≡ true) → is_no_control byte ≡ true → piece QuotedItems (byte ∷ rest) ≡ Some 0
quoted_one byte rest apart stands = (let e = false_from_ne_true (byte == 34 || byte == 92) apart in grind (arith, nat_tests))

sound_one : (byte : ℕ) (rest : List ℕ) → ¬ ((byte == 34 || byte == 92) ≡ true) → is_no_control byte ≡ true → piece SoundItems (byte ∷ rest) ≡ Some 0
sound_one byte rest apart stands = (let e = false_from_ne_true (byte == 34 || byte == 92) apart in grind (arith, nat_tests))

abbrev pub is_mark : ℕ → Bool
is_mark byte = byte == 34 || byte == 92

abbrev pub NoMarks : List ℕ → Type 0
NoMarks text = (k : ℕ) → k < length text → ¬ (is_mark (get_or text k 0) ≡ true)

-- a run passes them, and goes on behind them
quoted_run : (content tail : List ℕ) → NoMarks content → list_all is_no_control content ≡ true → run_len QuotedItems 0 (content ++ tail) ≡ length content + run_len QuotedItems 0 tail
quoted_run [] tail none stand = sym (zero-add _)
quoted_run (byte ∷ content) tail none stand =
    let parts = and_parts (is_no_control byte) (list_all is_no_control content) stand in
    let first = run_len-more QuotedItems (byte ∷ (content ++ tail)) 0 (quoted_one byte (content ++ tail) (none 0 (omega arith)) parts.0) (omega arith) in
    let more = quoted_run content tail (λ k lt. none (suc k) (omega arith)) parts.1 in
    omega (arith, first, more)

-- all of them are right
sound_run : (content : List ℕ) → NoMarks content → list_all is_no_control content ≡ true → run_len SoundItems 0 content ≡ length content
sound_run [] none stand = refl
sound_run (byte ∷ content) none stand =
    let parts = and_parts (is_no_control byte) (list_all is_no_control content) stand in
    let first = run_len-more SoundItems (byte ∷ content) 0 (sound_one byte content (none 0 (omega arith)) parts.0) (omega arith) in
    let more = sound_run content (λ k lt. none (suc k) (omega arith)) parts.1 in
    omega (arith, first, more)

-- no run passes a quote
at_quote : (rest : List ℕ) → run_len QuotedItems 0 (34 ∷ rest) ≡ 0
at_quote rest = run_len-none QuotedItems (34 ∷ rest) refl

-- they and a quote behind them are the rest of a string
closed : (content rest : List ℕ) → NoMarks content → list_all is_no_control content ≡ true → Token kind.Quoted (length content + 2) ≡ quoted (content ++ 34 ∷ rest)
closed content rest none stand =
    let behind = quoted_run content (34 ∷ rest) none stand in
    let stop = at_quote rest in
    sym (quoted-closed content rest (omega (arith, behind, stop)) (sound_run content none stand))

-- a text is what stands before a byte, the byte, and the rest
split_at : (text : List ℕ) (len byte : ℕ) → len < length text → get_or text len 0 ≡ byte → text ≡ take len text ++ byte ∷ drop (len + 1) text
split_at text len byte fits is = sym (take-append-drop len text) ∙ ap (λ l. take len text ++ l) (drop_more text len 0 fits ∙ (λ i. is i ∷ drop (len + 1) text))

pub plain_quoted : (text : List ℕ) (len : ℕ) → len < length text → get_or text len 0 ≡ 34 → ((k : ℕ) → k < len → ¬ (is_mark (get_or text k 0) ≡ true)) → list_all is_no_control (take len text) ≡ true → Token kind.Quoted (len + 2) ≡ quoted text
plain_quoted text len fits closes before stand =
    let long : length (take len text) ≡ len = omega (arith, length-take len text) in
    let none : NoMarks (take len text) = λ k lt passes. before k (subst (λ n. k < n) long lt) (ap is_mark (sym (get_or-take len text k 0 (subst (λ n. k < n) long lt))) ∙ passes) in
    ap (λ n. Token kind.Quoted (n + 2)) (sym long)
    ∙ closed (take len text) (drop (len + 1) text) none stand
    ∙ ap quoted (sym (split_at text len 34 fits closes))
