-- Where the content of a quoted string is counted, the string is found.
use Rattle.std.proofs.Common.{◌≡◌, ℕ, ◌+◌, ◌==◌, false, List, [], ◌∷◌, ◌++◌, length, take, drop, Some, refl, ap, ◌∙◌}
use Rattle.std.specs.Prelude.{nat_eq, if◌then◌else◌}
use Rattle.std.specs.List.{starts_with}
use Rattle.std.proofs.lemmas.Bool.{cond-true, cond-false, eq-eqb}
use Rattle.std.proofs.lemmas.List.{drop_at, take_at}
use Rattle.gql_lex.specs.declared.run.Pieces.TheVariants.{QuotedItems, SoundItems}
use Rattle.gql_lex.specs.declared.scan.Found.{Found}
use Rattle.gql_lex.specs.declared.scan.Found.TheVariants.{Token, Wrong}
use Rattle.gql_lex.specs.declared.scan.Fault.TheVariants as fault
use Rattle.gql_lex.specs.declared.token.TokenKind.TheVariants as kind
use Rattle.gql_lex.specs.Runs.{run_len}
use Rattle.gql_lex.specs.Strings.{closed_quoted, quoted, block}
use Rattle.gql_lex.specs.Front.{front}

-- how many bytes go on to the end of the content, and how many of those are right
abbrev pub quoted_run : List ℕ → ℕ
quoted_run text = run_len QuotedItems 0 text

abbrev pub sound_run : List ℕ → ℕ
sound_run text = run_len SoundItems 0 text

quoted_of : List ℕ → ℕ → Found
quoted_of text n = if starts_with nat_eq (drop n text) (34 ∷ []) then closed_quoted (take n text) else Wrong fault.Open 0

-- a content that is right, and goes on to a quote, is closed there
pub quoted-closed : (content tail : List ℕ) → quoted_run (content ++ 34 ∷ tail) ≡ length content → sound_run content ≡ length content → quoted (content ++ 34 ∷ tail) ≡ Token kind.Quoted (length content + 2)
unfolding quoted_of
quoted-closed content tail goes sound =
    let text = content ++ 34 ∷ tail in
    let behind : drop (length content) text ≡ 34 ∷ tail = drop_at content (34 ∷ tail) (length content) refl in
    let inside : take (length content) text ≡ content = take_at content (34 ∷ tail) (length content) refl in
    ap (quoted_of text) goes
    ∙ ap (λ xs. if starts_with nat_eq xs (34 ∷ []) then closed_quoted (take (length content) text) else Wrong fault.Open 0) behind
    ∙ ap closed_quoted inside
    ∙ cond-true (sound_run content == length content) _ _ (eq-eqb (sound_run content) (length content) sound)

-- behind a quote it stands in a string
pub front-quoted : (content tail : List ℕ) → quoted_run (content ++ 34 ∷ tail) ≡ length content → sound_run content ≡ length content → starts_with nat_eq (content ++ 34 ∷ tail) (34 ∷ 34 ∷ []) ≡ false
    → front (34 ∷ (content ++ 34 ∷ tail)) ≡ Some (Token kind.Quoted (length content + 2))
front-quoted content tail goes sound single =
    let text = content ++ 34 ∷ tail in
    ap Some (cond-false (starts_with nat_eq text (34 ∷ 34 ∷ [])) (block (drop 2 text)) (quoted text) single ∙ quoted-closed content tail goes sound)
