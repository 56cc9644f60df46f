-- A token that is found is the next one.
use Rattle.std.proofs.Common.{◌≡◌, ℕ, ◌+◌, List, ◌++◌, length, take, drop, Some, Ok, refl, ap, sym, ◌∙◌}
use Rattle.std.proofs.lemmas.List.{drop_at, drop-drop, take_at}
use Rattle.gql_lex.specs.declared.scan.Found.TheVariants.{Token}
use Rattle.gql_lex.specs.declared.token.TokenKind.{TokenKind}
use Rattle.gql_lex.specs.Places.{spot_at}
use Rattle.gql_lex.specs.Front.{front}
use Rattle.gql_lex.specs.Tokens.{Lexeme, answer_by, blanks, next_of, done_by, done_with}

-- a token of this kind and so many bytes stands at the front
abbrev pub Finds : List ℕ → TokenKind → ℕ → Type 0
Finds text kind len = front text ≡ Some (Token kind len)

-- the next token: its kind, its text, and what is left behind it
pub record Steps (passed rest : List ℕ) (kind : TokenKind) (text tail : List ℕ) : Type 0 where
  pub token : Lexeme
  pub next : next_of passed rest ≡ Ok (Some token)
  pub kind_is : token.kind ≡ kind
  pub text_is : token.text ≡ text
  pub left : drop (done_with rest) rest ≡ tail

-- a token that stands behind `count` bytes of blanks is the next one
pub steps : (passed rest : List ℕ) (count : ℕ) (kind : TokenKind) (text tail : List ℕ) → blanks rest ≡ count → drop count rest ≡ text ++ tail → Finds (text ++ tail) kind (length text) → Steps passed rest kind text tail
steps passed rest count kind text tail blanks_are here found =
    let before = passed ++ take count rest in
    let done : done_with rest ≡ count + length text =
    ap (λ n. done_by n (front (drop n rest))) blanks_are ∙ ap (λ xs. done_by count (front xs)) here ∙ ap (done_by count) found in
    record {
      token = record { kind = kind; text = take (length text) (text ++ tail); start = length before; spot = spot_at before (text ++ tail) };
      next =
          ap (λ n. answer_by (passed ++ take n rest) (drop n rest) (front (drop n rest))) blanks_are
          ∙ ap (λ xs. answer_by before xs (front xs)) here
          ∙ ap (answer_by before (text ++ tail)) found;
      kind_is = refl;
      text_is = take_at text tail (length text) refl;
      left =
          ap (λ n. drop n rest) done
          ∙ sym (drop-drop (length text) count rest)
          ∙ ap (drop (length text)) here
          ∙ drop_at text tail (length text) refl;
    }
