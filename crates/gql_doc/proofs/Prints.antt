-- What is printed of a phrase's value is its tokens, each as it is printed.
use Rattle.std.proofs.Common.{◌≡◌, ℕ, inl, inr, Bool, true, List, [], ◌∷◌, ◌++◌, map, flat_map, Option, Some, None, refl, sym, ◌∙◌, ap, append_assoc}
use Rattle.std.proofs.lemmas.List.{append-nil, map-append}
use Rattle.gql_lex.specs.Tokens.{Lexeme}
use Rattle.gql_doc.specs.StringValue.{string_value}
use Rattle.gql_doc.specs.Phrase.{Phrase, token, returns, ◌>>=◌, either, never, many, some, optional, listed}
use Rattle.gql_lex.specs.declared.token.TokenKind.{TokenKind}
use Rattle.gql_lex.specs.declared.token.TokenKind.TheVariants as kind
use Rattle.gql_doc.specs.Pieces.{Piece}
use Rattle.gql_doc.specs.Printed.{punctuator, word, number, string, printed_list}

-- how a token is printed
abbrev pub reprint_of : TokenKind → List ℕ → Piece
reprint_of kind.Punctuator text = punctuator text
reprint_of kind.Name text = word text
reprint_of kind.Int text = number text
reprint_of kind.Quoted text = string (string_value kind.Quoted text)
reprint_of kind.Block text = string (string_value kind.Block text)

abbrev pub reprint : Lexeme → Piece
reprint t = reprint_of t.kind t.text

-- what is printed of a value is `before`, and then the tokens of the phrase
pub record Prints {A : Type 0} (before : List Piece) (p : Phrase A) (print : A → List Piece) : Type 0 where
  pub prints : (tokens : List Lexeme) (value : A) → p tokens value → print value ≡ before ++ map reprint tokens

pub prints_token : {f : Lexeme → List Piece} (test : Lexeme → Bool) → ((t : Lexeme) → test t ≡ true → f t ≡ reprint t ∷ []) → Prints [] (token test) f
prints_token test shown = record { prints = λ tokens value h. shown value h.1 ∙ sym (ap (map reprint) h.0) }

pub prints_returns : {A : Type 0} {a : A} {before : List Piece} {print : A → List Piece} → print a ≡ before → Prints before (returns a) print
prints_returns {before = before} {print = print} same = record {
  prints = λ tokens value h. ap print h.1 ∙ (same ∙ (sym (append-nil before) ∙ ap (λ l. before ++ map reprint l) (sym h.0)));
}

-- the phrase behind may rest on what the first one is
pub prints_bind_by : {A B : Type 0} {before : List Piece} {p : Phrase A} {f : A → List Piece} {k : A → Phrase B} {print : B → List Piece}
    → Prints [] p f → ((a : A) (front : List Lexeme) → p front a → Prints (before ++ f a) (k a) print) → Prints before (p >>= k) print
prints_bind_by {before = before} {f = f} first behind = record {
  prints = λ tokens value h.
      let split = h.1 in
      let one : f h.0 ≡ map reprint split.front = first.prints split.front h.0 split.front_is in
      (behind h.0 split.front split.front_is).prints split.back value split.back_is
      ∙ (append_assoc before (f h.0) (map reprint split.back)
      ∙ ap (λ l. before ++ l) (ap (λ l. l ++ map reprint split.back) one ∙ (sym (map-append reprint split.front split.back) ∙ ap (map reprint) (sym split.whole))));
}

pub prints_bind : {A B : Type 0} {before : List Piece} {p : Phrase A} {f : A → List Piece} {k : A → Phrase B} {print : B → List Piece}
    → Prints [] p f → ((a : A) → Prints (before ++ f a) (k a) print) → Prints before (p >>= k) print
prints_bind first behind = prints_bind_by first (λ a front is. behind a)

pub prints_either : {A : Type 0} {before : List Piece} {p q : Phrase A} {print : A → List Piece} → Prints before p print → Prints before q print → Prints before (either p q) print
prints_either left right = record { prints = λ tokens value h. elim h [ inl x ↦ left.prints tokens value x | inr y ↦ right.prints tokens value y ] }

pub prints_never : {A : Type 0} {before : List Piece} {print : A → List Piece} → Prints before (never {A = A}) print
prints_never = record { prints = λ tokens value h. absurd h }

many_prints : {A : Type 0} (p : Phrase A) (f : A → List Piece) → Prints [] p f → (tokens : List Lexeme) (values : List A) → many p tokens values → flat_map f values ≡ map reprint tokens
many_prints p f first tokens [] h = sym (ap (map reprint) h)
many_prints p f first tokens (x ∷ xs) h =
    let one : f x ≡ map reprint h.front = first.prints h.front x h.front_is in
    let others : flat_map f xs ≡ map reprint h.back = many_prints p f first h.back xs h.back_is in
    (λ i. one i ++ others i) ∙ (sym (map-append reprint h.front h.back) ∙ ap (map reprint) (sym h.whole))

pub prints_many : {A : Type 0} {p : Phrase A} (f : A → List Piece) → Prints [] p f → Prints [] (many p) (flat_map f)
prints_many {p = p} f first = record { prints = many_prints p f first }

pub prints_some : {A : Type 0} {p : Phrase A} (f : A → List Piece) → Prints [] p f → Prints [] (some p) (flat_map f)
prints_some f first = prints_bind first (λ a. prints_bind (prints_many f first) (λ xs. prints_returns refl))

abbrev pub printed_option : {A : Type 0} → (A → List Piece) → Option A → List Piece
printed_option f None = []
printed_option f (Some a) = f a

pub prints_optional : {A : Type 0} {p : Phrase A} {f : A → List Piece} → Prints [] p f → Prints [] (optional p) (printed_option f)
prints_optional first = prints_either (prints_bind first (λ a. prints_returns refl)) (prints_returns refl)

-- a list of which something is printed, or none
pub prints_listed : {A : Type 0} {p : Phrase (List A)} (f : A → List Piece) (opening closing : List ℕ) → Prints [] p (λ xs. printed_list f opening xs closing) → Prints [] (listed p) (λ xs. printed_list f opening xs closing)
prints_listed f opening closing first = prints_either first (prints_returns refl)
