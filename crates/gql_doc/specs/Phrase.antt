-- Phrases: how the productions of a grammar are put together. A phrase says which tokens mean which value, and nothing of
-- how one finds out.
use Rattle.std.specs.Prelude.{◌≡◌, ◌⊎◌, Bool, true, List, [], ◌∷◌, ◌++◌, Option, Some, None}
use Rattle.gql_lex.specs.Tokens.{Lexeme}

abbrev pub Phrase : Type 0 → Type 1
Phrase A = List Lexeme → A → Type 0

-- tokens of which the first ones are of one kind, and the others of another
pub record Splits (is_front is_back : List Lexeme → Type 0) (tokens : List Lexeme) : Type 0 where
  pub front : List Lexeme
  pub back : List Lexeme
  pub whole : tokens ≡ front ++ back
  pub front_is : is_front front
  pub back_is : is_back back

-- one token, which passes a test
abbrev pub token : (Lexeme → Bool) → Phrase Lexeme
token test tokens value = (tokens ≡ value ∷ []) × (test value ≡ true)

-- no token at all, which means this
abbrev pub returns : {A : Type 0} → A → Phrase A
returns value tokens result = (tokens ≡ []) × (result ≡ value)

-- a phrase, and behind it another, which may speak of what the first one means
infixl 10 ◌>>=◌
abbrev pub ◌>>=◌ : {A B : Type 0} → Phrase A → (A → Phrase B) → Phrase B
(first >>= behind) tokens result = (value : _) × Splits (λ front. first front value) (λ back. behind value back result) tokens

infixl 10 ◌>>◌
abbrev pub ◌>>◌ : {A B : Type 0} → Phrase A → Phrase B → Phrase B
first >> behind = first >>= λ _. behind

-- one of two
abbrev pub either : {A : Type 0} → Phrase A → Phrase A → Phrase A
either p q tokens value = p tokens value ⊎ q tokens value

-- what no tokens are
abbrev pub never : {A : Type 0} → Phrase A
never tokens value = ⊥

-- `p*`
abbrev pub many : {A : Type 0} → Phrase A → Phrase (List A)
many p tokens [] = (tokens ≡ [])
many p tokens (value ∷ values) = Splits (λ front. p front value) (λ back. many p back values) tokens

-- `p+`
abbrev pub some : {A : Type 0} → Phrase A → Phrase (List A)
some p = do
  value ← p
  values ← many p
  returns (value ∷ values)

-- `p?`
abbrev pub optional : {A : Type 0} → Phrase A → Phrase (Option A)
optional p = either (p >>= λ value. returns (Some value)) (returns None)

-- `p?` of a list, which is empty where there is none
abbrev pub listed : {A : Type 0} → Phrase (List A) → Phrase (List A)
listed p = either p (returns [])
