-- What a text is to the parser: a document, or the first thing in order of the text that is in the way of one.
--
-- Which tokens are which document is a parameter, `is`: executable documents and documents of type definitions are asked for
-- in the same way.
use Rattle.std.specs.Prelude.{◌≡◌, ◌⊎◌, ◌<◌, ℕ, List, [], ◌∷◌, ◌++◌, length, Result, Ok, Err}
use Rattle.gql_tree.specs.declared.delivery.Spot.{Spot}
use Rattle.gql_lex.specs.Places.{spot_at}
use Rattle.gql_lex.specs.Tokens.{Lexeme, Lexes, End, Whole, Refused}
use Rattle.gql_doc.specs.Phrase.{Phrase}
use Rattle.gql_doc.specs.Grammar.{IsDocument}
use Rattle.gql_doc.specs.TypeGrammar.{IsTypeDocument}
use Rattle.gql_doc.specs.Nesting.{IsWithin}
use Rattle.gql_doc.specs.declared.refusal.ParseRefusal.{ParseRefusal}
use Rattle.gql_doc.specs.declared.refusal.ParseRefusal.TheVariants as refusal
use Rattle.gql_model.specs.declared.syntax.Document.{Document}
use Rattle.gql_model.specs.declared.type_syntax.TypeDocument.{TypeDocument}

-- some document begins with these tokens
abbrev pub Begins : {A : Type 0} → Phrase A → List Lexeme → Type 0
Begins {A} is tokens = (more : List Lexeme) × (it : A) × is (tokens ++ more) it

-- so far nothing is in the way: some document begins so, and no brace or bracket is opened too deep
pub record IsFine {A : Type 0} (is : Phrase A) (tokens : List Lexeme) : Type 0 where
  pub begins : Begins is tokens
  pub within : IsWithin tokens

-- the tokens of `text` are fine as far as `done`, and then `next` comes
pub record Comes {A : Type 0} (is : Phrase A) (text : List ℕ) (done : List Lexeme) (next : Lexeme) : Type 0 where
  pub more : List Lexeme
  pub end : End
  pub tokens : Lexes [] text (done ++ next ∷ more) end
  pub fine : IsFine is done

-- no document goes on with a token, which stands at `spot`
pub record IsUnexpected {A : Type 0} (is : Phrase A) (text : List ℕ) (spot : Spot) : Type 0 where
  pub done : List Lexeme
  pub next : Lexeme
  pub comes : Comes is text done next
  pub no_document : Begins is (done ++ next ∷ []) → ⊥
  pub place : spot ≡ next.spot

-- the text ends inside a document, and its end is `spot`
pub record IsCutShort {A : Type 0} (is : Phrase A) (text : List ℕ) (spot : Spot) : Type 0 where
  pub tokens : List Lexeme
  pub all : Lexes [] text tokens Whole
  pub fine : IsFine is tokens
  pub no_document : (it : A) → is tokens it → ⊥
  pub place : spot ≡ spot_at text []

-- a document goes on with a brace or a bracket at `spot`, which is opened too deep
pub record IsTooDeep {A : Type 0} (is : Phrase A) (text : List ℕ) (spot : Spot) : Type 0 where
  pub done : List Lexeme
  pub next : Lexeme
  pub comes : Comes is text done next
  pub begins : Begins is (done ++ next ∷ [])
  pub beyond : IsWithin (done ++ next ∷ []) → ⊥
  pub place : spot ≡ next.spot

-- all tokens of the text are a document, and none is opened too deep
pub record IsWhole {A : Type 0} (is : Phrase A) (text : List ℕ) (it : A) : Type 0 where
  pub tokens : List Lexeme
  pub all : Lexes [] text tokens Whole
  pub document : is tokens it
  pub within : IsWithin tokens

-- what is answered of a text, which has `most` bytes at most
abbrev pub AnswersBy : {A : Type 0} → Phrase A → ℕ → List ℕ → Result A ParseRefusal → Type 0
AnswersBy is most text (Ok it) = IsWhole is text it
AnswersBy is most text (Err refusal.TooLong) = most < length text
AnswersBy is most text (Err (refusal.Lex fault)) = (done : List Lexeme) × Lexes [] text done (Refused fault) × IsFine is done
AnswersBy is most text (Err (refusal.Unexpected spot)) = IsUnexpected is text spot ⊎ IsCutShort is text spot
AnswersBy is most text (Err (refusal.TooDeep spot)) = IsTooDeep is text spot
AnswersBy is most text (Err refusal.NoMemory) = Unit {0}

-- ---- executable documents

-- the most bytes of a document
abbrev pub most_bytes : ℕ
most_bytes = 1048576

abbrev pub Is : List ℕ → Document → Type 0
Is = IsWhole IsDocument

abbrev pub Answers : List ℕ → Result Document ParseRefusal → Type 0
Answers = AnswersBy IsDocument most_bytes

-- ---- documents of type definitions

-- the most bytes of one
abbrev pub most_type_bytes : ℕ
most_type_bytes = 67108864

abbrev pub IsTypes : List ℕ → TypeDocument → Type 0
IsTypes = IsWhole IsTypeDocument

abbrev pub TypesAnswers : List ℕ → Result TypeDocument ParseRefusal → Type 0
TypesAnswers = AnswersBy IsTypeDocument most_type_bytes
