-- Readers that leave fewer tokens where they give a value.
use Rattle.std.proofs.Common.{◌≡◌, ℕ, suc, ◌+◌, ◌<◌, Bool, true, false, List, [], ◌∷◌, ◌++◌, length, Ok, Err, refl, sym, ap, ◌∙◌, length-append, arith}
use Rattle.gql_lex.specs.Tokens.{Lexeme}
use Rattle.gql_doc.specs.Phrase.{Phrase}
use Rattle.gql_doc.specs.Grammar as grammar
use Rattle.gql_doc.specs.Terminals.{is_punctuator}
use Rattle.gql_doc.specs.inner.Reading.{Reading, Reader, behind, ◌>>=◌, take, value, argument, directive, variable_definition, any_selection, selections, any_definition}
use Rattle.gql_doc.proofs.Sets.{Set}
use Rattle.gql_doc.proofs.Predictive.{Predictive, false_true, same_rest, take_by}
use Rattle.gql_doc.proofs.Productions.{value-predictive, argument-predictive, directive-predictive, variable_definition-predictive, selection-predictive, selections-predictive, definition-predictive}
use Rattle.gql_doc.proofs.TypeProductions as types
use Rattle.gql_doc.specs.inner.TypeReading as type_reading
use Rattle.gql_doc.proofs.Loops.{Shrinks}

-- a reader of phrases that aren't empty
leaves_fewer : {A : Type 0} {n m : ℕ} {p q : Phrase A} {reader : Reader A} {first follow : Set} → Predictive n m p q reader first follow false → Shrinks reader
leaves_fewer {A} {n} {m} {p} reads tokens rest value is = let f = reads.found tokens rest value is in by f.used f.whole f.is
  where
    by : (used : List Lexeme) → tokens ≡ used ++ rest → p used value → length rest < length tokens
    by [] whole is = false_true (reads.solid value is)
    by (token ∷ used) whole is =
        let len : length tokens ≡ length (token ∷ used) + length rest = ap length whole ∙ length-append (token ∷ used) rest in
        omega arith

pub value-shrinks : (constant : Bool) (room : ℕ) → Shrinks (value constant room)
value-shrinks constant room = leaves_fewer (value-predictive constant room room)

pub argument-shrinks : (constant : Bool) (room : ℕ) → Shrinks (argument (value constant room))
argument-shrinks constant room = leaves_fewer (argument-predictive constant (value-predictive constant room room))

pub directive-shrinks : (constant : Bool) (room : ℕ) → Shrinks (directive constant room)
directive-shrinks constant room = leaves_fewer (directive-predictive constant room room)

pub variable_definition-shrinks : (room : ℕ) → Shrinks (variable_definition room)
variable_definition-shrinks room = leaves_fewer (variable_definition-predictive room room)

pub selection-shrinks : (room : ℕ) → Shrinks (any_selection room (selections room))
selection-shrinks room = leaves_fewer (selection-predictive room room (grammar.selections (suc room)) (grammar.selections room) (selections room) (selections-predictive room room))

pub definition-shrinks : (room : ℕ) → Shrinks (any_definition room)
definition-shrinks room = leaves_fewer (definition-predictive room room)

-- ---- type definitions

pub input_value-shrinks : (room : ℕ) → Shrinks (type_reading.input_value room)
input_value-shrinks room = leaves_fewer (types.input_value-predictive room room)

pub field_definition-shrinks : (room : ℕ) → Shrinks (type_reading.field_definition room)
field_definition-shrinks room = leaves_fewer (types.field-predictive room room)

pub enum_value-shrinks : (room : ℕ) → Shrinks (type_reading.enum_value room)
enum_value-shrinks room = leaves_fewer (types.enum_value-predictive room room)

pub root_type-shrinks : Shrinks type_reading.root_type
root_type-shrinks = leaves_fewer (types.root_type-predictive {n = 0})

pub system_definition-shrinks : (room : ℕ) → Shrinks (type_reading.system_definition room)
system_definition-shrinks room = leaves_fewer (types.definition-predictive room room)

-- a token that is taken is gone, and so is the name behind it
take_fewer : (test : Lexeme → Bool) → Shrinks (take test)
take_fewer test [] rest value h = absurd cc
take_fewer test (token ∷ tokens) rest value h = by (test token) refl
  where
    by : (b : Bool) → test token ≡ b → length rest < length (token ∷ tokens)
    by true e = let len : length tokens ≡ length rest = ap length (same_rest (sym (take_by test token tokens true e) ∙ h)) in omega arith
    by false e = let no = sym (take_by test token tokens false e) ∙ h in absurd cc

behind_fewer : {A B : Type 0} (first : Reader A) (second : Reader B) → Shrinks first → Shrinks second → Shrinks (first >>= λ _. second)
behind_fewer first second one two tokens rest value h = by (first tokens) refl h
  where
    by : (read : Reading _) → first tokens ≡ read → behind read (λ _. second) ≡ Ok (value, rest) → length rest < length tokens
    by (Ok x) is more =
        let fewer : length x.1 < length tokens = one tokens x.1 x.0 is in
        let still : length rest < length x.1 = two x.1 rest value more in
        omega arith
    by (Err e) is more = absurd cc

pub separated-shrinks : (text : List ℕ) → Shrinks (type_reading.separated text)
unfolding type_reading.separated
separated-shrinks text = behind_fewer (take (is_punctuator text)) type_reading.named (take_fewer (is_punctuator text)) (leaves_fewer (types.named-predictive {n = 0}))
