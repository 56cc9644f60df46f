-- How the parser reads type definitions, as inner/Reading has it of executable documents.
use Rattle.std.specs.Prelude.{ℕ, zero, suc, ◌||◌, Bool, true, List, ◌∷◌, Option, codes}
use Rattle.gql_lex.specs.Tokens.{Lexeme}
use Rattle.gql_doc.specs.Terminals.{is_punctuator, is_name, is_string, is_word, is_enum_value, is_operation_type}
use Rattle.gql_doc.specs.Grammar.{operation_kind}
use Rattle.gql_doc.specs.TypeGrammar.{name_at}
use Rattle.gql_doc.specs.inner.Reading.{Reader, ◌>>=◌, ◌>>◌, gives, take, pick, shut, many, some, optional, listed, punctuator, name, between, type_ref, default_value, directives, is_any}
use Rattle.gql_model.specs.declared.type_syntax.NameAt.{NameAt}
use Rattle.gql_model.specs.declared.type_syntax.RootSyntax.{RootSyntax}
use Rattle.gql_model.specs.declared.type_syntax.InputSyntax.{InputSyntax}
use Rattle.gql_model.specs.declared.type_syntax.FieldSyntax.{FieldSyntax}
use Rattle.gql_model.specs.declared.type_syntax.TypeSyntax.{TypeSyntax}
use Rattle.gql_model.specs.declared.type_syntax.TypeSyntax.TheVariants as definition
use Rattle.gql_model.specs.declared.type_syntax.TypeDocument.{TypeDocument}

-- ---- names

-- a token that passes a test, where one stands next
abbrev pub maybe : (Lexeme → Bool) → Reader (Option Lexeme)
maybe test = optional test (take test)

abbrev pub description : Reader (Option Lexeme)
description = maybe is_string

abbrev pub named : Reader NameAt
named = name >>= λ word. gives (name_at word)

unfoldable pub separated : List ℕ → Reader NameAt
separated text = punctuator text >>= λ _. named

-- names behind the first
unfoldable pub names_behind : List ℕ → NameAt → Reader (List NameAt)
names_behind text first = many (is_punctuator text) (separated text) >>= λ others. gives (first ∷ others)

unfoldable pub names : List ℕ → Reader (List NameAt)
names text = do
  maybe (is_punctuator text)
  first ← named
  names_behind text first

-- items in braces, where so many braces and brackets may still be opened
unfoldable pub braced : {A : Type 0} → ℕ → (Lexeme → Bool) → (ℕ → Reader A) → Reader (List A)
braced zero test item = shut (is_punctuator (codes "{"))
braced (suc room) test item = between (codes "{") (some test (item room)) (codes "}") >>= λ all. gives all.1

-- ---- arguments, fields and input fields

-- a name with or without a description begins so
abbrev pub begins_described : Lexeme → Bool
begins_described token = is_string token || is_name token

unfoldable pub input_value : ℕ → Reader InputSyntax
input_value room = do
  description
  name ← named
  punctuator (codes ":")
  kind ← type_ref room
  default ← optional (is_punctuator (codes "=")) (default_value room)
  directives true room
  gives (record { name = name; kind = kind; default = default })

unfoldable pub arguments_definition : ℕ → Reader (List InputSyntax)
arguments_definition room = listed (is_punctuator (codes "(")) (between (codes "(") (some begins_described (input_value room)) (codes ")") >>= λ all. gives all.1)

unfoldable pub field_definition : ℕ → Reader FieldSyntax
field_definition room = do
  description
  name ← named
  arguments ← arguments_definition room
  punctuator (codes ":")
  kind ← type_ref room
  directives true room
  gives (record { name = name; arguments = arguments; kind = kind })

abbrev pub is_implements : Lexeme → Bool
is_implements token = is_word (codes "implements") token

unfoldable pub implements : Reader (List NameAt)
implements = listed is_implements (take is_implements >>= λ _. names (codes "&"))

unfoldable pub fields_definition : ℕ → Reader (List FieldSyntax)
fields_definition room = listed (is_punctuator (codes "{")) (braced room begins_described field_definition)

-- ---- types

unfoldable pub scalar_definition : ℕ → Reader TypeSyntax
scalar_definition room = do
  take (is_word (codes "scalar"))
  name ← named
  directives true room
  gives (definition.Scalar name)

unfoldable pub object_definition : ℕ → Reader TypeSyntax
object_definition room = do
  take (is_word (codes "type"))
  name ← named
  implemented ← implements
  directives true room
  fields ← fields_definition room
  gives (definition.Object name implemented fields)

unfoldable pub interface_definition : ℕ → Reader TypeSyntax
interface_definition room = do
  take (is_word (codes "interface"))
  name ← named
  implemented ← implements
  directives true room
  fields ← fields_definition room
  gives (definition.Interface name implemented fields)

unfoldable pub union_members : Reader (List NameAt)
union_members = listed (is_punctuator (codes "=")) (punctuator (codes "=") >>= λ _. names (codes "|"))

unfoldable pub union_definition : ℕ → Reader TypeSyntax
union_definition room = do
  take (is_word (codes "union"))
  name ← named
  directives true room
  members ← union_members
  gives (definition.Union name members)

unfoldable pub enum_value : ℕ → Reader NameAt
enum_value room = do
  description
  word ← take is_enum_value
  directives true room
  gives (name_at word)

unfoldable pub enum_values : ℕ → Reader (List NameAt)
enum_values room = listed (is_punctuator (codes "{")) (braced room begins_described enum_value)

unfoldable pub enum_definition : ℕ → Reader TypeSyntax
enum_definition room = do
  take (is_word (codes "enum"))
  name ← named
  directives true room
  values ← enum_values room
  gives (definition.Enum name values)

unfoldable pub input_fields : ℕ → Reader (List InputSyntax)
input_fields room = listed (is_punctuator (codes "{")) (braced room begins_described input_value)

unfoldable pub input_definition : ℕ → Reader TypeSyntax
input_definition room = do
  take (is_word (codes "input"))
  name ← named
  directives true room
  fields ← input_fields room
  gives (definition.Input name fields)

unfoldable pub type_definition : ℕ → Reader TypeSyntax
type_definition room =
    pick (is_word (codes "scalar")) (scalar_definition room)
    (pick (is_word (codes "type")) (object_definition room)
    (pick (is_word (codes "interface")) (interface_definition room)
    (pick (is_word (codes "union")) (union_definition room)
    (pick (is_word (codes "enum")) (enum_definition room)
    (input_definition room)))))

-- ---- schemas, directives and documents

unfoldable pub root_type : Reader RootSyntax
root_type = do
  word ← take is_operation_type
  punctuator (codes ":")
  name ← named
  gives (record { kind = operation_kind word; kind_spot = word.spot; name = name })

unfoldable pub root_types : ℕ → Reader (List RootSyntax)
root_types room = braced room is_name (λ _. root_type)

unfoldable pub schema_definition : ℕ → Reader TypeSyntax
schema_definition room = do
  word ← take (is_word (codes "schema"))
  directives true room
  roots ← root_types room
  gives (definition.Schema roots word.spot)

unfoldable pub directive_definition : ℕ → Reader TypeSyntax
directive_definition room = do
  take (is_word (codes "directive"))
  punctuator (codes "@")
  name ← named
  arguments ← arguments_definition room
  maybe (is_word (codes "repeatable"))
  take (is_word (codes "on"))
  locations ← names (codes "|")
  gives (definition.Directive name arguments locations)

unfoldable pub undescribed_definition : ℕ → Reader TypeSyntax
undescribed_definition room =
    pick (is_word (codes "schema")) (schema_definition room)
    (pick (is_word (codes "directive")) (directive_definition room)
    (type_definition room))

unfoldable pub system_definition : ℕ → Reader TypeSyntax
system_definition room = description >>= λ _. undescribed_definition room

unfoldable pub type_document : ℕ → Reader TypeDocument
type_document room = some is_any (system_definition room) >>= λ all. gives (record { definitions = all })
