-- The grammar of type definitions: chapter 3 of the standard, a definition for each production. Extensions are none of it.
-- Descriptions, directives and the word `repeatable` may stand where the standard has them, and nothing is made of them.
--
-- A number bounds how deep braces and brackets stand in one another, as in the grammar of executable documents.
use Rattle.std.specs.Prelude.{ℕ, zero, suc, true, List, ◌∷◌, Option, codes}
use Rattle.gql_lex.specs.Tokens.{Lexeme}
use Rattle.gql_doc.specs.Phrase.{Phrase, token, returns, ◌>>=◌, ◌>>◌, either, never, many, some, optional, listed}
use Rattle.gql_doc.specs.Terminals.{is_string, is_word, is_enum_value, is_operation_type}
use Rattle.gql_doc.specs.Grammar.{punctuator, name, between, type_ref, default_value, directives, operation_kind}
use Rattle.gql_model.specs.declared.type_syntax.NameAt.{NameAt}
use Rattle.gql_model.specs.declared.type_syntax.RootSyntax.{RootSyntax}
use Rattle.gql_model.specs.declared.type_syntax.InputSyntax.{InputSyntax}
use Rattle.gql_model.specs.declared.type_syntax.FieldSyntax.{FieldSyntax}
use Rattle.gql_model.specs.declared.type_syntax.TypeSyntax.{TypeSyntax}
use Rattle.gql_model.specs.declared.type_syntax.TypeSyntax.TheVariants as definition
use Rattle.gql_model.specs.declared.type_syntax.TypeDocument.{TypeDocument}

-- Description, which may be left out (3.2)
abbrev pub description : Phrase (Option Lexeme)
description = optional (token is_string)

abbrev pub name_at : Lexeme → NameAt
name_at word = record { name = word.text; spot = word.spot }

-- Name, and NamedType
abbrev pub named : Phrase NameAt
named = name >>= λ word. returns (name_at word)

-- `& NamedType`, `| NamedType` and `| DirectiveLocation`
abbrev pub separated : List ℕ → Phrase NameAt
separated text = punctuator text >>= λ _. named

-- names with a punctuator between two of them, which may also stand before the first
abbrev pub names : List ℕ → Phrase (List NameAt)
names text = do
  optional (punctuator text)
  first ← named
  others ← many (separated text)
  returns (first ∷ others)

-- at least one item in braces, which counts for the depth
abbrev pub braced : {A : Type 0} → ℕ → (ℕ → Phrase A) → Phrase (List A)
braced zero item = never
braced (suc depth) item = between (codes "{") (some (item depth)) (codes "}") >>= λ all. returns all.1

-- ---- arguments, fields and input fields (3.6, 3.10)

-- InputValueDefinition
abbrev pub input_value : ℕ → Phrase InputSyntax
input_value depth = do
  description
  name ← named
  punctuator (codes ":")
  kind ← type_ref depth
  default ← optional (default_value depth)
  directives true depth
  returns (record { name = name; kind = kind; default = default })

-- ArgumentsDefinition, which may be left out
abbrev pub arguments_definition : ℕ → Phrase (List InputSyntax)
arguments_definition depth = listed (between (codes "(") (some (input_value depth)) (codes ")") >>= λ all. returns all.1)

-- FieldDefinition
abbrev pub field_definition : ℕ → Phrase FieldSyntax
field_definition depth = do
  description
  name ← named
  arguments ← arguments_definition depth
  punctuator (codes ":")
  kind ← type_ref depth
  directives true depth
  returns (record { name = name; arguments = arguments; kind = kind })

-- ImplementsInterfaces, which may be left out
abbrev pub implements : Phrase (List NameAt)
implements = listed (token (is_word (codes "implements")) >>= λ _. names (codes "&"))

-- FieldsDefinition, which may be left out
abbrev pub fields_definition : ℕ → Phrase (List FieldSyntax)
fields_definition depth = listed (braced depth field_definition)

-- ---- types

-- ScalarTypeDefinition, behind its description (3.5)
abbrev pub scalar_definition : ℕ → Phrase TypeSyntax
scalar_definition depth = do
  token (is_word (codes "scalar"))
  name ← named
  directives true depth
  returns (definition.Scalar name)

-- ObjectTypeDefinition, behind its description (3.6)
abbrev pub object_definition : ℕ → Phrase TypeSyntax
object_definition depth = do
  token (is_word (codes "type"))
  name ← named
  implemented ← implements
  directives true depth
  fields ← fields_definition depth
  returns (definition.Object name implemented fields)

-- InterfaceTypeDefinition, behind its description (3.7)
abbrev pub interface_definition : ℕ → Phrase TypeSyntax
interface_definition depth = do
  token (is_word (codes "interface"))
  name ← named
  implemented ← implements
  directives true depth
  fields ← fields_definition depth
  returns (definition.Interface name implemented fields)

-- UnionMemberTypes, which may be left out (3.8)
abbrev pub union_members : Phrase (List NameAt)
union_members = listed (punctuator (codes "=") >>= λ _. names (codes "|"))

-- UnionTypeDefinition, behind its description
abbrev pub union_definition : ℕ → Phrase TypeSyntax
union_definition depth = do
  token (is_word (codes "union"))
  name ← named
  directives true depth
  members ← union_members
  returns (definition.Union name members)

-- EnumValueDefinition (3.9)
abbrev pub enum_value : ℕ → Phrase NameAt
enum_value depth = do
  description
  word ← token is_enum_value
  directives true depth
  returns (name_at word)

-- EnumTypeDefinition, behind its description
abbrev pub enum_definition : ℕ → Phrase TypeSyntax
enum_definition depth = do
  token (is_word (codes "enum"))
  name ← named
  directives true depth
  values ← listed (braced depth enum_value)
  returns (definition.Enum name values)

-- InputObjectTypeDefinition, behind its description (3.10)
abbrev pub input_definition : ℕ → Phrase TypeSyntax
input_definition depth = do
  token (is_word (codes "input"))
  name ← named
  directives true depth
  fields ← listed (braced depth input_value)
  returns (definition.Input name fields)

-- TypeDefinition, behind its description (3.4)
abbrev pub type_definition : ℕ → Phrase TypeSyntax
type_definition depth =
    either (scalar_definition depth) (either (object_definition depth) (either (interface_definition depth)
    (either (union_definition depth) (either (enum_definition depth) (input_definition depth)))))

-- ---- schemas, directives and documents

-- RootOperationTypeDefinition (3.3.1)
abbrev pub root_type : Phrase RootSyntax
root_type = do
  word ← token is_operation_type
  punctuator (codes ":")
  name ← named
  returns (record { kind = operation_kind word; kind_spot = word.spot; name = name })

-- SchemaDefinition, behind its description (3.3)
abbrev pub schema_definition : ℕ → Phrase TypeSyntax
schema_definition depth = do
  word ← token (is_word (codes "schema"))
  directives true depth
  roots ← braced depth (λ _. root_type)
  returns (definition.Schema roots word.spot)

-- DirectiveDefinition, behind its description (3.13); any name is a location here
abbrev pub directive_definition : ℕ → Phrase TypeSyntax
directive_definition depth = do
  token (is_word (codes "directive"))
  punctuator (codes "@")
  name ← named
  arguments ← arguments_definition depth
  optional (token (is_word (codes "repeatable")))
  token (is_word (codes "on"))
  locations ← names (codes "|")
  returns (definition.Directive name arguments locations)

-- TypeSystemDefinition, behind its description
abbrev pub undescribed_definition : ℕ → Phrase TypeSyntax
undescribed_definition depth = either (schema_definition depth) (either (directive_definition depth) (type_definition depth))

-- TypeSystemDefinition: each begins with a description, which may be left out
abbrev pub system_definition : ℕ → Phrase TypeSyntax
system_definition depth = description >>= λ _. undescribed_definition depth

-- TypeSystemDocument
abbrev pub type_document : ℕ → Phrase TypeDocument
type_document depth = some (system_definition depth) >>= λ all. returns (record { definitions = all })

-- these tokens are this document of type definitions
abbrev pub IsTypeDocument : List Lexeme → TypeDocument → Type 0
IsTypeDocument tokens it = (depth : ℕ) × type_document depth tokens it
