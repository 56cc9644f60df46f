-- The grammar of executable documents: chapter 2 of the standard, a definition for each production.
--
-- A number bounds how deep selection sets, list values, object values and list types stand in one another, so that the
-- definitions end by their form. A document is one for any such number.
use Rattle.std.specs.Prelude.{ℕ, zero, suc, if◌then◌else◌, Bool, true, false, List, [], Option, Some, None, codes}
use Rattle.std.specs.Str.{bytes_eq}
use Rattle.gql_tree.specs.declared.delivery.Spot.{Spot}
use Rattle.gql_lex.specs.Tokens.{Lexeme}
use Rattle.gql_doc.specs.StringValue.{string_value}
use Rattle.gql_doc.specs.Phrase.{Phrase, token, returns, ◌>>=◌, ◌>>◌, either, never, many, some, optional, listed}
use Rattle.gql_doc.specs.Terminals.{is_punctuator, is_name, is_number, is_string, is_word, is_fragment_name, is_operation_type}
use Rattle.gql_model.specs.declared.syntax.Literal.{Literal}
use Rattle.gql_model.specs.declared.syntax.Literal.TheVariants as literal
use Rattle.gql_model.specs.declared.syntax.Argument.{Argument, roll-Argument}
use Rattle.gql_model.specs.declared.syntax.TypeRef.{TypeRef}
use Rattle.gql_model.specs.declared.syntax.TypeRef.TheVariants as type
use Rattle.gql_model.specs.declared.syntax.DirectiveUse.{DirectiveUse}
use Rattle.gql_model.specs.declared.syntax.VariableDef.{VariableDef}
use Rattle.gql_model.specs.declared.syntax.FieldNode.{roll-FieldNode}
use Rattle.gql_model.specs.declared.syntax.InlineNode.{roll-InlineNode}
use Rattle.gql_model.specs.declared.syntax.Selection.{Selection}
use Rattle.gql_model.specs.declared.syntax.Selection.TheVariants as selection
use Rattle.gql_model.specs.declared.syntax.OperationKind.{OperationKind}
use Rattle.gql_model.specs.declared.syntax.OperationKind.TheVariants as operation
use Rattle.gql_model.specs.declared.syntax.Definition.{Definition}
use Rattle.gql_model.specs.declared.syntax.Definition.TheVariants as definition
use Rattle.gql_model.specs.declared.syntax.Document.{Document}

-- the punctuator of this text
abbrev pub punctuator : List ℕ → Phrase Lexeme
punctuator text = token (is_punctuator text)

-- Name
abbrev pub name : Phrase Lexeme
name = token is_name

-- what stands between two punctuators, with the place of the first
abbrev pub between : {A : Type 0} → List ℕ → Phrase A → List ℕ → Phrase (Spot × A)
between opening inside closing = do
  first ← punctuator opening
  value ← inside
  punctuator closing
  returns (first.spot, value)

-- ---- values (2.9)

-- BooleanValue, NullValue, EnumValue
abbrev pub word_value : Lexeme → Literal
word_value word =
    if bytes_eq word.text (codes "true") then literal.Bool true word.spot
    else (if bytes_eq word.text (codes "false") then literal.Bool false word.spot
    else (if bytes_eq word.text (codes "null") then literal.Null word.spot
    else literal.Enum word.text word.spot))

-- Variable; a constant value has none
abbrev pub variable : Bool → Phrase Literal
variable true = never
variable false = do
  dollar ← punctuator (codes "$")
  word ← name
  returns (literal.Variable word.text dollar.spot)

-- a value with no brackets and braces
abbrev pub simple_value : Bool → Phrase Literal
simple_value constant =
    either (variable constant)
    (either (token is_number >>= λ number. returns (literal.Int number.text number.spot))
    (either (token is_string >>= λ string. returns (literal.Text (string_value string.kind string.text) string.spot))
    (name >>= λ word. returns (word_value word))))

-- Argument, and ObjectField
abbrev pub argument : Phrase Literal → Phrase Argument
argument value = do
  word ← name
  punctuator (codes ":")
  it ← value
  returns (roll-Argument (record { name = word.text; value = it; spot = word.spot }))

-- ListValue
abbrev pub list_value : Phrase Literal → Phrase Literal
list_value item = between (codes "[") (many item) (codes "]") >>= λ list. returns (literal.List list.1 list.0)

-- ObjectValue
abbrev pub object_value : Phrase Literal → Phrase Literal
object_value value = between (codes "{") (many (argument value)) (codes "}") >>= λ object. returns (literal.Object object.1 object.0)

-- Value
abbrev pub value : Bool → ℕ → Phrase Literal
value constant zero = simple_value constant
value constant (suc depth) = either (simple_value constant) (either (list_value (value constant depth)) (object_value (value constant depth)))

-- Arguments (2.6)
abbrev pub arguments : Bool → ℕ → Phrase (List Argument)
arguments constant depth = listed (between (codes "(") (some (argument (value constant depth))) (codes ")") >>= λ all. returns all.1)

-- Directive (2.12)
abbrev pub directive : Bool → ℕ → Phrase DirectiveUse
directive constant depth = do
  at ← punctuator (codes "@")
  word ← name
  given ← arguments constant depth
  returns (record { name = word.text; arguments = given; spot = at.spot })

-- Directives
abbrev pub directives : Bool → ℕ → Phrase (List DirectiveUse)
directives constant depth = many (directive constant depth)

-- ---- variables (2.10, 2.11)

-- NonNullType, or the type as it is
abbrev pub maybe_non_null : TypeRef → Phrase TypeRef
maybe_non_null inner = either (punctuator (codes "!") >>= λ _. returns (type.NonNull inner)) (returns inner)

-- NamedType
abbrev pub named_type : Phrase TypeRef
named_type = name >>= λ word. returns (type.Named word.text word.spot)

-- ListType
abbrev pub list_type : Phrase TypeRef → Phrase TypeRef
list_type item = between (codes "[") item (codes "]") >>= λ list. returns (type.List list.1)

-- Type
abbrev pub type_ref : ℕ → Phrase TypeRef
type_ref zero = named_type >>= maybe_non_null
type_ref (suc depth) = either named_type (list_type (type_ref depth)) >>= maybe_non_null

-- DefaultValue
abbrev pub default_value : ℕ → Phrase Literal
default_value depth = punctuator (codes "=") >>= λ _. value true depth

-- VariableDefinition
abbrev pub variable_definition : ℕ → Phrase VariableDef
variable_definition depth = do
  dollar ← punctuator (codes "$")
  word ← name
  punctuator (codes ":")
  kind ← type_ref depth
  default ← optional (default_value depth)
  used ← directives true depth
  returns (record { name = word.text; kind = kind; default = default; directives = used; spot = dollar.spot })

-- VariableDefinitions
abbrev pub variable_definitions : ℕ → Phrase (List VariableDef)
variable_definitions depth = listed (between (codes "(") (some (variable_definition depth)) (codes ")") >>= λ all. returns all.1)

-- ---- selections (2.4, 2.5, 2.8)

-- the name behind an alias and a colon
abbrev pub aliased : Phrase Lexeme
aliased = punctuator (codes ":") >>= λ _. name

-- where a colon and a name follow the first name, it is an alias
abbrev pub alias_by : Lexeme → Option Lexeme → Option (List ℕ)
alias_by first None = None
alias_by first (Some second) = Some first.text

abbrev pub name_by : Lexeme → Option Lexeme → List ℕ
name_by first None = first.text
name_by first (Some second) = second.text

-- Below, `inner` are the selection sets that may stand inside.

-- Field
abbrev pub field : ℕ → Phrase (List Selection) → Phrase Selection
field depth inner = do
  first ← name
  second ← optional aliased
  given ← arguments false depth
  used ← directives false depth
  inside ← listed inner
  returns (selection.Field (roll-FieldNode (record { alias = alias_by first second; name = name_by first second; arguments = given; directives = used; selections = inside; spot = first.spot })))

-- FragmentSpread, behind its `...`
abbrev pub spread : ℕ → Phrase Selection
spread depth = do
  word ← token is_fragment_name
  used ← directives false depth
  returns (selection.Spread (record { name = word.text; directives = used; spot = word.spot }))

-- TypeCondition
abbrev pub type_condition : Phrase Lexeme
type_condition = token (is_word (codes "on")) >>= λ _. name

-- InlineFragment, behind its `...`, whose place is `dots`
abbrev pub condition_text : Option Lexeme → Option (List ℕ)
condition_text None = None
condition_text (Some word) = Some word.text

abbrev pub inline_spot : Spot → Option Lexeme → Spot
inline_spot dots None = dots
inline_spot dots (Some word) = word.spot

abbrev pub inline_fragment : ℕ → Phrase (List Selection) → Spot → Phrase Selection
inline_fragment depth inner dots = do
  condition ← optional type_condition
  used ← directives false depth
  inside ← inner
  returns (selection.Inline (roll-InlineNode (record { condition = condition_text condition; directives = used; selections = inside; spot = inline_spot dots condition })))

-- Selection
abbrev pub any_selection : ℕ → Phrase (List Selection) → Phrase Selection
any_selection depth inner =
    either (field depth inner)
    (punctuator (codes "...") >>= λ dots. either (spread depth) (inline_fragment depth inner dots.spot))

-- SelectionSet, with the place of its `{`
abbrev pub selection_set : ℕ → Phrase (Spot × List Selection)
selection_set zero = never
selection_set (suc depth) = between (codes "{") (some (any_selection depth (selection_set depth >>= λ set. returns set.1))) (codes "}")

-- the selections of a set
abbrev pub selections : ℕ → Phrase (List Selection)
selections depth = selection_set depth >>= λ set. returns set.1

-- ---- definitions (2.2, 2.3, 2.8)

-- OperationType
abbrev pub operation_kind : Lexeme → OperationKind
operation_kind word =
    if bytes_eq word.text (codes "query") then operation.Query
    else (if bytes_eq word.text (codes "mutation") then operation.Mutation
    else operation.Subscription)

abbrev pub name_text : Option Lexeme → Option (List ℕ)
name_text None = None
name_text (Some word) = Some word.text

-- OperationDefinition that is its selection set alone
abbrev pub short_operation : ℕ → Phrase Definition
short_operation depth = selection_set depth >>= λ set.
    returns (definition.Operation (record { kind = operation.Query; name = None; variables = []; directives = []; selections = set.1; spot = set.0 }))

-- OperationDefinition
abbrev pub operation_definition : ℕ → Phrase Definition
operation_definition depth = do
  kind ← token is_operation_type
  word ← optional name
  variables ← variable_definitions depth
  used ← directives false depth
  inside ← selections depth
  returns (definition.Operation (record { kind = operation_kind kind; name = name_text word; variables = variables; directives = used; selections = inside; spot = kind.spot }))

-- FragmentDefinition
abbrev pub fragment_definition : ℕ → Phrase Definition
fragment_definition depth = do
  token (is_word (codes "fragment"))
  word ← token is_fragment_name
  condition ← type_condition
  used ← directives false depth
  inside ← selections depth
  returns (definition.Fragment (record { name = word.text; condition = condition.text; condition_spot = condition.spot; directives = used; selections = inside; spot = word.spot }))

-- ExecutableDefinition
abbrev pub any_definition : ℕ → Phrase Definition
any_definition depth = either (short_operation depth) (either (operation_definition depth) (fragment_definition depth))

-- ExecutableDocument
abbrev pub document : ℕ → Phrase Document
document depth = some (any_definition depth) >>= λ all. returns (record { definitions = all })

-- these tokens are this document
abbrev pub IsDocument : List Lexeme → Document → Type 0
IsDocument tokens it = (depth : ℕ) × document depth tokens it
