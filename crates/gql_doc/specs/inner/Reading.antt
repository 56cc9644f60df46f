-- What the parser's own functions read from left to right. No public clause mentions this: documents are what Grammar says.
--
-- A reader looks at tokens, the next one first, and gives a value and the tokens behind it, or where it stops and why.
use Rattle.std.specs.Prelude.{◌≡◌, ℕ, zero, suc, ◌||◌, if◌then◌else◌, Bool, true, false, List, [], ◌∷◌, length, Option, Some, None, Result, Ok, Err, codes}
use Rattle.gql_tree.specs.declared.delivery.Spot.{Spot}
use Rattle.gql_lex.specs.Tokens.{Lexeme}
use Rattle.gql_doc.specs.StringValue.{string_value}
use Rattle.gql_doc.specs.Terminals.{is_punctuator, is_name, is_number, is_string, is_word, is_fragment_name, is_operation_type}
use Rattle.gql_doc.specs.Grammar.{word_value, alias_by, name_by, condition_text, inline_spot, name_text, operation_kind}
use Rattle.gql_doc.specs.declared.parser.Stop.{Stop}
use Rattle.gql_doc.specs.declared.parser.Stop.TheVariants as stop
use Rattle.gql_model.specs.declared.syntax.Literal.{Literal}
use Rattle.gql_model.specs.declared.syntax.Literal.TheVariants as literal
use Rattle.gql_model.specs.declared.syntax.Argument.{Argument, roll-Argument}
use Rattle.gql_model.specs.declared.syntax.TypeRef.{TypeRef}
use Rattle.gql_model.specs.declared.syntax.TypeRef.TheVariants as type
use Rattle.gql_model.specs.declared.syntax.DirectiveUse.{DirectiveUse}
use Rattle.gql_model.specs.declared.syntax.VariableDef.{VariableDef}
use Rattle.gql_model.specs.declared.syntax.FieldNode.{roll-FieldNode}
use Rattle.gql_model.specs.declared.syntax.InlineNode.{roll-InlineNode}
use Rattle.gql_model.specs.declared.syntax.Selection.{Selection}
use Rattle.gql_model.specs.declared.syntax.Selection.TheVariants as selection
use Rattle.gql_model.specs.declared.syntax.OperationKind.TheVariants as operation
use Rattle.gql_model.specs.declared.syntax.Definition.{Definition}
use Rattle.gql_model.specs.declared.syntax.Definition.TheVariants as definition
use Rattle.gql_model.specs.declared.syntax.Document.{Document}

-- ---- readers

abbrev pub Reading : Type 0 → Type 0
Reading A = Result (A × List Lexeme) (Stop × List Lexeme)

abbrev pub Reader : Type 0 → Type 0
Reader A = List Lexeme → Reading A

-- What a function of the parser returned, where `left` are the tokens that are left then, is what a reader gives, unless
-- memory ran out.
abbrev pub Fails : {Y : Type 0} → Stop → List Lexeme → Reading Y → Type 0
Fails stop.NoMemory left read = Unit {0}
Fails stop.Unexpected left read = read ≡ Err (stop.Unexpected, left)
Fails stop.TooDeep left read = read ≡ Err (stop.TooDeep, left)

abbrev pub Gives : {X Y : Type 0} → (X → Y) → Result X Stop → List Lexeme → Reading Y → Type 0
Gives view (Ok value) left read = read ≡ Ok (view value, left)
Gives view (Err why) left read = Fails why left read

abbrev pub behind : {A B : Type 0} → Reading A → (A → Reader B) → Reading B
behind (Ok x) more = more x.0 x.1
behind (Err e) more = Err e

infixl 10 ◌>>=◌
abbrev pub ◌>>=◌ : {A B : Type 0} → Reader A → (A → Reader B) → Reader B
(reader >>= more) tokens = behind (reader tokens) more

infixl 10 ◌>>◌
abbrev pub ◌>>◌ : {A B : Type 0} → Reader A → Reader B → Reader B
reader >> more = reader >>= λ _. more

abbrev pub gives : {A : Type 0} → A → Reader A
gives value tokens = Ok (value, tokens)

-- whether the next token passes a test
abbrev pub next_is : (Lexeme → Bool) → List Lexeme → Bool
next_is test [] = false
next_is test (token ∷ tokens) = test token

-- the next token, which is to pass a test
abbrev pub take : (Lexeme → Bool) → Reader Lexeme
take test [] = Err (stop.Unexpected, [])
take test (token ∷ tokens) = if test token then Ok (token, tokens) else Err (stop.Unexpected, token ∷ tokens)

-- the first reader where the next token passes a test, and else the second
abbrev pub pick : {A : Type 0} → (Lexeme → Bool) → Reader A → Reader A → Reader A
pick test first second tokens = if next_is test tokens then first tokens else second tokens

-- nothing may be opened here
abbrev pub shut : {A : Type 0} → (Lexeme → Bool) → Reader A
shut test tokens = Err (if next_is test tokens then stop.TooDeep else stop.Unexpected, tokens)

-- a reader as often as the next token passes a test, at most so many times
abbrev pub many_at : {A : Type 0} → ℕ → (Lexeme → Bool) → Reader A → Reader (List A)
many_at zero test reader tokens = Ok ([], tokens)
many_at (suc count) test reader tokens =
    if next_is test tokens then behind (reader tokens) (λ value rest. behind (many_at count test reader rest) (λ values after. Ok (value ∷ values, after)))
    else Ok ([], tokens)

abbrev pub many : {A : Type 0} → (Lexeme → Bool) → Reader A → Reader (List A)
many test reader tokens = many_at (length tokens) test reader tokens

-- at least one
abbrev pub some : {A : Type 0} → (Lexeme → Bool) → Reader A → Reader (List A)
some test reader = pick test (many test reader) (λ tokens. Err (stop.Unexpected, tokens))

abbrev pub optional : {A : Type 0} → (Lexeme → Bool) → Reader A → Reader (Option A)
optional test reader = pick test (reader >>= λ value. gives (Some value)) (gives None)

abbrev pub listed : {A : Type 0} → (Lexeme → Bool) → Reader (List A) → Reader (List A)
listed test reader = pick test reader (gives [])

abbrev pub punctuator : List ℕ → Reader Lexeme
punctuator text = take (is_punctuator text)

abbrev pub name : Reader Lexeme
name = take is_name

abbrev pub between : {A : Type 0} → List ℕ → Reader A → List ℕ → Reader (Spot × A)
between opening inside closing = do
  first ← punctuator opening
  value ← inside
  punctuator closing
  gives (first.spot, value)

-- ---- values

abbrev pub begins_value : Lexeme → Bool
begins_value token = is_punctuator (codes "$") token || (is_number token || (is_string token || (is_name token || (is_punctuator (codes "[") token || is_punctuator (codes "{") token))))

abbrev pub variable : Bool → Reader Literal
variable true tokens = Err (stop.Unexpected, tokens)
variable false tokens = (do
  dollar ← punctuator (codes "$")
  word ← name
  gives (literal.Variable word.text dollar.spot)) tokens

unfoldable pub argument : Reader Literal → Reader Argument
argument value = do
  word ← name
  punctuator (codes ":")
  it ← value
  gives (roll-Argument (record { name = word.text; value = it; spot = word.spot }))

abbrev pub number : Reader Literal
number = take is_number >>= λ it. gives (literal.Int it.text it.spot)

abbrev pub string : Reader Literal
string = take is_string >>= λ it. gives (literal.Text (string_value it.kind it.text) it.spot)

abbrev pub word : Reader Literal
word = name >>= λ it. gives (word_value it)

abbrev pub list_value : Reader Literal → Reader Literal
list_value value = between (codes "[") (many begins_value value) (codes "]") >>= λ list. gives (literal.List list.1 list.0)

abbrev pub object_value : Reader Literal → Reader Literal
object_value value = between (codes "{") (many is_name (argument value)) (codes "}") >>= λ object. gives (literal.Object object.1 object.0)

abbrev pub nested_value : Reader Literal → Reader Literal
nested_value value = pick (is_punctuator (codes "[")) (list_value value) (object_value value)

-- a value that begins with no bracket or brace, and else what `nested` reads
abbrev pub value_or : Bool → Reader Literal → Reader Literal
value_or constant nested =
    pick (is_punctuator (codes "$")) (variable constant)
    (pick is_number number
    (pick is_string string
    (pick is_name word
    nested)))

abbrev pub begins_nested : Lexeme → Bool
begins_nested token = is_punctuator (codes "[") token || is_punctuator (codes "{") token

-- lists and objects, where so many brackets and braces may still be opened
unfoldable pub nested : Bool → ℕ → Reader Literal
nested constant zero = shut begins_nested
nested constant (suc room) = nested_value (value_or constant (nested constant room))

abbrev pub value : Bool → ℕ → Reader Literal
value constant room = value_or constant (nested constant room)

unfoldable pub arguments : Bool → ℕ → Reader (List Argument)
arguments constant room = listed (is_punctuator (codes "(")) (between (codes "(") (some is_name (argument (value constant room))) (codes ")") >>= λ all. gives all.1)

unfoldable pub directive : Bool → ℕ → Reader DirectiveUse
directive constant room = do
  at ← punctuator (codes "@")
  word ← name
  given ← arguments constant room
  gives (record { name = word.text; arguments = given; spot = at.spot })

unfoldable pub directives : Bool → ℕ → Reader (List DirectiveUse)
directives constant room = many (is_punctuator (codes "@")) (directive constant room)

-- ---- variables

abbrev pub maybe_non_null : TypeRef → Reader TypeRef
maybe_non_null inner = pick (is_punctuator (codes "!")) (punctuator (codes "!") >>= λ _. gives (type.NonNull inner)) (gives inner)

abbrev pub named_type : Reader TypeRef
named_type = name >>= λ word. gives (type.Named word.text word.spot)

-- a name, and else what `nested` reads
abbrev pub type_or : Reader TypeRef → Reader TypeRef
type_or nested = pick is_name named_type nested >>= maybe_non_null

unfoldable pub list_type : ℕ → Reader TypeRef
list_type zero = shut (is_punctuator (codes "["))
list_type (suc room) = between (codes "[") (type_or (list_type room)) (codes "]") >>= λ list. gives (type.List list.1)

unfoldable pub type_ref : ℕ → Reader TypeRef
type_ref room = type_or (list_type room)

unfoldable pub default_value : ℕ → Reader Literal
default_value room = punctuator (codes "=") >>= λ _. value true room

-- a variable's definition behind its colon
unfoldable pub behind_colon : ℕ → Lexeme → Lexeme → Reader VariableDef
behind_colon room dollar word = do
  kind ← type_ref room
  default ← optional (is_punctuator (codes "=")) (default_value room)
  used ← directives true room
  gives (record { name = word.text; kind = kind; default = default; directives = used; spot = dollar.spot })

unfoldable pub variable_definition : ℕ → Reader VariableDef
variable_definition room = do
  dollar ← punctuator (codes "$")
  word ← name
  punctuator (codes ":")
  behind_colon room dollar word

unfoldable pub variable_definitions : ℕ → Reader (List VariableDef)
variable_definitions room = listed (is_punctuator (codes "(")) (between (codes "(") (some (is_punctuator (codes "$")) (variable_definition room)) (codes ")") >>= λ all. gives all.1)

-- ---- selections

abbrev pub aliased : Reader Lexeme
aliased = punctuator (codes ":") >>= λ _. name

abbrev pub begins_selection : Lexeme → Bool
begins_selection token = is_name token || is_punctuator (codes "...") token

-- a field without an alias, arguments and directives
abbrev pub plain_field : Lexeme → List Selection → Selection
plain_field word inside = selection.Field (roll-FieldNode (record { alias = None; name = word.text; arguments = []; directives = []; selections = inside; spot = word.spot }))

-- a field behind its names
unfoldable pub behind_names : ℕ → Reader (List Selection) → Lexeme → Option Lexeme → Reader Selection
behind_names room inner first second = do
  given ← arguments false room
  used ← directives false room
  inside ← listed (is_punctuator (codes "{")) inner
  gives (selection.Field (roll-FieldNode (record { alias = alias_by first second; name = name_by first second; arguments = given; directives = used; selections = inside; spot = first.spot })))

-- a field behind its first name
unfoldable pub behind_name : ℕ → Reader (List Selection) → Lexeme → Reader Selection
behind_name room inner first = optional (is_punctuator (codes ":")) aliased >>= λ second. behind_names room inner first second

unfoldable pub field : ℕ → Reader (List Selection) → Reader Selection
field room inner = name >>= λ first. behind_name room inner first

unfoldable pub spread : ℕ → Reader Selection
spread room = do
  word ← take is_fragment_name
  used ← directives false room
  gives (selection.Spread (record { name = word.text; directives = used; spot = word.spot }))

abbrev pub is_on : Lexeme → Bool
is_on token = is_word (codes "on") token

abbrev pub type_condition : Reader Lexeme
type_condition = take is_on >>= λ _. name

unfoldable pub inline_fragment : ℕ → Reader (List Selection) → Spot → Reader Selection
inline_fragment room inner dots = do
  condition ← optional is_on type_condition
  used ← directives false room
  inside ← inner
  gives (selection.Inline (roll-InlineNode (record { condition = condition_text condition; directives = used; selections = inside; spot = inline_spot dots condition })))

unfoldable pub any_selection : ℕ → Reader (List Selection) → Reader Selection
any_selection room inner = pick is_name (field room inner)
    (punctuator (codes "...") >>= λ dots. pick is_fragment_name (spread room) (inline_fragment room inner dots.spot))

unfoldable pub selection_set : ℕ → Reader (Spot × List Selection)
selection_set zero = shut (is_punctuator (codes "{"))
selection_set (suc room) = between (codes "{") (some begins_selection (any_selection room (selection_set room >>= λ set. gives set.1))) (codes "}")

unfoldable pub selections : ℕ → Reader (List Selection)
selections room = selection_set room >>= λ set. gives set.1

-- ---- definitions

abbrev pub is_fragment : Lexeme → Bool
is_fragment token = is_word (codes "fragment") token

unfoldable pub short_operation : ℕ → Reader Definition
short_operation room = selection_set room >>= λ set.
    gives (definition.Operation (record { kind = operation.Query; name = None; variables = []; directives = []; selections = set.1; spot = set.0 }))

unfoldable pub operation_definition : ℕ → Reader Definition
operation_definition room = do
  kind ← take is_operation_type
  word ← optional is_name name
  variables ← variable_definitions room
  used ← directives false room
  inside ← selections room
  gives (definition.Operation (record { kind = operation_kind kind; name = name_text word; variables = variables; directives = used; selections = inside; spot = kind.spot }))

unfoldable pub fragment_definition : ℕ → Reader Definition
fragment_definition room = do
  take is_fragment
  word ← take is_fragment_name
  condition ← type_condition
  used ← directives false room
  inside ← selections room
  gives (definition.Fragment (record { name = word.text; condition = condition.text; condition_spot = condition.spot; directives = used; selections = inside; spot = word.spot }))

unfoldable pub any_definition : ℕ → Reader Definition
any_definition room = pick (is_punctuator (codes "{")) (short_operation room) (pick is_operation_type (operation_definition room) (fragment_definition room))

abbrev pub is_any : Lexeme → Bool
is_any token = true

unfoldable pub document : ℕ → Reader Document
document room = some is_any (any_definition room) >>= λ all. gives (record { definitions = all })
