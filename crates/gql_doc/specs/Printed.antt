-- How a document is printed: its tokens, as the grammar reads them, with one space between two.
use Rattle.std.specs.Prelude.{ℕ, Bool, true, false, List, [], ◌∷◌, ◌++◌, flat_map, Option, Some, None, codes}
use Rattle.gql_lex.specs.declared.token.TokenKind.TheVariants as kind
use Rattle.gql_doc.specs.Quoting.{quoted_text}
use Rattle.gql_doc.specs.Pieces.{Piece, spaced}
use Rattle.gql_model.specs.declared.syntax.Literal.{Literal}
use Rattle.gql_model.specs.declared.syntax.Literal.TheOpen.{Literal-F, Argument-F}
use Rattle.gql_model.specs.declared.syntax.Literal.TheFolds.{fold-Literal, fold-Argument}
use Rattle.gql_model.specs.declared.syntax.Argument.{Argument}
use Rattle.gql_model.specs.declared.syntax.TypeRef.{TypeRef}
use Rattle.gql_model.specs.declared.syntax.TypeRef.TheOpen.{TypeRef-F}
use Rattle.gql_model.specs.declared.syntax.TypeRef.TheFolds.{fold-TypeRef}
use Rattle.gql_model.specs.declared.syntax.DirectiveUse.{DirectiveUse}
use Rattle.gql_model.specs.declared.syntax.VariableDef.{VariableDef}
use Rattle.gql_model.specs.declared.syntax.SpreadNode.{SpreadNode}
use Rattle.gql_model.specs.declared.syntax.FieldNode.{FieldNode}
use Rattle.gql_model.specs.declared.syntax.InlineNode.{InlineNode}
use Rattle.gql_model.specs.declared.syntax.Selection.{Selection}
use Rattle.gql_model.specs.declared.syntax.Selection.TheOpen.{Selection-F, FieldNode-F, InlineNode-F}
use Rattle.gql_model.specs.declared.syntax.Selection.TheFolds.{fold-Selection, fold-FieldNode, fold-InlineNode}
use Rattle.gql_model.specs.declared.syntax.OperationKind.{OperationKind}
use Rattle.gql_model.specs.declared.syntax.OperationKind.TheVariants as operation
use Rattle.gql_model.specs.declared.syntax.OperationDef.{OperationDef}
use Rattle.gql_model.specs.declared.syntax.FragmentDef.{FragmentDef}
use Rattle.gql_model.specs.declared.syntax.Definition.{Definition}
use Rattle.gql_model.specs.declared.syntax.Definition.TheVariants as definition
use Rattle.gql_model.specs.declared.syntax.Document.{Document}

-- ---- pieces

-- the punctuator of this text
abbrev pub punctuator : List ℕ → Piece
punctuator text = record { kind = kind.Punctuator; text = text }

abbrev pub word : List ℕ → Piece
word text = record { kind = kind.Name; text = text }

abbrev pub number : List ℕ → Piece
number digits = record { kind = kind.Int; text = digits }

abbrev pub string : List ℕ → Piece
string value = record { kind = kind.Quoted; text = quoted_text value }

-- what stands between two punctuators
abbrev pub enclosed : List ℕ → List Piece → List ℕ → List Piece
enclosed opening inside closing = punctuator opening ∷ (inside ++ punctuator closing ∷ [])

-- pieces, one after another
abbrev pub joined : List (List Piece) → List Piece
joined lists = flat_map (λ pieces. pieces) lists

-- a list between two punctuators, each of its items printed; an empty one is not written
abbrev pub printed_list : {A : Type 0} → (A → List Piece) → List ℕ → List A → List ℕ → List Piece
printed_list printed opening [] closing = []
printed_list printed opening (first ∷ others) closing = enclosed opening (flat_map printed (first ∷ others)) closing

-- ---- values (2.9)

abbrev pub truth_word : Bool → List ℕ
truth_word true = codes "true"
truth_word false = codes "false"

-- Of what nests, one level is said here; what stands inside is printed already.

-- Value
abbrev pub value_level : Literal-F (List Piece) (List Piece) → List Piece
value_level (Literal-F.Variable name spot) = punctuator (codes "$") ∷ word name ∷ []
value_level (Literal-F.Int digits spot) = number digits ∷ []
value_level (Literal-F.Text text spot) = string text ∷ []
value_level (Literal-F.Bool truth spot) = word (truth_word truth) ∷ []
value_level (Literal-F.Null spot) = word (codes "null") ∷ []
value_level (Literal-F.Enum name spot) = word name ∷ []
value_level (Literal-F.List items spot) = enclosed (codes "[") (joined items) (codes "]")
value_level (Literal-F.Object members spot) = enclosed (codes "{") (joined members) (codes "}")

-- Argument, and ObjectField
abbrev pub argument_level : Argument-F (List Piece) (List Piece) → List Piece
argument_level it = word it.name ∷ punctuator (codes ":") ∷ it.value

abbrev pub printed_value : Literal → List Piece
printed_value = fold-Literal (List Piece) (List Piece) value_level argument_level

abbrev pub printed_argument : Argument → List Piece
printed_argument = fold-Argument (List Piece) (List Piece) value_level argument_level

-- Arguments (2.6)
abbrev pub printed_arguments : List Argument → List Piece
printed_arguments all = printed_list printed_argument (codes "(") all (codes ")")

-- Directive (2.12)
abbrev pub printed_directive : DirectiveUse → List Piece
printed_directive it = punctuator (codes "@") ∷ word it.name ∷ printed_arguments it.arguments

-- Directives
abbrev pub printed_directives : List DirectiveUse → List Piece
printed_directives all = flat_map printed_directive all

-- ---- variables (2.10, 2.11)

-- Type
abbrev pub type_level : TypeRef-F (List Piece) → List Piece
type_level (TypeRef-F.Named name spot) = word name ∷ []
type_level (TypeRef-F.List item) = enclosed (codes "[") item (codes "]")
type_level (TypeRef-F.NonNull inner) = inner ++ punctuator (codes "!") ∷ []

abbrev pub printed_type : TypeRef → List Piece
printed_type = fold-TypeRef (List Piece) type_level

-- DefaultValue, where there is one
abbrev pub printed_default : Option Literal → List Piece
printed_default None = []
printed_default (Some value) = punctuator (codes "=") ∷ printed_value value

-- VariableDefinition
abbrev pub printed_variable : VariableDef → List Piece
printed_variable it = punctuator (codes "$") ∷ word it.name ∷ punctuator (codes ":") ∷ (printed_type it.kind ++ (printed_default it.default ++ printed_directives it.directives))

-- VariableDefinitions
abbrev pub printed_variables : List VariableDef → List Piece
printed_variables all = printed_list printed_variable (codes "(") all (codes ")")

-- ---- selections (2.4, 2.5, 2.8)

-- Alias, where there is one
abbrev pub printed_alias : Option (List ℕ) → List Piece
printed_alias None = []
printed_alias (Some name) = word name ∷ punctuator (codes ":") ∷ []

-- Field; one without selections has no braces
abbrev pub field_level : FieldNode-F (List Piece) (List Piece) (List Piece) → List Piece
field_level it = printed_alias it.alias ++ (word it.name ∷ (printed_arguments it.arguments ++ (printed_directives it.directives ++ printed_list (λ pieces. pieces) (codes "{") it.selections (codes "}"))))

-- FragmentSpread
abbrev pub printed_spread : SpreadNode → List Piece
printed_spread it = punctuator (codes "...") ∷ word it.name ∷ printed_directives it.directives

-- TypeCondition
abbrev pub type_condition : List ℕ → List Piece
type_condition name = word (codes "on") ∷ word name ∷ []

-- TypeCondition, where there is one
abbrev pub printed_condition : Option (List ℕ) → List Piece
printed_condition None = []
printed_condition (Some name) = type_condition name

-- InlineFragment
abbrev pub inline_level : InlineNode-F (List Piece) (List Piece) (List Piece) → List Piece
inline_level it = punctuator (codes "...") ∷ (printed_condition it.condition ++ (printed_directives it.directives ++ enclosed (codes "{") (joined it.selections) (codes "}")))

-- Selection
abbrev pub selection_level : Selection-F (List Piece) (List Piece) (List Piece) → List Piece
selection_level (Selection-F.Field field) = field
selection_level (Selection-F.Spread spread) = printed_spread spread
selection_level (Selection-F.Inline fragment) = fragment

abbrev pub printed_selection : Selection → List Piece
printed_selection = fold-Selection (List Piece) (List Piece) (List Piece) selection_level field_level inline_level

abbrev pub printed_field : FieldNode → List Piece
printed_field = fold-FieldNode (List Piece) (List Piece) (List Piece) selection_level field_level inline_level

abbrev pub printed_inline : InlineNode → List Piece
printed_inline = fold-InlineNode (List Piece) (List Piece) (List Piece) selection_level field_level inline_level

-- SelectionSet
abbrev pub printed_selections : List Selection → List Piece
printed_selections all = enclosed (codes "{") (flat_map printed_selection all) (codes "}")

-- ---- definitions (2.2, 2.3, 2.8)

-- OperationType
abbrev pub operation_word : OperationKind → List ℕ
operation_word operation.Query = codes "query"
operation_word operation.Mutation = codes "mutation"
operation_word operation.Subscription = codes "subscription"

-- Name, where there is one
abbrev pub printed_name : Option (List ℕ) → List Piece
printed_name None = []
printed_name (Some name) = word name ∷ []

-- what stands before the selection set of an operation; nothing before that of a query with no name, no variables and no
-- directives
abbrev pub operation_head : OperationKind → Option (List ℕ) → List VariableDef → List DirectiveUse → List Piece
operation_head operation.Query None [] [] = []
operation_head kind name variables directives = word (operation_word kind) ∷ (printed_name name ++ (printed_variables variables ++ printed_directives directives))

-- OperationDefinition
abbrev pub printed_operation : OperationDef → List Piece
printed_operation it = operation_head it.kind it.name it.variables it.directives ++ printed_selections it.selections

-- FragmentDefinition
abbrev pub printed_fragment : FragmentDef → List Piece
printed_fragment it = word (codes "fragment") ∷ word it.name ∷ (type_condition it.condition ++ (printed_directives it.directives ++ printed_selections it.selections))

-- ExecutableDefinition
abbrev pub printed_definition : Definition → List Piece
printed_definition (definition.Operation it) = printed_operation it
printed_definition (definition.Fragment it) = printed_fragment it

-- ExecutableDocument
abbrev pub printed : Document → List Piece
printed document = flat_map printed_definition document.definitions

-- ---- the text

-- the text of a document as it is printed
abbrev pub print_text : Document → List ℕ
print_text document = spaced (printed document)
