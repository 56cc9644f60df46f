-- A document without its places: two documents are the same up to places where these are equal.
use Rattle.std.specs.Prelude.{map, option_map}
use Rattle.gql_tree.specs.declared.delivery.Spot.{Spot}
use Rattle.gql_model.specs.declared.syntax.Literal.{Literal}
use Rattle.gql_model.specs.declared.syntax.Literal.TheOpen.{Literal-F, Argument-F}
use Rattle.gql_model.specs.declared.syntax.Literal.TheFolds.{fold-Literal, fold-Argument}
use Rattle.gql_model.specs.declared.syntax.Literal.TheVariants as literal
use Rattle.gql_model.specs.declared.syntax.Argument.{Argument, roll-Argument}
use Rattle.gql_model.specs.declared.syntax.TypeRef.{TypeRef}
use Rattle.gql_model.specs.declared.syntax.TypeRef.TheOpen.{TypeRef-F}
use Rattle.gql_model.specs.declared.syntax.TypeRef.TheFolds.{fold-TypeRef}
use Rattle.gql_model.specs.declared.syntax.TypeRef.TheVariants as type
use Rattle.gql_model.specs.declared.syntax.DirectiveUse.{DirectiveUse}
use Rattle.gql_model.specs.declared.syntax.VariableDef.{VariableDef}
use Rattle.gql_model.specs.declared.syntax.SpreadNode.{SpreadNode}
use Rattle.gql_model.specs.declared.syntax.FieldNode.{FieldNode, roll-FieldNode}
use Rattle.gql_model.specs.declared.syntax.InlineNode.{InlineNode, roll-InlineNode}
use Rattle.gql_model.specs.declared.syntax.Selection.{Selection}
use Rattle.gql_model.specs.declared.syntax.Selection.TheOpen.{Selection-F, FieldNode-F, InlineNode-F}
use Rattle.gql_model.specs.declared.syntax.Selection.TheFolds.{fold-Selection}
use Rattle.gql_model.specs.declared.syntax.Selection.TheVariants as selection
use Rattle.gql_model.specs.declared.syntax.OperationDef.{OperationDef}
use Rattle.gql_model.specs.declared.syntax.FragmentDef.{FragmentDef}
use Rattle.gql_model.specs.declared.syntax.Definition.{Definition}
use Rattle.gql_model.specs.declared.syntax.Definition.TheVariants as definition
use Rattle.gql_model.specs.declared.syntax.Document.{Document}

-- the place that each token of such a document has
abbrev pub nowhere : Spot
nowhere = record { line = 0; column = 0 }

-- Of what nests, one level is said here; what stands inside is without its places already.

-- ---- values

abbrev pub value_level : Literal-F Literal Argument → Literal
value_level (Literal-F.Variable name spot) = literal.Variable name nowhere
value_level (Literal-F.Int digits spot) = literal.Int digits nowhere
value_level (Literal-F.Text text spot) = literal.Text text nowhere
value_level (Literal-F.Bool truth spot) = literal.Bool truth nowhere
value_level (Literal-F.Null spot) = literal.Null nowhere
value_level (Literal-F.Enum name spot) = literal.Enum name nowhere
value_level (Literal-F.List items spot) = literal.List items nowhere
value_level (Literal-F.Object members spot) = literal.Object members nowhere

abbrev pub argument_level : Argument-F Literal Argument → Argument
argument_level it = roll-Argument (record { name = it.name; value = it.value; spot = nowhere })

abbrev pub unplaced_value : Literal → Literal
unplaced_value = fold-Literal Literal Argument value_level argument_level

abbrev pub unplaced_argument : Argument → Argument
unplaced_argument = fold-Argument Literal Argument value_level argument_level

-- ---- directives, types, variables

abbrev pub unplaced_directive : DirectiveUse → DirectiveUse
unplaced_directive it = record { name = it.name; arguments = map unplaced_argument it.arguments; spot = nowhere }

abbrev pub type_level : TypeRef-F TypeRef → TypeRef
type_level (TypeRef-F.Named name spot) = type.Named name nowhere
type_level (TypeRef-F.List item) = type.List item
type_level (TypeRef-F.NonNull inner) = type.NonNull inner

abbrev pub unplaced_type : TypeRef → TypeRef
unplaced_type = fold-TypeRef TypeRef type_level

abbrev pub unplaced_variable : VariableDef → VariableDef
unplaced_variable it = record {
  name = it.name;
  kind = unplaced_type it.kind;
  default = option_map unplaced_value it.default;
  directives = map unplaced_directive it.directives;
  spot = nowhere;
}

-- ---- selections

abbrev pub unplaced_spread : SpreadNode → SpreadNode
unplaced_spread it = record { name = it.name; directives = map unplaced_directive it.directives; spot = nowhere }

abbrev pub selection_level : Selection-F Selection FieldNode InlineNode → Selection
selection_level (Selection-F.Field field) = selection.Field field
selection_level (Selection-F.Spread spread) = selection.Spread (unplaced_spread spread)
selection_level (Selection-F.Inline fragment) = selection.Inline fragment

abbrev pub field_level : FieldNode-F Selection FieldNode InlineNode → FieldNode
field_level it = roll-FieldNode (record {
  alias = it.alias;
  name = it.name;
  arguments = map unplaced_argument it.arguments;
  directives = map unplaced_directive it.directives;
  selections = it.selections;
  spot = nowhere;
})

abbrev pub inline_level : InlineNode-F Selection FieldNode InlineNode → InlineNode
inline_level it = roll-InlineNode (record {
  condition = it.condition;
  directives = map unplaced_directive it.directives;
  selections = it.selections;
  spot = nowhere;
})

abbrev pub unplaced_selection : Selection → Selection
unplaced_selection = fold-Selection Selection FieldNode InlineNode selection_level field_level inline_level

-- ---- definitions

abbrev pub unplaced_operation : OperationDef → OperationDef
unplaced_operation it = record {
  kind = it.kind;
  name = it.name;
  variables = map unplaced_variable it.variables;
  directives = map unplaced_directive it.directives;
  selections = map unplaced_selection it.selections;
  spot = nowhere;
}

abbrev pub unplaced_fragment : FragmentDef → FragmentDef
unplaced_fragment it = record {
  name = it.name;
  condition = it.condition;
  condition_spot = nowhere;
  directives = map unplaced_directive it.directives;
  selections = map unplaced_selection it.selections;
  spot = nowhere;
}

abbrev pub unplaced_definition : Definition → Definition
unplaced_definition (definition.Operation it) = definition.Operation (unplaced_operation it)
unplaced_definition (definition.Fragment it) = definition.Fragment (unplaced_fragment it)

abbrev pub unplaced : Document → Document
unplaced document = record { definitions = map unplaced_definition document.definitions }
