-- What a value, a type and a selection are without their places, kind by kind.
use Rattle.std.proofs.Common.{◌≡◌, ℕ, List, map, sym, ◌∙◌, ap, Bool}
use Rattle.gql_tree.specs.declared.delivery.Spot.{Spot}
use Rattle.gql_model.specs.declared.syntax.Literal.{Literal, Literal-F}
use Rattle.gql_model.specs.declared.syntax.Literal.TheOpen.{Argument-F}
use Rattle.gql_model.specs.declared.syntax.Literal.TheFolds.{fold-roll-Literal, fold-roll-Argument}
use Rattle.gql_model.specs.declared.syntax.Literal.TheVariants.{rolls-Variable, rolls-Int, rolls-Text, rolls-Bool, rolls-Null, rolls-Enum, rolls-List, rolls-Object}
use Rattle.gql_model.specs.declared.syntax.Literal.TheVariants as literal
use Rattle.gql_model.specs.declared.syntax.Argument.{Argument, roll-Argument}
use Rattle.gql_model.specs.declared.syntax.TypeRef.{TypeRef, TypeRef-F}
use Rattle.gql_model.specs.declared.syntax.TypeRef.TheFolds.{fold-roll-TypeRef}
use Rattle.gql_model.specs.declared.syntax.TypeRef.TheVariants.{rolls-Named, rolls-NonNull}
use Rattle.gql_model.specs.declared.syntax.TypeRef.TheVariants.{rolls-List as rolls-ListType}
use Rattle.gql_model.specs.declared.syntax.TypeRef.TheVariants as type
use Rattle.gql_model.specs.declared.syntax.SpreadNode.{SpreadNode}
use Rattle.gql_model.specs.declared.syntax.FieldNode.{FieldNode, roll-FieldNode}
use Rattle.gql_model.specs.declared.syntax.InlineNode.{InlineNode, roll-InlineNode}
use Rattle.gql_model.specs.declared.syntax.Selection.{Selection, Selection-F}
use Rattle.gql_model.specs.declared.syntax.Selection.TheOpen.{FieldNode-F, InlineNode-F}
use Rattle.gql_model.specs.declared.syntax.Selection.TheFolds.{fold-roll-Selection, fold-roll-FieldNode, fold-roll-InlineNode}
use Rattle.gql_model.specs.declared.syntax.Selection.TheVariants.{rolls-Field, rolls-Spread, rolls-Inline}
use Rattle.gql_model.specs.declared.syntax.Selection.TheVariants as selection
use Rattle.gql_doc.specs.Unplaced.{nowhere, value_level, argument_level, unplaced_value, unplaced_argument, unplaced_directive, type_level, unplaced_type, unplaced_spread, selection_level, field_level, inline_level, unplaced_selection}

-- ---- values

pub unplaced_Variable : (name : List ℕ) (spot : Spot) → unplaced_value (literal.Variable name spot) ≡ literal.Variable name nowhere
unplaced_Variable name spot = ap unplaced_value (sym (rolls-Variable name spot)) ∙ fold-roll-Literal Literal Argument value_level argument_level (Literal-F.Variable name spot)

pub unplaced_Int : (digits : List ℕ) (spot : Spot) → unplaced_value (literal.Int digits spot) ≡ literal.Int digits nowhere
unplaced_Int digits spot = ap unplaced_value (sym (rolls-Int digits spot)) ∙ fold-roll-Literal Literal Argument value_level argument_level (Literal-F.Int digits spot)

pub unplaced_Text : (text : List ℕ) (spot : Spot) → unplaced_value (literal.Text text spot) ≡ literal.Text text nowhere
unplaced_Text text spot = ap unplaced_value (sym (rolls-Text text spot)) ∙ fold-roll-Literal Literal Argument value_level argument_level (Literal-F.Text text spot)

pub unplaced_Bool : (truth : Bool) (spot : Spot) → unplaced_value (literal.Bool truth spot) ≡ literal.Bool truth nowhere
unplaced_Bool truth spot = ap unplaced_value (sym (rolls-Bool truth spot)) ∙ fold-roll-Literal Literal Argument value_level argument_level (Literal-F.Bool truth spot)

pub unplaced_Null : (spot : Spot) → unplaced_value (literal.Null spot) ≡ literal.Null nowhere
unplaced_Null spot = ap unplaced_value (sym (rolls-Null spot)) ∙ fold-roll-Literal Literal Argument value_level argument_level (Literal-F.Null spot)

pub unplaced_Enum : (name : List ℕ) (spot : Spot) → unplaced_value (literal.Enum name spot) ≡ literal.Enum name nowhere
unplaced_Enum name spot = ap unplaced_value (sym (rolls-Enum name spot)) ∙ fold-roll-Literal Literal Argument value_level argument_level (Literal-F.Enum name spot)

pub unplaced_List : (items : List Literal) (spot : Spot) → unplaced_value (literal.List items spot) ≡ literal.List (map unplaced_value items) nowhere
unplaced_List items spot = ap unplaced_value (sym (rolls-List items spot)) ∙ fold-roll-Literal Literal Argument value_level argument_level (Literal-F.List items spot)

pub unplaced_Object : (members : List Argument) (spot : Spot) → unplaced_value (literal.Object members spot) ≡ literal.Object (map unplaced_argument members) nowhere
unplaced_Object members spot = ap unplaced_value (sym (rolls-Object members spot)) ∙ fold-roll-Literal Literal Argument value_level argument_level (Literal-F.Object members spot)

pub unplaced_argument-roll : (it : Argument-F Literal Argument) → unplaced_argument (roll-Argument it) ≡ roll-Argument (record { name = it.name; value = unplaced_value it.value; spot = nowhere })
unplaced_argument-roll it = fold-roll-Argument Literal Argument value_level argument_level it

-- ---- types

pub unplaced_Named : (name : List ℕ) (spot : Spot) → unplaced_type (type.Named name spot) ≡ type.Named name nowhere
unplaced_Named name spot = ap unplaced_type (sym (rolls-Named name spot)) ∙ fold-roll-TypeRef TypeRef type_level (TypeRef-F.Named name spot)

pub unplaced_ListType : (item : TypeRef) → unplaced_type (type.List item) ≡ type.List (unplaced_type item)
unplaced_ListType item = ap unplaced_type (sym (rolls-ListType item)) ∙ fold-roll-TypeRef TypeRef type_level (TypeRef-F.List item)

pub unplaced_NonNull : (inner : TypeRef) → unplaced_type (type.NonNull inner) ≡ type.NonNull (unplaced_type inner)
unplaced_NonNull inner = ap unplaced_type (sym (rolls-NonNull inner)) ∙ fold-roll-TypeRef TypeRef type_level (TypeRef-F.NonNull inner)

-- ---- selections

pub unplaced_Field : (it : FieldNode-F Selection FieldNode InlineNode) → unplaced_selection (selection.Field (roll-FieldNode it)) ≡ selection.Field (roll-FieldNode (record {
  alias = it.alias;
  name = it.name;
  arguments = map unplaced_argument it.arguments;
  directives = map unplaced_directive it.directives;
  selections = map unplaced_selection it.selections;
  spot = nowhere;
}))
unplaced_Field it =
    ap unplaced_selection (sym (rolls-Field (roll-FieldNode it)))
    ∙ (fold-roll-Selection Selection FieldNode InlineNode selection_level field_level inline_level (Selection-F.Field (roll-FieldNode it))
    ∙ ap selection.Field (fold-roll-FieldNode Selection FieldNode InlineNode selection_level field_level inline_level it))

pub unplaced_Spread : (spread : SpreadNode) → unplaced_selection (selection.Spread spread) ≡ selection.Spread (unplaced_spread spread)
unplaced_Spread spread =
    ap unplaced_selection (sym (rolls-Spread spread))
    ∙ fold-roll-Selection Selection FieldNode InlineNode selection_level field_level inline_level (Selection-F.Spread spread)

pub unplaced_Inline : (it : InlineNode-F Selection FieldNode InlineNode) → unplaced_selection (selection.Inline (roll-InlineNode it)) ≡ selection.Inline (roll-InlineNode (record {
  condition = it.condition;
  directives = map unplaced_directive it.directives;
  selections = map unplaced_selection it.selections;
  spot = nowhere;
}))
unplaced_Inline it =
    ap unplaced_selection (sym (rolls-Inline (roll-InlineNode it)))
    ∙ (fold-roll-Selection Selection FieldNode InlineNode selection_level field_level inline_level (Selection-F.Inline (roll-InlineNode it))
    ∙ ap selection.Inline (fold-roll-InlineNode Selection FieldNode InlineNode selection_level field_level inline_level it))
