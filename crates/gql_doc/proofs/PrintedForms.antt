-- What is printed of a value, a type and a selection, kind by kind.
use Rattle.std.proofs.Common.{◌≡◌, ℕ, List, [], ◌∷◌, ◌++◌, map, flat_map, refl, sym, ◌∙◌, ap, Bool}
use Rattle.std.specs.Prelude.{codes}
use Rattle.std.proofs.lemmas.List.Folds.{flat_map-map}
use Rattle.gql_tree.specs.declared.delivery.Spot.{Spot}
use Rattle.gql_model.specs.declared.syntax.Literal.{Literal, Literal-F}
use Rattle.gql_model.specs.declared.syntax.Literal.TheOpen.{Argument-F}
use Rattle.gql_model.specs.declared.syntax.Literal.TheFolds.{fold-roll-Literal, fold-roll-Argument, fold_out-Argument}
use Rattle.gql_model.specs.declared.syntax.Literal.TheVariants.{rolls-Variable, rolls-Int, rolls-Text, rolls-Bool, rolls-Null, rolls-Enum, rolls-List, rolls-Object}
use Rattle.gql_model.specs.declared.syntax.Literal.TheVariants as literal
use Rattle.gql_model.specs.declared.syntax.Argument.{Argument, out-Argument, roll-Argument}
use Rattle.gql_model.specs.declared.syntax.TypeRef.{TypeRef, TypeRef-F}
use Rattle.gql_model.specs.declared.syntax.TypeRef.TheFolds.{fold-roll-TypeRef}
use Rattle.gql_model.specs.declared.syntax.TypeRef.TheVariants.{rolls-Named, rolls-NonNull}
use Rattle.gql_model.specs.declared.syntax.TypeRef.TheVariants.{rolls-List as rolls-ListType}
use Rattle.gql_model.specs.declared.syntax.TypeRef.TheVariants as type
use Rattle.gql_model.specs.declared.syntax.SpreadNode.{SpreadNode}
use Rattle.gql_model.specs.declared.syntax.FieldNode.{FieldNode, out-FieldNode, roll-FieldNode}
use Rattle.gql_model.specs.declared.syntax.InlineNode.{InlineNode, out-InlineNode, roll-InlineNode}
use Rattle.gql_model.specs.declared.syntax.Selection.{Selection, Selection-F}
use Rattle.gql_model.specs.declared.syntax.Selection.TheOpen.{FieldNode-F, InlineNode-F}
use Rattle.gql_model.specs.declared.syntax.Selection.TheFolds.{fold-roll-Selection, fold-roll-FieldNode, fold-roll-InlineNode, fold_out-FieldNode, fold_out-InlineNode}
use Rattle.gql_model.specs.declared.syntax.Selection.TheVariants.{rolls-Field, rolls-Spread, rolls-Inline}
use Rattle.gql_model.specs.declared.syntax.Selection.TheVariants as selection
use Rattle.gql_doc.specs.Pieces.{Piece}
use Rattle.gql_doc.specs.Printed.{punctuator, word, number, string, enclosed, joined, truth_word, value_level, argument_level, printed_value, printed_argument, printed_list, printed_arguments, printed_directives, type_level, printed_type, printed_alias, field_level, printed_spread, printed_condition, inline_level, selection_level, printed_selection, printed_field, printed_inline, printed_selections}

abbrev Pieces : Type 0
Pieces = List Piece

-- ---- lists

-- a list that is printed already
printed_list-map : {A : Type 0} (f : A → Pieces) (opening : List ℕ) (xs : List A) (closing : List ℕ) → printed_list (λ pieces. pieces) opening (map f xs) closing ≡ printed_list f opening xs closing
printed_list-map f opening [] closing = refl
printed_list-map f opening (x ∷ xs) closing = ap (λ inside. enclosed opening inside closing) (flat_map-map (λ (pieces : Pieces). pieces) f (x ∷ xs))

-- ---- values

pub printed_Variable : (name : List ℕ) (spot : Spot) → printed_value (literal.Variable name spot) ≡ punctuator (codes "$") ∷ word name ∷ []
printed_Variable name spot = ap printed_value (sym (rolls-Variable name spot)) ∙ fold-roll-Literal Pieces Pieces value_level argument_level (Literal-F.Variable name spot)

pub printed_Int : (digits : List ℕ) (spot : Spot) → printed_value (literal.Int digits spot) ≡ number digits ∷ []
printed_Int digits spot = ap printed_value (sym (rolls-Int digits spot)) ∙ fold-roll-Literal Pieces Pieces value_level argument_level (Literal-F.Int digits spot)

pub printed_Text : (text : List ℕ) (spot : Spot) → printed_value (literal.Text text spot) ≡ string text ∷ []
printed_Text text spot = ap printed_value (sym (rolls-Text text spot)) ∙ fold-roll-Literal Pieces Pieces value_level argument_level (Literal-F.Text text spot)

pub printed_Bool : (truth : Bool) (spot : Spot) → printed_value (literal.Bool truth spot) ≡ word (truth_word truth) ∷ []
printed_Bool truth spot = ap printed_value (sym (rolls-Bool truth spot)) ∙ fold-roll-Literal Pieces Pieces value_level argument_level (Literal-F.Bool truth spot)

pub printed_Null : (spot : Spot) → printed_value (literal.Null spot) ≡ word (codes "null") ∷ []
printed_Null spot = ap printed_value (sym (rolls-Null spot)) ∙ fold-roll-Literal Pieces Pieces value_level argument_level (Literal-F.Null spot)

pub printed_Enum : (name : List ℕ) (spot : Spot) → printed_value (literal.Enum name spot) ≡ word name ∷ []
printed_Enum name spot = ap printed_value (sym (rolls-Enum name spot)) ∙ fold-roll-Literal Pieces Pieces value_level argument_level (Literal-F.Enum name spot)

pub printed_List : (items : List Literal) (spot : Spot) → printed_value (literal.List items spot) ≡ enclosed (codes "[") (flat_map printed_value items) (codes "]")
printed_List items spot =
    ap printed_value (sym (rolls-List items spot))
    ∙ (fold-roll-Literal Pieces Pieces value_level argument_level (Literal-F.List items spot)
    ∙ ap (λ inside. enclosed (codes "[") inside (codes "]")) (flat_map-map (λ (pieces : Pieces). pieces) printed_value items))

pub printed_Object : (members : List Argument) (spot : Spot) → printed_value (literal.Object members spot) ≡ enclosed (codes "{") (flat_map printed_argument members) (codes "}")
printed_Object members spot =
    ap printed_value (sym (rolls-Object members spot))
    ∙ (fold-roll-Literal Pieces Pieces value_level argument_level (Literal-F.Object members spot)
    ∙ ap (λ inside. enclosed (codes "{") inside (codes "}")) (flat_map-map (λ (pieces : Pieces). pieces) printed_argument members))

pub argument-out : (it : Argument) → printed_argument it ≡ word (out-Argument it).name ∷ punctuator (codes ":") ∷ printed_value (out-Argument it).value
argument-out it = fold_out-Argument Pieces Pieces value_level argument_level it

pub argument-roll : (it : Argument-F Literal Argument) → printed_argument (roll-Argument it) ≡ word it.name ∷ punctuator (codes ":") ∷ printed_value it.value
argument-roll it = fold-roll-Argument Pieces Pieces value_level argument_level it

-- ---- types

pub printed_Named : (name : List ℕ) (spot : Spot) → printed_type (type.Named name spot) ≡ word name ∷ []
printed_Named name spot = ap printed_type (sym (rolls-Named name spot)) ∙ fold-roll-TypeRef Pieces type_level (TypeRef-F.Named name spot)

pub printed_ListType : (item : TypeRef) → printed_type (type.List item) ≡ enclosed (codes "[") (printed_type item) (codes "]")
printed_ListType item = ap printed_type (sym (rolls-ListType item)) ∙ fold-roll-TypeRef Pieces type_level (TypeRef-F.List item)

pub printed_NonNull : (inner : TypeRef) → printed_type (type.NonNull inner) ≡ printed_type inner ++ punctuator (codes "!") ∷ []
printed_NonNull inner = ap printed_type (sym (rolls-NonNull inner)) ∙ fold-roll-TypeRef Pieces type_level (TypeRef-F.NonNull inner)

-- ---- selections

pub printed_Field : (field : FieldNode) → printed_selection (selection.Field field) ≡ printed_field field
printed_Field field = ap printed_selection (sym (rolls-Field field)) ∙ fold-roll-Selection Pieces Pieces Pieces selection_level field_level inline_level (Selection-F.Field field)

pub printed_Spread : (spread : SpreadNode) → printed_selection (selection.Spread spread) ≡ printed_spread spread
printed_Spread spread = ap printed_selection (sym (rolls-Spread spread)) ∙ fold-roll-Selection Pieces Pieces Pieces selection_level field_level inline_level (Selection-F.Spread spread)

pub printed_Inline : (fragment : InlineNode) → printed_selection (selection.Inline fragment) ≡ printed_inline fragment
printed_Inline fragment = ap printed_selection (sym (rolls-Inline fragment)) ∙ fold-roll-Selection Pieces Pieces Pieces selection_level field_level inline_level (Selection-F.Inline fragment)

-- a field by its parts
abbrev pub field_by : FieldNode-F Selection FieldNode InlineNode → Pieces
field_by it = printed_alias it.alias ++ (word it.name ∷ (printed_arguments it.arguments ++ (printed_directives it.directives ++ printed_list printed_selection (codes "{") it.selections (codes "}"))))

field_level-map : (it : FieldNode-F Selection FieldNode InlineNode) → printed_alias it.alias ++ (word it.name ∷ (printed_arguments it.arguments ++ (printed_directives it.directives ++ printed_list (λ (pieces : Pieces). pieces) (codes "{") (map printed_selection it.selections) (codes "}")))) ≡ field_by it
field_level-map it = ap (λ set. printed_alias it.alias ++ (word it.name ∷ (printed_arguments it.arguments ++ (printed_directives it.directives ++ set)))) (printed_list-map printed_selection (codes "{") it.selections (codes "}"))

pub field-out : (it : FieldNode) → printed_field it ≡ field_by (out-FieldNode it)
field-out it = fold_out-FieldNode Pieces Pieces Pieces selection_level field_level inline_level it ∙ field_level-map (out-FieldNode it)

pub field-roll : (it : FieldNode-F Selection FieldNode InlineNode) → printed_field (roll-FieldNode it) ≡ field_by it
field-roll it = fold-roll-FieldNode Pieces Pieces Pieces selection_level field_level inline_level it ∙ field_level-map it

-- an inline fragment by its parts
abbrev pub inline_by : InlineNode-F Selection FieldNode InlineNode → Pieces
inline_by it = punctuator (codes "...") ∷ (printed_condition it.condition ++ (printed_directives it.directives ++ printed_selections it.selections))

inline_level-map : (it : InlineNode-F Selection FieldNode InlineNode) → punctuator (codes "...") ∷ (printed_condition it.condition ++ (printed_directives it.directives ++ enclosed (codes "{") (joined (map printed_selection it.selections)) (codes "}"))) ≡ inline_by it
inline_level-map it = ap (λ inside. punctuator (codes "...") ∷ (printed_condition it.condition ++ (printed_directives it.directives ++ enclosed (codes "{") inside (codes "}")))) (flat_map-map (λ (pieces : Pieces). pieces) printed_selection it.selections)

pub inline-out : (it : InlineNode) → printed_inline it ≡ inline_by (out-InlineNode it)
inline-out it = fold_out-InlineNode Pieces Pieces Pieces selection_level field_level inline_level it ∙ inline_level-map (out-InlineNode it)

pub inline-roll : (it : InlineNode-F Selection FieldNode InlineNode) → printed_inline (roll-InlineNode it) ≡ inline_by it
inline-roll it = fold-roll-InlineNode Pieces Pieces Pieces selection_level field_level inline_level it ∙ inline_level-map it
