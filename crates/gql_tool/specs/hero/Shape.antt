-- The documents that this build executes: a query of `hero` for leaves, of which a last piece may be deferred.
--
--     { hero { LEAF+ DEFERRED? } }
--
-- A leaf is one of the fields `id`, `name`, `age` and `boom`, each at most once, and the deferred piece is
-- `... @defer(label: "L") { LEAF+ }`, with any string as its label or with none.
use Rattle.std.specs.Prelude.{ℕ, ◌+◌, ◌==◌, nat_le, ◌&&◌, if◌then◌else◌, Bool, true, false, List, [], ◌∷◌, count_by, length, drop, Option, Some, None, option_map, option_and_then, codes}
use Rattle.std.specs.Option.{is_none}
use Rattle.std.specs.List.{list_all}
use Rattle.std.specs.Str.{bytes_eq}
use Rattle.gql_tree.specs.declared.Spot.{Spot}
use Rattle.gql_model.specs.declared.syntax.Literal.{Literal, out-Literal}
use Rattle.gql_model.specs.declared.syntax.Literal.TheOpen.{Literal-F, Argument-F}
use Rattle.gql_model.specs.declared.syntax.Argument.{Argument, out-Argument}
use Rattle.gql_model.specs.declared.syntax.DirectiveUse.{DirectiveUse}
use Rattle.gql_model.specs.declared.syntax.Selection.{Selection, out-Selection}
use Rattle.gql_model.specs.declared.syntax.Selection.TheOpen.{Selection-F, FieldNode-F, InlineNode-F}
use Rattle.gql_model.specs.declared.syntax.FieldNode.{FieldNode, out-FieldNode}
use Rattle.gql_model.specs.declared.syntax.InlineNode.{InlineNode, out-InlineNode}
use Rattle.gql_model.specs.declared.syntax.OperationKind.{OperationKind}
use Rattle.gql_model.specs.declared.syntax.OperationKind.TheVariants as kind
use Rattle.gql_model.specs.declared.syntax.OperationDef.{OperationDef}
use Rattle.gql_model.specs.declared.syntax.Definition.{Definition}
use Rattle.gql_model.specs.declared.syntax.Definition.TheVariants as definition
use Rattle.gql_model.specs.declared.syntax.Document.{Document}
use Rattle.gql_tool.specs.declared.hero.shape.LeafName.{LeafName}
use Rattle.gql_tool.specs.declared.hero.shape.LeafName.TheVariants.{Id, Name, Age, Boom}
use Rattle.gql_tool.specs.declared.hero.shape.Leaf.{Leaf}
use Rattle.gql_tool.specs.declared.hero.shape.Deferred.{Deferred}
use Rattle.gql_tool.specs.declared.hero.shape.HeroDocument.{HeroDocument}

-- one level of a selection, of a field, of an inline fragment, of an argument and of a value
abbrev pub AnySelection : Type 0
AnySelection = Selection-F Selection FieldNode InlineNode

abbrev pub Field : Type 0
Field = FieldNode-F Selection FieldNode InlineNode

abbrev pub Inline : Type 0
Inline = InlineNode-F Selection FieldNode InlineNode

abbrev pub AnyArgument : Type 0
AnyArgument = Argument-F Literal Argument

abbrev pub AnyValue : Type 0
AnyValue = Literal-F Literal Argument

-- ---- leaves

-- the leaf of this name
abbrev pub leaf_name : List ℕ → Option LeafName
leaf_name word =
    if bytes_eq word (codes "id") then Some Id
    else (if bytes_eq word (codes "name") then Some Name
    else (if bytes_eq word (codes "age") then Some Age
    else (if bytes_eq word (codes "boom") then Some Boom
    else None)))

-- a field without alias, arguments and directives
abbrev pub is_plain : Field → Bool
is_plain field = is_none field.alias && (length field.arguments == 0 && length field.directives == 0)

-- a field that is a leaf's name alone, without braces
abbrev pub leaf_in : Field → Option Leaf
leaf_in field = if is_plain field && length field.selections == 0 then option_map (λ name. record { name = name; spot = field.spot }) (leaf_name field.name) else None

abbrev pub leaf_at : AnySelection → Option Leaf
leaf_at (Selection-F.Field field) = leaf_in (out-FieldNode field)
leaf_at _ = None

abbrev pub leaf_of : Selection → Option Leaf
leaf_of selection = leaf_at (out-Selection selection)

-- the leaves at the front
abbrev pub leaves_of : List Selection → List Leaf
leaves_of [] = []
leaves_of (selection ∷ selections) = elim (leaf_of selection) [ None ↦ [] | Some leaf ↦ leaf ∷ leaves_of selections ]

-- what stands behind them
abbrev pub behind_leaves : List Selection → List Selection
behind_leaves selections = drop (length (leaves_of selections)) selections

-- ---- the deferred piece

-- a string, whatever its characters
abbrev pub string_in : AnyValue → Option (List ℕ)
string_in (Literal-F.Text value spot) = Some value
string_in _ = None

abbrev pub label_in : AnyArgument → Option (List ℕ)
label_in argument = if bytes_eq argument.name (codes "label") then string_in (out-Literal argument.value) else None

-- no argument, or only a string `label`
abbrev pub label_of : List Argument → Option (Option (List ℕ))
label_of [] = Some None
label_of (argument ∷ []) = option_map Some (label_in (out-Argument argument))
label_of _ = None

-- the single directive `@defer`, by its label
abbrev pub defer_of : List DirectiveUse → Option (Option (List ℕ))
defer_of (directive ∷ []) = if bytes_eq directive.name (codes "defer") then label_of directive.arguments else None
defer_of _ = None

-- leaves with this label, and nothing behind them
abbrev pub deferred_by : Spot → List Leaf → List Selection → Option (List ℕ) → Option Deferred
deferred_by spot (leaf ∷ leaves) [] label = Some (record { label = label; spot = spot; leaves = leaf ∷ leaves })
deferred_by spot _ _ label = None

-- an inline fragment without a type condition that is deferred
abbrev pub deferred_in : Inline → Option Deferred
deferred_in fragment = if is_none fragment.condition then option_and_then (deferred_by fragment.spot (leaves_of fragment.selections) (behind_leaves fragment.selections)) (defer_of fragment.directives) else None

abbrev pub deferred_at : AnySelection → Option Deferred
deferred_at (Selection-F.Inline fragment) = deferred_in (out-InlineNode fragment)
deferred_at _ = None

abbrev pub deferred_of : Selection → Option Deferred
deferred_of selection = deferred_at (out-Selection selection)

-- ---- the query

-- what stands behind the hero's leaves: nothing, or a deferred piece
abbrev pub ending_of : List Selection → Option (Option Deferred)
ending_of [] = Some None
ending_of (selection ∷ []) = option_map Some (deferred_of selection)
ending_of _ = None

-- a hero with these leaves and what stands behind them
abbrev pub hero_by : Spot → Spot → List Leaf → List Selection → Option HeroDocument
hero_by spot hero [] selections = None
hero_by spot hero (leaf ∷ leaves) selections = option_map (λ deferred. record { spot = spot; hero = hero; leaves = leaf ∷ leaves; deferred = deferred }) (ending_of selections)

abbrev pub hero_in : Spot → Field → Option HeroDocument
hero_in spot field = if is_plain field && bytes_eq field.name (codes "hero") then hero_by spot field.spot (leaves_of field.selections) (behind_leaves field.selections) else None

abbrev pub hero_at : Spot → AnySelection → Option HeroDocument
hero_at spot (Selection-F.Field field) = hero_in spot (out-FieldNode field)
hero_at spot _ = None

-- `hero` alone
abbrev pub root_of : Spot → List Selection → Option HeroDocument
root_of spot (selection ∷ []) = hero_at spot (out-Selection selection)
root_of spot _ = None

abbrev pub is_query : OperationKind → Bool
is_query kind.Query = true
is_query _ = false

-- a query without name, variables and directives
abbrev pub is_plain_query : OperationDef → Bool
is_plain_query operation = is_query operation.kind && (is_none operation.name && (length operation.variables == 0 && length operation.directives == 0))

abbrev pub operation_in : OperationDef → Option HeroDocument
operation_in operation = if is_plain_query operation then root_of operation.spot operation.selections else None

-- one operation alone
abbrev pub document_of : List Definition → Option HeroDocument
document_of (definition.Operation operation ∷ []) = operation_in operation
document_of _ = None

-- ---- each leaf once

abbrev pub same_name : LeafName → LeafName → Bool
same_name Id Id = true
same_name Name Name = true
same_name Age Age = true
same_name Boom Boom = true
same_name _ _ = false

-- how often a name stands in leaves
abbrev pub times : LeafName → List Leaf → ℕ
times name leaves = count_by (λ leaf. same_name leaf.name name) leaves

abbrev pub deferred_leaves_of : Option Deferred → List Leaf
deferred_leaves_of None = []
deferred_leaves_of (Some deferred) = deferred.leaves

abbrev pub stands_once : HeroDocument → LeafName → Bool
stands_once document name = nat_le (times name document.leaves + times name (deferred_leaves_of document.deferred)) 1

-- each name stands at most once, the deferred piece included
abbrev pub once_each : HeroDocument → Option HeroDocument
once_each document = if list_all (stands_once document) (Id ∷ Name ∷ Age ∷ Boom ∷ []) then Some document else None

-- ---- documents

-- the query of the hero that a document is
abbrev pub hero_of : Document → Option HeroDocument
hero_of document = option_and_then once_each (document_of document.definitions)
