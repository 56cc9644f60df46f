-- A query of the hero as a document, for a law of the documents that are executed.
use Rattle.std.specs.Prelude.{◌≡◌, ℕ, List, [], ◌∷◌, ◌++◌, map, Option, Some, None, codes}
use Rattle.gql_tree.specs.declared.Spot.{Spot}
use Rattle.gql_model.specs.declared.syntax.Literal.TheVariants as literal
use Rattle.gql_model.specs.declared.syntax.Argument.{Argument, roll-Argument}
use Rattle.gql_model.specs.declared.syntax.Selection.{Selection}
use Rattle.gql_model.specs.declared.syntax.Selection.TheVariants as selection
use Rattle.gql_model.specs.declared.syntax.FieldNode.{roll-FieldNode}
use Rattle.gql_model.specs.declared.syntax.InlineNode.{roll-InlineNode}
use Rattle.gql_model.specs.declared.syntax.OperationKind.TheVariants as kind
use Rattle.gql_model.specs.declared.syntax.Definition.TheVariants as definition
use Rattle.gql_model.specs.declared.syntax.Document.{Document}
use Rattle.gql_tool.specs.declared.hero.shape.LeafName.TheVariants.{Id, Name, Boom}
use Rattle.gql_tool.specs.declared.hero.shape.Leaf.{Leaf}
use Rattle.gql_tool.specs.declared.hero.shape.Deferred.{Deferred}
use Rattle.gql_tool.specs.declared.hero.shape.HeroDocument.{HeroDocument}
use Rattle.gql_tool.specs.hero.Operation.{name_of}
use Rattle.gql_tool.specs.hero.Hero.{EachOnce}

-- the places that a query of the hero doesn't keep: of `@`, of `label` and of its string
pub record Places : Type 0 where
  pub directive : Spot
  pub label : Spot
  pub string : Spot

-- a name alone
abbrev pub written_leaf : Leaf → Selection
written_leaf leaf = selection.Field (roll-FieldNode (record { alias = None; name = name_of leaf.name; arguments = []; directives = []; selections = []; spot = leaf.spot }))

-- (label: "L"), or nothing
abbrev pub written_label : Places → Option (List ℕ) → List Argument
written_label at None = []
written_label at (Some label) = roll-Argument (record { name = codes "label"; value = literal.Text label at.string; spot = at.label }) ∷ []

-- ... @defer(label: "L") { LEAVES }, or nothing
abbrev pub written_deferred : Places → Option Deferred → List Selection
written_deferred at None = []
written_deferred at (Some deferred) =
    selection.Inline (roll-InlineNode (record { condition = None; directives = record { name = codes "defer"; arguments = written_label at deferred.label; spot = at.directive } ∷ []; selections = map written_leaf deferred.leaves; spot = deferred.spot })) ∷ []

-- hero { LEAVES DEFERRED }
abbrev pub written_hero : Places → HeroDocument → Selection
written_hero at hero = selection.Field (roll-FieldNode (record { alias = None; name = codes "hero"; arguments = []; directives = []; selections = map written_leaf hero.leaves ++ written_deferred at hero.deferred; spot = hero.hero }))

-- { HERO }
abbrev pub written : Places → HeroDocument → Document
written at hero = record { definitions = definition.Operation (record { kind = kind.Query; name = None; variables = []; directives = []; selections = written_hero at hero ∷ []; spot = hero.spot }) ∷ [] }

-- at least one leaf
abbrev pub HasLeaf : List Leaf → Type 0
HasLeaf [] = ⊥
HasLeaf (leaf ∷ leaves) = Unit {0}

abbrev pub HasDeferred : Option Deferred → Type 0
HasDeferred None = Unit {0}
HasDeferred (Some deferred) = HasLeaf deferred.leaves

-- in the deferred piece too, where there is one
abbrev pub HasLeaves : HeroDocument → Type 0
HasLeaves hero = HasLeaf hero.leaves × HasDeferred hero.deferred

-- the document is this query, written so, with each leaf at most once
abbrev pub IsWritten : Document → HeroDocument → Type 0
IsWritten document hero = (at : Places) × (document ≡ written at hero) × HasLeaves hero × EachOnce hero

-- ---- worked queries, with each column

abbrev pub column : ℕ → Spot
column number = record { line = 1; column = number }

-- { hero { id } }
abbrev pub plain_hero : HeroDocument
plain_hero = record { spot = column 1; hero = column 3; leaves = record { name = Id; spot = column 10 } ∷ []; deferred = None }

-- { hero { id ... @defer(label:"D") { name } } }
abbrev pub deferred_hero : HeroDocument
deferred_hero = record { spot = column 1; hero = column 3; leaves = record { name = Id; spot = column 10 } ∷ []; deferred = Some (record { label = Some (codes "D"); spot = column 13; leaves = record { name = Name; spot = column 37 } ∷ [] }) }

-- { hero { id boom ... @defer { name } } }
abbrev pub bubbling_hero : HeroDocument
bubbling_hero = record { spot = column 1; hero = column 3; leaves = record { name = Id; spot = column 10 } ∷ record { name = Boom; spot = column 13 } ∷ []; deferred = Some (record { label = None; spot = column 18; leaves = record { name = Name; spot = column 31 } ∷ [] }) }
