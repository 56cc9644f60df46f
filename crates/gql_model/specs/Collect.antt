-- Collecting at an object: CollectFields, section 6.3.2 of the standard, where a fragment with an active `@defer`
-- is met as a deferred fragment and its fields carry it as their tag.
use Rattle.std.specs.Prelude.{ℕ, zero, suc, Bool, true, false, List, [], ◌∷◌, map, flat_map, filter_map, length, slice_get, Option, Some, None}
use Rattle.std.specs.Str.{bytes_eq}
use Rattle.gql_tree.specs.declared.Key.{Key}
use Rattle.gql_tree.specs.declared.FragId.{FragId}
use Rattle.gql_tree.specs.declared.Frag.{Frag}
use Rattle.gql_tree.specs.declared.Occurrence.{Occurrence}
use Rattle.gql_tree.specs.declared.Detail.{Detail}
use Rattle.gql_model.specs.declared.schema.TypeNo.{TypeNo}
use Rattle.gql_model.specs.declared.operation.Node.{Node}
use Rattle.gql_model.specs.declared.operation.NodeKind.{NodeKind}
use Rattle.gql_model.specs.declared.operation.NodeKind.TheVariants.{Field, Fragment}
use Rattle.gql_model.specs.declared.operation.DeferUse.{DeferUse}
use Rattle.gql_model.specs.World.{World}
use Rattle.gql_model.specs.Lists.{gathered}

-- what collecting meets: a field under its response key, or a deferred fragment
pub data Met : Type 0 where
  field : List ℕ → Occurrence → Met
  deferred : Frag → Met

abbrev pub children_of : Option Node → List ℕ
children_of None = []
children_of (Some n) = n.children

-- at an object of this type and path
module _ (w : World) (nodes : List Node) (kind : ℕ) (path : List Key) where
  -- whether a fragment with this type condition applies
  abbrev pub applies : Option TypeNo → Bool
  applies None = true
  applies (Some t) = w.fits t.number kind

  -- the deferred fragment of a place at this object
  abbrev pub fragment_at : ℕ → FragId
  fragment_at place = record { place = place; path = record { keys = path } }

  -- a fragment's own fields; those of a deferred one are met with it as their tag
  abbrev pub met_fragment : (Option FragId → ℕ → List Met) → Option FragId → ℕ → Option DeferUse → List Met
  met_fragment below tag c None = below tag c
  met_fragment below tag c (Some d) = deferred (record { id = fragment_at c; label = d.label; parent = tag }) ∷ below (Some (fragment_at c)) c

  abbrev pub met_node : (Option FragId → ℕ → List Met) → Option FragId → ℕ → NodeKind → List Met
  met_node below tag c (Field key name arguments stream) = field key (record { node = c; tag = tag }) ∷ []
  met_node below tag c (Fragment condition defer) = elim (applies condition) [ false ↦ [] | true ↦ met_fragment below tag c defer ]

  abbrev pub met_child : (Option FragId → ℕ → List Met) → Option FragId → ℕ → Option Node → List Met
  met_child below tag c None = []
  met_child below tag c (Some n) = met_node below tag c n.kind

  -- through the children of a node in order, at most so many fragments deep
  abbrev pub met_below : ℕ → Option FragId → ℕ → List Met
  met_below zero tag n = []
  met_below (suc deep) tag n = flat_map (λ c. met_child (met_below deep) tag c (slice_get nodes c)) (children_of (slice_get nodes n))

  -- through the children of a node; a child comes after its parent, so the depth is never met (`Depth`)
  abbrev pub met_at : Option FragId → ℕ → List Met
  met_at = met_below (length nodes)

  -- below the nodes of a merged field, each with the tag of its occurrence
  abbrev pub met : List Occurrence → List Met
  met os = flat_map (λ o. met_at o.tag o.node) os

abbrev pub occurrence_of : Met → Option (List ℕ × Occurrence)
occurrence_of (field key o) = Some (key, o)
occurrence_of (deferred f) = None

abbrev pub fragment_of : Met → Option Frag
fragment_of (field key o) = None
fragment_of (deferred f) = Some f

-- triples of response key, node and tag
abbrev pub occurrences : List Met → List (List ℕ × Occurrence)
occurrences = filter_map occurrence_of

abbrev pub fragments : List Met → List Frag
fragments = filter_map fragment_of

-- those of one response key merged, in order of first appearance
abbrev pub merged : List Met → List Detail
merged ms = map (λ x. record { key = x.0; nodes = x.1 }) (gathered bytes_eq (occurrences ms))
