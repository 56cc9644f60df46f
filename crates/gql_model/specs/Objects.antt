-- Executing the fields of an object: ExecuteSelectionSet, section 6.3, and ExecuteField, section 6.4 of the standard,
-- in a region whose owners are the deferred fragments that wait for it.
use Rattle.std.specs.Prelude.{ℕ, zero, suc, Bool, true, false, not, nat_lt, min, List, [], ◌∷◌, ◌++◌, map, filter, length, zip, slice_get, Option, Some, None, option_map}
use Rattle.gql_tree.specs.declared.Key.{Key}
use Rattle.gql_tree.specs.declared.Key.TheVariants.{Name}
use Rattle.gql_tree.specs.declared.Value.{Value}
use Rattle.gql_tree.specs.declared.Value.TheVariants as v
use Rattle.gql_tree.specs.declared.FragId.{FragId}
use Rattle.gql_tree.specs.declared.Occurrence.{Occurrence}
use Rattle.gql_tree.specs.declared.Detail.{Detail}
use Rattle.gql_tree.specs.declared.Row.{Row}
use Rattle.gql_tree.specs.declared.Group.{Group}
use Rattle.gql_tree.specs.declared.Spot.{Spot}
use Rattle.gql_model.specs.declared.operation.Node.{Node}
use Rattle.gql_model.specs.declared.operation.StreamUse.{StreamUse}
use Rattle.gql_model.specs.declared.operation.NodeKind.{NodeKind}
use Rattle.gql_model.specs.declared.operation.NodeKind.TheVariants.{Field, Fragment}
use Rattle.gql_model.specs.Lists.{gathered}
use Rattle.gql_tree.specs.Keys.{same_lists, same_fragment}
use Rattle.gql_model.specs.World.{World}
use Rattle.gql_model.specs.Collect.{Met, met, merged, fragments}
use Rattle.gql_model.specs.Owners.{owners}
use Rattle.gql_model.specs.Complete.{Part, Found, no_found, whole, null_part, complete}

-- ---- streams

-- the first of the merged nodes, by which a field is executed
abbrev pub node_of : List Node → Detail → Option Node
node_of nodes d = elim d.nodes [ [] ↦ None | o ∷ os ↦ slice_get nodes o.node ]

abbrev pub least : List Occurrence → ℕ → ℕ
least [] n = n
least (o ∷ os) n = least os (min o.node n)

-- the least place among the merged nodes
abbrev pub place_of : Detail → ℕ
place_of d = elim d.nodes [ [] ↦ 0 | o ∷ os ↦ least os o.node ]

abbrev pub initial_count : Option StreamUse → Option ℕ
initial_count = option_map (λ s. s.initial)

-- a list that has more items than its `@stream` lets stand at first has a stream of the others
abbrev pub stream_from : Bool → Row → Detail → StreamUse → ℕ → ℕ → List Key → Found
stream_from false row d s first all path = no_found
stream_from true row d s first all path = record { fragments = []; groups = []; streams = record { path = record { keys = path }; row = row; field = d; label = s.label; place = place_of d; first = first; length = all } ∷ [] }

abbrev pub stream_at : Row → Detail → Option StreamUse → ℕ → ℕ → List Key → Found
stream_at row d None first all path = no_found
stream_at row d (Some s) first all path = stream_from (nat_lt first all) row d s first all path

-- ---- objects

abbrev pub object_value : List Detail → List Value → Value
object_value ds xs = v.Object (map (λ m. record { name = (m.0).key; value = m.1 }) (zip ds xs))

module _ (nodes : List Node) where
  -- whether a field is of the region with these owners
  abbrev pub is_own : List FragId → Detail → Bool
  is_own own d = same_lists same_fragment (owners nodes d.nodes) own

  -- the other fields of the object: those with one list of owners form one execution group
  abbrev pub groups_at : List FragId → Row → List Key → List Detail → List Group
  groups_at own row path ds = map (λ g. record { owners = g.0; path = record { keys = path }; row = row; fields = g.1 }) (gathered (same_lists same_fragment) (map (λ d. (owners nodes d.nodes, d)) (filter (λ d. not (is_own own d)) ds)))

module _ (w : World) (nodes : List Node) where
  -- ExecuteField, by what stands at a node
  abbrev pub executed : (Row → List Key → Part) → Row → List Key → Detail → Spot → NodeKind → Part
  executed object row path d spot (Fragment condition defer) = null_part []
  executed object row path d spot (Field key name arguments stream) = complete spot object (stream_at row d stream) (w.field_type row.kind name) (initial_count stream) (w.cell row name arguments) (path ++ Name d.key ∷ [])

  abbrev pub executed_at : (Row → List Key → Part) → Row → List Key → Detail → Option Node → Part
  executed_at object row path d None = null_part []
  executed_at object row path d (Some n) = executed object row path d n.spot n.kind

  -- a field goes by the name, the arguments and the place in the text of its first node
  abbrev pub field_part : (Row → List Key → Part) → Row → List Key → Detail → Part
  field_part object row path d = executed_at object row path d (node_of nodes d)

  -- these fields of an object; `below` is what an object under merged nodes gives
  abbrev pub fields_part : (Row → List Occurrence → List Key → Part) → Row → List Key → Found → List Detail → Part
  fields_part below row path found ds = whole (object_value ds) found (map (λ d. field_part (λ r p. below r d.nodes p) row path d) ds)

  -- an object by what collecting met at it
  abbrev pub object_from : (Row → List Occurrence → List Key → Part) → List FragId → Row → List Key → List Met → Part
  object_from below own row path ms =
      let ds = merged ms in
      fields_part below row path (record { fragments = fragments ms; groups = groups_at nodes own row path ds; streams = [] }) (filter (is_own nodes own) ds)

  -- an object, at most so many fields deep
  abbrev pub object_part : ℕ → List FragId → Row → List Occurrence → List Key → Part
  object_part zero own row os path = null_part []
  object_part (suc deep) own row os path = object_from (object_part deep own) own row path (met w nodes row.kind path os)

  -- an object; a field stands in the operation below its object's, so the depth is never met (`Depth`)
  abbrev pub object_at : List FragId → Row → List Occurrence → List Key → Part
  object_at = object_part (suc (length nodes))
