-- Regions, each of which is run as one piece: the initial answer, an execution group, an item of a stream.
use Rattle.std.specs.Prelude.{ℕ, List, [], ◌∷◌, ◌++◌, map, slice_get, Option, Some, None}
use Rattle.gql_tree.specs.declared.Key.TheVariants.{Index}
use Rattle.gql_tree.specs.declared.Value.TheVariants as v
use Rattle.gql_tree.specs.declared.Fault.{Fault}
use Rattle.gql_tree.specs.declared.Occurrence.{Occurrence}
use Rattle.gql_tree.specs.declared.Row.{Row}
use Rattle.gql_tree.specs.declared.Group.{Group}
use Rattle.gql_tree.specs.declared.Stream.{Stream}
use Rattle.gql_tree.specs.declared.Spot.{Spot}
use Rattle.gql_tree.specs.declared.Outcome.TheVariants.{Good, Failed}
use Rattle.gql_tree.specs.declared.RegionResult.{RegionResult}
use Rattle.gql_tree.specs.declared.TaskWork.{TaskWork}
use Rattle.gql_tree.specs.declared.TaskWork.TheVariants.{Fields, Item}
use Rattle.gql_tree.specs.Order.{group_cmp, stream_cmp}
use Rattle.gql_tree.specs.Ordered.{ordered}
use Rattle.gql_model.specs.declared.operation.Node.{Node}
use Rattle.gql_model.specs.declared.operation.NodeKind.{NodeKind}
use Rattle.gql_model.specs.declared.operation.NodeKind.TheVariants.{Field, Fragment}
use Rattle.gql_model.specs.UsedType.{UsedType, named, list, non_null}
use Rattle.gql_model.specs.World.{World, Cell, items, cells_of}
use Rattle.gql_model.specs.Complete.{Part, no_found, bubble, nothing, good, null_part, complete}
use Rattle.gql_model.specs.Objects.{node_of, fields_part, object_at}

abbrev pub failed : List Fault → RegionResult
failed fs = record { outcome = Failed; faults = fs; fragments = []; groups = []; streams = [] }

-- failed where Bubble reaches the region's beginning; a failed region has nothing deferred
abbrev pub region_of : Part → RegionResult
region_of p = elim p.result [
  | bubble ↦ failed p.faults
  | nothing ↦ record { outcome = Good v.Null; faults = p.faults; fragments = []; groups = []; streams = [] }
  | good x f ↦ record { outcome = Good x; faults = p.faults; fragments = f.fragments; groups = ordered group_cmp f.groups; streams = ordered stream_cmp f.streams }
]

-- ---- items

-- the type of the items of the outermost list
abbrev pub item_type : UsedType → UsedType
item_type (non_null s) = item_type s
item_type (list s) = s
item_type (named t) = named t

abbrev pub item_cell : Cell → ℕ → Option Cell
item_cell (items cs) i = slice_get (cells_of cs) i
item_cell _ i = None

abbrev pub untagged : List Occurrence → List Occurrence
untagged = map (λ o. record { node = o.node; tag = None })

-- ---- the three kinds

module _ (w : World) (nodes : List Node) where
  -- it has no owners, and begins at the root object
  abbrev pub initial_region : Row → RegionResult
  initial_region root = region_of (object_at w nodes [] root (record { node = 0; tag = None } ∷ []) [])

  -- it has the group's owners and fields, and begins at the group's object
  abbrev pub group_region : Group → RegionResult
  group_region g = region_of (fields_part w nodes (object_at w nodes g.owners) g.row g.path.keys no_found g.fields)

  -- what an item under merged nodes gives, by what stands at the list's node; inside it no field has an owner at first
  abbrev pub completed_item : Stream → ℕ → Spot → UsedType → Option Cell → Part
  completed_item s i spot used None = null_part []
  completed_item s i spot used (Some c) = complete spot (λ r p. object_at w nodes [] r (untagged s.field.nodes) p) (λ first all p. no_found) (item_type used) None c (s.path.keys ++ Index i ∷ [])

  abbrev pub item_of_node : Stream → ℕ → Spot → NodeKind → Part
  item_of_node s i spot (Fragment condition defer) = null_part []
  item_of_node s i spot (Field key name arguments stream) = completed_item s i spot (w.field_type s.row.kind name) (item_cell (w.cell s.row name arguments) i)

  abbrev pub item_at : Stream → ℕ → Option Node → Part
  item_at s i None = null_part []
  item_at s i (Some n) = item_of_node s i n.spot n.kind

  -- one item of a stream
  abbrev pub item_region : Stream → ℕ → RegionResult
  item_region s i = region_of (item_at s i (node_of nodes s.field))

  abbrev pub task_region : TaskWork → RegionResult
  task_region (Fields g) = group_region g
  task_region (Item s i) = item_region s i
