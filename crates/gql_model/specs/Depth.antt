-- That the bounds on depth are never met: what is collected, executed and grown is what the recursion without a bound says.
use Rattle.std.specs.Prelude.{◌≡◌, ℕ, suc, ◌<◌, ◌≤◌, List, [], ◌∷◌, flat_map, slice_get, Option, Some, All}
use Rattle.gql_tree.specs.declared.Key.{Key}
use Rattle.gql_tree.specs.declared.FragId.{FragId}
use Rattle.gql_tree.specs.declared.Occurrence.{Occurrence}
use Rattle.gql_tree.specs.declared.Row.{Row}
use Rattle.gql_tree.specs.declared.RegionResult.{RegionResult}
use Rattle.gql_tree.specs.Forest.{grown, grow, tasks_of}
use Rattle.gql_model.specs.declared.operation.Node.{Node}
use Rattle.gql_model.specs.World.{World}
use Rattle.gql_model.specs.Collect.{met, met_at, met_child, children_of}
use Rattle.gql_model.specs.Owners.{ancestors}
use Rattle.gql_model.specs.Objects.{object_at, object_from}
use Rattle.gql_model.specs.Region.{task_region}
use Rattle.gql_model.specs.Operations.{forest_of}

-- nodes are numbered in order of the text: a child comes after its parent
pub record IsNumbered (nodes : List Node) : Type 0 where
  pub children : (n : ℕ) (node : Node) → slice_get nodes n ≡ Some node → All (λ c. n < c) node.children
  pub parents : (n : ℕ) (node : Node) → slice_get nodes (suc n) ≡ Some node → node.parent ≤ n

-- collecting goes through the children of a node, and from a fragment through its own
abbrev pub CollectingUnfolds : World → List Node → Type 0
CollectingUnfolds w nodes = (kind : ℕ) (path : List Key) (tag : Option FragId) (n : ℕ) → met_at w nodes kind path tag n ≡ flat_map (λ c. met_child w nodes kind path (met_at w nodes kind path) tag c (slice_get nodes c)) (children_of (slice_get nodes n))

-- the operation has no ancestor; those of another node are its parent and the parent's ancestors
pub record AncestorsUnfold (nodes : List Node) : Type 0 where
  pub operation : ancestors nodes 0 ≡ []
  pub others : (n : ℕ) (node : Node) → slice_get nodes (suc n) ≡ Some node → ancestors nodes (suc n) ≡ node.parent ∷ ancestors nodes node.parent

-- an object is made of what collecting meets at it, and of the objects below
abbrev pub ObjectsUnfold : World → List Node → Type 0
ObjectsUnfold w nodes = (own : List FragId) (row : Row) (os : List Occurrence) (path : List Key) → object_at w nodes own row os path ≡ object_from w nodes (object_at w nodes own) own row path (met w nodes row.kind path os)

-- a region has below it the forests of its tasks' regions
abbrev pub ForestsUnfold : World → List Node → Type 0
ForestsUnfold w nodes = (r : RegionResult) → forest_of w nodes r ≡ grown r (grow (λ t. forest_of w nodes (task_region w nodes t)) (tasks_of r))
