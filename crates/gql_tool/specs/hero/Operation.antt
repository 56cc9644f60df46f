-- The operation that a document is: its nodes, numbered in order of the text.
use Rattle.std.specs.Prelude.{ℕ, ◌+◌, List, [], ◌∷◌, ◌++◌, map, length, Option, Some, None, codes}
use Rattle.std.specs.List.{range_with_len}
use Rattle.gql_model.specs.declared.operation.Node.{Node}
use Rattle.gql_model.specs.declared.operation.NodeKind.TheVariants.{Field, Fragment}
use Rattle.gql_tool.specs.declared.hero.shape.LeafName.{LeafName}
use Rattle.gql_tool.specs.declared.hero.shape.LeafName.TheVariants.{Id, Name, Age, Boom}
use Rattle.gql_tool.specs.declared.hero.shape.Leaf.{Leaf}
use Rattle.gql_tool.specs.declared.hero.shape.Deferred.{Deferred}
use Rattle.gql_tool.specs.declared.hero.shape.HeroDocument.{HeroDocument}

abbrev pub name_of : LeafName → List ℕ
name_of Id = codes "id"
name_of Name = codes "name"
name_of Age = codes "age"
name_of Boom = codes "boom"

-- the node of a leaf below a node
abbrev pub leaf_node : ℕ → Leaf → Node
leaf_node parent leaf = record { kind = Field (name_of leaf.name) (name_of leaf.name) [] None; parent = parent; children = []; spot = leaf.spot }

-- the deferred fragment with this number, and its leaves
abbrev pub deferred_nodes : ℕ → Option Deferred → List Node
deferred_nodes number None = []
deferred_nodes number (Some deferred) =
    record { kind = Fragment None (Some (record { label = deferred.label })); parent = 1; children = range_with_len (number + 1) (length deferred.leaves); spot = deferred.spot }
    ∷ map (leaf_node number) deferred.leaves

-- the numbers of the deferred fragments below the hero
abbrev pub deferred_numbers : ℕ → Option Deferred → List ℕ
deferred_numbers number None = []
deferred_numbers number (Some deferred) = number ∷ []

-- the operation is node 0 and `hero` node 1, and behind the hero's leaves comes the deferred fragment
abbrev pub nodes_of : HeroDocument → List Node
nodes_of document =
    let leaves = length document.leaves in
    record { kind = Fragment None None; parent = 0; children = 1 ∷ []; spot = document.spot }
    ∷ record { kind = Field (codes "hero") (codes "hero") [] None; parent = 0; children = range_with_len 2 leaves ++ deferred_numbers (2 + leaves) document.deferred; spot = document.hero }
    ∷ map (leaf_node 1) document.leaves ++ deferred_nodes (2 + leaves) document.deferred
