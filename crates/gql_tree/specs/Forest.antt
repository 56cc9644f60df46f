-- A region with, below it, the regions of the tasks that it made, and so on down.
use Rattle.std.specs.Prelude.{ℕ, zero, suc, ◌+◌, ◌-◌, List, [], ◌∷◌, ◌++◌, map, flat_map}
use Rattle.gql_tree.specs.declared.value.Value.{Value}
use Rattle.gql_tree.specs.declared.value.Value.TheVariants as v
use Rattle.gql_tree.specs.declared.delivery.Outcome.{Outcome}
use Rattle.gql_tree.specs.declared.delivery.Outcome.TheVariants.{Good, Failed}
use Rattle.gql_tree.specs.declared.delivery.Stream.{Stream}
use Rattle.gql_tree.specs.declared.delivery.RegionResult.{RegionResult}
use Rattle.gql_tree.specs.declared.delivery.TaskWork.{TaskWork}
use Rattle.gql_tree.specs.declared.delivery.TaskWork.TheVariants.{Fields, Item}

mutual
  -- a region with what is below it
  pub data Forest : Type 0 where
    grown : RegionResult → Branches → Forest

  -- the tasks of a region, each with the forest of its own region
  pub data Branches : Type 0 where
    none : Branches
    more : TaskWork → Forest → Branches → Branches

-- the value that a region gives: one that failed gives null, and a response of it alone has null for its `data`
abbrev pub outcome_value : Outcome → Value
outcome_value (Good x) = x
outcome_value Failed = v.Null

-- the region at the root
abbrev pub region : Forest → RegionResult
region (grown r bs) = r

-- what is below it
abbrev pub branches : Forest → Branches
branches (grown r bs) = bs

-- so many numbers from the first on
abbrev pub numbers : ℕ → ℕ → List ℕ
numbers i zero = []
numbers i (suc n) = i ∷ numbers (i + 1) n

-- the items of a stream that are still to come
abbrev pub items_to_come : Stream → List TaskWork
items_to_come s = map (Item s) (numbers s.first (s.length - s.first))

-- the tasks that a region makes: its groups in group order, then the items of its streams by path and index
abbrev pub tasks_of : RegionResult → List TaskWork
tasks_of r = map Fields r.groups ++ flat_map items_to_come r.streams

-- the forest of each task, in order
abbrev pub grow : (TaskWork → Forest) → List TaskWork → Branches
grow f [] = none
grow f (t ∷ ts) = more t (f t) (grow f ts)
