-- All regions of an operation: the initial one, below it those of its tasks, and so on down.
use Rattle.std.specs.Prelude.{ℕ, zero, suc, ◌+◌, ◌*◌, List, length}
use Rattle.gql_tree.specs.declared.Row.{Row}
use Rattle.gql_tree.specs.declared.RegionResult.{RegionResult}
use Rattle.gql_tree.specs.declared.TaskWork.{TaskWork}
use Rattle.gql_tree.specs.Forest.{Forest, grown, none, grow, tasks_of}
use Rattle.gql_model.specs.declared.operation.Node.{Node}
use Rattle.gql_model.specs.World.{World}
use Rattle.gql_model.specs.Region.{initial_region, task_region}

-- below a region, at most so many tasks deep
abbrev pub forest_below : (TaskWork → RegionResult) → ℕ → RegionResult → Forest
forest_below run zero r = grown r none
forest_below run (suc deep) r = grown r (grow (λ t. forest_below run deep (run t)) (tasks_of r))

-- a group's fields stand in the operation below the field whose object has them, and so do those of an item below its list's,
-- so the depth is never met (`Depth`)
abbrev pub forest_of : World → List Node → RegionResult → Forest
forest_of w nodes = forest_below (task_region w nodes) (2 * length nodes + 2)

abbrev pub forest : World → List Node → Row → Forest
forest w nodes root = forest_of w nodes (initial_region w nodes root)
