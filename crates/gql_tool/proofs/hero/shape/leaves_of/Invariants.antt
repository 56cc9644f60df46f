use Rattle.std.proofs.Common.{◌≡◌, ◌++◌, ◌≤◌, length, drop}
use Rattle.gql_tool.specs.hero.Shape.{leaves_of}
use Rattle.gql_tool.proofs.hero.shape.leaves_of.Given as goal

abbrev pub invariant-loop-selection : goal.invariant-loop-selection
invariant-loop-selection l = record {
  value : l.leaves ++ leaves_of (drop l.selection-index l.selections) ≡ leaves_of l.selections;
  within : length l.leaves ≤ l.selection-index;
}
