use Rattle.std.proofs.Common.{◌≡◌, drop}
use Rattle.gql_tree.specs.Order.{path_cmp}
use Rattle.gql_tree.proofs.path.compare_keys.Given as goal

abbrev pub invariant-loop-i : goal.invariant-loop-i
invariant-loop-i l = path_cmp (drop l.i l.first) (drop l.i l.second) ≡ path_cmp l.first l.second
