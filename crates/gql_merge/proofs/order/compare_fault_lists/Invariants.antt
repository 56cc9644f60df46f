use Rattle.std.proofs.Common.{◌≡◌, drop}
use Rattle.std.specs.Cmp.Lexicographic.{slice_cmp}
use Rattle.gql_merge.specs.Order.{fault_cmp}
use Rattle.gql_merge.proofs.order.compare_fault_lists.Given as goal

abbrev pub invariant-loop-i : goal.invariant-loop-i
invariant-loop-i l = slice_cmp fault_cmp (drop l.i l.first) (drop l.i l.second) ≡ slice_cmp fault_cmp l.first l.second
