use Rattle.std.proofs.Common.{◌≡◌, ◌↔◌, drop, length}
use Rattle.gql_tree.specs.Same.{SameItems}
use Rattle.gql_tree.specs.inner.SameLayer.{FoundIn}
use Rattle.gql_tree.proofs.value.+same.Given as goal

abbrev pub invariant-found_in-loop-member : goal.invariant-found_in-loop-member
invariant-found_in-loop-member l = FoundIn l.others (drop l.member-index l.member-items) ↔ FoundIn l.others l.member-items

abbrev pub invariant-same_items-loop-i : goal.invariant-same_items-loop-i
invariant-same_items-loop-i l = (length l.first ≡ length l.second) × (SameItems (drop l.i l.first) (drop l.i l.second) ↔ SameItems l.first l.second)
