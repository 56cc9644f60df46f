use Rattle.std.proofs.Common.{◌≡◌, take}
use Rattle.gql_tree.proofs.value.Value.+copied.Given as goal

abbrev pub invariant-loop-item : goal.invariant-loop-item
invariant-loop-item l = l.copied ≡ take l.item-index l.item-items

abbrev pub invariant-loop-member : goal.invariant-loop-member
invariant-loop-member l = l.copied ≡ take l.member-index l.member-items
