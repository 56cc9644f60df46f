use Rattle.std.proofs.Common.{take}
use Rattle.gql_tree.specs.inner.United.{UnitesItems, AllJoin}
use Rattle.gql_tree.proofs.+unite.Given as goal

abbrev pub invariant-unite::united_items-loop-i : goal.invariant-unite::united_items-loop-i
invariant-unite::united_items-loop-i l = UnitesItems l.united (take l.i l.firsts) (take l.i l.others)

abbrev pub invariant-unite::united_members-loop-member : goal.invariant-unite::united_members-loop-member
invariant-unite::united_members-loop-member l = AllJoin l.others l.united (take l.member-index l.member-items)
