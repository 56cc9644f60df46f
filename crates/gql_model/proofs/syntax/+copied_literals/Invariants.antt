use Rattle.std.proofs.Common.{◌≡◌, take}
use Rattle.gql_model.proofs.syntax.+copied_literals.Given as goal

abbrev pub invariant-Literal::copied-loop-item :
    goal.invariant-Literal::copied-loop-item
invariant-Literal::copied-loop-item l = l.copied ≡ take l.item-index l.item-items

abbrev pub invariant-Literal::copied-loop-member :
    goal.invariant-Literal::copied-loop-member
invariant-Literal::copied-loop-member l = l.copied ≡ take l.member-index l.member-items
