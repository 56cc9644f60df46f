use Rattle.std.proofs.Common.{◌≡◌, take}
use Rattle.gql_model.proofs.syntax.+copied_selections.Given as goal

abbrev pub invariant-FieldNode::copied-loop-selection :
    goal.invariant-FieldNode::copied-loop-selection
invariant-FieldNode::copied-loop-selection l = l.selections ≡ take l.selection-index l.selection-items

abbrev pub invariant-InlineNode::copied-loop-selection :
    goal.invariant-InlineNode::copied-loop-selection
invariant-InlineNode::copied-loop-selection l = l.selections ≡ take l.selection-index l.selection-items
