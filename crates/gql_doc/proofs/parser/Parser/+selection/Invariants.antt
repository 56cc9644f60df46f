use Rattle.std.proofs.Common.{◌≡◌, ◌+◌, ◌*◌, length}
use Rattle.gql_doc.specs.inner.Left.{left, text_end}
use Rattle.gql_doc.specs.inner.Reading.{many, begins_selection, any_selection, selections}
use Rattle.gql_doc.proofs.Loops.{with_front}
use Rattle.gql_doc.proofs.parser.Parser.+selection.Given as goal

abbrev pub decreases-selection_set : goal.decreases-selection_set
decreases-selection_set l = 8 * l.room

abbrev pub decreases-selections : goal.decreases-selections
decreases-selections l = 8 * l.room + 1

abbrev pub decreases-maybe_selections : goal.decreases-maybe_selections
decreases-maybe_selections l = 8 * l.room + 2

abbrev pub decreases-behind_names : goal.decreases-behind_names
decreases-behind_names l = 8 * l.room + 3

abbrev pub decreases-behind_name : goal.decreases-behind_name
decreases-behind_name l = 8 * l.room + 4

abbrev pub decreases-field : goal.decreases-field
decreases-field l = 8 * l.room + 5

abbrev pub decreases-inline_fragment : goal.decreases-inline_fragment
decreases-inline_fragment l = 8 * l.room + 2

abbrev pub decreases-selection : goal.decreases-selection
decreases-selection l = 8 * l.room + 6

abbrev pub decreases-some_selections : goal.decreases-some_selections
decreases-some_selections l = 8 * l.room + 7

abbrev pub invariant-some_selections-loop-selections : goal.invariant-some_selections-loop-selections
invariant-some_selections-loop-selections l = record {
  reads : with_front l.selections (many begins_selection (any_selection l.room (selections l.room)) (left l.self)) ≡ many begins_selection (any_selection l.room (selections l.room)) (left l.fn.self);
  same : text_end l.self ≡ text_end l.fn.self;
}

abbrev pub decreases-some_selections-loop-selections : goal.decreases-some_selections-loop-selections
decreases-some_selections-loop-selections l = length (left l.self)
