use Rattle.std.proofs.Common.{◌≡◌, ◌+◌, ◌*◌, length}
use Rattle.gql_doc.specs.inner.Left.{left, text_end}
use Rattle.gql_doc.specs.Terminals.{is_name}
use Rattle.gql_doc.specs.inner.Reading.{many, begins_value, value, argument}
use Rattle.gql_doc.proofs.Loops.{with_front}
use Rattle.gql_doc.proofs.parser.Parser.+value.Given as goal

abbrev pub decreases-value : goal.decreases-value
decreases-value l = 6 * l.room + 1

abbrev pub decreases-nested : goal.decreases-nested
decreases-nested l = 6 * l.room

abbrev pub decreases-list_value : goal.decreases-list_value
decreases-list_value l = 6 * l.room + 3

abbrev pub decreases-object_value : goal.decreases-object_value
decreases-object_value l = 6 * l.room + 4

abbrev pub decreases-values : goal.decreases-values
decreases-values l = 6 * l.room + 2

abbrev pub decreases-members : goal.decreases-members
decreases-members l = 6 * l.room + 3

abbrev pub decreases-argument : goal.decreases-argument
decreases-argument l = 6 * l.room + 2

abbrev pub invariant-values-loop-values : goal.invariant-values-loop-values
invariant-values-loop-values l = record {
  reads : with_front l.values (many begins_value (value l.constant l.room) (left l.self)) ≡ many begins_value (value l.constant l.room) (left l.fn.self);
  same : text_end l.self ≡ text_end l.fn.self;
}

abbrev pub decreases-values-loop-values : goal.decreases-values-loop-values
decreases-values-loop-values l = length (left l.self)

abbrev pub invariant-members-loop-members : goal.invariant-members-loop-members
invariant-members-loop-members l = record {
  reads : with_front l.members (many is_name (argument (value l.constant l.room)) (left l.self)) ≡ many is_name (argument (value l.constant l.room)) (left l.fn.self);
  same : text_end l.self ≡ text_end l.fn.self;
}

abbrev pub decreases-members-loop-members : goal.decreases-members-loop-members
decreases-members-loop-members l = length (left l.self)
