use Rattle.std.proofs.Common.{◌≡◌, length}
use Rattle.gql_doc.specs.inner.Left.{left, text_end}
use Rattle.gql_doc.specs.inner.Reading.{many}
use Rattle.gql_doc.specs.inner.TypeReading.{begins_described, field_definition}
use Rattle.gql_doc.proofs.Loops.{with_front}
use Rattle.gql_doc.proofs.parser.Parser.field_definitions.Given as goal

abbrev pub invariant-loop-fields : goal.invariant-loop-fields
invariant-loop-fields l = record {
  reads : with_front l.fields (many begins_described (field_definition l.room) (left l.self)) ≡ many begins_described (field_definition l.room) (left l.fn.self);
  same : text_end l.self ≡ text_end l.fn.self;
}

abbrev pub decreases-loop-fields : goal.decreases-loop-fields
decreases-loop-fields l = length (left l.self)
