use Rattle.std.proofs.Common.{◌≡◌, length}
use Rattle.gql_doc.specs.inner.Left.{left, text_end}
use Rattle.gql_doc.specs.inner.Reading.{many}
use Rattle.gql_doc.specs.inner.TypeReading.{begins_described, input_value}
use Rattle.gql_doc.proofs.Loops.{with_front}
use Rattle.gql_doc.proofs.parser.Parser.input_values.Given as goal

abbrev pub invariant-loop-inputs : goal.invariant-loop-inputs
invariant-loop-inputs l = record {
  reads : with_front l.inputs (many begins_described (input_value l.room) (left l.self)) ≡ many begins_described (input_value l.room) (left l.fn.self);
  same : text_end l.self ≡ text_end l.fn.self;
}

abbrev pub decreases-loop-inputs : goal.decreases-loop-inputs
decreases-loop-inputs l = length (left l.self)
