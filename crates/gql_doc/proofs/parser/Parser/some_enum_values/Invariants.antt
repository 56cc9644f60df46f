use Rattle.std.proofs.Common.{◌≡◌, length}
use Rattle.gql_doc.specs.inner.Left.{left, text_end}
use Rattle.gql_doc.specs.inner.Reading.{many}
use Rattle.gql_doc.specs.inner.TypeReading.{begins_described, enum_value}
use Rattle.gql_doc.proofs.Loops.{with_front}
use Rattle.gql_doc.proofs.parser.Parser.some_enum_values.Given as goal

abbrev pub invariant-loop-values : goal.invariant-loop-values
invariant-loop-values l = record {
  reads : with_front l.values (many begins_described (enum_value l.room) (left l.self)) ≡ many begins_described (enum_value l.room) (left l.fn.self);
  same : text_end l.self ≡ text_end l.fn.self;
}

abbrev pub decreases-loop-values : goal.decreases-loop-values
decreases-loop-values l = length (left l.self)
