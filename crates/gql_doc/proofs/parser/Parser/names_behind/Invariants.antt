use Rattle.std.proofs.Common.{◌≡◌, length}
use Rattle.gql_doc.specs.inner.Left.{left, text_end}
use Rattle.gql_doc.specs.Terminals.{is_punctuator}
use Rattle.gql_doc.specs.inner.Reading.{many}
use Rattle.gql_doc.specs.inner.TypeReading.{separated, names_behind}
use Rattle.gql_doc.proofs.Loops.{with_front}
use Rattle.gql_doc.proofs.parser.Parser.names_behind.Given as goal

abbrev pub invariant-loop-names : goal.invariant-loop-names
invariant-loop-names l = record {
  reads : with_front l.names (many (is_punctuator l.separator) (separated l.separator) (left l.self)) ≡ names_behind l.separator l.fn.first (left l.fn.self);
  same : text_end l.self ≡ text_end l.fn.self;
}

abbrev pub decreases-loop-names : goal.decreases-loop-names
decreases-loop-names l = length (left l.self)
