use Rattle.std.proofs.Common.{◌≡◌, length}
use Rattle.gql_doc.specs.inner.Left.{left, text_end}
use Rattle.gql_doc.specs.inner.Reading.{many, is_any}
use Rattle.gql_doc.specs.inner.TypeReading.{system_definition}
use Rattle.gql_doc.proofs.Loops.{with_front}
use Rattle.gql_doc.proofs.parser.Parser.system_definitions.Given as goal

abbrev pub invariant-loop-definitions : goal.invariant-loop-definitions
invariant-loop-definitions l = record {
  reads : with_front l.definitions (many is_any (system_definition l.room) (left l.self)) ≡ many is_any (system_definition l.room) (left l.fn.self);
  same : text_end l.self ≡ text_end l.fn.self;
}

abbrev pub decreases-loop-definitions : goal.decreases-loop-definitions
decreases-loop-definitions l = length (left l.self)
