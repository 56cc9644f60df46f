use Rattle.std.proofs.Common.{◌≡◌, length}
use Rattle.gql_doc.specs.inner.Left.{left, text_end}
use Rattle.gql_doc.specs.Terminals.{is_name}
use Rattle.gql_doc.specs.inner.Reading.{many}
use Rattle.gql_doc.specs.inner.TypeReading.{root_type}
use Rattle.gql_doc.proofs.Loops.{with_front}
use Rattle.gql_doc.proofs.parser.Parser.some_root_types.Given as goal

abbrev pub invariant-loop-roots : goal.invariant-loop-roots
invariant-loop-roots l = record {
  reads : with_front l.roots (many is_name root_type (left l.self)) ≡ many is_name root_type (left l.fn.self);
  same : text_end l.self ≡ text_end l.fn.self;
}

abbrev pub decreases-loop-roots : goal.decreases-loop-roots
decreases-loop-roots l = length (left l.self)
