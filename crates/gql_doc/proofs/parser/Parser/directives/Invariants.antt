use Rattle.std.proofs.Common.{codes, ◌≡◌, length}
use Rattle.gql_doc.specs.inner.Left.{left, text_end}
use Rattle.gql_doc.specs.Terminals.{is_punctuator}
use Rattle.gql_doc.specs.inner.Reading.{many, directive}
use Rattle.gql_doc.proofs.Loops.{with_front}
use Rattle.gql_doc.proofs.parser.Parser.directives.Given as goal

abbrev pub invariant-loop-directives : goal.invariant-loop-directives
invariant-loop-directives l = record {
  reads : with_front l.directives (many (is_punctuator (codes "@")) (directive l.constant l.room) (left l.self)) ≡ many (is_punctuator (codes "@")) (directive l.constant l.room) (left l.fn.self);
  same : text_end l.self ≡ text_end l.fn.self;
}

abbrev pub decreases-loop-directives : goal.decreases-loop-directives
decreases-loop-directives l = length (left l.self)
