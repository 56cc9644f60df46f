use Rattle.std.proofs.Common.{codes, ◌≡◌, length}
use Rattle.gql_doc.specs.inner.Left.{left, text_end}
use Rattle.gql_doc.specs.Terminals.{is_punctuator}
use Rattle.gql_doc.specs.inner.Reading.{many, variable_definition}
use Rattle.gql_doc.proofs.Loops.{with_front}
use Rattle.gql_doc.proofs.parser.Parser.some_variables.Given as goal

abbrev pub invariant-loop-variables : goal.invariant-loop-variables
invariant-loop-variables l = record {
  reads : with_front l.variables (many (is_punctuator (codes "$")) (variable_definition l.room) (left l.self)) ≡ many (is_punctuator (codes "$")) (variable_definition l.room) (left l.fn.self);
  same : text_end l.self ≡ text_end l.fn.self;
}

abbrev pub decreases-loop-variables : goal.decreases-loop-variables
decreases-loop-variables l = length (left l.self)
