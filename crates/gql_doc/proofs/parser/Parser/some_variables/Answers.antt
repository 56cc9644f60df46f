use Rattle.std.proofs.Common.{codes, ◌∙◌, sym}
use Rattle.std.proofs.lemmas.Result.{err_from_is_err_and}
use Rattle.gql_doc.specs.inner.Left.{left}
use Rattle.gql_doc.specs.Terminals.{is_punctuator}
use Rattle.gql_doc.specs.inner.Reading.{variable_definition}
use Rattle.gql_doc.proofs.Loops.{with_front-turn, with_front-stop, with_front-end}
use Rattle.gql_doc.proofs.Shrinking.{variable_definition-shrinks}
use Rattle.gql_doc.proofs.parser.Parser.some_variables.Goals as goal

pub returns-clause-reads : goal.returns-clause-reads
returns-clause-reads c = with_front-end (is_punctuator (codes "$")) (variable_definition c.args.room) c.loop-variables.variables (left c.loop-variables.self) _ (sym c.next_is.ensures ∙ c.loop-variables-test.false) c.loop-variables.invariant.reads

pub returns-in_err-variable_definition-clause-reads : goal.returns-in_err-variable_definition-clause-reads
returns-in_err-variable_definition-clause-reads c =
    let p = err_from_is_err_and c.from_residual.result c.from_residual.ensures.1 in
    rw (p.1, p.2) (with_front-stop (is_punctuator (codes "$")) (variable_definition c.args.room) (variable_definition-shrinks c.args.room) c.loop-variables.variables (left c.loop-variables.self) (left c.variable_definition.new.self) c.in_err-variable_definition.field-0.0 _ (sym c.next_is.ensures ∙ c.loop-variables-test.true) c.in_err-variable_definition.ensures.reads c.loop-variables.invariant.reads)

pub loop-variables-preserved : goal.loop-variables-preserved
loop-variables-preserved c = record {
  reads = rw c.in_ok-push.ensures.ok (with_front-turn (is_punctuator (codes "$")) (variable_definition c.args.room) (variable_definition-shrinks c.args.room) c.loop-variables.variables (left c.loop-variables.self) _ (left c.variable_definition.new.self) _ (sym c.next_is.ensures ∙ c.loop-variables-test.true) c.in_ok-variable_definition.ensures.reads c.loop-variables.invariant.reads);
  same = c.in_ok-variable_definition.ensures.same ∙ c.loop-variables.invariant.same;
}

pub loop-variables-smaller : goal.loop-variables-smaller
loop-variables-smaller c = variable_definition-shrinks c.args.room (left c.loop-variables.self) (left c.variable_definition.new.self) _ c.in_ok-variable_definition.ensures.reads
