use Rattle.std.proofs.Common.{codes, ◌∙◌, sym}
use Rattle.std.proofs.lemmas.Result.{err_from_is_err_and}
use Rattle.gql_doc.specs.inner.Left.{left}
use Rattle.gql_doc.specs.Terminals.{is_punctuator}
use Rattle.gql_doc.specs.inner.Reading.{directive, directives}
use Rattle.gql_doc.proofs.Loops.{with_front-turn, with_front-stop, with_front-end}
use Rattle.gql_doc.proofs.Shrinking.{directive-shrinks}
use Rattle.gql_doc.proofs.parser.Parser.directives.Goals as goal

pub returns-clause-reads : goal.returns-clause-reads
unfolding directives
returns-clause-reads c = with_front-end (is_punctuator (codes "@")) (directive c.args.constant c.args.room) c.loop-directives.directives (left c.loop-directives.self) _ (sym c.next_is.ensures ∙ c.loop-directives-test.false) c.loop-directives.invariant.reads

pub returns-in_err-directive-clause-reads : goal.returns-in_err-directive-clause-reads
unfolding directives
returns-in_err-directive-clause-reads c =
    let p = err_from_is_err_and c.from_residual.result c.from_residual.ensures.1 in
    rw (p.1, p.2) (with_front-stop (is_punctuator (codes "@")) (directive c.args.constant c.args.room) (directive-shrinks c.args.constant c.args.room) c.loop-directives.directives (left c.loop-directives.self) (left c.directive.new.self) c.in_err-directive.field-0.0 _ (sym c.next_is.ensures ∙ c.loop-directives-test.true) c.in_err-directive.ensures.reads c.loop-directives.invariant.reads)

pub loop-directives-preserved : goal.loop-directives-preserved
unfolding directives
loop-directives-preserved c = record {
  reads = rw c.in_ok-push.ensures.ok (with_front-turn (is_punctuator (codes "@")) (directive c.args.constant c.args.room) (directive-shrinks c.args.constant c.args.room) c.loop-directives.directives (left c.loop-directives.self) _ (left c.directive.new.self) _ (sym c.next_is.ensures ∙ c.loop-directives-test.true) c.in_ok-directive.ensures.reads c.loop-directives.invariant.reads);
  same = c.in_ok-directive.ensures.same ∙ c.loop-directives.invariant.same;
}

pub loop-directives-smaller : goal.loop-directives-smaller
loop-directives-smaller c = directive-shrinks c.args.constant c.args.room (left c.loop-directives.self) (left c.directive.new.self) _ c.in_ok-directive.ensures.reads
