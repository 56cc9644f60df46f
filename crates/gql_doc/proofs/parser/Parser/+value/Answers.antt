use Rattle.std.proofs.Common.{◌∙◌, sym}
use Rattle.std.proofs.lemmas.Result.{err_from_is_err_and}
use Rattle.gql_doc.specs.inner.Left.{left}
use Rattle.gql_doc.specs.Terminals.{is_name}
use Rattle.gql_doc.specs.inner.Reading.{value, argument, begins_value}
use Rattle.gql_doc.proofs.Loops.{with_front-turn, with_front-stop, with_front-end}
use Rattle.gql_doc.proofs.Shrinking.{value-shrinks, argument-shrinks}
use Rattle.gql_doc.proofs.parser.Parser.+value.Goals as goal

pub values-returns-clause-reads : goal.values-returns-clause-reads
values-returns-clause-reads t c = with_front-end begins_value (value c.args.constant c.args.room) c.loop-values.values (left c.loop-values.self) _ (sym c.next_is_value.ensures ∙ c.loop-values-test.false) c.loop-values.invariant.reads

pub values-returns-in_err-value-clause-reads : goal.values-returns-in_err-value-clause-reads
values-returns-in_err-value-clause-reads t c =
    let p = err_from_is_err_and c.from_residual.result c.from_residual.ensures.1 in
    rw (p.1, p.2) (with_front-stop begins_value (value c.args.constant c.args.room) (value-shrinks c.args.constant c.args.room) c.loop-values.values (left c.loop-values.self) (left c.value.new.self) c.in_err-value.field-0.0 _ (sym c.next_is_value.ensures ∙ c.loop-values-test.true) c.in_err-value.ensures.reads c.loop-values.invariant.reads)

pub values-loop-values-preserved : goal.values-loop-values-preserved
values-loop-values-preserved t c = record {
  reads = rw c.in_ok-push.ensures.ok (with_front-turn begins_value (value c.args.constant c.args.room) (value-shrinks c.args.constant c.args.room) c.loop-values.values (left c.loop-values.self) _ (left c.value.new.self) _ (sym c.next_is_value.ensures ∙ c.loop-values-test.true) c.in_ok-value.ensures.reads c.loop-values.invariant.reads);
  same = c.in_ok-value.ensures.same ∙ c.loop-values.invariant.same;
}

pub values-loop-values-smaller : goal.values-loop-values-smaller
values-loop-values-smaller t c = value-shrinks c.args.constant c.args.room (left c.loop-values.self) (left c.value.new.self) _ c.in_ok-value.ensures.reads

pub members-returns-clause-reads : goal.members-returns-clause-reads
members-returns-clause-reads t c = with_front-end is_name (argument (value c.args.constant c.args.room)) c.loop-members.members (left c.loop-members.self) _ (sym c.next_is.ensures ∙ c.loop-members-test.false) c.loop-members.invariant.reads

pub members-returns-in_err-argument-clause-reads : goal.members-returns-in_err-argument-clause-reads
members-returns-in_err-argument-clause-reads t c =
    let p = err_from_is_err_and c.from_residual.result c.from_residual.ensures.1 in
    rw (p.1, p.2) (with_front-stop is_name (argument (value c.args.constant c.args.room)) (argument-shrinks c.args.constant c.args.room) c.loop-members.members (left c.loop-members.self) (left c.argument.new.self) c.in_err-argument.field-0.0 _ (sym c.next_is.ensures ∙ c.loop-members-test.true) c.in_err-argument.ensures.reads c.loop-members.invariant.reads)

pub members-loop-members-preserved : goal.members-loop-members-preserved
members-loop-members-preserved t c = record {
  reads = rw c.in_ok-push.ensures.ok (with_front-turn is_name (argument (value c.args.constant c.args.room)) (argument-shrinks c.args.constant c.args.room) c.loop-members.members (left c.loop-members.self) _ (left c.argument.new.self) _ (sym c.next_is.ensures ∙ c.loop-members-test.true) c.in_ok-argument.ensures.reads c.loop-members.invariant.reads);
  same = c.in_ok-argument.ensures.same ∙ c.loop-members.invariant.same;
}

pub members-loop-members-smaller : goal.members-loop-members-smaller
members-loop-members-smaller t c = argument-shrinks c.args.constant c.args.room (left c.loop-members.self) (left c.argument.new.self) _ c.in_ok-argument.ensures.reads
