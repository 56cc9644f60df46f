use Rattle.std.proofs.Common.{◌∙◌, sym}
use Rattle.std.proofs.lemmas.Result.{err_from_is_err_and}
use Rattle.gql_doc.specs.inner.Left.{left}
use Rattle.gql_doc.specs.inner.Reading.{begins_selection, any_selection, selections}
use Rattle.gql_doc.proofs.Loops.{with_front-turn, with_front-stop, with_front-end}
use Rattle.gql_doc.proofs.Shrinking.{selection-shrinks}
use Rattle.gql_doc.proofs.PlainFields.{plain-made, plain-stopped}
use Rattle.gql_doc.proofs.parser.Parser.+selection.Goals as goal

pub field-returns-clause-reads : goal.field-returns-clause-reads
field-returns-clause-reads t c =
    plain-made c.args.room (selections c.args.room) _ (left c.args.self.now) (left c.take.new.self) (left c.maybe_selections.new.self) c.in_ok-selections.selections c.plain_field.result
    c.in_ok-first.ensures.reads (sym c.next_is.ensures ∙ c.if-next_is.false) c.in_ok-selections.ensures.reads c.plain_field.ensures

pub field-returns-in_err-selections-clause-reads : goal.field-returns-in_err-selections-clause-reads
field-returns-in_err-selections-clause-reads t c =
    let p = err_from_is_err_and c.from_residual-in_err-selections.result c.from_residual-in_err-selections.ensures.1 in
    rw (p.1, p.2) (plain-stopped c.args.room (selections c.args.room) _ (left c.args.self.now) (left c.take.new.self) (left c.maybe_selections.new.self) c.in_err-selections.field-0.0
    c.in_ok-first.ensures.reads (sym c.next_is.ensures ∙ c.if-next_is.false) c.in_err-selections.ensures.reads)

pub some_selections-returns-clause-reads : goal.some_selections-returns-clause-reads
some_selections-returns-clause-reads t c = with_front-end begins_selection (any_selection c.args.room (selections c.args.room)) c.loop-selections.selections (left c.loop-selections.self) _ (sym c.next_is_selection.ensures ∙ c.loop-selections-test.false) c.loop-selections.invariant.reads

pub some_selections-returns-in_err-selection-clause-reads : goal.some_selections-returns-in_err-selection-clause-reads
some_selections-returns-in_err-selection-clause-reads t c =
    let p = err_from_is_err_and c.from_residual.result c.from_residual.ensures.1 in
    rw (p.1, p.2) (with_front-stop begins_selection (any_selection c.args.room (selections c.args.room)) (selection-shrinks c.args.room) c.loop-selections.selections (left c.loop-selections.self) (left c.selection.new.self) c.in_err-selection.field-0.0 _ (sym c.next_is_selection.ensures ∙ c.loop-selections-test.true) c.in_err-selection.ensures.reads c.loop-selections.invariant.reads)

pub some_selections-loop-selections-preserved : goal.some_selections-loop-selections-preserved
some_selections-loop-selections-preserved t c = record {
  reads = rw c.in_ok-push.ensures.ok (with_front-turn begins_selection (any_selection c.args.room (selections c.args.room)) (selection-shrinks c.args.room) c.loop-selections.selections (left c.loop-selections.self) _ (left c.selection.new.self) _ (sym c.next_is_selection.ensures ∙ c.loop-selections-test.true) c.in_ok-selection.ensures.reads c.loop-selections.invariant.reads);
  same = c.in_ok-selection.ensures.same ∙ c.loop-selections.invariant.same;
}

pub some_selections-loop-selections-smaller : goal.some_selections-loop-selections-smaller
some_selections-loop-selections-smaller t c = selection-shrinks c.args.room (left c.loop-selections.self) (left c.selection.new.self) _ c.in_ok-selection.ensures.reads
