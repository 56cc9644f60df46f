use Rattle.std.proofs.Common.{◌∙◌, sym}
use Rattle.std.proofs.lemmas.Result.{err_from_is_err_and}
use Rattle.gql_doc.specs.inner.Left.{left}
use Rattle.gql_doc.specs.inner.TypeReading.{begins_described, input_value}
use Rattle.gql_doc.proofs.Loops.{with_front-turn, with_front-stop, with_front-end}
use Rattle.gql_doc.proofs.Shrinking.{input_value-shrinks}
use Rattle.gql_doc.proofs.parser.Parser.input_values.Goals as goal

pub returns-clause-reads : goal.returns-clause-reads
returns-clause-reads c = with_front-end begins_described (input_value c.args.room) c.loop-inputs.inputs (left c.loop-inputs.self) _ (sym c.next_is_described.ensures ∙ c.loop-inputs-test.false) c.loop-inputs.invariant.reads

pub returns-in_err-input_value-clause-reads : goal.returns-in_err-input_value-clause-reads
returns-in_err-input_value-clause-reads c =
    let p = err_from_is_err_and c.from_residual.result c.from_residual.ensures.1 in
    rw (p.1, p.2) (with_front-stop begins_described (input_value c.args.room) (input_value-shrinks c.args.room) c.loop-inputs.inputs (left c.loop-inputs.self) (left c.input_value.new.self) c.in_err-input_value.field-0.0 _ (sym c.next_is_described.ensures ∙ c.loop-inputs-test.true) c.in_err-input_value.ensures.reads c.loop-inputs.invariant.reads)

pub loop-inputs-preserved : goal.loop-inputs-preserved
loop-inputs-preserved c = record {
  reads = rw c.in_ok-push.ensures.ok (with_front-turn begins_described (input_value c.args.room) (input_value-shrinks c.args.room) c.loop-inputs.inputs (left c.loop-inputs.self) _ (left c.input_value.new.self) _ (sym c.next_is_described.ensures ∙ c.loop-inputs-test.true) c.in_ok-input_value.ensures.reads c.loop-inputs.invariant.reads);
  same = c.in_ok-input_value.ensures.same ∙ c.loop-inputs.invariant.same;
}

pub loop-inputs-smaller : goal.loop-inputs-smaller
loop-inputs-smaller c = input_value-shrinks c.args.room (left c.loop-inputs.self) (left c.input_value.new.self) _ c.in_ok-input_value.ensures.reads
