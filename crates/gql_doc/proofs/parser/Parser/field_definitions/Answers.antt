use Rattle.std.proofs.Common.{◌∙◌, sym}
use Rattle.std.proofs.lemmas.Result.{err_from_is_err_and}
use Rattle.gql_doc.specs.inner.Left.{left}
use Rattle.gql_doc.specs.inner.TypeReading.{begins_described, field_definition}
use Rattle.gql_doc.proofs.Loops.{with_front-turn, with_front-stop, with_front-end}
use Rattle.gql_doc.proofs.Shrinking.{field_definition-shrinks}
use Rattle.gql_doc.proofs.parser.Parser.field_definitions.Goals as goal

pub returns-clause-reads : goal.returns-clause-reads
returns-clause-reads c = with_front-end begins_described (field_definition c.args.room) c.loop-fields.fields (left c.loop-fields.self) _ (sym c.next_is_described.ensures ∙ c.loop-fields-test.false) c.loop-fields.invariant.reads

pub returns-in_err-field_definition-clause-reads : goal.returns-in_err-field_definition-clause-reads
returns-in_err-field_definition-clause-reads c =
    let p = err_from_is_err_and c.from_residual.result c.from_residual.ensures.1 in
    rw (p.1, p.2) (with_front-stop begins_described (field_definition c.args.room) (field_definition-shrinks c.args.room) c.loop-fields.fields (left c.loop-fields.self) (left c.field_definition.new.self) c.in_err-field_definition.field-0.0 _ (sym c.next_is_described.ensures ∙ c.loop-fields-test.true) c.in_err-field_definition.ensures.reads c.loop-fields.invariant.reads)

pub loop-fields-preserved : goal.loop-fields-preserved
loop-fields-preserved c = record {
  reads = rw c.in_ok-push.ensures.ok (with_front-turn begins_described (field_definition c.args.room) (field_definition-shrinks c.args.room) c.loop-fields.fields (left c.loop-fields.self) _ (left c.field_definition.new.self) _ (sym c.next_is_described.ensures ∙ c.loop-fields-test.true) c.in_ok-field_definition.ensures.reads c.loop-fields.invariant.reads);
  same = c.in_ok-field_definition.ensures.same ∙ c.loop-fields.invariant.same;
}

pub loop-fields-smaller : goal.loop-fields-smaller
loop-fields-smaller c = field_definition-shrinks c.args.room (left c.loop-fields.self) (left c.field_definition.new.self) _ c.in_ok-field_definition.ensures.reads
