use Rattle.std.proofs.Common.{◌∙◌, sym}
use Rattle.std.proofs.lemmas.Result.{err_from_is_err_and}
use Rattle.gql_doc.specs.inner.Left.{left}
use Rattle.gql_doc.specs.inner.TypeReading.{begins_described, enum_value}
use Rattle.gql_doc.proofs.Loops.{with_front-turn, with_front-stop, with_front-end}
use Rattle.gql_doc.proofs.Shrinking.{enum_value-shrinks}
use Rattle.gql_doc.proofs.parser.Parser.some_enum_values.Goals as goal

pub returns-clause-reads : goal.returns-clause-reads
returns-clause-reads c = with_front-end begins_described (enum_value c.args.room) c.loop-values.values (left c.loop-values.self) _ (sym c.next_is_described.ensures ∙ c.loop-values-test.false) c.loop-values.invariant.reads

pub returns-in_err-enum_value-clause-reads : goal.returns-in_err-enum_value-clause-reads
returns-in_err-enum_value-clause-reads c =
    let p = err_from_is_err_and c.from_residual.result c.from_residual.ensures.1 in
    rw (p.1, p.2) (with_front-stop begins_described (enum_value c.args.room) (enum_value-shrinks c.args.room) c.loop-values.values (left c.loop-values.self) (left c.enum_value.new.self) c.in_err-enum_value.field-0.0 _ (sym c.next_is_described.ensures ∙ c.loop-values-test.true) c.in_err-enum_value.ensures.reads c.loop-values.invariant.reads)

pub loop-values-preserved : goal.loop-values-preserved
loop-values-preserved c = record {
  reads = rw c.in_ok-push.ensures.ok (with_front-turn begins_described (enum_value c.args.room) (enum_value-shrinks c.args.room) c.loop-values.values (left c.loop-values.self) _ (left c.enum_value.new.self) _ (sym c.next_is_described.ensures ∙ c.loop-values-test.true) c.in_ok-enum_value.ensures.reads c.loop-values.invariant.reads);
  same = c.in_ok-enum_value.ensures.same ∙ c.loop-values.invariant.same;
}

pub loop-values-smaller : goal.loop-values-smaller
loop-values-smaller c = enum_value-shrinks c.args.room (left c.loop-values.self) (left c.enum_value.new.self) _ c.in_ok-enum_value.ensures.reads
