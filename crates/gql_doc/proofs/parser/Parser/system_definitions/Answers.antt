use Rattle.std.proofs.Common.{◌∙◌, sym}
use Rattle.std.proofs.lemmas.Result.{err_from_is_err_and}
use Rattle.gql_doc.specs.inner.Left.{left}
use Rattle.gql_doc.specs.inner.Reading.{is_any}
use Rattle.gql_doc.specs.inner.TypeReading.{system_definition}
use Rattle.gql_doc.proofs.Loops.{with_front-turn, with_front-stop, with_front-end}
use Rattle.gql_doc.proofs.Shrinking.{system_definition-shrinks}
use Rattle.gql_doc.proofs.parser.Parser.system_definitions.Goals as goal

pub returns-clause-reads : goal.returns-clause-reads
returns-clause-reads c = with_front-end is_any (system_definition c.args.room) c.loop-definitions.definitions (left c.loop-definitions.self) _ (sym c.has_next.ensures ∙ c.loop-definitions-test.false) c.loop-definitions.invariant.reads

pub returns-in_err-system_definition-clause-reads : goal.returns-in_err-system_definition-clause-reads
returns-in_err-system_definition-clause-reads c =
    let p = err_from_is_err_and c.from_residual.result c.from_residual.ensures.1 in
    rw (p.1, p.2) (with_front-stop is_any (system_definition c.args.room) (system_definition-shrinks c.args.room) c.loop-definitions.definitions (left c.loop-definitions.self) (left c.system_definition.new.self) c.in_err-system_definition.field-0.0 _ (sym c.has_next.ensures ∙ c.loop-definitions-test.true) c.in_err-system_definition.ensures.reads c.loop-definitions.invariant.reads)

pub loop-definitions-preserved : goal.loop-definitions-preserved
loop-definitions-preserved c = record {
  reads = rw c.in_ok-push.ensures.ok (with_front-turn is_any (system_definition c.args.room) (system_definition-shrinks c.args.room) c.loop-definitions.definitions (left c.loop-definitions.self) _ (left c.system_definition.new.self) _ (sym c.has_next.ensures ∙ c.loop-definitions-test.true) c.in_ok-system_definition.ensures.reads c.loop-definitions.invariant.reads);
  same = c.in_ok-system_definition.ensures.same ∙ c.loop-definitions.invariant.same;
}

pub loop-definitions-smaller : goal.loop-definitions-smaller
loop-definitions-smaller c = system_definition-shrinks c.args.room (left c.loop-definitions.self) (left c.system_definition.new.self) _ c.in_ok-system_definition.ensures.reads
