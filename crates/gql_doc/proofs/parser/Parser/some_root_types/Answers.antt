use Rattle.std.proofs.Common.{◌∙◌, sym}
use Rattle.std.proofs.lemmas.Result.{err_from_is_err_and}
use Rattle.gql_doc.specs.inner.Left.{left}
use Rattle.gql_doc.specs.Terminals.{is_name}
use Rattle.gql_doc.specs.inner.TypeReading.{root_type}
use Rattle.gql_doc.proofs.Loops.{with_front-turn, with_front-stop, with_front-end}
use Rattle.gql_doc.proofs.Shrinking.{root_type-shrinks}
use Rattle.gql_doc.proofs.parser.Parser.some_root_types.Goals as goal

pub returns-clause-reads : goal.returns-clause-reads
returns-clause-reads c = with_front-end is_name root_type c.loop-roots.roots (left c.loop-roots.self) _ (sym c.next_is.ensures ∙ c.loop-roots-test.false) c.loop-roots.invariant.reads

pub returns-in_err-root_type-clause-reads : goal.returns-in_err-root_type-clause-reads
returns-in_err-root_type-clause-reads c =
    let p = err_from_is_err_and c.from_residual.result c.from_residual.ensures.1 in
    rw (p.1, p.2) (with_front-stop is_name root_type root_type-shrinks c.loop-roots.roots (left c.loop-roots.self) (left c.root_type.new.self) c.in_err-root_type.field-0.0 _ (sym c.next_is.ensures ∙ c.loop-roots-test.true) c.in_err-root_type.ensures.reads c.loop-roots.invariant.reads)

pub loop-roots-preserved : goal.loop-roots-preserved
loop-roots-preserved c = record {
  reads = rw c.in_ok-push.ensures.ok (with_front-turn is_name root_type root_type-shrinks c.loop-roots.roots (left c.loop-roots.self) _ (left c.root_type.new.self) _ (sym c.next_is.ensures ∙ c.loop-roots-test.true) c.in_ok-root_type.ensures.reads c.loop-roots.invariant.reads);
  same = c.in_ok-root_type.ensures.same ∙ c.loop-roots.invariant.same;
}

pub loop-roots-smaller : goal.loop-roots-smaller
loop-roots-smaller c = root_type-shrinks (left c.loop-roots.self) (left c.root_type.new.self) _ c.in_ok-root_type.ensures.reads
