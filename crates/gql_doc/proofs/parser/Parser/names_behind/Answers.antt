use Rattle.std.proofs.Common.{◌∙◌, sym, refl}
use Rattle.gql_doc.specs.inner.Left.{left}
use Rattle.gql_doc.specs.Terminals.{is_punctuator}
use Rattle.gql_doc.specs.inner.TypeReading.{separated, names_behind}
use Rattle.gql_doc.proofs.Loops.{with_front-turn}
use Rattle.gql_doc.proofs.Shrinking.{separated-shrinks}
use Rattle.gql_doc.proofs.parser.Parser.names_behind.Goals as goal

pub loop-names-init : goal.loop-names-init
unfolding names_behind
loop-names-init c = record { reads = rw (c.in_ok-push.ensures.ok, c.new-names.ensures) refl; same = refl }

pub loop-names-preserved : goal.loop-names-preserved
loop-names-preserved c = record {
  reads = rw c.in_ok-push-2.ensures.ok (with_front-turn (is_punctuator c.args.separator.now) (separated c.args.separator.now) (separated-shrinks c.args.separator.now) c.loop-names.names (left c.loop-names.self) _ (left c.separated.new.self) _ (sym c.next_is.ensures ∙ c.loop-names-test.true) c.in_ok-separated.ensures.reads c.loop-names.invariant.reads);
  same = c.in_ok-separated.ensures.same ∙ c.loop-names.invariant.same;
}

pub loop-names-smaller : goal.loop-names-smaller
loop-names-smaller c = separated-shrinks c.args.separator.now (left c.loop-names.self) (left c.separated.new.self) _ c.in_ok-separated.ensures.reads
