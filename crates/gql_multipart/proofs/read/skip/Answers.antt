use Rattle.std.proofs.Common.{◌≡◌, ◌+◌, ◌-◌, ◌==◌, false, sym, ap, ◌∙◌, arith, ne_eqb}
use Rattle.std.proofs.lemmas.Result.{err_from_is_err_and}
use Rattle.gql_multipart.specs.inner.Reading.{skip}
use Rattle.gql_multipart.proofs.Steps.{skip_more, skip_stops, skip_none}
use Rattle.gql_multipart.proofs.read.skip.Goals as goal

pub returns-in_err-at-clause-value : goal.returns-in_err-at-clause-value
returns-in_err-at-clause-value c =
    let p = err_from_is_err_and c.from_residual.result c.from_residual.ensures.1 in
    rw (p.1, p.2) (sym (skip_stops c.args.sought.now c.args.count c.loop-number.number (c.loop-number.number == 0) c.args.bytes.now c.loop-number.at _ _ c.loop-number-test.true c.part_end.ensures.value c.in_err-at.was)
    ∙ c.loop-number.invariant.rest)

pub loop-number-preserved : goal.loop-number-preserved
loop-number-preserved c = record {
  grows = omega (arith, c.in_ok-at.ensures);
  rest =
      let first : ((c.loop-number.number + 1) == 0) ≡ false = ne_eqb (c.loop-number.number + 1) 0 (λ e. omega arith) in
      ap (λ t. skip c.args.sought.now (c.args.count - (c.loop-number.number + 1)) t c.args.bytes.now c.in_ok-at.field-0.next) first
      ∙ skip_more c.args.sought.now c.args.count c.loop-number.number (c.loop-number.number == 0) c.args.bytes.now c.loop-number.at _ c.in_ok-at.field-0 c.loop-number-test.true c.part_end.ensures.value c.in_ok-at.was
      ∙ c.loop-number.invariant.rest;
}

pub returns-clause-value : goal.returns-clause-value
returns-clause-value c = sym (skip_none c.args.sought.now c.args.count c.loop-number.number (c.loop-number.number == 0) c.args.bytes.now c.loop-number.at c.loop-number-test.false) ∙ c.loop-number.invariant.rest
