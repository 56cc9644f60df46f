use Rattle.std.proofs.Common.{ap, sym, ◌∙◌, ◌+◌, ◌-◌, ◌*◌, nat_le, drop, get_or, arith}
use Rattle.gql_model.specs.rules.Fitting.{digits_from}
use Rattle.gql_schema.proofs.Misfits.{digits_grow, digits_more, too_great}
use Rattle.gql_schema.proofs.rules.fitting.is_at_most.Goals as goal

pub returns-then-number-from : goal.returns-then-number-from
returns-then-number-from c =
    let ds = c.args.digits.now in
    let i = c.loop-digit.digit-index in
    let n = c.loop-digit.number * 10 + (get_or ds i 0 - 48) in
    let rest = drop (i + 1) ds in
    too_great n (digits_from n rest) c.args.most (omega arith) (digits_grow n rest)
    ∙ ap (λ m. nat_le m c.args.most) (sym (c.loop-digit.invariant.1 ∙ digits_more c.loop-digit.number i ds c.loop-digit-test.true))
