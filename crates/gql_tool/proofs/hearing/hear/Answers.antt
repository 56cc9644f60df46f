use Rattle.std.proofs.Common.{◌∙◌, sym, ap, arith, append_assoc, length-append, List, ℕ, ◌++◌}
use Rattle.gql_tool.proofs.Replays.{StillTells-trans}
use Rattle.gql_tool.proofs.hearing.hear.Goals as goal

pub loop-taken-preserved : goal.loop-taken-preserved
loop-taken-preserved g c = (
  c.in-Ok.ensures.goes_on.1,
  omega (arith, c.loop-taken.invariant.1, c.hear_next.ensures.cause.later),
  (λ boundary bytes left stands.
      (let from = c.loop-taken.invariant.2 boundary bytes left stands in
      let next = c.in-Ok.ensures.heard boundary from.0 from.1 from.3 from.4 from.5 in
      (from.0 ++ next.0, next.1, from.2 ∙ (ap (λ (xs : List ℕ). from.0 ++ xs) next.2 ∙ sym (append_assoc from.0 next.0 next.1)), omega (arith, length-append from.0 next.0, from.3, next.3), next.4, next.5))),
  StillTells-trans _ _ _ c.loop-taken.invariant.3 c.in-Ok.ensures.told,
)

pub returns-in-Err-clause-ends : goal.returns-in-Err-clause-ends
returns-in-Err-clause-ends g c = λ boundary bytes left stands.
    let from = c.loop-taken.invariant.2 boundary bytes left stands in
    (from.0, from.1, from.2, omega (arith, from.3, c.loop-taken.invariant.0), c.in-Err.ensures.ends boundary from.0 from.1 from.3 from.4 from.5)
