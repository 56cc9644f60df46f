use Rattle.std.proofs.Common.{◌∙◌, refl, true, false, [], ◌∷◌, ◌++◌}
use Rattle.gql_client.specs.declared.stop.Stop.TheVariants.{Refused}
use Rattle.gql_client.specs.Heard.{heard}
use Rattle.gql_client.proofs.Clients.{Took-fed, handed_on, ok_of}
use Rattle.gql_client.proofs.client.Client.take_in.Goals as goal

pub loop-init : goal.loop-init
loop-init c = ((λ h contents took. (contents, Took-fed _ _ h c.args.piece.now contents took c.in_ok-feed.ensures.ok refl refl)), refl, refl)

pub returns-in_err-take_part-clause-refused : goal.returns-in_err-take_part-clause-refused
returns-in_err-take_part-clause-refused c = λ why is h contents took.
    let from = c.loop.invariant.0 h contents took in
    c.take_part.ensures.refused why (handed_on _ _ c.take_part.result _ c.from_residual-in_err-take_part.result (Refused why) c.in_err-take_part.was c.from_residual-in_err-take_part.ensures.1 is) (heard h c.args.piece.now) from.0 from.1

pub returns-in_err-take_part-clause-same : goal.returns-in_err-take_part-clause-same
returns-in_err-take_part-clause-same c = (c.take_part.ensures.same.0 ∙ c.loop.invariant.1, c.take_part.ensures.same.1 ∙ c.loop.invariant.2)

pub loop-smaller : goal.loop-smaller
loop-smaller c = c.take_part.ensures.shorter (ok_of c.take_part.result c.in_ok-take_part.field-0 true c.in_ok-take_part.was c.if-branch.true)

pub loop-preserved : goal.loop-preserved
loop-preserved c = (
  (λ h contents took.
      (let from = c.loop.invariant.0 h contents took in
      let next = c.take_part.ensures.part (ok_of c.take_part.result c.in_ok-take_part.field-0 true c.in_ok-take_part.was c.if-branch.true) (heard h c.args.piece.now) from.0 from.1 in
      (from.0 ++ next.0 ∷ [], next.1))),
  c.take_part.ensures.same.0 ∙ c.loop.invariant.1,
  c.take_part.ensures.same.1 ∙ c.loop.invariant.2,
)

pub returns-clause-taken : goal.returns-clause-taken
returns-clause-taken c = λ h contents took.
    let from = c.loop.invariant.0 h contents took in
    let none = c.take_part.ensures.none (ok_of c.take_part.result c.in_ok-take_part.field-0 false c.in_ok-take_part.was c.if-branch.false) (heard h c.args.piece.now) from.0 from.1 in
    (from.0, none.0, none.1, none.2)

pub returns-clause-same : goal.returns-clause-same
returns-clause-same c = (c.take_part.ensures.same.0 ∙ c.loop.invariant.1, c.take_part.ensures.same.1 ∙ c.loop.invariant.2)
