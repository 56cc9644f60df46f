use Rattle.std.proofs.Common.{◌≡◌, refl}
use Rattle.gql_multipart.specs.declared.reader.Step.TheVariants.{More, Ended}
use Rattle.gql_client.specs.declared.stop.Stop.TheVariants.{Refused}
use Rattle.gql_client.proofs.Clients.{Took-part, Took-more, Took-ended, Refuses-part, Refuses-framed, handed_on, said_step}
use Rattle.gql_client.proofs.client.Client.take_part.Goals as goal

pub returns-in_err-take_text-in-Ok-Part-clause-refused : goal.returns-in_err-take_text-in-Ok-Part-clause-refused
returns-in_err-take_text-in-Ok-Part-clause-refused c = λ why is h contents took.
    Refuses-part c.args.self.now (record c.args.self.now { merger = c.take_text.new.merger }) h contents c.next_part.result c.in-Ok-Part.field-0 c.in-Ok-Part.text why took c.in-Ok-Part.is c.in-Ok-Part.field-0-is c.next_part.ensures.answer
    (c.take_text.ensures.refused why (handed_on _ _ c.take_text.result _ c.from_residual.result (Refused why) c.in_err-take_text-in-Ok-Part.was c.from_residual.ensures.1 is)) c.in_err-take_text-in-Ok-Part.ensures.kept

pub returns-in_ok-take_text-in-Ok-Part-clause-part : goal.returns-in_ok-take_text-in-Ok-Part-clause-part
returns-in_ok-take_text-in-Ok-Part-clause-part c = λ is h contents took.
    (c.in-Ok-Part.text.now, Took-part _ _ h contents c.next_part.result c.in-Ok-Part.field-0 c.in-Ok-Part.text took c.in-Ok-Part.is c.in-Ok-Part.field-0-is c.next_part.ensures.answer c.next_part.follows.holds-at-none.1 c.in_ok-take_text-in-Ok-Part.ensures.taken c.saturating_add-self.ensures)

pub returns-in-Ok-More-clause-none : goal.returns-in-Ok-More-clause-none
returns-in-Ok-More-clause-none c = λ is h contents took. Took-more _ _ h contents c.next_part.result took (said_step c.next_part.result _ More c.in-Ok-More.is c.in-Ok-More.field-0-is) c.next_part.ensures.answer c.next_part.follows.holds-at-none.1 refl refl

pub returns-in-Ok-Ended-clause-none : goal.returns-in-Ok-Ended-clause-none
returns-in-Ok-Ended-clause-none c = λ is h contents took. Took-ended _ _ h contents c.next_part.result took (said_step c.next_part.result _ Ended c.in-Ok-Ended.is c.in-Ok-Ended.field-0-is) c.next_part.ensures.answer c.next_part.follows.holds-at-none.1 refl refl

pub returns-in-Err-clause-refused : goal.returns-in-Err-clause-refused
returns-in-Err-clause-refused c = λ why is h contents took.
    let stop : c.misframed.result ≡ Refused why = cc in
    Refuses-framed c.args.self.now c.args.self.now h contents c.next_part.result c.in-Err.refusal why took c.in-Err.is (c.next_part.ensures.answer _ took.reader) (c.misframed.ensures why stop) refl
