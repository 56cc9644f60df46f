use Rattle.std.proofs.Common.{◌≡◌, sym, subst}
use Rattle.gql_client.specs.declared.client.Client.{Client}
use Rattle.gql_client.specs.declared.stop.ClientRefusal.TheVariants as answer
use Rattle.gql_client.specs.Client.{AcceptsEnd, RefusesEnd}
use Rattle.gql_client.specs.Heard.{Stands}
use Rattle.gql_client.proofs.Clients.{IsRefusedAtEnd-finish, err_of}
use Rattle.gql_client.proofs.client.Client.finish.Goals as goal

pub returns-in-Ok-clause-taken : goal.returns-in-Ok-clause-taken
returns-in-Ok-clause-taken c = λ h stands.
    subst (λ (d : Client). Stands d h × AcceptsEnd h.boundary h.bytes d.merger.state) (sym c.end.ensures.same) (stands, c.in-Ok.ensures.taken h stands)

pub returns-in-Err-clause-refused : goal.returns-in-Err-clause-refused
returns-in-Err-clause-refused c = λ is h stands.
    let refused : c.end_with.result ≡ answer.Refused = cc in
    IsRefusedAtEnd-finish c.end.new.self c.end_with.new.self h.boundary h.bytes c.in-Err.stop c.end_with.result c.end_with.ensures.answer refused
    (λ why stop. subst (λ (d : Client). RefusesEnd h.boundary h.bytes d.merger.state why) (sym c.end.ensures.same) (c.end.ensures.refused why (err_of c.end.result c.in-Err.stop _ c.in-Err.is stop) h stands))
    c.end_with.ensures.kept
