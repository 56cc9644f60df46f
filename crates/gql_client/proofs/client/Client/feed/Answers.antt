use Rattle.std.proofs.Common.{◌≡◌, ◌++◌}
use Rattle.gql_client.specs.declared.stop.ClientRefusal.TheVariants as answer
use Rattle.gql_client.proofs.Clients.{IsRefused-fed, err_of}
use Rattle.gql_client.proofs.client.Client.feed.Goals as goal

pub returns-in-Err-clause-refused : goal.returns-in-Err-clause-refused
returns-in-Err-clause-refused c = λ is h stands.
    let refused : c.end_with.result ≡ answer.Refused = cc in
    IsRefused-fed c.take_in.new.self c.end_with.new.self h.boundary (h.bytes ++ c.args.piece.now) c.in-Err.stop c.end_with.result c.end_with.ensures.answer refused
    (λ why stop. c.take_in.ensures.refused why (err_of c.take_in.result c.in-Err.stop _ c.in-Err.is stop) h stands.contents stands.took)
    c.end_with.ensures.kept
