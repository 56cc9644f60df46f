use Rattle.std.proofs.Common.{◌≡◌, inr, Err}
use Rattle.gql_merge.specs.Apply.{Apply}
use Rattle.gql_client.specs.declared.stop.Stop.TheVariants.{Refused}
use Rattle.gql_client.proofs.Clients.{OnRefusal-err}
use Rattle.gql_client.proofs.client.take_text.Goals as goal

pub returns-clause-refused : goal.returns-clause-refused
returns-clause-refused c = λ why is.
    let stop : c.unmerged.result ≡ Refused why = cc in
    let named = c.unmerged.ensures why stop in
    inr (
      c.in-Ok.payload,
      c.in-Err-apply.refusal,
      c.in-Ok.ensures.ok,
      OnRefusal-err _ c.apply.result c.in-Err-apply.refusal (λ e. Apply c.in-Ok.payload c.args.merger.now.state (Err e)) c.in-Err-apply.is named.0 c.apply.ensures.refused,
      named.1,
    )
