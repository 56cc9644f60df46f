use Rattle.std.proofs.Common.{◌≡◌, subst}
use Rattle.std.specs.Result.{IfOk}
use Rattle.gql_tool.specs.Local.{refused}
use Rattle.gql_tool.proofs.Refusing.{refused-meets}
use Rattle.gql_tool.proofs.request.refuse.Goals as goal

pub returns-in-Ok-clause-meets : goal.returns-in-Ok-clause-meets
returns-in-Ok-clause-meets g c = λ message spot is.
    refused-meets message spot _ _ _ _ _ c.as_slice.ensures (subst (λ body. IfOk body (λ bytes. bytes ≡ (refused message spot).bytes)) c.in-Ok.is is) c.put_and_end.ensures.meets
