use Rattle.std.proofs.Common.{refl}
use Rattle.gql_client.proofs.Clients.{Stands-new}
use Rattle.gql_client.proofs.client.Client.new.Goals as goal

pub returns-clause-ok : goal.returns-clause-ok
returns-clause-ok c = Stands-new _ c.args.boundary.now c.in_ok-new.ensures.ok c.new-2.ensures refl refl
