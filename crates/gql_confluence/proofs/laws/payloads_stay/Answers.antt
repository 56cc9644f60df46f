use Rattle.gql_confluence.proofs.Stays.{payloads_stay}
use Rattle.gql_confluence.proofs.laws.payloads_stay.Goals as goal

pub returns : goal.returns
returns c = payloads_stay
