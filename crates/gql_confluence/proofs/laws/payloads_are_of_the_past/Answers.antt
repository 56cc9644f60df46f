use Rattle.gql_confluence.proofs.OfThePast.{payloads_are_of_the_past}
use Rattle.gql_confluence.proofs.laws.payloads_are_of_the_past.Goals as goal

pub returns : goal.returns
returns c = payloads_are_of_the_past
