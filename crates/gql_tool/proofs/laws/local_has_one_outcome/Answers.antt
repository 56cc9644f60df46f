use Rattle.gql_tool.proofs.OneOutcome.{local_one}
use Rattle.gql_tool.proofs.laws.local_has_one_outcome.Goals as goal

pub returns : goal.returns
returns c = local_one
