use Rattle.gql_tool.proofs.OneReplay.{replayed_one}
use Rattle.gql_tool.proofs.laws.replay_has_one_outcome.Goals as goal

pub returns : goal.returns
returns c = replayed_one
