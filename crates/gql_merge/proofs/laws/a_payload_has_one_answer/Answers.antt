use Rattle.gql_merge.proofs.OneAnswer.{apply_one}
use Rattle.gql_merge.proofs.laws.a_payload_has_one_answer.Goals as goal

pub returns : goal.returns
returns c = apply_one
