use Rattle.gql_payload.proofs.Wrong.{payload-wrong_member}
use Rattle.gql_payload.proofs.laws.a_payload_has_no_wrong_member.Goals as goal

pub returns : goal.returns
returns c = payload-wrong_member
