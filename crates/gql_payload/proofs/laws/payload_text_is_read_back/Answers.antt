use Rattle.gql_payload.proofs.Back.{text_back}
use Rattle.gql_payload.proofs.laws.payload_text_is_read_back.Goals as goal

pub returns : goal.returns
returns c = text_back c.args.payload.now
