use Rattle.gql_payload.proofs.Line.{IsOneLine-payload_text}
use Rattle.gql_payload.proofs.laws.payload_text_is_one_line.Goals as goal

pub returns : goal.returns
returns c = IsOneLine-payload_text c.args.payload.now
