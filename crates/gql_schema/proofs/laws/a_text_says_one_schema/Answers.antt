use Rattle.gql_schema.proofs.Answered.{one_schema_answer}
use Rattle.gql_schema.proofs.laws.a_text_says_one_schema.Goals as goal

pub returns : goal.returns
returns c = one_schema_answer
