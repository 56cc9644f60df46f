use Rattle.gql_multipart.proofs.Sayings.{answers_one}
use Rattle.gql_multipart.proofs.laws.a_past_has_one_answer.Goals as goal

pub returns : goal.returns
returns c = λ past said other valid a b. answers_one past valid said other a b
