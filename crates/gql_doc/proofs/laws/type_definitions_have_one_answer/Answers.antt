use Rattle.gql_doc.proofs.OneAnswer.{one_types_answer}
use Rattle.gql_doc.proofs.laws.type_definitions_have_one_answer.Goals as goal

pub returns : goal.returns
returns c = one_types_answer
