use Rattle.gql_doc.specs.Answer.{most_type_bytes}
use Rattle.gql_doc.proofs.Parsed.{Answers-either, is-either}
use Rattle.gql_doc.proofs.Languages.{type_documents}
use Rattle.gql_doc.proofs.parsing.parse_types.Goals as goal

pub returns-clause-answer : goal.returns-clause-answer
returns-clause-answer c = Answers-either type_documents most_type_bytes c.args.text.now c.read_types.result c.read_types.ensures

pub returns-clause-found : goal.returns-clause-found
returns-clause-found c = λ it le is. is-either type_documents c.args.text.now c.read_types.result it c.read_types.ensures is
