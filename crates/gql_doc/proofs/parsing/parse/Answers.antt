use Rattle.gql_doc.specs.Answer.{most_bytes}
use Rattle.gql_doc.proofs.Parsed.{Answers-either, is-either}
use Rattle.gql_doc.proofs.Languages.{documents}
use Rattle.gql_doc.proofs.parsing.parse.Goals as goal

pub returns-clause-answer : goal.returns-clause-answer
returns-clause-answer c = Answers-either documents most_bytes c.args.text.now c.read.result c.read.ensures

pub returns-clause-found : goal.returns-clause-found
returns-clause-found c = λ it le is. is-either documents c.args.text.now c.read.result it c.read.ensures is
