use Rattle.gql_lex.proofs.Determined.{Lexes-determined}
use Rattle.gql_lex.proofs.laws.tokens_are_determined.Goals as goal

pub returns : goal.returns
returns c = Lexes-determined
