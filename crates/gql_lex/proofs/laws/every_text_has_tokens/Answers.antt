use Rattle.gql_lex.proofs.Lexing.{Lexes-all}
use Rattle.gql_lex.proofs.laws.every_text_has_tokens.Goals as goal

pub returns : goal.returns
returns c = Lexes-all
