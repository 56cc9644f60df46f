use Rattle.gql_lex.proofs.Words.{IsBehind-word}
use Rattle.gql_lex.proofs.place.behind_token.Goals as goal

pub returns-in-Punctuator-clause-place : goal.returns-in-Punctuator-clause-place
returns-in-Punctuator-clause-place c = IsBehind-word c.args.spot c.args.text.now c.args.kind c.args.count c.in-Punctuator.is c.requires.found
