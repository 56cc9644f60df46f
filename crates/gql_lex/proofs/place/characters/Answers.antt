use Rattle.gql_lex.proofs.Places.{count-ascii}
use Rattle.gql_lex.proofs.place.characters.Goals as goal

pub returns-then-is_ascii-clause-value : goal.returns-then-is_ascii-clause-value
returns-then-is_ascii-clause-value c = count-ascii c.args.text.now c.if-is_ascii.ensures.cases
