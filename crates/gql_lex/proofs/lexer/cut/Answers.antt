use Rattle.gql_lex.proofs.Answers.{IsCharBoundary-token}
use Rattle.gql_lex.proofs.lexer.cut.Goals as goal

pub split_at-requires-2 : goal.split_at-requires-2
split_at-requires-2 c = IsCharBoundary-token c.args.text.now c.split_at.result.1.now c.args.start c.args.len c.utf8.text c.split_at.ensures.back c.requires.some c.requires.fits c.requires.first c.requires.last
