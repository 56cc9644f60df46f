use Rattle.gql_lex.specs.Tokens.{told, passed}
use Rattle.gql_lex.specs.Tokens as lexer
use Rattle.gql_doc.proofs.Coming.{coming-next, text-next}
use Rattle.gql_doc.proofs.parser.Parser.advance.Goals as goal

pub returns-clause-coming : goal.returns-clause-coming
returns-clause-coming c =
    let old = c.args.self.now.lexer in
    let new = c.next-self.new.self in
    coming-next (passed old) (lexer.left old) (passed new) (lexer.left new) (told c.next-self.result) c.next-self.ensures.answer c.next-self.ensures.passed c.next-self.ensures.left

pub returns-clause-text : goal.returns-clause-text
returns-clause-text c =
    let old = c.args.self.now.lexer in
    let new = c.next-self.new.self in
    text-next (passed old) (lexer.left old) (passed new) (lexer.left new) c.next-self.ensures.passed c.next-self.ensures.left
