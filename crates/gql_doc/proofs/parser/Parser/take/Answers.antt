use Rattle.std.proofs.Common.{◌≡◌, Some, Ok, ◌∙◌, sym, ap}
use Rattle.gql_lex.specs.Tokens.{lexeme, passed}
use Rattle.gql_lex.specs.Tokens as lexer
use Rattle.gql_doc.specs.inner.Matches.{matches}
use Rattle.gql_doc.specs.inner.Left.{left, text_end, coming, end_by}
use Rattle.gql_doc.proofs.Coming.{take-first}
use Rattle.gql_doc.proofs.parser.Parser.take.Goals as goal

pub returns-clause-reads : goal.returns-clause-reads
unfolding left
returns-clause-reads c =
    let old = c.args.self.now.lexer in
    let inside : c.in-Ok-Some.field-0 ≡ Some c.in-Ok-Some.token = rw c.in-Ok-Some.is at c.in-Ok-Some.field-0-is in
    let is : c.args.self.now.next ≡ Ok (Some c.in-Ok-Some.token) = c.in-Ok-Some.is ∙ ap Ok inside in
    rw is (take-first (matches c.args.terminal) (coming (passed old) (lexer.left old)) (lexeme c.in-Ok-Some.token) _ (sym c.matches.ensures ∙ c.if-not-matches.false) (ap (λ all. all.tokens) c.advance.ensures.coming))

pub returns-clause-same : goal.returns-clause-same
unfolding text_end
returns-clause-same c =
    let inside : c.in-Ok-Some.field-0 ≡ Some c.in-Ok-Some.token = rw c.in-Ok-Some.is at c.in-Ok-Some.field-0-is in
    let is : c.args.self.now.next ≡ Ok (Some c.in-Ok-Some.token) = c.in-Ok-Some.is ∙ ap Ok inside in
    rw is (λ i. end_by (c.advance.ensures.text i) (c.advance.ensures.coming i).end)
