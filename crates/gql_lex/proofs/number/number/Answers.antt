use Rattle.std.proofs.Common.{◌∙◌, arith}
use Rattle.gql_lex.specs.declared.token.TokenKind.TheVariants.{Int}
use Rattle.gql_lex.proofs.Found.{Lies-integer}
use Rattle.gql_lex.proofs.number.number.Goals as goal

pub returns-then-len-integer-clause-lies : goal.returns-then-len-integer-clause-lies
returns-then-len-integer-clause-lies c = Lies-integer c.args.text.now Int c.number_len-len.result (c.if-len-integer.true ∙ c.integer_len-integer.ensures.value) (omega arith) c.number_len-len.ensures.within
