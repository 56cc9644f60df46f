use Rattle.std.proofs.Common.{sym, ◌∙◌, arith}
use Rattle.gql_lex.proofs.Plain.{plain_quoted}
use Rattle.gql_lex.proofs.string.quoted.Goals as goal

pub returns-in-Some-clause-value : goal.returns-in-Some-clause-value
returns-in-Some-clause-value c = plain_quoted c.args.text.now c.in-Some.len c.in-Some.ensures.0.high c.if-text-len-eq34.true
    (λ k lt. c.in-Some.ensures.0.before k (omega arith) lt)
    (sym c.has_no_controls.ensures ∙ c.if-has_no_controls.true)
