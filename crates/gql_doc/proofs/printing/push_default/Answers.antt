use Rattle.std.proofs.Common.{ap, sym}
use Rattle.std.proofs.lemmas.Result.{on_ok_weaker}
use Rattle.gql_lex.specs.declared.token.TokenKind.TheVariants as kind
use Rattle.gql_doc.specs.Printed.{printed_default}
use Rattle.gql_doc.proofs.Writing.{wrote, named}
use Rattle.gql_doc.proofs.printing.push_default.Goals as goal

pub returns-in_ok-push_piece-in-Some : goal.returns-in_ok-push_piece-in-Some
returns-in_ok-push_piece-in-Some c =
    on_ok_weaker c.push_value.result
    (λ h. named (ap printed_default (sym c.in-Some.is)) (wrote (c.in_ok-push_piece-in-Some.ensures kind.Punctuator) h))
    c.push_value.ensures
