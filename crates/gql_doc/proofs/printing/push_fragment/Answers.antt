use Rattle.std.proofs.Common.{ap}
use Rattle.std.proofs.lemmas.Result.{on_ok_weaker}
use Rattle.gql_lex.specs.declared.token.TokenKind.TheVariants as kind
use Rattle.gql_doc.specs.Printed.{printed_directives}
use Rattle.gql_doc.proofs.Writing.{wrote, named}
use Rattle.gql_doc.proofs.printing.push_fragment.Goals as goal

pub returns : goal.returns
returns c =
    on_ok_weaker c.push_set.result
    (λ h. wrote (c.in_ok-push_piece.ensures kind.Name)
    (wrote c.in_ok-push_word.ensures
    (wrote (wrote (c.in_ok-push_piece-2.ensures kind.Name) c.in_ok-push_word-2.ensures)
    (wrote (named (ap printed_directives c.as_slice.ensures) c.in_ok-push_directives.ensures) h))))
    c.push_set.ensures
