use Rattle.std.proofs.Common.{ap}
use Rattle.std.proofs.lemmas.Result.{on_ok_weaker}
use Rattle.gql_lex.specs.declared.token.TokenKind.TheVariants as kind
use Rattle.gql_doc.specs.Printed.{printed_directives}
use Rattle.gql_doc.proofs.Writing.{wrote, named, titled, head_written}
use Rattle.gql_doc.proofs.printing.push_head.Goals as goal

pub returns : goal.returns
returns c =
    let it = c.args.operation.now in
    on_ok_weaker c.push_directives.result
    (λ h. head_written it.kind it.name it.variables it.directives
    (λ plain. let is = c.is_plain.ensures.1 plain in cc)
    (wrote (titled kind.Name c.operation_word.ensures c.in_ok-push_piece.ensures)
    (wrote c.in_ok-push_name.ensures
    (wrote c.in_ok-push_variables.ensures (named (ap printed_directives c.as_slice.ensures) h)))))
    c.push_directives.ensures
