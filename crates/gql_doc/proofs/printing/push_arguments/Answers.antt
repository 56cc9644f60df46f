use Rattle.std.proofs.Common.{◌==◌, codes, length, ap, ◌∙◌}
use Rattle.std.proofs.lemmas.Result.{on_ok_weaker}
use Rattle.gql_lex.specs.declared.token.TokenKind.TheVariants as kind
use Rattle.gql_doc.specs.Printed.{printed_argument}
use Rattle.gql_doc.proofs.Writing.{wrote, list_written}
use Rattle.gql_doc.proofs.printing.push_arguments.Goals as goal

pub returns : goal.returns
returns c =
    on_ok_weaker c.push_piece-2.result
    (λ h. list_written printed_argument (codes "(") c.args.arguments.now (codes ")")
    (λ none. let full = c.is_empty.ensures ∙ ap (λ items. length items == 0) none in cc)
    (wrote (c.in_ok-push_piece.ensures kind.Punctuator) (wrote c.in_ok-push_members.ensures (h kind.Punctuator))))
    c.push_piece-2.ensures
