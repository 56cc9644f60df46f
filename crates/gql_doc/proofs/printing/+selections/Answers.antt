use Rattle.std.proofs.Common.{codes, flat_map, ap, sym}
use Rattle.std.proofs.lemmas.Result.{on_ok_weaker}
use Rattle.gql_lex.specs.declared.token.TokenKind.TheVariants as kind
use Rattle.gql_doc.specs.Printed.{enclosed, printed_arguments, printed_directives, printed_selection}
use Rattle.gql_doc.proofs.Writing.{wrote, named, list_written}
use Rattle.gql_doc.proofs.PrintedForms.{field-out, inline-out}
use Rattle.gql_doc.proofs.printing.+selections.Goals as goal

pub push_field-returns : goal.push_field-returns
push_field-returns t c =
    let it = c.args.field.now in
    on_ok_weaker c.push_piece-2.result
    (λ h. named (sym (field-out it))
    (wrote c.in_ok-push_alias.ensures
    (wrote c.in_ok-push_word.ensures
    (wrote (named (ap printed_arguments c.as_slice.ensures) c.in_ok-push_arguments.ensures)
    (wrote (named (ap printed_directives c.as_slice-2.ensures) c.in_ok-push_directives.ensures)
    (list_written printed_selection (codes "{") it.selections (codes "}")
    (λ none. let full = c.is_empty.ensures.1 none in cc)
    (named
    (ap (λ all. enclosed (codes "{") (flat_map printed_selection all) (codes "}")) c.as_slice-3.ensures)
    (wrote (c.in_ok-push_piece.ensures kind.Punctuator) (wrote c.in_ok-push_selections.ensures (h kind.Punctuator))))))))))
    c.push_piece-2.ensures

pub push_inline-returns : goal.push_inline-returns
push_inline-returns t c =
    let it = c.args.fragment.now in
    on_ok_weaker c.push_piece-3.result
    (λ h. named (sym (inline-out it))
    (wrote (c.in_ok-push_piece.ensures kind.Punctuator)
    (wrote c.in_ok-push_condition.ensures
    (wrote (named (ap printed_directives c.as_slice.ensures) c.in_ok-push_directives.ensures)
    (named
    (ap (λ all. enclosed (codes "{") (flat_map printed_selection all) (codes "}")) c.as_slice-2.ensures)
    (wrote (c.in_ok-push_piece-2.ensures kind.Punctuator) (wrote c.in_ok-push_selections.ensures (h kind.Punctuator))))))))
    c.push_piece-3.ensures
