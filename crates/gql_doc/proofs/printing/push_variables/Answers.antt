use Rattle.std.proofs.Common.{codes, ◌∙◌, flat_map, ap, arith}
use Rattle.std.proofs.lemmas.Result.{on_ok_weaker}
use Rattle.std.proofs.lemmas.List.{take_all}
use Rattle.gql_lex.specs.declared.token.TokenKind.TheVariants as kind
use Rattle.gql_doc.specs.Printed.{enclosed, printed_variable}
use Rattle.gql_doc.proofs.Writing.{wrote, named, list_written}
use Rattle.gql_doc.proofs.printing.push_variables.Goals as goal

pub returns : goal.returns
returns c =
    let all = take_all c.loop-variable.variable-index c.as_slice-variable-items.result.now (omega arith) ∙ c.as_slice-variable-items.ensures in
    on_ok_weaker c.push_piece-2.result
    (λ h. list_written printed_variable (codes "(") c.args.variables.now (codes ")")
    (λ none. let full = c.is_empty.ensures.1 none in cc)
    (named
    (ap (λ xs. enclosed (codes "(") (flat_map printed_variable xs) (codes ")")) all)
    (wrote (c.in_ok-push_piece.ensures kind.Punctuator) (wrote c.loop-variable.invariant (h kind.Punctuator)))))
    c.push_piece-2.ensures
