use Rattle.std.proofs.Common.{codes, flat_map, ap}
use Rattle.std.proofs.lemmas.Result.{on_ok_weaker}
use Rattle.gql_lex.specs.declared.token.TokenKind.TheVariants as kind
use Rattle.gql_doc.specs.Printed.{enclosed, printed_selection}
use Rattle.gql_doc.proofs.Writing.{wrote, named}
use Rattle.gql_doc.proofs.printing.push_set.Goals as goal

pub returns : goal.returns
returns c =
    on_ok_weaker c.push_piece-2.result
    (λ h. named
    (ap (λ all. enclosed (codes "{") (flat_map printed_selection all) (codes "}")) c.as_slice.ensures)
    (wrote (c.in_ok-push_piece.ensures kind.Punctuator) (wrote c.in_ok-push_selections.ensures (h kind.Punctuator))))
    c.push_piece-2.ensures
