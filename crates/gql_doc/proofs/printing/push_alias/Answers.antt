use Rattle.std.proofs.Common.{◌∷◌, [], ap, sym}
use Rattle.std.proofs.lemmas.Result.{on_ok_weaker}
use Rattle.gql_lex.specs.declared.token.TokenKind.TheVariants as kind
use Rattle.gql_doc.specs.Printed.{word, printed_alias}
use Rattle.gql_doc.proofs.Writing.{wrote, named}
use Rattle.gql_doc.proofs.printing.push_alias.Goals as goal

pub returns-in_ok-push_word-in-Some : goal.returns-in_ok-push_word-in-Some
returns-in_ok-push_word-in-Some c =
    on_ok_weaker c.push_piece.result
    (λ h. named (ap printed_alias (sym c.in-Some.is)) (wrote (named (ap (λ name. word name ∷ []) c.get.ensures) c.in_ok-push_word-in-Some.ensures) (h kind.Punctuator)))
    c.push_piece.ensures
