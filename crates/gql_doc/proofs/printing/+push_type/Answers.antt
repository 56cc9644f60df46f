use Rattle.std.proofs.Common.{codes, ◌∙◌, ◌++◌, ◌∷◌, [], ap, sym}
use Rattle.std.proofs.lemmas.Result.{on_ok_weaker}
use Rattle.gql_lex.specs.declared.token.TokenKind.TheVariants as kind
use Rattle.gql_doc.specs.Printed.{printed_type, enclosed, punctuator}
use Rattle.gql_doc.proofs.Writing.{wrote, named}
use Rattle.gql_doc.proofs.PrintedForms.{printed_Named, printed_ListType, printed_NonNull}
use Rattle.gql_doc.proofs.printing.+push_type.Goals as goal

pub returns-in-Named : goal.returns-in-Named
returns-in-Named t c = on_ok_weaker c.push_word.result (named (sym (ap printed_type c.in-Named.is ∙ printed_Named _ _))) c.push_word.ensures

pub returns-in_ok-push_type-in-List : goal.returns-in_ok-push_type-in-List
returns-in_ok-push_type-in-List t c =
    on_ok_weaker c.push_piece-in-List.result
    (λ h. named
    (ap (λ it. enclosed (codes "[") (printed_type it) (codes "]")) c.get.ensures ∙ sym (ap printed_type c.in-List.is ∙ printed_ListType _))
    (wrote (c.in_ok-push_piece-in-List.ensures kind.Punctuator) (wrote c.in_ok-push_type-in-List.ensures (h kind.Punctuator))))
    c.push_piece-in-List.ensures

pub returns-in_ok-push_type-in-NonNull : goal.returns-in_ok-push_type-in-NonNull
returns-in_ok-push_type-in-NonNull t c =
    on_ok_weaker c.push_piece-in-NonNull.result
    (λ h. named
    (ap (λ it. printed_type it ++ punctuator (codes "!") ∷ []) c.get-in-NonNull.ensures ∙ sym (ap printed_type c.in-NonNull.is ∙ printed_NonNull _))
    (wrote c.in_ok-push_type-in-NonNull.ensures (h kind.Punctuator)))
    c.push_piece-in-NonNull.ensures
