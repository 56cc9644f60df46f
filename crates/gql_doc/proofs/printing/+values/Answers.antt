use Rattle.std.proofs.Common.{codes, ◌∙◌, flat_map, ap, sym}
use Rattle.std.proofs.lemmas.Result.{on_ok_weaker}
use Rattle.gql_lex.specs.declared.token.TokenKind.TheVariants as kind
use Rattle.gql_doc.specs.Printed.{enclosed, printed_value, printed_argument}
use Rattle.gql_doc.proofs.Writing.{wrote, named, titled}
use Rattle.gql_doc.proofs.PrintedForms.{printed_Variable, printed_Int, printed_Bool, printed_Null, printed_List, printed_Object, argument-out}
use Rattle.gql_doc.proofs.printing.+values.Goals as goal

pub push_member-returns : goal.push_member-returns
push_member-returns t c =
    on_ok_weaker c.push_value.result
    (λ h. named (sym (argument-out c.args.member.now)) (wrote c.in_ok-push_word.ensures (wrote (c.in_ok-push_piece.ensures kind.Punctuator) h)))
    c.push_value.ensures

pub push_value-returns-in_ok-push_piece-in-Variable : goal.push_value-returns-in_ok-push_piece-in-Variable
push_value-returns-in_ok-push_piece-in-Variable t c =
    on_ok_weaker c.push_word.result
    (λ h. named (sym (ap printed_value c.in-Variable.is ∙ printed_Variable _ _)) (wrote (c.in_ok-push_piece-in-Variable.ensures kind.Punctuator) h))
    c.push_word.ensures

pub push_value-returns-in-Int : goal.push_value-returns-in-Int
push_value-returns-in-Int t c =
    on_ok_weaker c.push_piece-in-Int.result
    (λ h. named (sym (ap printed_value c.in-Int.is ∙ printed_Int _ _)) (titled kind.Int c.as_str.ensures h))
    c.push_piece-in-Int.ensures

pub push_value-returns-in-Bool : goal.push_value-returns-in-Bool
push_value-returns-in-Bool t c =
    on_ok_weaker c.push_piece-in-Bool.result
    (λ h. named (sym (ap printed_value c.in-Bool.is ∙ printed_Bool _ _)) (titled kind.Name c.truth_word.ensures h))
    c.push_piece-in-Bool.ensures

pub push_value-returns-in-Null : goal.push_value-returns-in-Null
push_value-returns-in-Null t c =
    on_ok_weaker c.push_piece-in-Null.result
    (λ h. named (sym (ap printed_value c.in-Null.is ∙ printed_Null _)) (h kind.Name))
    c.push_piece-in-Null.ensures

pub push_value-returns-in_ok-push_items-in-List : goal.push_value-returns-in_ok-push_items-in-List
push_value-returns-in_ok-push_items-in-List t c =
    on_ok_weaker c.push_piece-in-List-2.result
    (λ h. named
    (ap (λ items. enclosed (codes "[") (flat_map printed_value items) (codes "]")) c.as_slice.ensures ∙ sym (ap printed_value c.in-List.is ∙ printed_List _ _))
    (wrote (c.in_ok-push_piece-in-List.ensures kind.Punctuator) (wrote c.in_ok-push_items-in-List.ensures (h kind.Punctuator))))
    c.push_piece-in-List-2.ensures

pub push_value-returns-in_ok-push_members-in-Object : goal.push_value-returns-in_ok-push_members-in-Object
push_value-returns-in_ok-push_members-in-Object t c =
    on_ok_weaker c.push_piece-in-Object-2.result
    (λ h. named
    (ap (λ members. enclosed (codes "{") (flat_map printed_argument members) (codes "}")) c.as_slice-in-Object.ensures ∙ sym (ap printed_value c.in-Object.is ∙ printed_Object _ _))
    (wrote (c.in_ok-push_piece-in-Object.ensures kind.Punctuator) (wrote c.in_ok-push_members-in-Object.ensures (h kind.Punctuator))))
    c.push_piece-in-Object-2.ensures
