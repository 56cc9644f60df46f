use Rattle.std.proofs.Common.{ap}
use Rattle.std.proofs.lemmas.Result.{on_ok_weaker}
use Rattle.gql_lex.specs.declared.token.TokenKind.TheVariants as kind
use Rattle.gql_doc.specs.Printed.{printed_arguments}
use Rattle.gql_doc.proofs.Writing.{wrote, named}
use Rattle.gql_doc.proofs.printing.push_directive.Goals as goal

pub returns : goal.returns
returns c = on_ok_weaker c.push_arguments.result (λ h. wrote (c.in_ok-push_piece.ensures kind.Punctuator) (wrote c.in_ok-push_word.ensures (named (ap printed_arguments c.as_slice.ensures) h))) c.push_arguments.ensures
