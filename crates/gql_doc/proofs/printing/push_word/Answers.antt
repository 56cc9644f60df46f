use Rattle.std.proofs.lemmas.Result.{on_ok_weaker}
use Rattle.gql_lex.specs.declared.token.TokenKind.TheVariants as kind
use Rattle.gql_doc.proofs.Writing.{titled}
use Rattle.gql_doc.proofs.printing.push_word.Goals as goal

pub returns : goal.returns
returns c = on_ok_weaker c.push_piece.result (titled kind.Name c.as_str.ensures) c.push_piece.ensures
