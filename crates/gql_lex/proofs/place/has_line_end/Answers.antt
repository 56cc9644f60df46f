use Rattle.std.proofs.Common.{◌∙◌}
use Rattle.gql_lex.proofs.Plain.{found_any}
use Rattle.gql_lex.proofs.place.has_line_end.Goals as goal

pub returns : goal.returns
returns c = c.is_some.ensures ∙ found_any c.memchr2.result c.args.text.now c.memchr2.ensures
