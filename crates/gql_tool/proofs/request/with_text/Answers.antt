use Rattle.std.proofs.Common.{subst}
use Rattle.gql_tool.specs.Judged.{Parses}
use Rattle.gql_tool.proofs.hero_lemmas.Served.{document-judged, document-of}
use Rattle.gql_tool.proofs.request.with_text.Goals as goal

pub returns-in-Ok-clause-judged : goal.returns-in-Ok-clause-judged
returns-in-Ok-clause-judged c = document-judged c.args.vars.now c.args.schema.now c.args.tables.now _ c.in-Ok.document c.utf8.text (subst (Parses c.args.text.now) c.in-Ok.is c.in_ok-document.ensures) _ c.with_document.ensures

pub returns-in-Ok-clause-built : goal.returns-in-Ok-clause-built
returns-in-Ok-clause-built c = document-of c.args.vars.now c.args.schema.now c.args.tables.now _ c.in-Ok.document c.utf8.text (subst (Parses c.args.text.now) c.in-Ok.is c.in_ok-document.ensures) _ c.with_document.ensures
