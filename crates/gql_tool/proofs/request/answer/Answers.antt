use Rattle.std.proofs.Common.{subst, None}
use Rattle.std.specs.Prelude.{codes}
use Rattle.gql_doc.specs.Refusals.{parse_spot}
use Rattle.gql_tool.specs.declared.request.Request.TheVariants.{NoText, NoDocument, NotBuilt}
use Rattle.gql_tool.specs.Local.{syntax_message}
use Rattle.gql_tool.specs.hero.Hero.{Runs}
use Rattle.gql_tool.proofs.Refusing.{answered-as}
use Rattle.gql_tool.proofs.request.answer.Goals as goal

pub execute-requires-clause-runs : goal.execute-requires-clause-runs
execute-requires-clause-runs g c = subst Runs c.in-Built.is c.requires.runs

pub returns-in-NoText-clause-meets : goal.returns-in-NoText-clause-meets
returns-in-NoText-clause-meets g c = answered-as _ NoText _ _ _ c.in-NoText.is (c.refuse.ensures.meets (codes "Document is not UTF-8") None c.whole_body.ensures)

pub returns-in-NoDocument-clause-meets : goal.returns-in-NoDocument-clause-meets
returns-in-NoDocument-clause-meets g c =
    answered-as _ (NoDocument c.in-NoDocument.refusal) _ _ _ c.in-NoDocument.is (c.refuse-in-NoDocument.ensures.meets (syntax_message c.in-NoDocument.refusal) (parse_spot c.in-NoDocument.refusal) c.syntax_body.ensures)

pub returns-in-NotBuilt-clause-meets : goal.returns-in-NotBuilt-clause-meets
returns-in-NotBuilt-clause-meets g c = answered-as _ NotBuilt _ _ _ c.in-NotBuilt.is (c.refuse-in-NotBuilt.ensures.meets (codes "NotBuilt") None c.whole_body-in-NotBuilt.ensures)
