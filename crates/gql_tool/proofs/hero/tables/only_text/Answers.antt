use Rattle.std.proofs.Common.{arith, ◌∙◌}
use Rattle.gql_tool.proofs.hero_lemmas.Rows.{only_text-Some, only_text-None}
use Rattle.gql_tool.proofs.hero.tables.only_text.Goals as goal

pub returns-then-len-ne1 : goal.returns-then-len-ne1
returns-then-len-ne1 c = only_text-None c.args.name.now _ c.in_ok-members.members.now.entries c.in_ok-members.ensures (λ one. grind arith)

pub returns : goal.returns
returns c = c.text_at.ensures ∙ only_text-Some c.args.name.now _ c.in_ok-members.members.now.entries c.in_ok-members.ensures (grind arith)
