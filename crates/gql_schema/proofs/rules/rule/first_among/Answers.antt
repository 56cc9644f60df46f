use Rattle.std.proofs.Common.{sym, ◌∙◌, arith}
use Rattle.gql_schema.proofs.Walking.{further, found, all_passed}
use Rattle.gql_schema.proofs.rules.rule.first_among.Goals as goal

pub returns-in-Some : goal.returns-in-Some
returns-in-Some g c = sym (c.loop-of.invariant ∙ found (g.R.Rule.places c.args.rule.now) c.args.items.now c.loop-of.of-index c.of-item.result c.of-item.is c.loop-of-test.true c.in-Some.spot (sym c.first_in.ensures ∙ c.in-Some.is))

pub loop-of-preserved : goal.loop-of-preserved
loop-of-preserved g c = c.loop-of.invariant ∙ further (g.R.Rule.places c.args.rule.now) c.args.items.now c.loop-of.of-index c.of-item.result c.of-item.is c.loop-of-test.true (sym c.first_in.ensures ∙ c.in_default.is)

pub returns : goal.returns
returns g c = sym (c.loop-of.invariant ∙ all_passed (g.R.Rule.places c.args.rule.now) c.args.items.now c.loop-of.of-index (omega (arith, c.loop-of-test.false)))
