use Rattle.std.proofs.Common.{ap, sym, ◌∙◌, take, arith}
use Rattle.std.specs.List.{list_any}
use Rattle.std.specs.Str.{bytes_eq}
use Rattle.gql_schema.proofs.InTurn.{stands_before_turn, further_in_turn, found_in_turn, all_in_turn}
use Rattle.gql_schema.proofs.rules.in_turn.first_by_name.Goals as goal

pub returns-in-Some : goal.returns-in-Some
returns-in-Some g c =
    let is =
    c.stands_before-again.ensures
    ∙ stands_before_turn g.R.RuleInTurn.name_of c.args.items.now c.args.names.now c.name.result.now c.loop-i.i c.place.result c.requires c.place.ensures.place
    ∙ ap (λ n. list_any (λ x. bytes_eq (g.R.RuleInTurn.name_of x) n) (take c.loop-i.i c.args.items.now)) c.name.ensures in
    sym (c.loop-i.invariant ∙ found_in_turn g.R.RuleInTurn.name_of (g.R.RuleInTurn.places c.args.rule.now) c.args.items.now c.loop-i.i c.index-items-i.result c.index-items-i.is c.loop-i-test.true c.stands_before-again.result is c.in-Some.spot (sym c.first_at.ensures ∙ c.in-Some.is))

pub loop-i-preserved : goal.loop-i-preserved
loop-i-preserved g c =
    let is =
    c.stands_before-again.ensures
    ∙ stands_before_turn g.R.RuleInTurn.name_of c.args.items.now c.args.names.now c.name.result.now c.loop-i.i c.place.result c.requires c.place.ensures.place
    ∙ ap (λ n. list_any (λ x. bytes_eq (g.R.RuleInTurn.name_of x) n) (take c.loop-i.i c.args.items.now)) c.name.ensures in
    c.loop-i.invariant ∙ further_in_turn g.R.RuleInTurn.name_of (g.R.RuleInTurn.places c.args.rule.now) c.args.items.now c.loop-i.i c.index-items-i.result c.index-items-i.is c.loop-i-test.true c.stands_before-again.result is (sym c.first_at.ensures ∙ c.in_default.is)

pub returns : goal.returns
returns g c = sym (c.loop-i.invariant ∙ all_in_turn g.R.RuleInTurn.name_of (g.R.RuleInTurn.places c.args.rule.now) c.args.items.now c.loop-i.i (omega (arith, c.loop-i-test.false)))
