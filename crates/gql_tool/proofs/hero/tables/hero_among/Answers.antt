use Rattle.std.proofs.Common.{◌≡◌, ◌<◌, ◌^◌, length, true, is_some, sym, ap, ◌∙◌, arith}
use Rattle.std.proofs.lemmas.List.{length-map}
use Rattle.std.proofs.lemmas.Option.{MatchOption-at_some}
use Rattle.std.proofs.lemmas.Result.{IfOk-weaker}
use Rattle.serde_json.specs.View.{view}
use Rattle.gql_tool.specs.hero.HeroTables.{row_ids, hero_by, all_distinct}
use Rattle.gql_tool.proofs.hero_lemmas.Ids.{hero_among-None, hero_among-Some}
use Rattle.gql_tool.proofs.hero.tables.hero_among.Goals as goal

pub returns-then-contains_key : goal.returns-then-contains_key
returns-then-contains_key c =
    let numbers = MatchOption-at_some _ _ c.in-Some.numbers c.in-Some.is c.in_ok-numbers.ensures.numbers in
    hero_among-None c.args.query_id.now (row_ids c.args.persons.now) (view c.args.query.now) (sym (ap is_some (numbers c.args.query_id.now)) ∙ (sym c.contains_key.ensures ∙ c.if-contains_key.true))

pub returns-in-Some-get : goal.returns-in-Some-get
returns-in-Some-get c =
    let numbers = MatchOption-at_some _ _ c.in-Some.numbers c.in-Some.is c.in_ok-numbers.ensures.numbers in
    let short : length (row_ids c.args.persons.now) < 2 ^ 32 = omega (arith, length-map c.args.persons.now (λ p. p.row_id)) in
    let all : all_distinct (row_ids c.args.persons.now) ≡ true = sym c.in_ok-numbers.ensures.distinct ∙ ap is_some c.in-Some.is in
    let found = hero_among-Some c.args.query_id.now (row_ids c.args.persons.now) (view c.args.query.now) short (sym (ap is_some (numbers c.args.query_id.now)) ∙ (sym c.contains_key.ensures ∙ c.if-contains_key.false)) all in
    IfOk-weaker c.hero_by.result _ _ (λ hero is. is (row_ids c.args.persons.now) numbers ∙ (ap (hero_by (row_ids c.args.persons.now)) c.in-Some-get.ensures ∙ sym found)) c.hero_by.ensures

pub returns : goal.returns
returns c =
    let numbers = MatchOption-at_some _ _ c.in-Some.numbers c.in-Some.is c.in_ok-numbers.ensures.numbers in
    let short : length (row_ids c.args.persons.now) < 2 ^ 32 = omega (arith, length-map c.args.persons.now (λ p. p.row_id)) in
    let all : all_distinct (row_ids c.args.persons.now) ≡ true = sym c.in_ok-numbers.ensures.distinct ∙ ap is_some c.in-Some.is in
    let found = hero_among-Some c.args.query_id.now (row_ids c.args.persons.now) (view c.args.query.now) short (sym (ap is_some (numbers c.args.query_id.now)) ∙ (sym c.contains_key.ensures ∙ c.if-contains_key.false)) all in
    ap (hero_by (row_ids c.args.persons.now)) c.in-None.ensures ∙ sym found
