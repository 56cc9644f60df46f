use Rattle.std.proofs.Common.{bytes_eq, cond, Some, is_some, sym, ap, ◌∙◌, arith}
use Rattle.std.specs.HashMap.{get_by}
use Rattle.std.proofs.lemmas.Map.Text.{hash_map_updates_str}
use Rattle.gql_tool.proofs.hero_lemmas.Ids.{persons_twice, persons_distinct, persons_numbered}
use Rattle.gql_tool.proofs.hero.tables.numbers_of.Goals as goal

pub returns-in-Ok-Some-clause-distinct : goal.returns-in-Ok-Some-clause-distinct
returns-in-Ok-Some-clause-distinct c =
    let found = sym (c.loop-index.invariant.numbers c.index-persons-index.result.row_id) ∙ (ap (λ id. get_by (λ key. bytes_eq id key.now) c.loop-index.numbers) (sym c.as_str.ensures) ∙ (sym c.in-Ok-Some.ensures.old ∙ c.in-Ok-Some.field-0-is)) in
    persons_twice c.args.persons.now c.loop-index.index c.index-persons-index.result (omega arith) c.index-persons-index.is (ap is_some found)

pub loop-index-preserved : goal.loop-index-preserved
loop-index-preserved c =
    let new = sym (c.loop-index.invariant.numbers c.index-persons-index.result.row_id) ∙ (ap (λ id. get_by (λ key. bytes_eq id key.now) c.loop-index.numbers) (sym c.as_str.ensures) ∙ (sym c.in-Ok-None.ensures.old ∙ c.in-Ok-None.field-0-is)) in
    record {
      distinct = persons_distinct c.args.persons.now c.loop-index.index c.index-persons-index.result (omega arith) c.index-persons-index.is new c.loop-index.invariant.distinct;
      numbers = λ id. hash_map_updates_str c.as_str.result.now c.loop-index.numbers c.insert.new.self _ c.in-Ok-None.ensures.updates id
          ∙ ((λ j. cond (bytes_eq (c.as_str.ensures j) id) (Some c.loop-index.index) (c.loop-index.invariant.numbers id j))
          ∙ sym (persons_numbered c.args.persons.now c.loop-index.index c.index-persons-index.result (omega arith) c.index-persons-index.is new id));
    }
