use Rattle.std.proofs.Common.{◌≡◌, [], ◌∷◌, ◌++◌, take, Some, None, sym, ap, ◌∙◌, arith}
use Rattle.std.proofs.lemmas.List.{take_more}
use Rattle.serde_json.specs.View.{view, items_view}
use Rattle.gql_tool.specs.hero.HeroTables.{person_in, persons_in}
use Rattle.gql_tool.proofs.hero_lemmas.Rows.{persons_in-push, persons_in-None}
use Rattle.gql_tool.proofs.hero.tables.persons_in.Goals as goal

pub returns-in_default : goal.returns-in_default
returns-in_default c =
    let none : c.in_ok-person.field-0 ≡ None = grind arith in
    sym (persons_in-None c.args.rows.now c.loop-row.row-index c.row-item.result (omega arith) (ap (λ v. person_in (view v)) (sym c.row-item.is) ∙ (sym c.in_ok-person.ensures ∙ none)))

pub loop-row-preserved : goal.loop-row-preserved
loop-row-preserved c =
    let rows = c.args.rows.now in
    let i = c.loop-row.row-index in
    let more = take_more rows i c.row-item.result (omega arith) ∙ ap (λ row. take i rows ++ row ∷ []) (sym c.row-item.is) in
    ap (λ front. persons_in (items_view front)) more
    ∙ (persons_in-push (take i rows) c.row-item.result c.loop-row.persons c.in-Some.person c.loop-row.invariant (sym c.in_ok-person.ensures ∙ c.in-Some.is)
    ∙ ap Some (sym c.in_ok-push.ensures.ok))
