use Rattle.std.proofs.Common.{take, drop, sym, ◌∙◌, ap}
use Rattle.std.proofs.lemmas.List.{take-append-drop}
use Rattle.gql_lex.specs.Places.{spot_at}
use Rattle.gql_lex.proofs.Places.{spot_at-line}
use Rattle.gql_lex.proofs.place.behind_all.Goals as goal

pub returns-else-has_line_end-clause-place : goal.returns-else-has_line_end-clause-place
returns-else-has_line_end-clause-place c = λ passed is.
    let text = c.args.text.now in
    let here = take c.args.count text in
    c.behind_on_line.ensures.place
    ∙ spot_at-line c.args.spot passed here (drop c.args.count text) (sym c.has_line_end.ensures ∙ c.if-has_line_end.false)
    (is ∙ ap (spot_at passed) (sym (take-append-drop c.args.count text)))
