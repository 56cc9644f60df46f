use Rattle.std.proofs.Common.{◌≡◌, ◌+◌, ◌-◌, ◌<◌, ◌++◌, length, take, drop, get_or, sym, subst, arith, ◌∙◌, ap}
use Rattle.std.proofs.lemmas.List.{get_or-drop, take_rest}
use Rattle.gql_lex.specs.Places.{spot_at}
use Rattle.gql_lex.proofs.Answers.{spot_at-more}
use Rattle.gql_lex.proofs.lexer.Lexer.give.Goals as goal

pub invariant_of-self-clause-place : goal.invariant_of-self-clause-place
invariant_of-self-clause-place c =
    let text = c.args.self.now.text.now in
    let start = c.args.self.now.start in
    let blanks = c.args.blanks in
    let len = c.args.len in
    let left = drop start text in
    let rest = c.rest-rest.result.now in
    let bytes : rest ≡ left = c.rest-rest.ensures in
    let here : take (length rest - blanks) (drop blanks rest) ≡ drop blanks left = take_rest rest blanks ∙ ap (drop blanks) bytes in
    let before = take start text ++ take blanks left in
    spot_at-more text start blanks len c.behind_blanks-spot.result c.behind_token-behind.result
    (c.behind_blanks-spot.ensures.place (take start text) (c.args.self.now.place ∙ ap (spot_at (take start text)) (sym bytes))
    ∙ ap (λ t. spot_at (take start text ++ take blanks t) (drop blanks t)) bytes)
    (λ at. c.behind_token-behind.ensures.place before (at ∙ ap (spot_at before) (sym here))
    ∙ ap (λ t. spot_at (before ++ take len t) (drop len t)) here)

pub cut-requires-clause-last : goal.cut-requires-clause-last
cut-requires-clause-last c =
    let same : c.args.self.now.start + (c.args.blanks + (c.args.len - 1)) ≡ c.args.self.now.start + c.args.blanks + (c.args.len - 1) = omega arith in
    subst (λ n. get_or c.args.self.now.text.now n 0 < 128) same
    (subst (λ x. x < 128) (get_or-drop c.args.self.now.start c.args.self.now.text.now (c.args.blanks + (c.args.len - 1)) 0) c.requires.last)
