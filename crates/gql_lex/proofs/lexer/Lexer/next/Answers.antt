use Rattle.std.proofs.Common.{◌≡◌, ◌+◌, ◌++◌, take, drop, Some, sym, ◌∙◌, ap}
use Rattle.std.proofs.lemmas.List.{take_rest}
use Rattle.gql_lex.specs.Places.{spot_at}
use Rattle.gql_lex.specs.Front.{front}
use Rattle.gql_lex.specs.declared.scan.Found.TheVariants.{Token}
use Rattle.gql_lex.specs.Tokens.{passed, left, blanks, done_by, done_with}
use Rattle.gql_lex.proofs.Answers.{next_of-wrong, take-split}
use Rattle.gql_lex.proofs.lexer.Lexer.next.Goals as goal

pub returns-in-Some-Token-clause-passed : goal.returns-in-Some-Token-clause-passed
returns-in-Some-Token-clause-passed c =
    let lexer = c.args.self.now in
    let text = lexer.text.now in
    let bytes = c.rest-rest.ensures in
    let count = c.blanks_len-blanks.result in
    let counted : count ≡ blanks (left lexer) = c.blanks_len-blanks.ensures.value ∙ ap blanks bytes in
    let rest = c.rest-rest.result.now in
    let found : front (drop (blanks (left lexer)) (left lexer)) ≡ Some (Token c.in-Some-Token.kind c.in-Some-Token.len) =
    ap (λ n. front (drop n (left lexer))) (sym counted)
    ∙ ap (λ t. front (drop count t)) (sym bytes)
    ∙ ap front (sym (take_rest rest count))
    ∙ sym c.in-Some-Token.ensures.value
    ∙ ap Some c.in-Some-Token.field-0-is in
    let done : done_with (left lexer) ≡ count + c.in-Some-Token.len = ap (done_by (blanks (left lexer))) found ∙ ap (λ n. n + c.in-Some-Token.len) (sym counted) in
    ap (λ t. take c.give.new.self.start t) c.give.ensures.kept
    ∙ ap (λ n. take n text) c.give.ensures.behind
    ∙ take-split lexer.start (count + c.in-Some-Token.len) text
    ∙ ap (λ n. passed lexer ++ take n (left lexer)) (sym done)

pub returns-in-Some-Wrong-clause-answer : goal.returns-in-Some-Wrong-clause-answer
returns-in-Some-Wrong-clause-answer c =
    let lexer = c.args.self.now in
    let bytes = c.rest-rest.ensures in
    let count = c.blanks_len-blanks.result in
    let inside = c.in-Some-Wrong.inside in
    next_of-wrong (passed lexer) (left lexer) count inside c.in-Some-Wrong.fault c.behind_all-spot.result c.refusal.result
    (c.blanks_len-blanks.ensures.value ∙ ap blanks bytes)
    (ap Some (sym c.in-Some-Wrong.field-0-is) ∙ c.in-Some-Wrong.ensures.value ∙ ap front (take_rest c.rest-rest.result.now count) ∙ ap (λ t. front (drop count t)) bytes)
    (c.behind_all-spot.ensures.place (passed lexer) (lexer.place ∙ ap (spot_at (passed lexer)) (sym bytes)) ∙ ap (λ t. spot_at (passed lexer ++ take (count + inside) t) (drop (count + inside) t)) bytes)
    c.refusal.ensures
