use Rattle.std.proofs.Common.{◌++◌, ◌∙◌, ap}
use Rattle.gql_doc.specs.inner.Left.{left, text_end, coming, end_by}
use Rattle.gql_doc.proofs.parser.Parser.new.Goals as goal

pub returns-clause-left : goal.returns-clause-left
unfolding left
returns-clause-left c = ap (λ all. all.tokens) (c.advance.ensures.coming ∙ (λ i. coming (c.new.ensures.passed i) (c.new.ensures.left i)))

pub returns-clause-end : goal.returns-clause-end
unfolding text_end
returns-clause-end c =
    let all = c.advance.ensures.coming ∙ (λ i. coming (c.new.ensures.passed i) (c.new.ensures.left i)) in
    let whole = c.advance.ensures.text ∙ (λ i. c.new.ensures.passed i ++ c.new.ensures.left i) in
    λ i. end_by (whole i) (all i).end
