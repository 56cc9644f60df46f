use Rattle.std.proofs.Common.{◌∙◌, sym, true, false, List, subst, ℕ}
use Rattle.std.specs.Prelude.{set}
use Rattle.std.proofs.lemmas.List.{get_or_read}
use Rattle.gql_schema.specs.Graph.{AreMarked}
use Rattle.gql_schema.proofs.Marks.{one_marked}
use Rattle.gql_schema.proofs.graph.add.Goals as goal

pub returns-in_ok-push-clause-marked : goal.returns-in_ok-push-clause-marked
returns-in_ok-push-clause-marked c =
    let ks = c.args.numbers.now.listed.items in
    let marks = c.args.numbers.now.marks.items in
    let n = c.args.number in
    let within = c.requires.within in
    let new = sym (c.requires.marked.told n within) ∙ sym (get_or_read marks n c.index.result.now within c.index.ensures false) ∙ c.if-not-index.true in
    subst (λ (xs : List ℕ). AreMarked xs (set marks n true)) (sym c.in_ok-push.ensures.items) (one_marked ks marks n c.requires.marked within new)
