use Rattle.std.proofs.Common.{◌+◌, sym, ◌∙◌, ap, arith, [], ◌∷◌, ◌++◌, drop}
use Rattle.gql_tree.specs.Names.{has_name}
use Rattle.gql_tree.specs.inner.United.{others}
use Rattle.gql_tree.proofs.Union.{others_skipped, others_pushed}
use Rattle.gql_tree.proofs.unite.push_others.Goals as goal
use Rattle.gql_tree.proofs.unite.push_others.Goals.{then-not-has+in_ok-name+in_ok-value+in_ok-push, else-not-has}

pub loop-other-preserved : goal.loop-other-preserved
loop-other-preserved c =
    let ms = c.args.members.now in
    let ns = c.args.others.now in
    let i = c.loop-other.other-index in
    let us = c.loop-other.united in
    let name_is = ap (λ k. has_name k ms) (sym c.as_str.ensures) ∙ sym c.has.ensures in
    elim c.if-not-has.branch [
      | then-not-has+in_ok-name+in_ok-value+in_ok-push w ↦
          ap (λ xs. xs ++ others ms (drop (i + 1) ns)) (w.united-is ∙ (w.in_ok-push.ensures.ok ∙ (λ j. us ++ record { name = w.in_ok-name.ensures j; value = w.in_ok-value.ensures j } ∷ [])))
          ∙ others_pushed ms ns us _ i c.other-item.result c.other-item.is (omega arith) (name_is ∙ w.if-not-has.true) c.loop-other.invariant
      | else-not-has w ↦
          ap (λ xs. xs ++ others ms (drop (i + 1) ns)) w.united-is
          ∙ others_skipped ms ns us _ i c.other-item.result c.other-item.is (omega arith) (name_is ∙ w.if-not-has.false) c.loop-other.invariant
    ]
