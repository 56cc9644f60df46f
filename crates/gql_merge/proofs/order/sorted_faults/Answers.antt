use Rattle.std.proofs.Common.{List, rules, sym, subst}
use Rattle.std.specs.Ordering.{is_lt}
use Rattle.std.specs.List.Sorted.{IsPermutation}
use Rattle.std.proofs.lemmas.List.Sorted.{ranks_by, answers_always}
use Rattle.gql_tree.specs.declared.delivery.Fault.{Fault}
use Rattle.gql_merge.specs.Order.{Sorts, fault_cmp}
use Rattle.gql_merge.proofs.Totals.{faults_total}
use Rattle.gql_merge.proofs.order.sorted_faults.Goals as goal

pub returns : goal.returns
returns c =
    let moved = subst (λ (xs : List Fault). IsPermutation xs c.sort_by.new.self.items) c.into_vec-items.ensures c.in_ok-sort_by.ensures.permutation in
    let order = c.in_ok-sort_by.ensures.sorted (λ x y. is_lt (fault_cmp x y)) (ranks_by faults_total (λ (x : Fault). x)) (answers_always _ _ _ (λ f a r g h. search rules)) in
    subst (λ (ys : List Fault). Sorts fault_cmp c.args.faults ys) (sym c.from_vec.ensures) (moved, order)
