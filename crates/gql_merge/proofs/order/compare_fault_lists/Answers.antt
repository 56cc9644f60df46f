use Rattle.std.proofs.Common.{sym, ◌∙◌, arith}
use Rattle.gql_merge.specs.Order.{fault_cmp}
use Rattle.gql_merge.proofs.Shorter.{slice_cmp-end}
use Rattle.gql_merge.proofs.order.compare_fault_lists.Goals as goal

pub returns : goal.returns
returns c = c.cmp.ensures ∙ (sym (slice_cmp-end fault_cmp c.args.first.now c.args.second.now c.loop-i.i (omega arith)) ∙ c.loop-i.invariant)
