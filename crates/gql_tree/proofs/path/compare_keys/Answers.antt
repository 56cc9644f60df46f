use Rattle.std.proofs.Common.{sym, ◌∙◌, arith}
use Rattle.gql_tree.proofs.Order.{path_cmp_end}
use Rattle.gql_tree.proofs.path.compare_keys.Goals as goal

pub returns : goal.returns
returns c = c.cmp.ensures ∙ (sym (path_cmp_end c.args.first.now c.args.second.now c.loop-i.i (omega arith)) ∙ c.loop-i.invariant)
