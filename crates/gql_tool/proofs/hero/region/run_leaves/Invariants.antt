use Rattle.std.proofs.Common.{◌≡◌, take}
use Rattle.gql_tool.specs.hero.Hero.{some_bubble, leaf_members, leaf_faults}
use Rattle.gql_tool.proofs.hero.region.run_leaves.Given as goal

abbrev pub invariant-loop-leaf : goal.invariant-loop-leaf
invariant-loop-leaf l = record {
  bubbled : l.run.bubbled ≡ some_bubble l.person (take l.leaf-index l.leaf-items);
  members : l.run.members ≡ leaf_members l.person (take l.leaf-index l.leaf-items);
  faults : l.run.faults ≡ leaf_faults l.person (take l.leaf-index l.leaf-items);
}
