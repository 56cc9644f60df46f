use Rattle.std.proofs.Common.{◌≡◌, ◌++◌, drop}
use Rattle.gql_tree.specs.inner.United.{others}
use Rattle.gql_tree.proofs.unite.push_others.Given as goal

abbrev pub invariant-loop-other : goal.invariant-loop-other
invariant-loop-other l = l.united ++ others l.members (drop l.other-index l.others) ≡ l.initial.united ++ others l.members l.others
