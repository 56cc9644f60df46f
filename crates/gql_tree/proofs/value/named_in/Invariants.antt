use Rattle.std.proofs.Common.{◌↔◌, drop}
use Rattle.gql_tree.specs.inner.SameLayer.{NamedIn}
use Rattle.gql_tree.proofs.value.named_in.Given as goal

abbrev pub invariant-loop-member : goal.invariant-loop-member
invariant-loop-member l = NamedIn l.others (drop l.member-index l.members) ↔ NamedIn l.others l.members
