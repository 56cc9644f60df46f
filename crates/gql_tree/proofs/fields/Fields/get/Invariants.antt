use Rattle.std.proofs.Common.{◌≡◌, drop}
use Rattle.gql_tree.specs.Names.{named}
use Rattle.gql_tree.proofs.fields.Fields.get.Given as goal

abbrev pub invariant-loop-member : goal.invariant-loop-member
invariant-loop-member g l = named l.name (drop l.member-index l.member-items) ≡ named l.name l.member-items
