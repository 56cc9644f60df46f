use Rattle.std.proofs.Common.{flat_map, take, string_bytes}
use Rattle.gql_doc.specs.inner.Writing.{Adds}
use Rattle.gql_doc.specs.Printed.{printed_argument, printed_value}
use Rattle.gql_doc.proofs.printing.+values.Given as goal

abbrev pub invariant-push_items-loop-item : goal.invariant-push_items-loop-item
invariant-push_items-loop-item l = Adds (string_bytes l.initial.out) (string_bytes l.out) (flat_map printed_value (take l.item-index l.items))

abbrev pub invariant-push_members-loop-member : goal.invariant-push_members-loop-member
invariant-push_members-loop-member l = Adds (string_bytes l.initial.out) (string_bytes l.out) (flat_map printed_argument (take l.member-index l.members))
