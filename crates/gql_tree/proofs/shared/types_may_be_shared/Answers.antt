use denote.Param.Send.{IsSend, IsSync, sendable}
use Rattle.std.proofs.Crossing.{crosses}
use Rattle.gql_tree.proofs.value.Value.TheLaws.TheKnot as value
use Rattle.gql_tree.specs.contracts.delivery.Entry as entry
use Rattle.gql_tree.proofs.delivery.Completed.TheSendSync as completed
use Rattle.gql_tree.proofs.delivery.Pending.TheSendSync as pending
use Rattle.gql_tree.proofs.delivery.Fault.TheSendSync as fault
use Rattle.gql_tree.proofs.shared.types_may_be_shared.Goals as goal

entry_send : IsSend entry.the_row
entry_send = search (crosses, value.crosses, fault.the_send, sendable) depth 60 fits 20000

entry_sync : IsSync entry.the_row
entry_sync = search (crosses, value.crosses, fault.the_sync, sendable) depth 60 fits 20000

pub may_be_shared-requires-6-send-T : goal.may_be_shared-requires-6-send-T
may_be_shared-requires-6-send-T c κs = search (entry_send, completed.the_send, pending.the_send, fault.the_send, crosses, value.crosses, sendable) depth 60 fits 20000

pub may_be_shared-requires-6-sync-T : goal.may_be_shared-requires-6-sync-T
may_be_shared-requires-6-sync-T c κs = search (entry_sync, completed.the_sync, pending.the_sync, fault.the_sync, crosses, value.crosses, sendable) depth 60 fits 20000
