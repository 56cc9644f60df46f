use denote.Param.Send.{IsSend, IsSync, sendable}
use Rattle.std.proofs.Crossing.{crosses}
use Rattle.gql_tree.proofs.text.Text.TheSendSync as text
use Rattle.gql_tree.proofs.listed.Listed.TheSendSync as listed
use Rattle.gql_model.proofs.syntax.Literal.TheLaws.TheKnot as literal
use Rattle.gql_model.proofs.syntax.Selection.TheLaws.TheKnot as selection
use Rattle.gql_model.proofs.syntax.TypeRef.TheLaws.TheKnot as type_ref
use Rattle.gql_model.specs.contracts.syntax.Argument as argument
use Rattle.gql_model.specs.contracts.syntax.DirectiveUse as directive
use Rattle.gql_model.specs.contracts.syntax.VariableDef as variable
use Rattle.gql_model.specs.contracts.syntax.Selection as a_selection
use Rattle.gql_model.proofs.shared.documents_may_be_shared.Goals as goal

argument_send : IsSend argument.the_row
argument_send = search (text.the_send, listed.the_send, literal.crosses, crosses, sendable) depth 60 fits 20000

argument_sync : IsSync argument.the_row
argument_sync = search (text.the_sync, listed.the_sync, literal.crosses, crosses, sendable) depth 60 fits 20000

directive_send : IsSend directive.the_row
directive_send = search (text.the_send, listed.the_send, argument_send, crosses, sendable) depth 60 fits 20000

directive_sync : IsSync directive.the_row
directive_sync = search (text.the_sync, listed.the_sync, argument_sync, crosses, sendable) depth 60 fits 20000

variable_send : IsSend variable.the_row
variable_send = search (text.the_send, listed.the_send, directive_send, literal.crosses, type_ref.crosses, crosses, sendable) depth 60 fits 20000

variable_sync : IsSync variable.the_row
variable_sync = search (text.the_sync, listed.the_sync, directive_sync, literal.crosses, type_ref.crosses, crosses, sendable) depth 60 fits 20000

selection_send : IsSend a_selection.the_row
selection_send = search (text.the_send, listed.the_send, argument_send, directive_send, selection.crosses, crosses, sendable) depth 60 fits 20000

selection_sync : IsSync a_selection.the_row
selection_sync = search (text.the_sync, listed.the_sync, argument_sync, directive_sync, selection.crosses, crosses, sendable) depth 60 fits 20000

pub may_be_shared-requires-send-T : goal.may_be_shared-requires-send-T
may_be_shared-requires-send-T c κs = search (text.the_send, listed.the_send, variable_send, directive_send, selection_send, crosses, sendable) depth 60 fits 20000

pub may_be_shared-requires-sync-T : goal.may_be_shared-requires-sync-T
may_be_shared-requires-sync-T c κs = search (text.the_sync, listed.the_sync, variable_sync, directive_sync, selection_sync, crosses, sendable) depth 60 fits 20000
