-- What is sent of a forest whose tasks are run one after another, in the order of their numbers.
use Rattle.std.specs.Prelude.{List}
use Rattle.gql_tree.specs.declared.delivery.Payload.{Payload}
use Rattle.gql_tree.specs.Forest.{Forest}
use Rattle.gql_tree.specs.Course.{Schedule}
use Rattle.gql_tree.specs.Numbering.{times, inline_order}
use Rattle.gql_tree.specs.Payloads.{payloads}

-- the times of this order
abbrev pub inline_times : Forest → Schedule
inline_times f = times f (inline_order f)

-- the payloads of a forest whose tasks are run so
abbrev pub inline_payloads : Forest → List Payload
inline_payloads f = payloads f (inline_times f)
