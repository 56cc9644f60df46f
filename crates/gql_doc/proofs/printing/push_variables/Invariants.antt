use Rattle.std.proofs.Common.{flat_map, take, string_bytes}
use Rattle.gql_doc.specs.inner.Writing.{Adds}
use Rattle.gql_doc.specs.Printed.{printed_variable}
use Rattle.gql_doc.proofs.printing.push_variables.Given as goal

abbrev pub invariant-loop-variable : goal.invariant-loop-variable
invariant-loop-variable l = Adds (string_bytes l.initial.out) (string_bytes l.out) (flat_map printed_variable (take l.variable-index l.variable-items))
