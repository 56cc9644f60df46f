use Rattle.std.proofs.Common.{flat_map, take, string_bytes}
use Rattle.gql_doc.specs.inner.Writing.{Adds}
use Rattle.gql_doc.specs.Printed.{printed_definition}
use Rattle.gql_doc.proofs.printing.print.Given as goal

abbrev pub invariant-loop-definition : goal.invariant-loop-definition
invariant-loop-definition l = Adds (string_bytes l.initial.out) (string_bytes l.out) (flat_map printed_definition (take l.definition-index l.definition-items))
