use Rattle.std.proofs.Common.{flat_map, take, string_bytes}
use Rattle.gql_doc.specs.inner.Writing.{Adds}
use Rattle.gql_doc.specs.Printed.{printed_directive}
use Rattle.gql_doc.proofs.printing.push_directives.Given as goal

abbrev pub invariant-loop-directive : goal.invariant-loop-directive
invariant-loop-directive l = Adds (string_bytes l.initial.out) (string_bytes l.out) (flat_map printed_directive (take l.directive-index l.directives))
