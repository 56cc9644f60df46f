use Rattle.std.proofs.Common.{flat_map, take, string_bytes}
use Rattle.gql_doc.specs.inner.Writing.{Adds}
use Rattle.gql_doc.specs.Printed.{printed_selection}
use Rattle.gql_doc.proofs.printing.+selections.Given as goal

abbrev pub invariant-push_selections-loop-selection : goal.invariant-push_selections-loop-selection
invariant-push_selections-loop-selection l = Adds (string_bytes l.initial.out) (string_bytes l.out) (flat_map printed_selection (take l.selection-index l.selections))
