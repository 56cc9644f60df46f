use Rattle.std.proofs.Common.{◌≡◌, ◌++◌, drop}
use Rattle.std.specs.Prelude.{flat_map}
use Rattle.gql_tree.specs.declared.delivery.Entry.{Entry}
use Rattle.gql_merge.specs.Apply.{faults_of}
use Rattle.gql_merge.proofs.parts.faults_of.Given as goal

abbrev pub invariant-loop-entry : goal.invariant-loop-entry
invariant-loop-entry l = l.faults ++ flat_map (λ (e : Entry). e.errors) (drop l.entry-index l.entry-items) ≡ faults_of l.payload
