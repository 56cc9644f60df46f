use Rattle.std.proofs.Common.{refl}
use Rattle.gql_tree.specs.declared.Value.TheVariants.{outs-Null, outs-Object}
use Rattle.gql_model.proofs.worked.worked_plain.Goals as goal

pub returns-clause-deferred : goal.returns-clause-deferred
returns-clause-deferred c = refl

pub returns-clause-deferred_groups : goal.returns-clause-deferred_groups
returns-clause-deferred_groups c = refl

pub returns-clause-deferred_fragments : goal.returns-clause-deferred_fragments
returns-clause-deferred_fragments c = refl

pub returns-clause-failing : goal.returns-clause-failing
returns-clause-failing c = refl

pub returns-clause-failing_faults : goal.returns-clause-failing_faults
returns-clause-failing_faults c = refl

pub returns-clause-streamed : goal.returns-clause-streamed
returns-clause-streamed c = refl

pub returns-clause-streams : goal.returns-clause-streams
returns-clause-streams c = refl

pub returns-clause-kept : goal.returns-clause-kept
returns-clause-kept c = simp (outs-Object, outs-Null) refl
