use Rattle.std.proofs.Common.{refl}
use Rattle.gql_model.proofs.worked.worked_regions.Goals as goal

pub returns-clause-plain : goal.returns-clause-plain
returns-clause-plain c = refl

pub returns-clause-bubbled : goal.returns-clause-bubbled
returns-clause-bubbled c = refl

pub returns-clause-bubbled_faults : goal.returns-clause-bubbled_faults
returns-clause-bubbled_faults c = refl

pub returns-clause-bubbled_groups : goal.returns-clause-bubbled_groups
returns-clause-bubbled_groups c = refl

pub returns-clause-bubbled_fragments : goal.returns-clause-bubbled_fragments
returns-clause-bubbled_fragments c = refl

pub returns-clause-null_item : goal.returns-clause-null_item
returns-clause-null_item c = refl

pub returns-clause-null_item_faults : goal.returns-clause-null_item_faults
returns-clause-null_item_faults c = refl

pub returns-clause-shared_groups : goal.returns-clause-shared_groups
returns-clause-shared_groups c = refl

pub returns-clause-shared_fragments : goal.returns-clause-shared_fragments
returns-clause-shared_fragments c = refl

pub returns-clause-shared_outcomes : goal.returns-clause-shared_outcomes
returns-clause-shared_outcomes c = refl

pub returns-clause-shared_faults : goal.returns-clause-shared_faults
returns-clause-shared_faults c = refl

pub returns-clause-streamed : goal.returns-clause-streamed
returns-clause-streamed c = refl

pub returns-clause-streams : goal.returns-clause-streams
returns-clause-streams c = refl

pub returns-clause-stream_outcomes : goal.returns-clause-stream_outcomes
returns-clause-stream_outcomes c = refl

pub returns-clause-stream_faults : goal.returns-clause-stream_faults
returns-clause-stream_faults c = refl

pub returns-clause-type_name : goal.returns-clause-type_name
returns-clause-type_name c = refl
