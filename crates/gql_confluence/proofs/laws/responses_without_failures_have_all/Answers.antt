use Rattle.std.proofs.Common.{refl}
use Rattle.gql_confluence.proofs.AllDelivered.{failures_are_told, all_is_delivered, values_are_same, errors_are_same}
use Rattle.gql_confluence.proofs.laws.responses_without_failures_have_all.Goals as goal

pub returns-clause-told : goal.returns-clause-told
returns-clause-told c = failures_are_told

pub returns-clause-delivered : goal.returns-clause-delivered
returns-clause-delivered c = all_is_delivered

pub returns-clause-value : goal.returns-clause-value
returns-clause-value c = values_are_same

pub returns-clause-errors : goal.returns-clause-errors
returns-clause-errors c = errors_are_same

pub returns-clause-none_failed : goal.returns-clause-none_failed
returns-clause-none_failed c = refl

pub returns-clause-a_group_failed : goal.returns-clause-a_group_failed
returns-clause-a_group_failed c = refl

pub returns-clause-an_item_failed : goal.returns-clause-an_item_failed
returns-clause-an_item_failed c = refl
