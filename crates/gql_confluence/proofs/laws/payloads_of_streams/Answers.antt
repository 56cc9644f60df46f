use Rattle.std.proofs.Common.{refl}
use Rattle.gql_confluence.proofs.laws.payloads_of_streams.Goals as goal

pub returns-clause-failed_item : goal.returns-clause-failed_item
returns-clause-failed_item c = refl

pub returns-clause-null_item : goal.returns-clause-null_item
returns-clause-null_item c = refl

pub returns-clause-from_the_last : goal.returns-clause-from_the_last
returns-clause-from_the_last c = refl

pub returns-clause-fragments_in_items : goal.returns-clause-fragments_in_items
returns-clause-fragments_in_items c = refl

pub returns-clause-stream_in_a_fragment : goal.returns-clause-stream_in_a_fragment
returns-clause-stream_in_a_fragment c = refl

pub returns-clause-behind_a_failed_one : goal.returns-clause-behind_a_failed_one
returns-clause-behind_a_failed_one c = refl
