use Rattle.gql_confluence.proofs.WorkedDocuments.{empty_fragment_well_formed, empty_around_another_well_formed, deferred_at_the_top_well_formed, one_shared_group_well_formed, inside_a_failed_one_well_formed, two_that_fail_well_formed, failed_item_well_formed, streamed_well_formed, null_item_well_formed, whole_list_well_formed, fragments_in_items_well_formed, stream_in_a_fragment_well_formed}
use Rattle.gql_confluence.proofs.laws.worked_forests_are_well_formed.Goals as goal

pub returns-clause-empty : goal.returns-clause-empty
returns-clause-empty c = empty_fragment_well_formed

pub returns-clause-around : goal.returns-clause-around
returns-clause-around c = empty_around_another_well_formed

pub returns-clause-top : goal.returns-clause-top
returns-clause-top c = deferred_at_the_top_well_formed

pub returns-clause-shared : goal.returns-clause-shared
returns-clause-shared c = one_shared_group_well_formed

pub returns-clause-inside : goal.returns-clause-inside
returns-clause-inside c = inside_a_failed_one_well_formed

pub returns-clause-failed : goal.returns-clause-failed
returns-clause-failed c = two_that_fail_well_formed

pub returns-clause-failed_item : goal.returns-clause-failed_item
returns-clause-failed_item c = failed_item_well_formed

pub returns-clause-behind_a_failed_one : goal.returns-clause-behind_a_failed_one
returns-clause-behind_a_failed_one c = streamed_well_formed

pub returns-clause-null_item : goal.returns-clause-null_item
returns-clause-null_item c = null_item_well_formed

pub returns-clause-whole_list : goal.returns-clause-whole_list
returns-clause-whole_list c = whole_list_well_formed

pub returns-clause-fragments_in_items : goal.returns-clause-fragments_in_items
returns-clause-fragments_in_items c = fragments_in_items_well_formed

pub returns-clause-stream_in_a_fragment : goal.returns-clause-stream_in_a_fragment
returns-clause-stream_in_a_fragment c = stream_in_a_fragment_well_formed
