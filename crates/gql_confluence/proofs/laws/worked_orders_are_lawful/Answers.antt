use Rattle.std.proofs.Common.{refl}
use Rattle.gql_confluence.proofs.laws.worked_orders_are_lawful.Goals as goal

pub returns-clause-shared_0_1_2 : goal.returns-clause-shared_0_1_2
returns-clause-shared_0_1_2 c = record { done = refl; items = refl }

pub returns-clause-shared_0_2_1 : goal.returns-clause-shared_0_2_1
returns-clause-shared_0_2_1 c = record { done = refl; items = refl }

pub returns-clause-in_items : goal.returns-clause-in_items
returns-clause-in_items c = record { done = refl; items = refl }

pub returns-clause-stream_in_a_fragment : goal.returns-clause-stream_in_a_fragment
returns-clause-stream_in_a_fragment c = record { done = refl; items = refl }
