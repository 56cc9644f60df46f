use Rattle.std.proofs.Common.{refl}
use Rattle.gql_confluence.proofs.laws.orders_of_tasks.Goals as goal

pub returns-clause-nothing_to_run : goal.returns-clause-nothing_to_run
returns-clause-nothing_to_run c = refl

pub returns-clause-inside : goal.returns-clause-inside
returns-clause-inside c = refl

pub returns-clause-in_items : goal.returns-clause-in_items
returns-clause-in_items c = refl

pub returns-clause-complete : goal.returns-clause-complete
returns-clause-complete c = refl

pub returns-clause-complete_with_a_stream : goal.returns-clause-complete_with_a_stream
returns-clause-complete_with_a_stream c = refl

pub returns-clause-too_short : goal.returns-clause-too_short
returns-clause-too_short c = refl

pub returns-clause-too_long : goal.returns-clause-too_long
returns-clause-too_long c = refl

pub returns-clause-before_it_is_numbered : goal.returns-clause-before_it_is_numbered
returns-clause-before_it_is_numbered c = refl

pub returns-clause-twice : goal.returns-clause-twice
returns-clause-twice c = refl
