use Rattle.std.proofs.Common.{refl}
use Rattle.gql_confluence.proofs.laws.payloads_of_fragments.Goals as goal

pub returns-clause-empty : goal.returns-clause-empty
returns-clause-empty c = refl

pub returns-clause-around : goal.returns-clause-around
returns-clause-around c = refl

pub returns-clause-top : goal.returns-clause-top
returns-clause-top c = refl

pub returns-clause-shared_0_1_2 : goal.returns-clause-shared_0_1_2
returns-clause-shared_0_1_2 c = refl

pub returns-clause-shared_1_0_2 : goal.returns-clause-shared_1_0_2
returns-clause-shared_1_0_2 c = refl

pub returns-clause-shared_1_2_0 : goal.returns-clause-shared_1_2_0
returns-clause-shared_1_2_0 c = refl

pub returns-clause-shared_2_1_0 : goal.returns-clause-shared_2_1_0
returns-clause-shared_2_1_0 c = refl

pub returns-clause-shared_0_2_1 : goal.returns-clause-shared_0_2_1
returns-clause-shared_0_2_1 c = refl

pub returns-clause-shared_2_0_1 : goal.returns-clause-shared_2_0_1
returns-clause-shared_2_0_1 c = refl

pub returns-clause-inside : goal.returns-clause-inside
returns-clause-inside c = refl

pub returns-clause-failed_0_1 : goal.returns-clause-failed_0_1
returns-clause-failed_0_1 c = refl

pub returns-clause-failed_1_0 : goal.returns-clause-failed_1_0
returns-clause-failed_1_0 c = refl
