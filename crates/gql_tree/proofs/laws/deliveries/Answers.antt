use Rattle.std.proofs.Common.{refl}
use Rattle.gql_tree.proofs.laws.deliveries.Goals as goal

pub returns-clause-late_name : goal.returns-clause-late_name
returns-clause-late_name c = refl

pub returns-clause-shared_name : goal.returns-clause-shared_name
returns-clause-shared_name c = refl

pub returns-clause-nested_name : goal.returns-clause-nested_name
returns-clause-nested_name c = refl

pub returns-clause-streamed : goal.returns-clause-streamed
returns-clause-streamed c = refl
