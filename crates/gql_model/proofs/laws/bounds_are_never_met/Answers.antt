use Rattle.gql_model.proofs.Below.{collecting_unfolds, ancestors_unfold}
use Rattle.gql_model.proofs.ObjectDepth.{objects_unfold}
use Rattle.gql_model.proofs.ForestDepth.{forests_unfold}
use Rattle.gql_model.proofs.laws.bounds_are_never_met.Goals as goal

pub returns-clause-collecting : goal.returns-clause-collecting
returns-clause-collecting c = collecting_unfolds

pub returns-clause-ancestors : goal.returns-clause-ancestors
returns-clause-ancestors c = ancestors_unfold

pub returns-clause-objects : goal.returns-clause-objects
returns-clause-objects c = objects_unfold

pub returns-clause-forests : goal.returns-clause-forests
returns-clause-forests c = forests_unfold
