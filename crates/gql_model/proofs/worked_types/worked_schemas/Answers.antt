use Rattle.std.proofs.Common.{refl}
use Rattle.gql_model.proofs.worked_types.worked_schemas.Goals as goal

pub returns-clause-pets : goal.returns-clause-pets
returns-clause-pets c = refl

pub returns-clause-kept : goal.returns-clause-kept
returns-clause-kept c = refl

pub returns-clause-defaults : goal.returns-clause-defaults
returns-clause-defaults c = refl
