use Rattle.std.proofs.Common.{refl}
use Rattle.gql_tool.proofs.hero.laws.worked_documents.Goals as goal

pub returns-clause-plain : goal.returns-clause-plain
returns-clause-plain c = refl

pub returns-clause-deferred : goal.returns-clause-deferred
returns-clause-deferred c = refl

pub returns-clause-bubbling : goal.returns-clause-bubbling
returns-clause-bubbling c = refl
