use Rattle.gql_confluence.proofs.Announced.{ids_are_announced_first, pendings_are_of_the_forest}
use Rattle.gql_confluence.proofs.laws.ids_are_announced.Goals as goal

pub returns-clause-first : goal.returns-clause-first
returns-clause-first c = ids_are_announced_first

pub returns-clause-of_the_forest : goal.returns-clause-of_the_forest
returns-clause-of_the_forest c = pendings_are_of_the_forest
