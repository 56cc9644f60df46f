use Rattle.gql_confluence.proofs.Past.{tasks_are_of_the_past}
use Rattle.gql_confluence.proofs.laws.tasks_are_of_the_past.Goals as goal

pub returns : goal.returns
returns c = tasks_are_of_the_past
