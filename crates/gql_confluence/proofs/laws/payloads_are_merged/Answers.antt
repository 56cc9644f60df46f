use Rattle.gql_confluence.proofs.Confluent.{taken, merged, there}
use Rattle.gql_confluence.proofs.laws.payloads_are_merged.Goals as goal

pub returns-clause-taken : goal.returns-clause-taken
returns-clause-taken c = taken

pub returns-clause-merged : goal.returns-clause-merged
returns-clause-merged c = merged

pub returns-clause-there : goal.returns-clause-there
returns-clause-there c = there
