use Rattle.std.proofs.Common.{rules}
use Rattle.gql_multipart.specs.inner.Reading.{part_end}
use Rattle.gql_multipart.proofs.read.part_end.Goals as goal

pub returns-in_err-header-clause-value : goal.returns-in_err-header-clause-value
unfolding part_end
returns-in_err-header-clause-value c = search rules

pub returns-in_err-content-clause-value : goal.returns-in_err-content-clause-value
unfolding part_end
returns-in_err-content-clause-value c = search rules

pub returns-in_err-next-clause-value : goal.returns-in_err-next-clause-value
unfolding part_end
returns-in_err-next-clause-value c = search rules

pub returns-clause-value : goal.returns-clause-value
unfolding part_end
returns-clause-value c = search rules
