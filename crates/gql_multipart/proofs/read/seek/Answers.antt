use Rattle.std.proofs.Common.{rules}
use Rattle.gql_multipart.specs.inner.Reading.{seek}
use Rattle.gql_multipart.proofs.read.seek.Goals as goal

pub returns-in_err-first-clause-value : goal.returns-in_err-first-clause-value
unfolding seek
returns-in_err-first-clause-value c = search rules

pub returns-in_err-at-clause-value : goal.returns-in_err-at-clause-value
unfolding seek
returns-in_err-at-clause-value c = search rules

pub returns-clause-value : goal.returns-clause-value
unfolding seek
returns-clause-value c = search rules
