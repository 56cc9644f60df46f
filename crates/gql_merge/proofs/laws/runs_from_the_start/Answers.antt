use Rattle.std.proofs.Common.{arith}
use Rattle.gql_merge.specs.Apply.{fresh}
use Rattle.gql_merge.proofs.Runs.{errors_sorted, failures_sorted, value_of_run}
use Rattle.gql_merge.proofs.laws.runs_from_the_start.Goals as goal

pub returns-clause-errors : goal.returns-clause-errors
returns-clause-errors c = λ ps t r. errors_sorted ps fresh t (λ k d lo hi. absurd (omega arith)) r

pub returns-clause-failures : goal.returns-clause-failures
returns-clause-failures c = λ ps t r. failures_sorted ps fresh t (λ k d lo hi. absurd (omega arith)) r

pub returns-clause-value : goal.returns-clause-value
returns-clause-value c = value_of_run
