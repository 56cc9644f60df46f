use Rattle.std.proofs.Common.{◌≡◌, drop}
use Rattle.gql_model.specs.rules.Fitting.{digits_from}
use Rattle.gql_schema.proofs.build.integers.digits_of.Given as goal

abbrev pub invariant-loop-digit : goal.invariant-loop-digit
invariant-loop-digit l = digits_from 0 l.digits ≡ digits_from l.number (drop l.digit-index l.digits)
