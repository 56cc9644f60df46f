use Rattle.std.proofs.Common.{◌≡◌, take}
use Rattle.gql_model.specs.rules.Places.{names_of}
use Rattle.gql_schema.proofs.build.types.values_of.Given as goal

abbrev pub invariant-loop-value : goal.invariant-loop-value
invariant-loop-value l = l.made ≡ names_of (take l.value-index l.values)
