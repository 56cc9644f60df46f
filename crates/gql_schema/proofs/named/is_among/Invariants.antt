use Rattle.std.proofs.Common.{◌≡◌, drop}
use Rattle.gql_model.specs.rules.Places.{names_of, stands_in}
use Rattle.gql_schema.proofs.named.is_among.Given as goal

abbrev pub invariant-loop-other : goal.invariant-loop-other
invariant-loop-other l = stands_in l.name (names_of l.names) ≡ stands_in l.name (names_of (drop l.other-index l.names))
