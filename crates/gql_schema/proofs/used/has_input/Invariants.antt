use Rattle.std.proofs.Common.{◌≡◌, map, drop}
use Rattle.gql_model.specs.rules.Places.{stands_in}
use Rattle.gql_model.specs.rules.TypeParts.{input_of}
use Rattle.gql_schema.proofs.used.has_input.Given as goal

abbrev pub invariant-loop-input : goal.invariant-loop-input
invariant-loop-input l = stands_in l.name (map (λ i. i.name.name) (map input_of l.inputs)) ≡ stands_in l.name (map (λ i. i.name.name) (map input_of (drop l.input-index l.inputs)))
