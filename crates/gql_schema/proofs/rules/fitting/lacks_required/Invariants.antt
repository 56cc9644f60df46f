use Rattle.std.proofs.Common.{◌≡◌, map, drop}
use Rattle.gql_model.specs.rules.Fitting.{lacks_required}
use Rattle.gql_model.specs.rules.Literals.{given}
use Rattle.gql_model.specs.rules.TypeParts.{input_of}
use Rattle.gql_schema.proofs.rules.fitting.lacks_required.Given as goal

abbrev pub invariant-loop-field : goal.invariant-loop-field
invariant-loop-field l = lacks_required (map input_of l.fields) (map (λ m. (given m).name) l.members) ≡ lacks_required (map input_of (drop l.field-index l.fields)) (map (λ m. (given m).name) l.members)
