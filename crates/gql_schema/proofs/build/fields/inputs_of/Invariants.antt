use Rattle.std.proofs.Common.{◌≡◌, map, take}
use Rattle.gql_model.specs.SaidSchema.{seen_input, said_input}
use Rattle.gql_model.specs.rules.TypeParts.{input_of}
use Rattle.gql_schema.specs.Seen.{defined}
use Rattle.gql_schema.proofs.build.fields.inputs_of.Given as goal

abbrev pub invariant-loop-input : goal.invariant-loop-input
invariant-loop-input l = map seen_input l.made ≡ map (said_input (map defined l.types)) (map input_of (take l.input-index l.inputs))
