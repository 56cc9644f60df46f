use Rattle.std.proofs.Common.{◌≡◌, suc, map, take}
use Rattle.gql_model.specs.rules.types.InputCycles.{input_field_count}
use Rattle.gql_schema.specs.Seen.{defined}
use Rattle.gql_schema.proofs.build.schema.chain_of.Given as goal

abbrev pub invariant-loop-of : goal.invariant-loop-of
invariant-loop-of l = l.chain ≡ suc (input_field_count (map defined (take l.of-index l.of-items)))
