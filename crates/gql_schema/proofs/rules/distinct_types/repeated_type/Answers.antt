use Rattle.std.proofs.Common.{ap}
use Rattle.gql_schema.specs.FirstPlace.{first_place}
use Rattle.gql_schema.proofs.InTurn.{repeated_types-begin}
use Rattle.gql_schema.proofs.rules.distinct_types.repeated_type.Goals as goal

pub loop-i-init : goal.loop-i-init
loop-i-init c = ap first_place (repeated_types-begin c.args.types.now)
