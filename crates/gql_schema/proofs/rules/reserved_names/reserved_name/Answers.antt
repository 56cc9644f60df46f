use Rattle.std.proofs.Common.{◌∙◌}
use Rattle.gql_schema.proofs.Walking.{typewise}
use Rattle.gql_model.specs.rules.Places.{faults}
use Rattle.gql_model.specs.rules.TypeParts as parts
use Rattle.gql_model.specs.rules.types.ReservedNames.{names_in, is_reserved}
use Rattle.gql_schema.proofs.rules.reserved_names.reserved_name.Goals as goal

pub returns : goal.returns
returns c = c.first_among.ensures ∙ typewise (λ (d : parts.Defined). faults is_reserved (names_in d)) c.args.types.now
