use Rattle.std.proofs.Common.{◌∙◌}
use Rattle.gql_schema.proofs.Walking.{typewise}
use Rattle.gql_model.specs.rules.Places.{place_if}
use Rattle.gql_model.specs.rules.TypeParts as parts
use Rattle.gql_model.specs.rules.TypeParts.{is_scalar}
use Rattle.gql_schema.proofs.rules.no_scalars.scalar_definition.Goals as goal

pub returns : goal.returns
returns c = c.first_among.ensures ∙ typewise (λ (d : parts.Defined). place_if (is_scalar d.kind) d.name.spot) c.args.types.now
