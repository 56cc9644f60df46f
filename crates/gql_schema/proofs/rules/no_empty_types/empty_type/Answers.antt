use Rattle.std.proofs.Common.{◌∙◌}
use Rattle.gql_schema.proofs.Walking.{typewise}
use Rattle.gql_model.specs.rules.Places.{place_if}
use Rattle.gql_model.specs.rules.TypeParts as parts
use Rattle.gql_model.specs.rules.types.NoEmptyTypes.{is_empty_as}
use Rattle.gql_schema.proofs.rules.no_empty_types.empty_type.Goals as goal

pub returns : goal.returns
returns c = c.first_among.ensures ∙ typewise (λ (d : parts.Defined). place_if (is_empty_as d.kind d) d.name.spot) c.args.types.now
