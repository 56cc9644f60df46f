use Rattle.std.proofs.Common.{◌∙◌}
use Rattle.gql_schema.proofs.Walking.{typewise}
use Rattle.gql_model.specs.rules.types.DistinctNames.{repeated_in}
use Rattle.gql_schema.proofs.rules.distinct_names.repeated_name.Goals as goal

pub returns : goal.returns
returns c = c.first_among.ensures ∙ typewise (repeated_in) c.args.types.now
