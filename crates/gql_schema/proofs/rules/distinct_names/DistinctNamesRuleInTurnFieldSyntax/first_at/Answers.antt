use Rattle.gql_schema.proofs.Repeats.{field_repeats}
use Rattle.gql_schema.proofs.rules.distinct_names.DistinctNamesRuleInTurnFieldSyntax.first_at.Goals as goal

pub returns : goal.returns
returns c = let e = field_repeats c.args.again c.args.of.now in cc
