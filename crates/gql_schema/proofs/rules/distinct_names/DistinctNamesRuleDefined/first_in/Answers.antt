use Rattle.gql_schema.proofs.Repeats.{type_repeats}
use Rattle.gql_schema.proofs.rules.distinct_names.DistinctNamesRuleDefined.first_in.Goals as goal

pub returns : goal.returns
returns c = let e = type_repeats c.args.of.now in cc
