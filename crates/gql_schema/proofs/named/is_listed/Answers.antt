use Rattle.std.proofs.Common.{◌∙◌}
use Rattle.gql_schema.proofs.LookUps.{listed_if_found}
use Rattle.gql_schema.proofs.named.is_listed.Goals as goal

pub returns : goal.returns
returns c = c.is_some.ensures ∙ listed_if_found c.args.names.now c.args.name.now c.get.result c.get.ensures
