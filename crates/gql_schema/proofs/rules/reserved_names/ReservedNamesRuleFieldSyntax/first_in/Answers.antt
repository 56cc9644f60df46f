use Rattle.gql_model.specs.rules.types.ReservedNames.{is_reserved}
use Rattle.gql_schema.proofs.Names.{field_names}
use Rattle.gql_schema.proofs.rules.reserved_names.ReservedNamesRuleFieldSyntax.first_in.Goals as goal

pub returns : goal.returns
returns c = let e = field_names is_reserved c.args.of.now in cc
