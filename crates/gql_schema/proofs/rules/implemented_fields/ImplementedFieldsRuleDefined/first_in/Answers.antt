use Rattle.std.proofs.Common.{map}
use Rattle.gql_schema.specs.Seen.{defined}
use Rattle.gql_schema.proofs.Parted.{fields_parted}
use Rattle.gql_schema.proofs.rules.implemented_fields.ImplementedFieldsRuleDefined.first_in.Goals as goal

pub returns : goal.returns
returns c = let e = fields_parted (map defined c.args.self.now.types.now) c.args.of.now in cc
