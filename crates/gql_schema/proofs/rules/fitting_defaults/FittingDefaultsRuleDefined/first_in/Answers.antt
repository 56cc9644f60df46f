use Rattle.std.proofs.Common.{map}
use Rattle.gql_model.specs.rules.types.FittingDefaults.{default_places}
use Rattle.gql_schema.specs.Seen.{defined}
use Rattle.gql_schema.proofs.Parted.{inputs_parted}
use Rattle.gql_schema.proofs.rules.fitting_defaults.FittingDefaultsRuleDefined.first_in.Goals as goal

pub returns : goal.returns
returns c = let e = inputs_parted (map defined c.args.self.now.types.now) (default_places (map defined c.args.self.now.types.now)) c.args.of.now in cc
