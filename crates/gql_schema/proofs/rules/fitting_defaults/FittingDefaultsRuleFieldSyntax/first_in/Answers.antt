use Rattle.std.proofs.Common.{ap, map}
use Rattle.std.proofs.lemmas.List.Folds.{flat_map-map}
use Rattle.gql_model.specs.rules.TypeParts.{input_of}
use Rattle.gql_model.specs.rules.types.FittingDefaults.{default_places}
use Rattle.gql_schema.specs.Seen.{defined}
use Rattle.gql_schema.specs.FirstPlace.{first_place}
use Rattle.gql_schema.proofs.rules.fitting_defaults.FittingDefaultsRuleFieldSyntax.first_in.Goals as goal

pub returns : goal.returns
returns c = let e = ap first_place (flat_map-map (default_places (map defined c.args.self.now.types.now)) input_of c.args.of.now.arguments) in cc
