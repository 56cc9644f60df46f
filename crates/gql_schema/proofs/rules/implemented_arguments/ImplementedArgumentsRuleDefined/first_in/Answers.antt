use Rattle.std.proofs.Common.{ap, sym, ◌∙◌, map}
use Rattle.std.proofs.lemmas.List.Folds.{flat_map-map}
use Rattle.gql_model.specs.rules.TypeParts.{field_of}
use Rattle.gql_model.specs.rules.types.ImplementedArguments.{misfitting_arguments_of}
use Rattle.gql_schema.specs.Seen.{defined}
use Rattle.gql_schema.specs.FirstPlace.{first_place}
use Rattle.gql_schema.proofs.rules.implemented_arguments.ImplementedArgumentsRuleDefined.first_in.Goals as goal

pub returns : goal.returns
returns c = c.first_among.ensures ∙ ap first_place (sym (flat_map-map (misfitting_arguments_of (map defined c.args.self.now.types.now) (defined c.args.of.now)) field_of c.args.of.now.fields.now))
