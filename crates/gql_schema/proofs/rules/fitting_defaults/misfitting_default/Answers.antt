use Rattle.std.proofs.Common.{ap, ◌∙◌, map, flat_map}
use Rattle.gql_schema.specs.Seen.{defined}
use Rattle.gql_schema.specs.FirstPlace.{first_place}
use Rattle.gql_schema.proofs.Walking.{typewise}
use Rattle.gql_model.specs.rules.TypeParts as parts
use Rattle.gql_model.specs.rules.TypeParts.{inputs_in}
use Rattle.gql_model.specs.rules.types.FittingDefaults.{default_places}
use Rattle.gql_schema.proofs.rules.fitting_defaults.misfitting_default.Goals as goal

pub returns : goal.returns
returns c =
    let P = λ (d : parts.Defined). flat_map (default_places (map defined c.args.types.now)) (inputs_in d) in
    c.first_among.ensures ∙ ap (λ ts. first_place (flat_map (λ of. P (defined of)) ts)) c.as_slice.ensures.now ∙ typewise P c.args.types.now
