use Rattle.std.proofs.Common.{ap, ◌∙◌, map, flat_map}
use Rattle.gql_schema.specs.Seen.{defined}
use Rattle.gql_schema.specs.FirstPlace.{first_place}
use Rattle.gql_schema.proofs.Walking.{typewise}
use Rattle.gql_model.specs.rules.Places.{faults}
use Rattle.gql_model.specs.rules.TypeParts as parts
use Rattle.gql_model.specs.rules.TypeParts.{has_kind, is_composite}
use Rattle.gql_model.specs.rules.types.InputTypes.{input_types}
use Rattle.gql_schema.proofs.rules.input_types.output_taken_in.Goals as goal

pub returns : goal.returns
returns c =
    let P = λ (d : parts.Defined). faults (λ n. has_kind (map defined c.args.types.now) is_composite n.name) (input_types d) in
    c.first_among.ensures ∙ ap (λ ts. first_place (flat_map (λ of. P (defined of)) ts)) c.as_slice.ensures.now ∙ typewise P c.args.types.now
