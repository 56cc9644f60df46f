use Rattle.std.proofs.Common.{ap, ◌∙◌, map, flat_map}
use Rattle.gql_schema.specs.Seen.{defined}
use Rattle.gql_schema.specs.FirstPlace.{first_place}
use Rattle.gql_schema.proofs.Walking.{typewise}
use Rattle.gql_model.specs.rules.types.ImplementedFields.{unimplemented_in}
use Rattle.gql_schema.proofs.rules.implemented_fields.unimplemented_field.Goals as goal

pub returns : goal.returns
returns c =
    let P = unimplemented_in (map defined c.args.types.now) in
    c.first_among.ensures ∙ ap (λ ts. first_place (flat_map (λ of. P (defined of)) ts)) c.as_slice.ensures.now ∙ typewise P c.args.types.now
