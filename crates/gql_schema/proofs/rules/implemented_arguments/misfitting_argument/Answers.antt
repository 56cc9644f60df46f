use Rattle.std.proofs.Common.{ap, ◌∙◌, map, flat_map}
use Rattle.gql_schema.specs.Seen.{defined}
use Rattle.gql_schema.specs.FirstPlace.{first_place}
use Rattle.gql_schema.proofs.Walking.{typewise}
use Rattle.gql_model.specs.rules.TypeParts as parts
use Rattle.gql_model.specs.rules.types.ImplementedArguments.{misfitting_arguments_of}
use Rattle.gql_schema.proofs.rules.implemented_arguments.misfitting_argument.Goals as goal

pub returns : goal.returns
returns c =
    let P = λ (d : parts.Defined). flat_map (misfitting_arguments_of (map defined c.args.types.now) d) d.fields in
    c.first_among.ensures ∙ ap (λ ts. first_place (flat_map (λ of. P (defined of)) ts)) c.as_slice.ensures.now ∙ typewise P c.args.types.now
