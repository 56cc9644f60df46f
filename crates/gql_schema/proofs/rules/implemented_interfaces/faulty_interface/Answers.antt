use Rattle.std.proofs.Common.{ap, ◌∙◌, map, flat_map}
use Rattle.gql_schema.specs.Seen.{defined}
use Rattle.gql_schema.specs.FirstPlace.{first_place}
use Rattle.gql_schema.proofs.Walking.{typewise}
use Rattle.std.proofs.Common.{[]}
use Rattle.gql_model.specs.rules.Places.{in_turn}
use Rattle.gql_model.specs.rules.TypeParts as parts
use Rattle.gql_model.specs.rules.types.ImplementedInterfaces.{faulty_interface}
use Rattle.gql_schema.proofs.rules.implemented_interfaces.faulty_interface.Goals as goal

pub returns : goal.returns
returns c =
    let P = λ (d : parts.Defined). in_turn (λ n. n.name) (faulty_interface (map defined c.args.types.now)) [] d.implements in
    c.first_among.ensures ∙ ap (λ ts. first_place (flat_map (λ of. P (defined of)) ts)) c.as_slice.ensures.now ∙ typewise P c.args.types.now
