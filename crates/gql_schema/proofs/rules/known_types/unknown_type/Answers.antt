use Rattle.std.proofs.Common.{ap, ◌∙◌, map, flat_map, not}
use Rattle.gql_schema.specs.Seen.{defined, existing_among, unknown_used}
use Rattle.gql_schema.specs.FirstPlace.{first_place}
use Rattle.gql_model.specs.rules.TypeParts.{definition_of, definitions}
use Rattle.gql_model.specs.rules.Places.{stands_in, faults}
use Rattle.gql_model.specs.rules.types.KnownTypes.{used_by}
use Rattle.gql_schema.proofs.Unknown.{unknown_walked}
use Rattle.gql_schema.proofs.rules.known_types.unknown_type.Goals as goal

pub returns : goal.returns
returns c =
    let ts = map defined c.args.types.now in
    let ds = definitions c.args.document.now in
    c.first_among.ensures
    ∙ ap (λ xs. first_place (flat_map (λ x. unknown_used ts (definition_of x)) xs)) c.as_slice.ensures
    ∙ ap first_place (unknown_walked ts c.args.document.now.definitions)
    ∙ ap (λ us. first_place (flat_map (λ d. faults (λ n. not (stands_in n.name (existing_among us))) (used_by d)) ds)) c.requires
