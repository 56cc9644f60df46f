use Rattle.std.proofs.Common.{ap, sym, ◌∙◌, [], map, flat_map}
use Rattle.std.specs.Option.{option_map}
use Rattle.gql_model.specs.rules.Places.{place_if}
use Rattle.gql_model.specs.rules.TypeParts as parts
use Rattle.gql_model.specs.rules.TypeParts.{definitions, schemas}
use Rattle.gql_model.specs.rules.types.OtherRoots.{faulty_roots, is_misused_root}
use Rattle.gql_schema.specs.Seen.{defined, said_roots}
use Rattle.gql_schema.specs.FirstPlace.{first_place}
use Rattle.gql_schema.proofs.Schemas.{no_first}
use Rattle.gql_schema.proofs.Walking.{typewise}
use Rattle.gql_schema.proofs.rules.other_roots.faulty_root.Goals as goal

pub returns-in-None : goal.returns-in-None
returns-in-None c =
    let ts = c.args.types.now in
    let P = λ (d : parts.Defined). place_if (is_misused_root [] d) d.name.spot in
    let none = no_first (schemas (definitions c.args.document.now)) (ap (option_map said_roots) (sym c.in-None.is) ∙ c.first_schema.ensures) in
    c.first_among.ensures
    ∙ ap (λ us. first_place (flat_map (λ of. P (defined of)) us)) c.as_slice.ensures.now
    ∙ typewise P ts
    ∙ ap (λ ss. first_place (faulty_roots (map defined ts) ss)) (sym none)
