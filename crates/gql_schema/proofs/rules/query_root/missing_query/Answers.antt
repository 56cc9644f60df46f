use Rattle.std.proofs.Common.{◌≡◌, ap, sym, ◌∙◌, not, [], Some, None, rules}
use Rattle.std.specs.Prelude.{codes}
use Rattle.std.specs.Option.{option_copied}
use Rattle.gql_model.specs.rules.Places.{place_if}
use Rattle.gql_model.specs.rules.TypeParts.{is_object}
use Rattle.gql_model.specs.rules.types.QueryRoot.{missing_query}
use Rattle.gql_schema.specs.FirstPlace.{first_place}
use Rattle.gql_schema.proofs.LookUps.{named_as}
use Rattle.gql_schema.proofs.rules.query_root.missing_query.Goals as goal
use Rattle.gql_schema.proofs.rules.query_root.missing_query.Goals.{in-Object, in_default}

pub returns-after-matches : goal.returns-after-matches
returns-after-matches c =
    let is : c.match-matches.matches ≡ is_object c.in-Some.of.now.kind = elim c.match-matches.branch [ in-Object w ↦ search rules | in_default w ↦ search rules ] in
    c.place_if.ensures
    ∙ ap (λ b. first_place (place_if (not b) c.in-Some.of.now.name.now.spot)) is
    ∙ ap (λ o. first_place (missing_query [] o)) (named_as c.args.types.now (codes "Query") (Some c.in-Some.of.now) (ap option_copied (sym c.in-Some.is) ∙ c.get.ensures))

pub returns-in-None : goal.returns-in-None
returns-in-None c = ap (λ o. first_place (missing_query [] o)) (named_as c.args.types.now (codes "Query") None (ap option_copied (sym c.in-None.is) ∙ c.get.ensures))
