use Rattle.std.proofs.Common.{ap, map, not}
use Rattle.gql_schema.specs.Seen.{defined, existing_among, unknown_used}
use Rattle.gql_schema.specs.FirstPlace.{first_place}
use Rattle.gql_model.specs.rules.Places.{stands_in}
use Rattle.gql_model.specs.rules.TypeParts.{definition_of}
use Rattle.gql_schema.proofs.Names.{root_names}
use Rattle.gql_schema.proofs.rules.known_types.KnownTypesRuleTypeSyntax.first_in.Goals as goal

pub returns-in-Schema : goal.returns-in-Schema
returns-in-Schema c =
    let e = ap first_place (root_names (λ n. not (stands_in n.name (existing_among (map defined c.args.self.now.types.now)))) c.in-Schema.roots) in
    let here = ap (λ x. first_place (unknown_used (map defined c.args.self.now.types.now) (definition_of x))) c.in-Schema.is in
    cc
