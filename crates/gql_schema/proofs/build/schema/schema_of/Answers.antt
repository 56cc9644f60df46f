use Rattle.std.proofs.Common.{◌∙◌, ap, map, option_map}
use Rattle.gql_model.specs.SaidSchema.{seen_type}
use Rattle.gql_model.specs.rules.TypeParts.{definitions}
use Rattle.gql_schema.specs.Seen.{defined}
use Rattle.gql_schema.proofs.SaidRoots.{wholly_said}
use Rattle.gql_schema.proofs.build.schema.schema_of.Goals as goal

pub returns : goal.returns
returns c =
    wholly_said (map defined c.args.types.now) (definitions c.args.document.now) (map seen_type c.in_ok-new.field-0) c.query_of-query.result.number
    (option_map (λ t. t.number) c.root_of-mutation.result) (option_map (λ t. t.number) c.root_of-subscription.result)
    c.requires.types (ap (map seen_type) c.in_ok-new.ensures ∙ c.in_ok-all_types.ensures) c.query_of-query.ensures c.root_of-mutation.ensures c.root_of-subscription.ensures
