use Rattle.std.proofs.Common.{sym, ◌∙◌, ap, map, is_some, option_map, true≢false}
use Rattle.gql_model.specs.rules.TypeParts.{definitions, schemas}
use Rattle.gql_schema.specs.Seen.{defined}
use Rattle.gql_schema.proofs.SaidRoots.{query_said}
use Rattle.gql_schema.proofs.build.schema.query_of.Goals as goal

pub unreachable-requires : goal.unreachable-requires
unreachable-requires c =
    true≢false (
    sym (query_said (schemas (definitions c.args.document.now)) (map defined c.args.types.now) c.requires.query)
    ∙ sym (ap is_some c.root_of.ensures)
    ∙ ap (λ o. is_some (option_map (λ t. t.number) o)) c.in-None.is)
