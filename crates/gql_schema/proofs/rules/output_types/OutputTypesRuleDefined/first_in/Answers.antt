use Rattle.std.proofs.Common.{ap, sym, ◌∙◌, map}
use Rattle.gql_model.specs.rules.TypeParts.{has_kind, is_input}
use Rattle.gql_schema.specs.Seen.{defined}
use Rattle.gql_schema.specs.FirstPlace.{first_place}
use Rattle.gql_schema.proofs.Names.{field_types}
use Rattle.gql_schema.proofs.rules.output_types.OutputTypesRuleDefined.first_in.Goals as goal

pub returns : goal.returns
returns c = c.first_among.ensures ∙ ap first_place (sym (field_types (λ n. has_kind (map defined c.args.self.now.types.now) is_input n.name) c.args.of.now.fields.now))
