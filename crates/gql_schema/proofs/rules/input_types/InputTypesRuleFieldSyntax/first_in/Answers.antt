use Rattle.std.proofs.Common.{ap, map}
use Rattle.gql_model.specs.rules.TypeParts.{has_kind, is_composite}
use Rattle.gql_schema.specs.Seen.{defined}
use Rattle.gql_schema.specs.FirstPlace.{first_place}
use Rattle.gql_schema.proofs.Names.{input_types}
use Rattle.gql_schema.proofs.rules.input_types.InputTypesRuleFieldSyntax.first_in.Goals as goal

pub returns : goal.returns
returns c = let e = ap first_place (input_types (λ n. has_kind (map defined c.args.self.now.types.now) is_composite n.name) c.args.of.now.arguments) in cc
