use Rattle.std.proofs.Common.{map, not}
use Rattle.gql_schema.specs.Seen.{defined, existing_among}
use Rattle.gql_model.specs.rules.Places.{stands_in}
use Rattle.gql_schema.proofs.Names.{used_by_types}
use Rattle.gql_schema.proofs.rules.known_types.KnownTypesRuleDefined.first_in.Goals as goal

pub returns : goal.returns
returns c = let e = used_by_types (λ n. not (stands_in n.name (existing_among (map defined c.args.self.now.types.now)))) c.args.of.now in cc
