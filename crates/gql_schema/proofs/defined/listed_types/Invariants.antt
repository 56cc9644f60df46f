use Rattle.std.proofs.Common.{◌≡◌, map, take, filter_map}
use Rattle.gql_model.specs.rules.TypeParts.{definition_of, types}
use Rattle.gql_schema.specs.Seen.{defined}
use Rattle.gql_schema.proofs.defined.listed_types.Given as goal

abbrev pub invariant-loop-definition : goal.invariant-loop-definition
invariant-loop-definition l = map defined l.found ≡ types (filter_map definition_of (take l.definition-index l.definition-items))
