use Rattle.std.proofs.Common.{◌≡◌, map, take}
use Rattle.gql_schema.proofs.named.by_name.Given as goal

abbrev pub invariant-loop-at : goal.invariant-loop-at
invariant-loop-at l = map (λ n. n.at.now) l.listed ≡ take l.at-index l.names
