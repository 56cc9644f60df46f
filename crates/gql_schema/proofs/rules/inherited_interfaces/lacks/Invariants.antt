use Rattle.std.proofs.Common.{◌≡◌, not, map, drop}
use Rattle.std.specs.List.{list_any}
use Rattle.gql_model.specs.rules.Places.{names_of, stands_in}
use Rattle.gql_schema.proofs.rules.inherited_interfaces.lacks.Given as goal

abbrev pub invariant-loop-at : goal.invariant-loop-at
invariant-loop-at l = list_any (λ name. not (stands_in name (names_of (map (λ n. n.at.now) l.own)))) (names_of l.names) ≡ list_any (λ name. not (stands_in name (names_of (map (λ n. n.at.now) l.own)))) (names_of (drop l.at-index l.names))
