use Rattle.std.proofs.Common.{◌≡◌, not, map, flat_map, drop}
use Rattle.std.specs.List.{list_any}
use Rattle.gql_model.specs.rules.Places.{names_of, stands_in}
use Rattle.gql_model.specs.rules.TypeParts.{interfaces_of}
use Rattle.gql_schema.specs.Seen.{defined}
use Rattle.gql_schema.proofs.rules.inherited_interfaces.lacks_inherited.Given as goal

abbrev pub invariant-loop-interface : goal.invariant-loop-interface
invariant-loop-interface l = list_any (λ name. not (stands_in name (names_of (map (λ n. n.at.now) l.own)))) (flat_map (λ i. interfaces_of (map defined l.types) i.name) l.implements) ≡ list_any (λ name. not (stands_in name (names_of (map (λ n. n.at.now) l.own)))) (flat_map (λ i. interfaces_of (map defined l.types) i.name) (drop l.interface-index l.implements))
