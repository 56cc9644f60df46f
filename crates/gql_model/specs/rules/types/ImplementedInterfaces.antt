-- The names that a type implements are distinct interfaces (sections 3.6 and 3.7 of the standard). At fault is one of these
-- names.
use Rattle.std.specs.Prelude.{Bool, not, ◌||◌, List, [], flat_map}
use Rattle.gql_tree.specs.declared.Spot.{Spot}
use Rattle.gql_model.specs.declared.type_syntax.NameAt.{NameAt}
use Rattle.gql_model.specs.rules.Places.{place_if, in_turn}
use Rattle.gql_model.specs.rules.TypeParts.{Defined, is_interface, has_kind}

module _ (ts : List Defined) where
  -- by whether it stands before in the list
  abbrev pub faulty_interface : Bool → NameAt → List Spot
  faulty_interface again n = place_if (again || not (has_kind ts is_interface n.name)) n.spot

  abbrev pub faulty_interfaces : List Spot
  faulty_interfaces = flat_map (λ d. in_turn (λ n. n.name) faulty_interface [] d.implements) ts
