-- A type implements each interface that its interfaces implement, and no interface implements itself (sections 3.6 and 3.7 of
-- the standard). At fault is the type's name, or that of the interface in its own list.
use Rattle.std.specs.Prelude.{Bool, not, List, ◌++◌, flat_map}
use Rattle.std.specs.List.{list_any}
use Rattle.std.specs.Str.{bytes_eq}
use Rattle.gql_tree.specs.declared.Spot.{Spot}
use Rattle.gql_model.specs.rules.Places.{place_if, stands_in, names_of, faults}
use Rattle.gql_model.specs.rules.TypeParts.{Defined, interfaces_of}

module _ (ts : List Defined) where
  -- whether one of its interfaces implements what it doesn't
  abbrev pub lacks_interface : Defined → Bool
  lacks_interface d = list_any (λ name. not (stands_in name (names_of d.implements))) (flat_map (λ i. interfaces_of ts i.name) d.implements)

  abbrev pub missing_interfaces_of : Defined → List Spot
  missing_interfaces_of d = place_if (lacks_interface d) d.name.spot ++ faults (λ i. bytes_eq i.name d.name.name) d.implements

  abbrev pub missing_interfaces : List Spot
  missing_interfaces = flat_map missing_interfaces_of ts
