-- A union's members are distinct object types (section 3.8 of the standard). At fault is a member's name.
use Rattle.std.specs.Prelude.{Bool, not, ◌||◌, List, [], flat_map}
use Rattle.gql_tree.specs.declared.Spot.{Spot}
use Rattle.gql_model.specs.declared.type_syntax.NameAt.{NameAt}
use Rattle.gql_model.specs.rules.Places.{place_if, in_turn}
use Rattle.gql_model.specs.rules.TypeParts.{Defined, is_object, has_kind}

module _ (ts : List Defined) where
  -- by whether it stands before among the members
  abbrev pub faulty_member : Bool → NameAt → List Spot
  faulty_member again n = place_if (again || not (has_kind ts is_object n.name)) n.spot

  abbrev pub faulty_members : List Spot
  faulty_members = flat_map (λ d. in_turn (λ n. n.name) faulty_member [] d.members) ts
