-- A field that implements an interface's has every argument of that field with the same type, and its further arguments aren't
-- required (IsValidImplementation, section 3.6 of the standard). At fault is the field's name in the type.
use Rattle.std.specs.Prelude.{Bool, not, ◌&&◌, ◌||◌, List, map, flat_map}
use Rattle.std.specs.List.{list_any}
use Rattle.std.specs.Str.{bytes_eq}
use Rattle.gql_tree.specs.declared.Spot.{Spot}
use Rattle.gql_model.specs.rules.Places.{place_if, stands_in}
use Rattle.gql_model.specs.rules.References.{same_type}
use Rattle.gql_model.specs.rules.TypeParts.{Input, Field, Defined, is_required}
use Rattle.gql_model.specs.rules.types.ImplementedFields.{interface_fields}

-- an argument of the field that has the name and the type of the other
abbrev pub is_same_argument : Input → Input → Bool
is_same_argument a b = bytes_eq a.name.name b.name.name && same_type a.type b.type

abbrev pub lacks_argument : Field → Field → Bool
lacks_argument g f = list_any (λ a. not (list_any (is_same_argument a) g.arguments)) f.arguments

-- whether a further argument is required
abbrev pub requires_more : Field → Field → Bool
requires_more g f = list_any (λ b. is_required b && not (stands_in b.name.name (map (λ a. a.name.name) f.arguments))) g.arguments

abbrev pub is_called_otherwise : Field → Field → Bool
is_called_otherwise g f = bytes_eq f.name.name g.name.name && (lacks_argument g f || requires_more g f)

module _ (ts : List Defined) where
  abbrev pub misfitting_arguments_of : Defined → Field → List Spot
  misfitting_arguments_of d g = place_if (list_any (is_called_otherwise g) (interface_fields ts d)) g.name.spot

  abbrev pub misfitting_arguments : List Spot
  misfitting_arguments = flat_map (λ d. flat_map (misfitting_arguments_of d) d.fields) ts
