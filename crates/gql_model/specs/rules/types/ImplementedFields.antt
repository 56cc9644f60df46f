-- For each field of an interface that a type implements, the type has a field of that name whose type is the same or a subtype
-- (IsValidImplementation and IsValidImplementationFieldType, section 3.6 of the standard): the Non-Null of a subtype, a list of a
-- subtype, or an object or interface that the named type holds. At fault is the field's name in the type, or the type's name
-- where it lacks the field.
use Rattle.std.specs.Prelude.{ℕ, Bool, false, not, ◌&&◌, ◌||◌, List, ◌++◌, map, flat_map}
use Rattle.std.specs.List.{list_any}
use Rattle.std.specs.Str.{bytes_eq}
use Rattle.gql_tree.specs.declared.Spot.{Spot}
use Rattle.gql_model.specs.rules.Places.{place_if, stands_in}
use Rattle.gql_model.specs.rules.References.{Reference, to, list, non_null}
use Rattle.gql_model.specs.rules.TypeParts.{Field, Defined, fields_of, members_named, interfaces_of}

module _ (ts : List Defined) where
  -- whether the first, a union or an interface, holds the second
  abbrev pub holds : List ℕ → List ℕ → Bool
  holds whole name = stands_in name (members_named ts whole) || stands_in whole (interfaces_of ts name)

  abbrev pub is_subtype : Reference → Reference → Bool
  is_subtype (to a _) (to b _) = bytes_eq a b || holds b a
  is_subtype (to a _) _ = false
  is_subtype (list r) (list s) = is_subtype r s
  is_subtype (list r) _ = false
  is_subtype (non_null r) (non_null s) = is_subtype r s
  is_subtype (non_null r) s = is_subtype r s

  -- the fields of all interfaces that a type implements
  abbrev pub interface_fields : Defined → List Field
  interface_fields d = flat_map (λ i. fields_of ts i.name) d.implements

  -- whether a field of this name is one of an interface's
  abbrev pub lacks_field : Defined → Bool
  lacks_field d = list_any (λ f. not (stands_in f.name.name (map (λ g. g.name.name) d.fields))) (interface_fields d)

  abbrev pub is_misfit : Field → Field → Bool
  is_misfit g f = bytes_eq f.name.name g.name.name && not (is_subtype g.type f.type)

  abbrev pub faulty_field : Defined → Field → List Spot
  faulty_field d g = place_if (list_any (is_misfit g) (interface_fields d)) g.name.spot

  abbrev pub unimplemented_in : Defined → List Spot
  unimplemented_in d = place_if (lacks_field d) d.name.spot ++ flat_map (faulty_field d) d.fields

  abbrev pub unimplemented_fields : List Spot
  unimplemented_fields = flat_map unimplemented_in ts
