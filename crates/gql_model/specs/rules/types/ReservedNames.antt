-- No defined name begins with two underscores (sections 3.3, 3.6, 3.6.1, 3.9 and 3.10 of the standard): of a type, a field, an
-- argument, an enum value or an input field.
use Rattle.std.specs.Prelude.{Bool, List, ◌∷◌, ◌++◌, map, flat_map, take, codes}
use Rattle.std.specs.Str.{bytes_eq}
use Rattle.gql_tree.specs.declared.Spot.{Spot}
use Rattle.gql_model.specs.declared.type_syntax.NameAt.{NameAt}
use Rattle.gql_model.specs.rules.Places.{faults}
use Rattle.gql_model.specs.rules.TypeParts.{Field, Defined, named_input}

abbrev pub names_in_field : Field → List NameAt
names_in_field f = f.name ∷ map named_input f.arguments

abbrev pub names_in : Defined → List NameAt
names_in d = d.name ∷ (flat_map names_in_field d.fields ++ (map named_input d.inputs ++ d.values))

abbrev pub is_reserved : NameAt → Bool
is_reserved n = bytes_eq (take 2 n.name) (codes "__")

abbrev pub reserved_names : List Defined → List Spot
reserved_names ts = flat_map (λ d. faults is_reserved (names_in d)) ts
