-- Every type that is named exists (section 3.4 of the standard): as a root, an implemented interface, a member of a union, or as
-- what the type of a field, an argument or an input field is built on.
use Rattle.std.specs.Prelude.{ℕ, not, List, [], ◌∷◌, ◌++◌, map, flat_map}
use Rattle.gql_tree.specs.declared.Spot.{Spot}
use Rattle.gql_model.specs.declared.type_syntax.NameAt.{NameAt}
use Rattle.gql_model.specs.rules.Places.{stands_in, faults}
use Rattle.gql_model.specs.rules.References.{innermost}
use Rattle.gql_model.specs.rules.TypeParts.{Input, Field, Definition, schema, type, types, built_in}

abbrev pub used_by_input : Input → NameAt
used_by_input i = innermost i.type

abbrev pub used_by_field : Field → List NameAt
used_by_field f = map used_by_input f.arguments ++ innermost f.type ∷ []

abbrev pub used_by : Definition → List NameAt
used_by (schema s) = map (λ r. r.name) s.roots
used_by (type d) = d.implements ++ (flat_map used_by_field d.fields ++ (d.members ++ map used_by_input d.inputs))

abbrev pub existing : List Definition → List (List ℕ)
existing ds = built_in ++ map (λ d. d.name.name) (types ds)

abbrev pub unknown_types : List Definition → List Spot
unknown_types ds = flat_map (λ d. faults (λ n. not (stands_in n.name (existing ds))) (used_by d)) ds
