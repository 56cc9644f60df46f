-- Objects, interfaces and input objects have a field, enums a value and unions a member (sections 3.6 to 3.10 of the standard).
-- At fault is the definition's name.
use Rattle.std.specs.Prelude.{Bool, true, false, List, [], ◌∷◌, flat_map}
use Rattle.gql_tree.specs.declared.Spot.{Spot}
use Rattle.gql_model.specs.declared.schema.TypeKind.{TypeKind}
use Rattle.gql_model.specs.declared.schema.TypeKind.TheVariants as kind
use Rattle.gql_model.specs.rules.Places.{place_if}
use Rattle.gql_model.specs.rules.TypeParts.{Defined}

abbrev pub is_nil : {A : Type 0} → List A → Bool
is_nil [] = true
is_nil (x ∷ xs) = false

abbrev pub is_empty_as : TypeKind → Defined → Bool
is_empty_as kind.Scalar d = false
is_empty_as kind.Object d = is_nil d.fields
is_empty_as kind.Interface d = is_nil d.fields
is_empty_as kind.Union d = is_nil d.members
is_empty_as kind.Enum d = is_nil d.values
is_empty_as kind.Input d = is_nil d.inputs

abbrev pub empty_types : List Defined → List Spot
empty_types ts = flat_map (λ d. place_if (is_empty_as d.kind d) d.name.spot) ts
