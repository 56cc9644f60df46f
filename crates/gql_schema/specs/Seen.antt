-- What the checkers' view of a type is as plain data.
use Rattle.std.specs.Prelude.{ℕ, Bool, false, not, cond, nat_lt, List, [], ◌∷◌, ◌++◌, map, Option, Some, None}
use Rattle.gql_tree.specs.declared.Spot.{Spot}
use Rattle.gql_model.specs.declared.type_syntax.NameAt.{NameAt}
use Rattle.gql_model.specs.rules.Places.{stands_in, faults}
use Rattle.gql_model.specs.rules.types.KnownTypes.{used_by}
use Rattle.gql_model.specs.declared.schema.TypeKind.{TypeKind}
use Rattle.gql_model.specs.rules.References.{Reference, to, list as list_of, non_null}
use Rattle.gql_model.specs.rules.TypeParts as parts
use Rattle.gql_model.specs.rules.TypeParts.{Definition, type, input_of, field_of, built_in, has_kind, is_input, inputs_of}
use Rattle.gql_schema.specs.declared.defined.Defined.{Defined}
use Rattle.gql_schema.specs.declared.roots.Roots.{Roots}

abbrev pub defined : Defined → parts.Defined
defined of = record {
  name = of.name.now;
  kind = of.kind;
  implements = of.implements.now;
  fields = map field_of of.fields.now;
  inputs = map input_of of.inputs.now;
  members = of.members.now;
  values = of.values.now;
}

-- whether there is a kind, and it is one of these
abbrev pub passes : (TypeKind → Bool) → Option TypeKind → Bool
passes test None = false
passes test (Some kind) = test kind

-- the names of these types and of the scalars that every service has
abbrev pub existing_among : List parts.Defined → List (List ℕ)
existing_among ts = built_in ++ map (λ d. d.name.name) ts

-- the names that a type uses
abbrev pub used_by_type : parts.Defined → List NameAt
used_by_type d = used_by (type d)

-- the places where a definition, if there is one, uses a name that isn't one of these types'
abbrev pub unknown_used : List parts.Defined → Option Definition → List Spot
unknown_used ts None = []
unknown_used ts (Some d) = faults (λ n. not (stands_in n.name (existing_among ts))) (used_by d)

-- ---- `schema` definitions

abbrev pub said_roots : Roots → parts.Roots
said_roots it = record { roots = it.roots.now; word = it.word }

abbrev pub first_of : {A : Type 0} → List A → Option A
first_of [] = None
first_of (x ∷ xs) = Some x

-- ---- places in a list

-- whether there is a place, and it is one of so many first ones
abbrev pub stands_before : ℕ → Option ℕ → Bool
stands_before before None = false
stands_before before (Some place) = nat_lt place before

-- ---- types of input

-- the type of the items, where the type is that of lists
abbrev pub item_of : Reference → Option Reference
item_of (to name spot) = None
item_of (list_of r) = Some r
item_of (non_null r) = item_of r

-- the fields of the input object of this name, if there is one
abbrev pub input_object : List parts.Defined → List ℕ → Option (List parts.Input)
input_object ts name = cond (has_kind ts is_input name) (Some (inputs_of ts name)) None
