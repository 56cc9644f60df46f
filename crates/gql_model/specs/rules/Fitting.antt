-- Whether a literal fits a type: input coercion, sections 3.5 and 3.9 to 3.12 of the standard, as the list of the places in it that
-- don't. A place is the innermost literal that doesn't fit by itself, the name of an unknown field or of one that is given
-- twice, or the object literal that lacks a required field. A variable is passed over.
use Rattle.std.specs.Prelude.{ℕ, ◌+◌, ◌-◌, ◌*◌, ◌^◌, Bool, true, false, not, cond, ◌==◌, ◌&&◌, ◌||◌, nat_lt, nat_le, List, [], ◌∷◌, ◌++◌, Option, Some, None, codes}
use Rattle.std.specs.List.{list_any}
use Rattle.std.specs.Str.{bytes_eq}
use Rattle.gql_tree.specs.declared.Spot.{Spot}
use Rattle.gql_model.specs.rules.Places.{place_if, stands_in}
use Rattle.gql_model.specs.rules.Literals.{Written, variable, number, text, truth, null, enum, list, object, Items, no_items, item, Members, no_members, member, given_names}
use Rattle.gql_model.specs.rules.References.{Reference, to, list as list_of, non_null}
use Rattle.gql_model.specs.rules.TypeParts as parts
use Rattle.gql_model.specs.rules.TypeParts.{Defined, is_required, is_input, input_named, has_kind, inputs_of, values_of}

-- ---- whole numbers

-- the number that decimal digits write behind this one
abbrev pub digits_from : ℕ → List ℕ → ℕ
digits_from n [] = n
digits_from n (d ∷ ds) = digits_from (n * 10 + (d - 48)) ds

-- whether a number is one of 32 signed bits (section 3.5.1); 45 is its `-`
abbrev pub is_int32 : List ℕ → Bool
is_int32 [] = false
is_int32 (c ∷ cs) = cond (c == 45) (nat_le (digits_from 0 cs) (2 ^ 31)) (nat_lt (digits_from 0 (c ∷ cs)) (2 ^ 31))

-- ---- by the type's lists and Non-Nulls

-- what is neither null nor a list: one value stands for a list of it, so the named type decides
abbrev pub at_named : (List ℕ → List Spot) → Reference → List Spot
at_named places (to name _) = places name
at_named places (list_of r) = at_named places r
at_named places (non_null r) = at_named places r

-- a null: a Non-Null doesn't take it
abbrev pub at_null : Spot → Reference → List Spot
at_null spot (non_null r) = spot ∷ []
at_null spot _ = []

-- a list, by what its items say of the item type
abbrev pub at_list : (Reference → List Spot) → Spot → Reference → List Spot
at_list places spot (to name _) = spot ∷ []
at_list places spot (list_of r) = places r
at_list places spot (non_null r) = at_list places spot r

-- ---- literals

-- whether a required field is missing among the names given
abbrev pub lacks_required : List parts.Input → List (List ℕ) → Bool
lacks_required is names = list_any (λ i. is_required i && not (stands_in i.name.name names)) is

module _ (ts : List Defined) where
  abbrev pub number_misfits : List ℕ → List ℕ → Bool
  number_misfits digits name = not ((bytes_eq name (codes "Int") && is_int32 digits) || bytes_eq name (codes "ID"))

  abbrev pub text_misfits : List ℕ → Bool
  text_misfits name = not (bytes_eq name (codes "String") || bytes_eq name (codes "ID"))

  -- an object literal where its fields are known to lack nothing, or not to be those of an input object
  abbrev pub object_places : Spot → List (List ℕ) → (List parts.Input → List Spot) → List ℕ → List Spot
  object_places spot names inside name =
      cond (has_kind ts is_input name)
      (place_if (lacks_required (inputs_of ts name) names) spot ++ inside (inputs_of ts name))
      (spot ∷ [])

  -- a field of an object literal: by whether its name is given before, and by the input field of its name
  abbrev pub member_places : Spot → Bool → (Reference → List Spot) → Option parts.Input → List Spot
  member_places spot true value found = spot ∷ []
  member_places spot false value None = spot ∷ []
  member_places spot false value (Some i) = value i.type

  abbrev mutual
    -- the places in a literal that don't fit the type
    pub misfits : Written → Reference → List Spot
    misfits (variable name spot) r = []
    misfits (number digits spot) r = at_named (λ name. place_if (number_misfits digits name) spot) r
    misfits (text t spot) r = at_named (λ name. place_if (text_misfits name) spot) r
    misfits (truth b spot) r = at_named (λ name. place_if (not (bytes_eq name (codes "Boolean"))) spot) r
    misfits (null spot) r = at_null spot r
    misfits (enum value spot) r = at_named (λ name. place_if (not (stands_in value (values_of ts name))) spot) r
    misfits (list items spot) r = at_list (item_misfits items) spot r
    misfits (object members spot) r = at_named (object_places spot (given_names members) (member_misfits members [])) r

    -- in the items of a list, at the item type
    pub item_misfits : Items → Reference → List Spot
    item_misfits no_items r = []
    item_misfits (item w ws) r = misfits w r ++ item_misfits ws r

    -- in the fields of an object behind those of these names, at the fields of an input object
    pub member_misfits : Members → List (List ℕ) → List parts.Input → List Spot
    member_misfits no_members before is = []
    member_misfits (member name spot w ms) before is =
        member_places spot (stands_in name before) (misfits w) (input_named is name) ++ member_misfits ms (before ++ name ∷ []) is
