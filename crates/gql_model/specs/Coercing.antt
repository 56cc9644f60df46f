-- What a literal gives at a type that it fits: input coercion, sections 3.5 and 3.9 to 3.12 of the standard. One value stands for a
-- list of it. An object has its input object's fields in their order, those that aren't given by their defaults. What doesn't
-- fit gives null; no rule lets it through.
use Rattle.std.specs.Prelude.{ℕ, zero, suc, ℤ, pos, neg_ℤ, cond, ◌==◌, List, [], ◌∷◌, filter_map, Option, Some, None, option_map, codes}
use Rattle.std.specs.Str.{bytes_eq}
use Rattle.gql_tree.specs.declared.Value.{Value}
use Rattle.gql_tree.specs.declared.Value.TheVariants as v
use Rattle.gql_tree.specs.declared.Named.{Named}
use Rattle.gql_model.specs.Lists.{keyed}
use Rattle.gql_model.specs.rules.Literals.{Written, variable, number, text, truth, null, enum, list, object, Items, no_items, item, Members, no_members, member}
use Rattle.gql_model.specs.rules.References.{Reference, to, list as list_of, non_null}
use Rattle.gql_model.specs.rules.TypeParts.{Input, Defined, inputs_of}
use Rattle.gql_model.specs.rules.Fitting.{digits_from}
use Rattle.gql_model.specs.rules.types.InputCycles.{input_field_count}

-- the number that a literal's characters write; 45 is its `-`
abbrev pub integer : List ℕ → ℤ
integer [] = pos 0
integer (c ∷ cs) = cond (c == 45) (neg_ℤ (pos (digits_from 0 cs))) (pos (digits_from 0 (c ∷ cs)))

-- a whole number is an ID as it is written
abbrev pub number_at : List ℕ → List ℕ → Value
number_at digits name = cond (bytes_eq name (codes "ID")) (v.Text digits) (v.Int (integer digits))

-- what is neither null nor a list, by what it gives at the named type
abbrev pub value_at : (List ℕ → Value) → Reference → Value
value_at gives (to name _) = gives name
value_at gives (list_of r) = v.List (value_at gives r ∷ [])
value_at gives (non_null r) = value_at gives r

-- a list, by what its items give at the item type
abbrev pub list_at : (Reference → List Value) → Reference → Value
list_at gives (to name _) = v.Null
list_at gives (list_of r) = v.List (gives r)
list_at gives (non_null r) = list_at gives r

-- what a field of an object gives, by what is given for it and by its default
abbrev pub member_of : Input → Option (Reference → Value) → Option Value → Option (Named Value)
member_of i (Some gives) default = Some (record { name = i.name.name; value = gives i.type })
member_of i None default = option_map (λ value. record { name = i.name.name; value = value }) default

module _ (ts : List Defined) where
  -- by the values of the defaults
  module _ (default : Input → Option Value) where
    abbrev pub object_at : List (List ℕ × (Reference → Value)) → List ℕ → Value
    object_at given name = v.Object (filter_map (λ i. member_of i (keyed i.name.name given) (default i)) (inputs_of ts name))

    abbrev mutual
      pub coerced : Written → Reference → Value
      coerced (variable name spot) r = v.Null
      coerced (number digits spot) r = value_at (number_at digits) r
      coerced (text t spot) r = value_at (λ name. v.Text t) r
      coerced (truth b spot) r = value_at (λ name. v.Bool b) r
      coerced (null spot) r = v.Null
      coerced (enum name spot) r = value_at (λ type. v.Text name) r
      coerced (list items spot) r = list_at (coerced_items items) r
      coerced (object members spot) r = value_at (object_at (coerced_members members)) r

      pub coerced_items : Items → Reference → List Value
      coerced_items no_items r = []
      coerced_items (item w ws) r = coerced w r ∷ coerced_items ws r

      pub coerced_members : Members → List (List ℕ × (Reference → Value))
      coerced_members no_members = []
      coerced_members (member name spot w ms) = (name, coerced w) ∷ coerced_members ms

  -- the value of a default that needs a chain of at most so many others
  abbrev pub default_within : ℕ → Input → Option Value
  default_within zero i = None
  default_within (suc n) i = option_map (λ w. coerced (default_within n) w i.type) i.default

  -- no chain is longer than all input fields, where no default needs itself
  abbrev pub default_value : Input → Option Value
  default_value = default_within (suc (input_field_count ts))
