-- The value that a JSON datum is.
-- Source: JSON (RFC 8259), and the integers that a response holds: those of 64 signed bits.
use Rattle.std.specs.Prelude.{ℤ, pos, ◌^◌, List, [], ◌∷◌, Bool, true, false, ◌||◌, not, nat_lt}
use Rattle.serde_json.specs.Data.{Num, unsigned, negative, float, Data, null, boolean, number, string, array, object, Items, no_items, item, Members, no_members, member}
use Rattle.gql_tree.specs.declared.fields.Named.{Named}
use Rattle.gql_tree.specs.declared.value.Value.{Value}
use Rattle.gql_tree.specs.declared.value.Value.TheVariants as Value

-- Bad is a number that is no integer of 64 signed bits: a float, or an integer above the greatest.
-- What is written with a point or an exponent is a float, and so is `-0`.
abbrev pub is_bad : Num → Bool
is_bad (unsigned n) = not (nat_lt n (2 ^ 63))
is_bad (negative z) = false
is_bad (float x) = true

-- a bad number stands somewhere in the datum
abbrev mutual
  pub has_bad_number : Data → Bool
  has_bad_number null = false
  has_bad_number (boolean b) = false
  has_bad_number (number n) = is_bad n
  has_bad_number (string s) = false
  has_bad_number (array ds) = items_have_bad_number ds
  has_bad_number (object ms) = members_have_bad_number ms

  pub items_have_bad_number : Items → Bool
  items_have_bad_number no_items = false
  items_have_bad_number (item d ds) = has_bad_number d || items_have_bad_number ds

  pub members_have_bad_number : Members → Bool
  members_have_bad_number no_members = false
  members_have_bad_number (member k d ms) = has_bad_number d || members_have_bad_number ms

-- the integer; nothing asks for that of a float
abbrev pub integer_of : Num → ℤ
integer_of (unsigned n) = pos n
integer_of (negative z) = z
integer_of (float x) = pos 0

-- the value of a datum with no bad number: items and members keep their order
abbrev mutual
  pub value_of : Data → Value
  value_of null = Value.Null
  value_of (boolean b) = Value.Bool b
  value_of (number n) = Value.Int (integer_of n)
  value_of (string s) = Value.Text s
  value_of (array ds) = Value.List (values_of ds)
  value_of (object ms) = Value.Object (fields_of ms)

  pub values_of : Items → List Value
  values_of no_items = []
  values_of (item d ds) = value_of d ∷ values_of ds

  pub fields_of : Members → List (Named Value)
  fields_of no_members = []
  fields_of (member k d ms) = record { name = k; value = value_of d } ∷ fields_of ms
