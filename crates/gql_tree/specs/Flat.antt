-- What stands in a value: the finite map from its paths to their marks.
-- Source: the response format of the GraphQL standard, section 7.
use Rattle.std.specs.Prelude.{ℕ, ℤ, Bool, List, [], ◌∷◌, Option, Some, length, slice_get, option_map, option_and_then}
use Rattle.gql_tree.specs.declared.path.Key.{Key}
use Rattle.gql_tree.specs.declared.path.Key.TheVariants.{Name, Index}
use Rattle.gql_tree.specs.declared.fields.Named.{Named}
use Rattle.gql_tree.specs.declared.value.Value.{Value, out-Value}
use Rattle.gql_tree.specs.declared.value.Value.TheOpen.{Value-F}
use Rattle.gql_tree.specs.Names.{named}

-- one level of a value
abbrev pub Layer : Type 0
Layer = Value-F Value

-- what a client sees at one place: a list shows its length, an object that it is one
pub data Mark : Type 0 where
  null : Mark
  truth : Bool → Mark
  integer : ℤ → Mark
  text : List ℕ → Mark
  object : Mark
  list : ℕ → Mark

-- what a client sees of one level
abbrev pub mark_of : Layer → Mark
mark_of Value-F.Null = null
mark_of (Value-F.Bool b) = truth b
mark_of (Value-F.Int n) = integer n
mark_of (Value-F.Text t) = text t
mark_of (Value-F.List items) = list (length items)
mark_of (Value-F.Object members) = object

-- the items of a list, and none of another value
abbrev pub items_of : Layer → List Value
items_of (Value-F.List items) = items
items_of _ = []

-- the members of an object, and none of another value
abbrev pub members_of : Layer → List (Named Value)
members_of (Value-F.Object members) = members
members_of _ = []

-- the value one key below
abbrev pub below : Layer → Key → Option Value
below v (Index i) = slice_get (items_of v) i
below v (Name n) = named n (members_of v)

-- the value at a path
abbrev pub find : Value → List Key → Option Value
find v [] = Some v
find v (k ∷ ks) = option_and_then (λ w. find w ks) (below (out-Value v) k)

-- the mark at a path
abbrev pub flat : Value → List Key → Option Mark
flat v path = option_map (λ w. mark_of (out-Value w)) (find v path)
