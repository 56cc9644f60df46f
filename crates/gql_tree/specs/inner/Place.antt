-- A change of what stands at a path, for private clauses.
use Rattle.std.specs.Prelude.{ℕ, zero, suc, List, [], ◌∷◌, cond, Option, slice_get, option_and_then}
use Rattle.std.specs.Str.{bytes_eq}
use Rattle.gql_tree.specs.declared.path.Key.{Key}
use Rattle.gql_tree.specs.declared.path.Key.TheVariants.{Name, Index}
use Rattle.gql_tree.specs.declared.fields.Named.{Named}
use Rattle.gql_tree.specs.declared.value.Value.{Value, out-Value, roll-Value}
use Rattle.gql_tree.specs.declared.value.Value.TheOpen.{Value-F}
use Rattle.gql_tree.specs.Flat.{Layer, find}
use Rattle.gql_tree.specs.Names.{named}

-- the list with f of its i-th item in place of that item
abbrev pub change_item : ℕ → (Value → Value) → List Value → List Value
change_item i f [] = []
change_item zero f (v ∷ vs) = f v ∷ vs
change_item (suc i) f (v ∷ vs) = v ∷ change_item i f vs

-- the members with f of the value of the first of this name in place of that value
abbrev pub change_named : List ℕ → (Value → Value) → List (Named Value) → List (Named Value)
change_named n f [] = []
change_named n f (m ∷ ms) = cond (bytes_eq m.name n) (record { name = m.name; value = f m.value } ∷ ms) (m ∷ change_named n f ms)

-- one level, with f of the value one key below in place of that value
abbrev pub change_below : Key → (Value → Value) → Layer → Layer
change_below (Index i) f (Value-F.List items) = Value-F.List (change_item i f items)
change_below (Name n) f (Value-F.Object members) = Value-F.Object (change_named n f members)
change_below _ f v = v

-- the value with w at the path, where something stands there
abbrev pub put_at : List Key → Value → Value → Value
put_at [] w v = w
put_at (k ∷ ks) w v = roll-Value (change_below k (put_at ks w) (out-Value v))

-- what stands at a path below an item
abbrev pub find_item : List Key → ℕ → List Value → Option Value
find_item ks i vs = option_and_then (λ w. find w ks) (slice_get vs i)

-- what stands at a path below the member of a name
abbrev pub find_named : List Key → List ℕ → List (Named Value) → Option Value
find_named ks n ms = option_and_then (λ w. find w ks) (named n ms)

-- it is an object
abbrev pub IsObject : Layer → Type 0
IsObject (Value-F.Object members) = Unit {0}
IsObject _ = ⊥

-- it is a list
abbrev pub IsList : Layer → Type 0
IsList (Value-F.List items) = Unit {0}
IsList _ = ⊥
