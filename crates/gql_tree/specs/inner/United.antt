-- Uniting level by level, for private clauses.
use Rattle.std.specs.Prelude.{◌≡◌, ℕ, List, [], ◌∷◌, Option, Some, None, cond, slice_get}
use Rattle.gql_tree.specs.declared.fields.Named.{Named}
use Rattle.gql_tree.specs.declared.value.Value.{Value}
use Rattle.gql_tree.specs.Names.{named, has_name}
use Rattle.gql_tree.specs.Flat.{flat}
use Rattle.gql_tree.specs.Union.{IsUnion, Clashes}

-- the first value has the marks of the other two
abbrev pub Unites : Value → Value → Value → Type 0
Unites r a b = IsUnion (flat r) (flat a) (flat b)

-- some path has two different marks in the two
abbrev pub Conflict : Value → Value → Type 0
Conflict a b = Clashes (flat a) (flat b)

-- the same of values that may be missing
abbrev pub UnitesMaybe : Option Value → Option Value → Option Value → Type 0
UnitesMaybe None None None = Unit {0}
UnitesMaybe (Some r) (Some a) None = r ≡ a
UnitesMaybe (Some r) None (Some b) = r ≡ b
UnitesMaybe (Some r) (Some a) (Some b) = Unites r a b
UnitesMaybe _ _ _ = ⊥

-- item by item
abbrev pub UnitesItems : List Value → List Value → List Value → Type 0
UnitesItems [] [] [] = Unit {0}
UnitesItems (r ∷ rs) (x ∷ xs) (y ∷ ys) = Unites r x y × UnitesItems rs xs ys
UnitesItems _ _ _ = ⊥

-- r is m, with the value of its name among the others united in
abbrev pub Joins : List (Named Value) → Named Value → Named Value → Type 0
Joins ns r m = (r.name ≡ m.name) × UnitesMaybe (Some r.value) (Some m.value) (named m.name ns)

-- each of the first is its member of the second, joined
abbrev pub AllJoin : List (Named Value) → List (Named Value) → List (Named Value) → Type 0
AllJoin ns [] [] = Unit {0}
AllJoin ns (r ∷ rs) (m ∷ ms) = Joins ns r m × AllJoin ns rs ms
AllJoin ns _ _ = ⊥

-- the members whose names are none of the first list
abbrev pub others : List (Named Value) → List (Named Value) → List (Named Value)
others ms [] = []
others ms (n ∷ ns) = cond (has_name n.name ms) (others ms ns) (n ∷ others ms ns)

-- two items at one index conflict
abbrev pub ItemsClash : List Value → List Value → Type 0
ItemsClash xs ys = (i : ℕ) × (x : Value) × (y : Value) × (slice_get xs i ≡ Some x) × (slice_get ys i ≡ Some y) × Conflict x y

-- the same of a value that may be missing
abbrev pub ConflictMaybe : Value → Option Value → Type 0
ConflictMaybe v o = (w : Value) × (o ≡ Some w) × Conflict v w

-- two members of one name conflict
abbrev pub MembersClash : List (Named Value) → List (Named Value) → Type 0
MembersClash ms ns = (n : List ℕ) × (x : Value) × (y : Value) × (named n ms ≡ Some x) × (named n ns ≡ Some y) × Conflict x y
