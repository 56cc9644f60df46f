-- A list that has grown at its end, as maps from paths to marks.
-- Source: the response format of the GraphQL standard, section 7; a stream's items join those that stand.
use Rattle.std.specs.Prelude.{◌≡◌, ℕ, ◌+◌, List, ◌∷◌, ◌++◌, Option, Some, None, length, slice_get}
use Rattle.gql_tree.specs.declared.path.Key.{Key}
use Rattle.gql_tree.specs.declared.path.Key.TheVariants.{Index}
use Rattle.gql_tree.specs.declared.value.Value.{Value}
use Rattle.gql_tree.specs.Flat.{Mark, list, flat}
use Rattle.gql_tree.specs.Union.{Marks}

-- what stands in a value that may be missing
abbrev pub marks : Option Value → Marks
marks None path = None
marks (Some v) path = flat v path

-- the path is neither that of the list nor that of an item from this index on or of what stands in one
abbrev pub IsElsewhere : List Key → ℕ → List Key → Type 0
IsElsewhere path n p = (p ≡ path → ⊥) × ((i : ℕ) (q : List Key) → p ≡ path ++ Index (n + i) ∷ q → ⊥)

-- At the path stands a list, which is longer by these items: they stand behind the old ones, and all
-- else has the marks that it had.
pub record IsLonger (new old : Marks) (path : List Key) (items : List Value) : Type 0 where
  pub first : ℕ
  pub was : old path ≡ Some (list first)
  pub longer : new path ≡ Some (list (first + length items))
  pub behind : (i : ℕ) (q : List Key) → new (path ++ Index (first + i) ∷ q) ≡ marks (slice_get items i) q
  pub else_kept : (p : List Key) → IsElsewhere path first p → new p ≡ old p

-- something other than a list stands there
abbrev pub IsOther : Option Mark → Type 0
IsOther None = ⊥
IsOther (Some (list n)) = ⊥
IsOther (Some _) = Unit {0}
