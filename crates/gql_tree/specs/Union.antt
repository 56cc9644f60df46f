-- Uniting what stands in two values: maps from paths to marks.
-- Source: the response format of the GraphQL standard, section 7; a deferred fragment's fields join those that stand.
use Rattle.std.specs.Prelude.{◌≡◌, ◌↔◌, ◌⊎◌, List, [], ◌∷◌, Option, Some, None, cond}
use Rattle.gql_tree.specs.declared.path.Key.{Key}
use Rattle.gql_tree.specs.Keys.{same_key}
use Rattle.gql_tree.specs.Flat.{Mark}

-- a map from paths to marks
abbrev pub Marks : Type 0
Marks = List Key → Option Mark

-- the marks of the first are those of the second and those of the third
abbrev pub IsUnion : Marks → Marks → Marks → Type 0
IsUnion whole a b = (path : List Key) (m : Mark) → (whole path ≡ Some m) ↔ ((a path ≡ Some m) ⊎ (b path ≡ Some m))

-- some path has two different marks
abbrev pub Clashes : Marks → Marks → Type 0
Clashes a b = (path : List Key) × (m : Mark) × (n : Mark) × (a path ≡ Some m) × (b path ≡ Some n) × (m ≡ n → ⊥)

-- the map with each of its paths put behind this one
abbrev pub moved : List Key → Marks → Marks
moved [] a path = a path
moved (k ∷ ks) a [] = None
moved (k ∷ ks) a (l ∷ ls) = cond (same_key k l) (moved ks a ls) None
