-- Equality up to the order of members.
use Rattle.std.specs.Prelude.{◌≡◌, List, [], ◌∷◌, Some, None, Option}
use Rattle.gql_tree.specs.declared.path.Key.{Key}
use Rattle.gql_tree.specs.declared.value.Value.{Value}
use Rattle.gql_tree.specs.Flat.{flat}

-- the two have equal maps from paths to marks
abbrev pub SameFlat : Value → Value → Type 0
SameFlat v w = (path : List Key) → flat v path ≡ flat w path

-- the same of values that may be missing
abbrev pub SameMaybe : Option Value → Option Value → Type 0
SameMaybe None None = Unit {0}
SameMaybe (Some v) (Some w) = SameFlat v w
SameMaybe _ _ = ⊥

-- the same of two lists, item by item
abbrev pub SameItems : List Value → List Value → Type 0
SameItems [] [] = Unit {0}
SameItems (v ∷ vs) (w ∷ ws) = SameFlat v w × SameItems vs ws
SameItems _ _ = ⊥
