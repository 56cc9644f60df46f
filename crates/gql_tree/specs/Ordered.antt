-- A list in ascending order.
use Rattle.std.specs.Prelude.{List, [], ◌∷◌}
use Rattle.std.specs.declared.cmp.Ordering.{Ordering}
use Rattle.std.specs.Ordering.{match_ordering}

-- one more, before the first that isn't less
abbrev pub placed : {A : Type 0} → (A → A → Ordering) → A → List A → List A
placed cmp x [] = x ∷ []
placed cmp x (y ∷ ys) = match_ordering (cmp x y) (x ∷ y ∷ ys) (x ∷ y ∷ ys) (y ∷ placed cmp x ys)

-- the same elements in ascending order, equal ones as they stand
abbrev pub ordered : {A : Type 0} → (A → A → Ordering) → List A → List A
ordered cmp [] = []
ordered cmp (x ∷ xs) = placed cmp x (ordered cmp xs)
