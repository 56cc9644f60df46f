-- When keys, paths and deferred fragments are the same.
use Rattle.std.specs.Prelude.{Bool, true, false, ◌&&◌, ◌==◌, List, [], ◌∷◌}
use Rattle.std.specs.Str.{bytes_eq}
use Rattle.gql_tree.specs.declared.path.Key.{Key}
use Rattle.gql_tree.specs.declared.path.Key.TheVariants.{Name, Index}
use Rattle.gql_tree.specs.declared.delivery.FragId.{FragId}

-- item by item the same
abbrev pub same_lists : {A : Type 0} → (A → A → Bool) → List A → List A → Bool
same_lists same [] [] = true
same_lists same (x ∷ xs) (y ∷ ys) = same x y && same_lists same xs ys
same_lists same _ _ = false

-- one index, or one name
abbrev pub same_key : Key → Key → Bool
same_key (Index i) (Index j) = i == j
same_key (Name m) (Name n) = bytes_eq m n
same_key _ _ = false

-- a deferred fragment is known by its place and its object's path
abbrev pub same_fragment : FragId → FragId → Bool
same_fragment a b = (a.place == b.place) && same_lists same_key a.path.keys b.path.keys
