-- Named values by their names.
use Rattle.std.specs.Prelude.{ℕ, List, [], ◌∷◌, Bool, true, false, ◌||◌, ◌&&◌, not, Option, Some, None, cond}
use Rattle.std.specs.Str.{bytes_eq}
use Rattle.gql_tree.specs.declared.fields.Named.{Named}

-- whether one of them has the name
abbrev pub has_name : {X : Type 0} → List ℕ → List (Named X) → Bool
has_name n [] = false
has_name n (e ∷ es) = bytes_eq e.name n || has_name n es

-- no later one has the name of an earlier one
abbrev pub apart : {X : Type 0} → List (Named X) → Bool
apart [] = true
apart (e ∷ es) = not (has_name e.name es) && apart es

-- the value of the first of this name
abbrev pub named : {X : Type 0} → List ℕ → List (Named X) → Option X
named n [] = None
named n (e ∷ es) = cond (bytes_eq e.name n) (Some e.value) (named n es)

-- the value put under the name: in place of the first that has it, else at the end
abbrev pub put_named : {X : Type 0} → List ℕ → X → List (Named X) → List (Named X)
put_named n x [] = record { name = n; value = x } ∷ []
put_named n x (e ∷ es) = cond (bytes_eq e.name n) (record { name = e.name; value = x } ∷ es) (e ∷ put_named n x es)
