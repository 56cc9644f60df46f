-- Words on lists.
use Rattle.std.specs.Prelude.{ℕ, Bool, not, cond, List, [], ◌∷◌, map, filter, Option, Some, None}
use Rattle.std.specs.Str.{bytes_eq}

-- each once, where it stands first
abbrev pub firsts : {A : Type 0} → (A → A → Bool) → List A → List A
firsts same [] = []
firsts same (x ∷ xs) = x ∷ filter (λ y. not (same x y)) (firsts same xs)

-- what stands with the key, in order
abbrev pub under : {K A : Type 0} → (K → K → Bool) → K → List (K × A) → List A
under same k [] = []
under same k (x ∷ xs) = cond (same k x.0) (x.1 ∷ under same k xs) (under same k xs)

-- the pairs by their keys, in order of first appearance
abbrev pub gathered : {K A : Type 0} → (K → K → Bool) → List (K × A) → List (K × List A)
gathered same xs = map (λ k. (k, under same k xs)) (firsts same (map (λ x. x.0) xs))

-- what stands with the first such name
abbrev pub keyed : {A : Type 0} → List ℕ → List (List ℕ × A) → Option A
keyed k [] = None
keyed k (x ∷ xs) = cond (bytes_eq x.0 k) (Some x.1) (keyed k xs)
