-- Steps that a refusal stops: what may come of a state.
use Rattle.std.specs.Prelude.{◌≡◌, ◌⊎◌, List, [], ◌∷◌, Result, Ok, Err}

-- one step and then another from where it led; the first refusal decides
abbrev pub Then : {S R : Type 0} → (S → Result S R → Type 0) → (S → Result S R → Type 0) → S → Result S R → Type 0
Then {S} first second s (Ok t) = (m : S) × first s (Ok m) × second m (Ok t)
Then {S} first second s (Err e) = first s (Err e) ⊎ ((m : S) × first s (Ok m) × second m (Err e))

-- a step for each item, in order
abbrev pub Each : {S R X : Type 0} → (X → S → Result S R → Type 0) → List X → S → Result S R → Type 0
Each step [] s r = r ≡ Ok s
Each step (x ∷ xs) s r = Then (step x) (Each step xs) s r
