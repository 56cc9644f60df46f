-- What is reached along edges.
use Rattle.std.specs.Prelude.{ℕ, zero, suc, Bool, List, ◌++◌, flat_map}
use Rattle.std.specs.List.{list_any}
use Rattle.gql_model.specs.Lists.{firsts}

module _ {A : Type 0} (same : A → A → Bool) (next : A → List A) where
  -- these and what is reached from them in at most so many steps, each once
  abbrev pub reached : ℕ → List A → List A
  reached zero xs = xs
  reached (suc n) xs = reached n (firsts same (xs ++ flat_map next xs))

  -- whether a thing reaches itself, in a step and then at most so many
  abbrev pub is_on_cycle : ℕ → A → Bool
  is_on_cycle n x = list_any (same x) (reached n (next x))
