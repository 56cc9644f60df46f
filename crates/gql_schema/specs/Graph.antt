-- Graphs whose nodes are numbers from 0.
use Rattle.std.specs.Prelude.{ℕ, Bool, false, cond, ◌==◌, ◌≡◌, ◌<◌, List, [], ◌∷◌, ◌++◌, length, slice_index_or}
use Rattle.std.specs.List.{list_any, count_by, AllByRecursion as Each}
use Rattle.gql_model.specs.rules.Reached.{reached}

abbrev pub has : List ℕ → ℕ → Bool
has ks k = list_any (λ x. k == x) ks

-- ---- graphs

-- of each node the nodes that edges lead to
abbrev pub next_in : List (List ℕ) → ℕ → List ℕ
next_in graph k = slice_index_or graph k []

-- edges lead to nodes
abbrev pub IsGraph : List (List ℕ) → Type 0
IsGraph graph = Each (Each (λ k. k < length graph)) graph

-- these and what is reached from them in at most so many steps
abbrev pub within : List (List ℕ) → ℕ → List ℕ → List ℕ
within graph n start = reached (λ a b. a == b) (next_in graph) n start

-- whether a node is one of these or reached from them
abbrev pub is_reached : List (List ℕ) → List ℕ → ℕ → Bool
is_reached graph start goal = has (within graph (length graph) start) goal

-- ---- numbers, each once

abbrev pub added : List ℕ → ℕ → List ℕ
added ks k = cond (has ks k) ks (ks ++ k ∷ [])

abbrev pub all_added : List ℕ → List ℕ → List ℕ
all_added ks [] = ks
all_added ks (m ∷ ms) = all_added (added ks m) ms

-- the marks tell which numbers are listed, each once
pub record AreMarked (ks : List ℕ) (marks : List Bool) : Type 0 where
  pub told : (k : ℕ) → k < length marks → slice_index_or marks k false ≡ has ks k
  pub within : Each (λ k. k < length marks) ks
  pub counted : count_by (λ b. b) marks ≡ length ks
