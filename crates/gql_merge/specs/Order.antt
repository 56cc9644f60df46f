-- A list of errors or of failures in order.
use Rattle.std.specs.Prelude.{List}
use Rattle.std.specs.declared.cmp.Ordering.{Ordering}
use Rattle.std.specs.List.Sorted.{IsPermutation, IsSorted}
pub use Rattle.gql_tree.specs.Order.{paths, texts, fault_cmp, failure_cmp}

-- the second list has what the first has, in this order
abbrev pub Sorts : {X : Type 0} → (X → X → Ordering) → List X → List X → Type 0
Sorts cmp xs ys = IsPermutation xs ys × IsSorted cmp ys
