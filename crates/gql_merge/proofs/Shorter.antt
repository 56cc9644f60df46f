-- The order of lists, at the end of the shorter.
use Rattle.std.proofs.Common.{◌≡◌, ℕ, zero, suc, min, List, [], ◌∷◌, length, drop, refl, sym, ◌∙◌, arith}
use Rattle.std.specs.Ordering.{nat_cmp}
use Rattle.std.specs.declared.cmp.Ordering.{Ordering}
use Rattle.std.specs.Cmp.Lexicographic.{slice_cmp}
use Rattle.gql_tree.proofs.Order.{nat_cmp_suc, first_less, first_greater}

module _ {X : Type 0} (cmp : X → X → Ordering) where
  pub slice_cmp-end : (a b : List X) (i : ℕ) → i ≡ min (length a) (length b) → slice_cmp cmp (drop i a) (drop i b) ≡ nat_cmp (length a) (length b)
  slice_cmp-end [] [] i h = let e : i ≡ 0 = omega arith in rw e refl
  slice_cmp-end [] (y ∷ ys) i h = let e : i ≡ 0 = omega arith in rw e (sym (first_less (length ys)))
  slice_cmp-end (x ∷ xs) [] i h = let e : i ≡ 0 = omega arith in rw e (sym (first_greater (length xs)))
  slice_cmp-end (x ∷ xs) (y ∷ ys) zero h = absurd (omega arith)
  slice_cmp-end (x ∷ xs) (y ∷ ys) (suc i) h = slice_cmp-end xs ys i (omega arith) ∙ sym (nat_cmp_suc (length xs) (length ys))
