-- The order of paths, at the end of the shorter.
use Rattle.std.proofs.Common.{◌≡◌, ℕ, zero, suc, min, List, [], ◌∷◌, length, drop, refl, sym, ◌∙◌, arith}
use Rattle.std.specs.Ordering.{nat_cmp}
use Rattle.std.specs.declared.cmp.Ordering.TheVariants.{Less, Greater}
use Rattle.std.proofs.lemmas.Bool.Decides.{nat_tests}
use Rattle.gql_tree.specs.declared.path.Key.{Key}
use Rattle.gql_tree.specs.Order.{path_cmp}

pub nat_cmp_suc : (m n : ℕ) → nat_cmp (suc m) (suc n) ≡ nat_cmp m n
nat_cmp_suc m n = grind (arith, nat_tests)

pub first_less : (n : ℕ) → nat_cmp 0 (suc n) ≡ Less
first_less n = grind (arith, nat_tests)

pub first_greater : (n : ℕ) → nat_cmp (suc n) 0 ≡ Greater
first_greater n = grind (arith, nat_tests)

pub path_cmp_end : (a b : List Key) (i : ℕ) → i ≡ min (length a) (length b) → path_cmp (drop i a) (drop i b) ≡ nat_cmp (length a) (length b)
path_cmp_end [] [] i h = let e : i ≡ 0 = omega arith in rw e refl
path_cmp_end [] (y ∷ ys) i h = let e : i ≡ 0 = omega arith in rw e (sym (first_less (length ys)))
path_cmp_end (x ∷ xs) [] i h = let e : i ≡ 0 = omega arith in rw e (sym (first_greater (length xs)))
path_cmp_end (x ∷ xs) (y ∷ ys) zero h = absurd (omega arith)
path_cmp_end (x ∷ xs) (y ∷ ys) (suc i) h = path_cmp_end xs ys i (omega arith) ∙ sym (nat_cmp_suc (length xs) (length ys))
