-- Paths, errors and failures that the orders don't tell apart are equal.
use Rattle.std.proofs.Common.{◌≡◌, [], ◌∷◌, refl, ap, Some, None, arith}
use Rattle.std.specs.Option.{option_cmp}
use Rattle.std.specs.Ordering.{nat_cmp, ordering_then}
use Rattle.std.specs.declared.cmp.Ordering.{Ordering}
use Rattle.std.specs.declared.cmp.Ordering.TheVariants.{Less, Equal, Greater}
use Rattle.std.specs.Cmp.Lexicographic.{slice_cmp}
use Rattle.std.proofs.lemmas.Bool.Decides.{nat_tests}
use Rattle.gql_tree.specs.declared.path.Key.TheVariants.{Name, Index}
use Rattle.gql_tree.specs.Order.{key_cmp}
use Rattle.gql_merge.specs.Order.{paths, texts, fault_cmp, failure_cmp}
use Rattle.gql_merge.proofs.Ordered.{IsExact}

both_tie : (o p : Ordering) → ordering_then o p ≡ Equal → (o ≡ Equal) × (p ≡ Equal)
both_tie Less p e = absurd (cc)
both_tie Equal p e = (refl, e)
both_tie Greater p e = absurd (cc)

numbers_exact : IsExact nat_cmp
numbers_exact x y e = grind (arith, nat_tests)

lists_exact : {X : Type 0} (cmp : X → X → Ordering) → IsExact cmp → IsExact (slice_cmp cmp)
lists_exact cmp h [] [] e = refl
lists_exact cmp h [] (y ∷ ys) e = absurd (cc)
lists_exact cmp h (x ∷ xs) [] e = absurd (cc)
lists_exact cmp h (x ∷ xs) (y ∷ ys) e = let p = both_tie _ _ e in λ i. h x y p.0 i ∷ lists_exact cmp h xs ys p.1 i

options_exact : {X : Type 0} (cmp : X → X → Ordering) → IsExact cmp → IsExact (option_cmp cmp)
options_exact cmp h None None e = refl
options_exact cmp h None (Some y) e = absurd (cc)
options_exact cmp h (Some x) None e = absurd (cc)
options_exact cmp h (Some x) (Some y) e = ap Some (h x y e)

texts_exact : IsExact texts
texts_exact = lists_exact nat_cmp numbers_exact

keys_exact : IsExact key_cmp
keys_exact (Index i) (Index j) e = ap Index (numbers_exact i j e)
keys_exact (Index i) (Name n) e = absurd (cc)
keys_exact (Name m) (Index j) e = absurd (cc)
keys_exact (Name m) (Name n) e = ap Name (texts_exact m n e)

paths_exact : IsExact paths
paths_exact p q e = let keys = lists_exact key_cmp keys_exact p.keys q.keys e in λ i. record { keys = keys i }

pub faults_exact : IsExact fault_cmp
faults_exact a b e =
    let p = both_tie _ _ e in
    let q = both_tie _ _ p.1 in
    let r = both_tie _ _ q.1 in
    let path = options_exact paths paths_exact a.path b.path p.0 in
    let message = texts_exact a.message b.message q.0 in
    let line = numbers_exact a.line b.line r.0 in
    let column = numbers_exact a.column b.column r.1 in
    λ i. record { message = message i; line = line i; column = column i; path = path i }

pub failures_exact : IsExact failure_cmp
failures_exact a b e =
    let p = both_tie _ _ e in
    let q = both_tie _ _ p.1 in
    let path = paths_exact a.path b.path p.0 in
    let label = options_exact texts texts_exact a.label b.label q.0 in
    let errors = lists_exact fault_cmp faults_exact a.errors b.errors q.1 in
    λ i. record { path = path i; label = label i; errors = errors i }
