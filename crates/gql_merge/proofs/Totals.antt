-- The orders of keys, paths, errors and failures are total.
use Rattle.std.proofs.Common.{◌≡◌, refl}
use Rattle.std.specs.Ordering.{ordering_reverse}
use Rattle.std.specs.declared.cmp.Ordering.TheVariants.{Less, Equal}
use Rattle.std.specs.Cmp.{IsTotalOrder, on_total, then_total, nat_cmp_total}
use Rattle.std.specs.Cmp.Lexicographic.{lists_total, options_total}
use Rattle.std.proofs.lemmas.Cmp.{nat_list_cmp_total}
use Rattle.gql_tree.specs.declared.path.Key.{Key}
use Rattle.gql_tree.specs.declared.path.Key.TheVariants.{Name, Index}
use Rattle.gql_tree.specs.declared.path.Path.{Path}
use Rattle.gql_tree.specs.declared.delivery.Fault.{Fault}
use Rattle.gql_tree.specs.declared.delivery.Failure.{Failure}
use Rattle.gql_tree.specs.Order.{key_cmp}
use Rattle.gql_merge.specs.Order.{paths, texts, fault_cmp, failure_cmp}

texts_total : IsTotalOrder texts
texts_total = nat_list_cmp_total

turned : (a b : Key) → key_cmp a b ≡ ordering_reverse (key_cmp b a)
turned (Index i) (Index j) = nat_cmp_total.antisymm i j
turned (Index i) (Name n) = refl
turned (Name m) (Index j) = refl
turned (Name m) (Name n) = texts_total.antisymm m n

chained : (a b c : Key) → key_cmp a b ≡ Less → key_cmp b c ≡ Less → key_cmp a c ≡ Less
chained (Index i) (Index j) (Index k) p q = nat_cmp_total.trans i j k p q
chained (Index i) (Index j) (Name n) p q = refl
chained (Index i) (Name m) (Index k) p q = absurd (cc)
chained (Index i) (Name m) (Name n) p q = refl
chained (Name l) (Index j) (Index k) p q = absurd (cc)
chained (Name l) (Index j) (Name n) p q = absurd (cc)
chained (Name l) (Name m) (Index k) p q = absurd (cc)
chained (Name l) (Name m) (Name n) p q = texts_total.trans l m n p q

tied : (a b c : Key) → key_cmp a b ≡ Equal → key_cmp a c ≡ key_cmp b c
tied (Index i) (Index j) (Index k) p = nat_cmp_total.congr i j k p
tied (Index i) (Index j) (Name n) p = refl
tied (Index i) (Name m) c p = absurd (cc)
tied (Name l) (Index j) c p = absurd (cc)
tied (Name l) (Name m) (Index k) p = refl
tied (Name l) (Name m) (Name n) p = texts_total.congr l m n p

pub keys_total : IsTotalOrder key_cmp
keys_total = record { antisymm = turned; trans = chained; congr = tied }

paths_total : IsTotalOrder paths
paths_total = on_total (λ (p : Path). p.keys) (lists_total keys_total)

pub faults_total : IsTotalOrder fault_cmp
faults_total =
    then_total (on_total (λ (f : Fault). f.path) (options_total paths_total))
    (then_total (on_total (λ (f : Fault). f.message) texts_total)
    (then_total (on_total (λ (f : Fault). f.line) nat_cmp_total) (on_total (λ (f : Fault). f.column) nat_cmp_total)))

pub failures_total : IsTotalOrder failure_cmp
failures_total =
    then_total (on_total (λ (f : Failure). f.path) paths_total)
    (then_total (on_total (λ (f : Failure). f.label) (options_total texts_total)) (on_total (λ (f : Failure). f.errors) (lists_total faults_total)))
