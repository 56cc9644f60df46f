-- What a client has merged, by what is delivered.
use Rattle.std.proofs.Common.{◌≡◌, ◌↔◌, List, sym, subst, ◌∙◌, ap, Some, Option}
use Rattle.std.specs.Prelude.{flat_map, IfSome}
use Rattle.gql_tree.specs.declared.path.Key.{Key}
use Rattle.gql_tree.specs.declared.value.Value.{Value}
use Rattle.gql_tree.specs.declared.delivery.Failure.{Failure}
use Rattle.gql_tree.specs.declared.delivery.Fault.{Fault}
use Rattle.gql_tree.specs.Flat.{Mark, flat}
use Rattle.gql_tree.specs.Ordered.{ordered}
use Rattle.gql_tree.specs.Forest.{Forest}
use Rattle.gql_tree.specs.Typed.{IsTypedValue}
use Rattle.gql_tree.specs.Merged.{Delivery, HasMark, IsMerged, delivery}
use Rattle.gql_merge.specs.Order.{Sorts, fault_cmp, failure_cmp}
use Rattle.gql_merge.specs.declared.state.State.{State}
use Rattle.gql_merge.specs.Merging.{HasMerged}
use Rattle.gql_merge.specs.Same.{IsTypedState}
use Rattle.gql_merge.proofs.Totals.{faults_total, failures_total}
use Rattle.gql_merge.proofs.Ordered.{sorts-ordered}
use Rattle.gql_merge.proofs.Exact.{faults_exact, failures_exact}

sorted_faults : (xs ys : List Fault) → Sorts fault_cmp xs ys → ys ≡ ordered fault_cmp xs
sorted_faults = sorts-ordered fault_cmp faults_total faults_exact

pub sorted_failures : (xs ys : List Failure) → Sorts failure_cmp xs ys → ys ≡ ordered failure_cmp xs
sorted_failures = sorts-ordered failure_cmp failures_total failures_exact

-- a state that can exist has the defined response
abbrev pub Merges : Forest → State → Type 0
Merges f t = IsTypedState t → HasMerged f t

-- the value that stands in a state that can exist
pub typed_value : (o : Option Value) (x : Value) → o ≡ Some x → IfSome o IsTypedValue → IsTypedValue x
typed_value o x e h = subst (λ (p : Option Value). IfSome p IsTypedValue) e h

-- merged, by what is delivered
module _ (f : Forest) (d : Delivery) (is : delivery f ≡ d) where
  pub merged_by : (x : Value) (faults : List Fault) (failures : List Failure) → IsTypedValue x → ((path : List Key) (m : Mark) → (flat x path ≡ Some m) ↔ HasMark d path m)
      → Sorts fault_cmp (flat_map (λ p. p.errors) d.parts) faults → Sorts failure_cmp d.failures failures → IsMerged f x faults failures
  merged_by x faults failures typed marks errors failed = record {
    typed = typed;
    marks = λ path m. subst (λ (e : Delivery). (flat x path ≡ Some m) ↔ HasMark e path m) (sym is) (marks path m);
    errors = sorted_faults _ faults errors ∙ ap (λ (e : Delivery). ordered fault_cmp (flat_map (λ p. p.errors) e.parts)) (sym is);
    failures = sorted_failures _ failures failed ∙ ap (λ (e : Delivery). ordered failure_cmp e.failures) (sym is);
  }
