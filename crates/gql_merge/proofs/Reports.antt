-- States that are the same up to the order of members have one report.
use Rattle.std.proofs.Common.{◌≡◌, List, refl, Option, Some, None}
use Rattle.std.specs.Prelude.{IfSome}
use Rattle.gql_tree.specs.declared.value.Value.{Value}
use Rattle.gql_tree.specs.declared.delivery.Fault.{Fault}
use Rattle.gql_tree.specs.declared.delivery.Failure.{Failure}
use Rattle.gql_tree.specs.Same.{SameMaybe}
use Rattle.gql_tree.specs.Typed.{IsTypedValue}
use Rattle.gql_tree.proofs.One.{same_marks}
use Rattle.gql_merge.specs.declared.state.State.{State}
use Rattle.gql_merge.specs.Report.{report_with, report_of}
use Rattle.gql_merge.specs.Same.{IsTypedState, SameState}

report_by : (o p : Option Value) (es fs : List Fault) (xs ys : List Failure) → SameMaybe o p → es ≡ fs → xs ≡ ys → IfSome o IsTypedValue → IfSome p IsTypedValue → report_with o es xs ≡ report_with p fs ys
report_by None None es fs xs ys same e f a b = refl
report_by None (Some w) es fs xs ys same e f a b = absurd same
report_by (Some v) None es fs xs ys same e f a b = absurd same
report_by (Some v) (Some w) es fs xs ys same e f a b = rw (e, f, same_marks v w a b same) refl

pub report_one : (s t : State) → SameState s t → IsTypedState s → IsTypedState t → report_of s ≡ report_of t
report_one s t same a b = report_by s.value t.value s.errors t.errors s.failures t.failures same.value same.errors same.failures a b
