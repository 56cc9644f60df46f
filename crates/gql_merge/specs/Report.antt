-- A client's report: `none` before the first payload.
use Rattle.std.specs.Prelude.{ℕ, List, Option, None, Some, codes}
use Rattle.gql_tree.specs.declared.value.Value.{Value}
use Rattle.gql_tree.specs.declared.delivery.Fault.{Fault}
use Rattle.gql_tree.specs.declared.delivery.Failure.{Failure}
use Rattle.gql_payload.specs.ReportText.{report_text}
use Rattle.gql_merge.specs.declared.state.State.{State}

abbrev pub report_with : Option Value → List Fault → List Failure → List ℕ
report_with None errors failures = codes "none"
report_with (Some x) errors failures = report_text x errors failures

abbrev pub report_of : State → List ℕ
report_of s = report_with s.value s.errors s.failures
