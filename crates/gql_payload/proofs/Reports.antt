-- The members of a report, and that its datum has no float.
use Rattle.std.proofs.Common.{◌≡◌, List, [], ◌∷◌, Some, false, refl}
use Rattle.std.specs.Prelude.{codes}
use Rattle.serde_json.specs.Data as json
use Rattle.serde_json.specs.Written.{has_float}
use Rattle.gql_tree.specs.declared.value.Value.{Value}
use Rattle.gql_tree.specs.declared.delivery.Fault.{Fault}
use Rattle.gql_tree.specs.declared.delivery.Failure.{Failure}
use Rattle.gql_tree.specs.Json.{data_of}
use Rattle.gql_payload.specs.PayloadText.{array, if_some, path_data, fault_data}
use Rattle.gql_tree.proofs.Json.{no_float}
use Rattle.gql_payload.specs.ReportText.{failure_data, report_data}
use Rattle.gql_payload.proofs.Contents.{Part}
use Rattle.gql_payload.proofs.Plain.{members_plain, items_plain, if_some_plain, path_plain, fault_plain}

abbrev pub failure_parts : Failure → List Part
failure_parts f =
    (codes "errors", Some (array fault_data f.errors))
    ∷ (codes "label", if_some json.string f.label)
    ∷ (codes "path", Some (path_data f.path)) ∷ []

abbrev pub report_parts : Value → List Fault → List Failure → List Part
report_parts value errors failures =
    (codes "data", Some (data_of value))
    ∷ (codes "errors", Some (array fault_data errors))
    ∷ (codes "failures", Some (array failure_data failures)) ∷ []

failure_plain : (f : Failure) → has_float (failure_data f) ≡ false
failure_plain f = members_plain (failure_parts f) (items_plain fault_data f.errors fault_plain, (if_some_plain json.string f.label (λ t. refl), (path_plain f.path, tt)))

pub report_plain : (value : Value) (errors : List Fault) (failures : List Failure) → has_float (report_data value errors failures) ≡ false
report_plain value errors failures = members_plain (report_parts value errors failures) (no_float value, (items_plain fault_data errors fault_plain, (items_plain failure_data failures failure_plain, tt)))
