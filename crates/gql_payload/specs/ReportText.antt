-- The JSON of a client's report, and its compact text: names stand in byte order.
-- Source: the response format of the GraphQL standard, section 7; `failures` is this project's own.
use Rattle.std.specs.Prelude.{ℕ, List, [], ◌∷◌, Some, codes}
use Rattle.serde_json.specs.Data as json
use Rattle.serde_json.specs.Data.{Data}
use Rattle.serde_json.specs.Written.{compact_text}
use Rattle.gql_tree.specs.declared.value.Value.{Value}
use Rattle.gql_tree.specs.declared.delivery.Fault.{Fault}
use Rattle.gql_tree.specs.declared.delivery.Failure.{Failure}
use Rattle.gql_tree.specs.Json.{data_of}
use Rattle.gql_payload.specs.PayloadText.{object_with, array, if_some, path_data, fault_data}

-- what was announced and failed, its label left out where it has none
abbrev pub failure_data : Failure → Data
failure_data f = object_with (
    (codes "errors", Some (array fault_data f.errors))
    ∷ (codes "label", if_some json.string f.label)
    ∷ (codes "path", Some (path_data f.path)) ∷ [])

-- all three members, also empty lists
abbrev pub report_data : Value → List Fault → List Failure → Data
report_data value errors failures = object_with (
    (codes "data", Some (data_of value))
    ∷ (codes "errors", Some (array fault_data errors))
    ∷ (codes "failures", Some (array failure_data failures)) ∷ [])

-- compact JSON
abbrev pub report_text : Value → List Fault → List Failure → List ℕ
report_text value errors failures = compact_text (report_data value errors failures)
