-- The members of each object of a payload, those too that may be left out.
use Rattle.std.proofs.Common.{ℕ, List, [], ◌∷◌, Option, Some}
use Rattle.std.specs.Prelude.{codes}
use Rattle.serde_json.specs.Data.{Data}
use Rattle.serde_json.specs.Data as json
use Rattle.gql_tree.specs.declared.delivery.Fault.{Fault}
use Rattle.gql_tree.specs.declared.delivery.Pending.{Pending}
use Rattle.gql_tree.specs.declared.delivery.Entry.{Entry}
use Rattle.gql_tree.specs.declared.delivery.Completed.{Completed}
use Rattle.gql_tree.specs.declared.delivery.Payload.{Payload}
use Rattle.gql_tree.specs.Json.{data_of}
use Rattle.gql_payload.specs.PayloadText.{unless_empty, if_some, key_data, path_data, locations_data, fault_data, pending_data, fields_data, items_data, entry_data, completed_data}

abbrev pub Part : Type 0
Part = List ℕ × Option Data

abbrev pub fault_parts : Fault → List Part
fault_parts f =
    (codes "locations", locations_data f.line f.column)
    ∷ (codes "message", Some (json.string f.message))
    ∷ (codes "path", if_some path_data f.path) ∷ []

abbrev pub pending_parts : Pending → List Part
pending_parts p =
    (codes "id", Some (json.string p.id))
    ∷ (codes "label", if_some json.string p.label)
    ∷ (codes "path", Some (path_data p.path)) ∷ []

abbrev pub entry_parts : Entry → List Part
entry_parts e =
    (codes "data", fields_data e.content)
    ∷ (codes "errors", unless_empty fault_data e.errors)
    ∷ (codes "id", Some (json.string e.id))
    ∷ (codes "items", items_data e.content)
    ∷ (codes "subPath", unless_empty key_data e.sub_path.keys) ∷ []

abbrev pub completed_parts : Completed → List Part
completed_parts c =
    (codes "errors", unless_empty fault_data c.errors)
    ∷ (codes "id", Some (json.string c.id)) ∷ []

abbrev pub payload_parts : Payload → List Part
payload_parts p =
    (codes "completed", unless_empty completed_data p.completed)
    ∷ (codes "data", if_some data_of p.initial)
    ∷ (codes "errors", unless_empty fault_data p.errors)
    ∷ (codes "hasNext", if_some json.boolean p.has_next)
    ∷ (codes "incremental", unless_empty entry_data p.incremental)
    ∷ (codes "pending", unless_empty pending_data p.pending) ∷ []
