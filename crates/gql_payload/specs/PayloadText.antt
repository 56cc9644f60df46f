-- The JSON of a payload, and its compact text: names stand in byte order.
-- Source: the response format of the GraphQL standard, section 7, and its incremental delivery.
use Rattle.std.specs.Prelude.{ℕ, true, false, ◌==◌, List, [], ◌∷◌, map, Option, Some, None, codes}
use Rattle.serde_json.specs.Data as json
use Rattle.serde_json.specs.Data.{Data, Members}
use Rattle.serde_json.specs.View.{items_of}
use Rattle.serde_json.specs.Written.{compact_text}
use Rattle.gql_tree.specs.declared.path.Key.{Key}
use Rattle.gql_tree.specs.declared.path.Key.TheVariants.{Name, Index}
use Rattle.gql_tree.specs.declared.path.Path.{Path}
use Rattle.gql_tree.specs.declared.delivery.Fault.{Fault}
use Rattle.gql_tree.specs.declared.delivery.Pending.{Pending}
use Rattle.gql_tree.specs.declared.delivery.Entry.{Entry}
use Rattle.gql_tree.specs.declared.delivery.Content.{Content}
use Rattle.gql_tree.specs.declared.delivery.Content.TheVariants.{Fields, Items}
use Rattle.gql_tree.specs.declared.delivery.Completed.{Completed}
use Rattle.gql_tree.specs.declared.delivery.Payload.{Payload}
use Rattle.gql_tree.specs.Json.{data_of}

-- ---- members that may be left out

-- the members that have a datum, in the order given
abbrev pub present : List (List ℕ × Option Data) → Members
present [] = json.no_members
present (m ∷ ms) = elim m.1 [ None ↦ present ms | Some d ↦ json.member m.0 d (present ms) ]

-- an object of them
abbrev pub object_with : List (List ℕ × Option Data) → Data
object_with ms = json.object (present ms)

-- an array of a datum for each
abbrev pub array : {X : Type 0} → (X → Data) → List X → Data
array f xs = json.array (items_of (map f xs))

-- the array, left out where it is empty
abbrev pub unless_empty : {X : Type 0} → (X → Data) → List X → Option Data
unless_empty f [] = None
unless_empty f (x ∷ xs) = Some (array f (x ∷ xs))

-- the datum of what is there, left out where nothing is
abbrev pub if_some : {X : Type 0} → (X → Data) → Option X → Option Data
if_some f None = None
if_some f (Some x) = Some (f x)

-- ---- errors

-- a natural number
abbrev pub number : ℕ → Data
number n = json.number (json.unsigned n)

-- a response name, or an index
abbrev pub key_data : Key → Data
key_data (Name n) = json.string n
key_data (Index i) = number i

-- a path, key by key
abbrev pub path_data : Path → Data
path_data p = array key_data p.keys

-- one location
abbrev pub location_data : ℕ → ℕ → Data
location_data line column = object_with (
    (codes "column", Some (number column))
    ∷ (codes "line", Some (number line)) ∷ [])

-- a list of one location; line 0 means that there is none
abbrev pub locations_data : ℕ → ℕ → Option Data
locations_data line column = elim (line == 0) [ true ↦ None | false ↦ Some (json.array (json.item (location_data line column) json.no_items)) ]

-- an error, its locations and its path left out where it has none
abbrev pub fault_data : Fault → Data
fault_data f = object_with (
    (codes "locations", locations_data f.line f.column)
    ∷ (codes "message", Some (json.string f.message))
    ∷ (codes "path", if_some path_data f.path) ∷ [])

-- ---- incremental delivery

-- the announcement of an id, its label left out where it has none
abbrev pub pending_data : Pending → Data
pending_data p = object_with (
    (codes "id", Some (json.string p.id))
    ∷ (codes "label", if_some json.string p.label)
    ∷ (codes "path", Some (path_data p.path)) ∷ [])

-- the fields of an entry, where it has fields
abbrev pub fields_data : Content → Option Data
fields_data (Fields x) = Some (data_of x)
fields_data (Items xs) = None

-- the items of an entry, where it has items: also an empty list is written
abbrev pub items_data : Content → Option Data
items_data (Fields x) = None
items_data (Items xs) = Some (array data_of xs)

-- data of an announced id: fields or items; no errors and an empty sub-path are left out
abbrev pub entry_data : Entry → Data
entry_data e = object_with (
    (codes "data", fields_data e.content)
    ∷ (codes "errors", unless_empty fault_data e.errors)
    ∷ (codes "id", Some (json.string e.id))
    ∷ (codes "items", items_data e.content)
    ∷ (codes "subPath", unless_empty key_data e.sub_path.keys) ∷ [])

-- the end of an id; no errors are left out
abbrev pub completed_data : Completed → Data
completed_data c = object_with (
    (codes "errors", unless_empty fault_data c.errors)
    ∷ (codes "id", Some (json.string c.id)) ∷ [])

-- ---- the payload

-- One message of an answer. `data` may be null; it is left out in a later payload, and `hasNext`
-- where the answer is one payload.
abbrev pub payload_data : Payload → Data
payload_data p = object_with (
    (codes "completed", unless_empty completed_data p.completed)
    ∷ (codes "data", if_some data_of p.initial)
    ∷ (codes "errors", unless_empty fault_data p.errors)
    ∷ (codes "hasNext", if_some json.boolean p.has_next)
    ∷ (codes "incremental", unless_empty entry_data p.incremental)
    ∷ (codes "pending", unless_empty pending_data p.pending) ∷ [])

-- compact JSON
abbrev pub payload_text : Payload → List ℕ
payload_text p = compact_text (payload_data p)
