-- The payload that a JSON datum is: one definition for each object of the format.
-- Source: the response format of the GraphQL standard, section 7, and its incremental delivery.
use Rattle.std.specs.Prelude.{◌≡◌, ℕ, ◌^◌, List, [], ◌∷◌, Bool, nat_lt, Option, Some, None, IsSome, is_some, option_map, option_and_then, cond, codes, IsUtf8}
use Rattle.serde_json.specs.Data.{Data, null, string, object, Items as json_items, no_items, item}
use Rattle.serde_json.specs.Find.{get, as_str, as_bool, as_array, as_object, as_number, as_u64}
use Rattle.serde_json.specs.Read.{read}
use Rattle.gql_tree.specs.declared.path.Key.{Key}
use Rattle.gql_tree.specs.declared.path.Key.TheVariants.{Name, Index}
use Rattle.gql_tree.specs.declared.path.Path.{Path}
use Rattle.gql_tree.specs.declared.value.Value.{Value}
use Rattle.gql_tree.specs.declared.delivery.Spot.{Spot}
use Rattle.gql_tree.specs.declared.delivery.Fault.{Fault}
use Rattle.gql_tree.specs.declared.delivery.Pending.{Pending}
use Rattle.gql_tree.specs.declared.delivery.Content.{Content}
use Rattle.gql_tree.specs.declared.delivery.Content.TheVariants.{Fields, Items}
use Rattle.gql_tree.specs.declared.delivery.Entry.{Entry}
use Rattle.gql_tree.specs.declared.delivery.Completed.{Completed}
use Rattle.gql_tree.specs.declared.delivery.Payload.{Payload}
use Rattle.gql_tree.specs.FromJson.{has_bad_number, value_of}

-- ---- members and lists; None says that it is wrong

-- the member of a name, as if it were absent where it is null
abbrev pub unless_null : Option Data → Option Data
unless_null None = None
unless_null (Some null) = None
unless_null (Some d) = Some d

-- a member that must be there
abbrev pub required : {X : Type 0} → (Data → Option X) → Option Data → Option X
required f None = None
required f (Some d) = f d

-- a member that may be left out
abbrev pub optional : {X : Type 0} → (Data → Option X) → Option Data → Option (Option X)
optional f None = Some None
optional f (Some d) = option_map Some (f d)

-- each item of a list, in order; one wrong item makes it wrong
abbrev pub each : {X : Type 0} → (Data → Option X) → json_items → Option (List X)
each f no_items = Some []
each f (item d ds) = option_and_then (λ x. option_map (λ xs. x ∷ xs) (each f ds)) (f d)

-- a list
abbrev pub list_of : {X : Type 0} → (Data → Option X) → Data → Option (List X)
list_of f d = option_and_then (each f) (as_array d)

-- a list that may be left out: then it is empty
abbrev pub optional_list : {X : Type 0} → (Data → Option X) → Option Data → Option (List X)
optional_list f None = Some []
optional_list f (Some d) = list_of f d

-- ---- values

-- a value has no bad number
abbrev pub value : Data → Option Value
value d = cond (has_bad_number d) None (Some (value_of d))

-- an object of values
abbrev pub fields : Data → Option Value
fields d = option_and_then (λ ms. value (object ms)) (as_object d)

-- ---- paths and errors

-- a whole number from 0 to 4,294,967,295
abbrev pub small : ℕ → Option ℕ
small n = cond (nat_lt n (2 ^ 32)) (Some n) None

-- the number of a datum that is one
abbrev pub whole : Data → Option ℕ
whole d = option_and_then small (option_and_then as_u64 (as_number d))

-- one from 1 on
abbrev pub counted : Data → Option ℕ
counted d = option_and_then (λ n. cond (nat_lt 0 n) (Some n) None) (whole d)

-- a response name, or an index
abbrev pub key : Data → Option Key
key (string s) = Some (Name s)
key d = option_map Index (whole d)

-- a list of keys
abbrev pub path : Data → Option Path
path d = option_map (λ keys. record { keys = keys }) (list_of key d)

-- a line and a column
abbrev pub location : Data → Option Spot
location d =
    option_and_then (λ line. option_map (λ column. record { line = line; column = column })
    (required counted (get (codes "column") d)))
    (required counted (get (codes "line") d))

-- the first of several locations; line 0 and column 0 where there is none
abbrev pub first_location : json_items → Option Spot
first_location no_items = Some (record { line = 0; column = 0 })
first_location (item d ds) = location d

-- the location of an error: the first that is listed, line 0 and column 0 where it has none
abbrev pub locations : Option Data → Option Spot
locations None = Some (record { line = 0; column = 0 })
locations (Some d) = option_and_then first_location (as_array d)

-- a message, with a location and a path where they are there
abbrev pub fault : Data → Option Fault
fault d =
    option_and_then (λ message. option_and_then (λ spot. option_map (λ path. record { message = message; line = spot.line; column = spot.column; path = path })
    (optional path (unless_null (get (codes "path") d))))
    (locations (unless_null (get (codes "locations") d))))
    (required as_str (get (codes "message") d))

-- ---- incremental delivery

-- an id and a path, with a label where it is there
abbrev pub pending : Data → Option Pending
pending d =
    option_and_then (λ id. option_and_then (λ path. option_map (λ label. record { id = id; path = path; label = label })
    (optional as_str (unless_null (get (codes "label") d))))
    (required path (get (codes "path") d)))
    (required as_str (get (codes "id") d))

-- exactly one of `data` and `items`
abbrev pub content : Option Data → Option Data → Option Content
content (Some d) None = option_map Fields (fields d)
content None (Some d) = option_map Items (list_of value d)
content _ _ = None

-- an id and its content, with a sub-path and errors where they are there
abbrev pub entry : Data → Option Entry
entry d =
    option_and_then (λ id. option_and_then (λ keys. option_and_then (λ content. option_map (λ errors. record { id = id; sub_path = record { keys = keys }; content = content; errors = errors })
    (optional_list fault (unless_null (get (codes "errors") d))))
    (content (get (codes "data") d) (get (codes "items") d)))
    (optional_list key (unless_null (get (codes "subPath") d))))
    (required as_str (get (codes "id") d))

-- an id, with errors where they are there
abbrev pub completed : Data → Option Completed
completed d =
    option_and_then (λ id. option_map (λ errors. record { id = id; errors = errors })
    (optional_list fault (unless_null (get (codes "errors") d))))
    (required as_str (get (codes "id") d))

-- ---- the payload

-- `data`: absent, null, or an object
abbrev pub initial : Option Data → Option (Option Value)
initial None = Some None
initial (Some null) = Some (Some Value.Null)
initial (Some d) = option_map Some (fields d)

-- ---- each member of a payload

-- `completed`
abbrev pub completed_of : Data → Option (List Completed)
completed_of d = optional_list completed (unless_null (get (codes "completed") d))

-- `data`
abbrev pub initial_of : Data → Option (Option Value)
initial_of d = initial (get (codes "data") d)

-- `errors`
abbrev pub errors_of : Data → Option (List Fault)
errors_of d = optional_list fault (unless_null (get (codes "errors") d))

-- `hasNext`
abbrev pub has_next_of : Data → Option (Option Bool)
has_next_of d = optional as_bool (unless_null (get (codes "hasNext") d))

-- `incremental`
abbrev pub incremental_of : Data → Option (List Entry)
incremental_of d = optional_list entry (unless_null (get (codes "incremental") d))

-- `pending`
abbrev pub pending_of : Data → Option (List Pending)
pending_of d = optional_list pending (unless_null (get (codes "pending") d))

-- the payload that an object is, where none of its members is wrong
abbrev pub payload : Data → Option Payload
payload d =
    option_and_then (λ completed. option_and_then (λ initial. option_and_then (λ errors. option_and_then (λ has_next. option_and_then (λ incremental. option_map (λ pending.
    record { initial = initial; errors = errors; pending = pending; incremental = incremental; completed = completed; has_next = has_next })
    (pending_of d))
    (incremental_of d))
    (has_next_of d))
    (errors_of d))
    (initial_of d))
    (completed_of d)

-- the first of these names whose member is wrong
abbrev pub first_wrong : List (List ℕ × Bool) → Option (List ℕ)
first_wrong [] = None
first_wrong (m ∷ ms) = cond m.1 (first_wrong ms) (Some m.0)

-- the first wrong member in byte order
abbrev pub wrong_member : Data → Option (List ℕ)
wrong_member d = first_wrong (
    (codes "completed", is_some (completed_of d))
    ∷ (codes "data", is_some (initial_of d))
    ∷ (codes "errors", is_some (errors_of d))
    ∷ (codes "hasNext", is_some (has_next_of d))
    ∷ (codes "incremental", is_some (incremental_of d))
    ∷ (codes "pending", is_some (pending_of d)) ∷ [])

-- ---- from bytes

-- the bytes are JSON in UTF-8, and this is its datum
abbrev pub IsJson : List ℕ → Data → Type 0
IsJson bytes d = IsUtf8 bytes × (read bytes ≡ Some d)

-- the bytes are the JSON of this object
abbrev pub IsJsonObject : List ℕ → Data → Type 0
IsJsonObject bytes d = IsJson bytes d × IsSome (as_object d)

-- the bytes are this payload
abbrev pub Decodes : List ℕ → Payload → Type 0
Decodes bytes p = (d : Data) × IsJsonObject bytes d × (payload d ≡ Some p)
