-- The data of payloads have no float.
use Rattle.std.proofs.Common.{◌≡◌, ℕ, List, [], ◌∷◌, map, Option, Some, None, Bool, true, false, ◌||◌, ◌==◌, refl}
use Rattle.serde_json.specs.Data.{Data}
use Rattle.serde_json.specs.Data as json
use Rattle.serde_json.specs.View.{items_of}
use Rattle.serde_json.specs.Written.{has_float, items_have_float, members_have_float}
use Rattle.gql_tree.specs.declared.path.Key.{Key}
use Rattle.gql_tree.specs.declared.path.Key.TheVariants.{Name, Index}
use Rattle.gql_tree.specs.declared.path.Path.{Path}
use Rattle.gql_tree.specs.declared.delivery.Fault.{Fault}
use Rattle.gql_tree.specs.declared.delivery.Pending.{Pending}
use Rattle.gql_tree.specs.declared.delivery.Entry.{Entry}
use Rattle.gql_tree.specs.declared.delivery.Content.{Content}
use Rattle.gql_tree.specs.declared.delivery.Content.TheVariants.{Fields, Items}
use Rattle.gql_tree.specs.declared.delivery.Completed.{Completed}
use Rattle.gql_tree.specs.declared.delivery.Payload.{Payload}
use Rattle.gql_tree.specs.Json.{data_of}
use Rattle.gql_payload.specs.PayloadText.{present, unless_empty, if_some, key_data, path_data, location_data, locations_data, fault_data, pending_data, fields_data, items_data, entry_data, completed_data, payload_data}
use Rattle.gql_tree.proofs.Json.{no_float}
use Rattle.gql_payload.proofs.Contents.{Part, fault_parts, pending_parts, entry_parts, completed_parts, payload_parts}

-- no float is in the datum, if there is one
abbrev IsPlain : Option Data → Type 0
IsPlain None = Unit
IsPlain (Some d) = has_float d ≡ false

-- no float is in any part
abbrev ArePlain : List Part → Type 0
ArePlain [] = Unit
ArePlain (m ∷ ms) = IsPlain m.1 × ArePlain ms

or_false : (a b : Bool) → a ≡ false → b ≡ false → a || b ≡ false
or_false a b e f = rw (e, f) refl

pub members_plain : (ms : List Part) → ArePlain ms → members_have_float (present ms) ≡ false
members_plain [] h = refl
members_plain ((name, None) ∷ ms) h = members_plain ms h.1
members_plain ((name, Some d) ∷ ms) h = or_false _ _ h.0 (members_plain ms h.1)

pub items_plain : {X : Type 0} (f : X → Data) (xs : List X) → ((x : X) → has_float (f x) ≡ false) → items_have_float (items_of (map f xs)) ≡ false
items_plain f [] each = refl
items_plain f (x ∷ xs) each = or_false _ _ (each x) (items_plain f xs each)

unless_empty_plain : {X : Type 0} (f : X → Data) (xs : List X) → ((x : X) → has_float (f x) ≡ false) → IsPlain (unless_empty f xs)
unless_empty_plain f [] each = tt
unless_empty_plain f (x ∷ xs) each = items_plain f (x ∷ xs) each

pub if_some_plain : {X : Type 0} (f : X → Data) (o : Option X) → ((x : X) → has_float (f x) ≡ false) → IsPlain (if_some f o)
if_some_plain f None each = tt
if_some_plain f (Some x) each = each x

key_plain : (k : Key) → has_float (key_data k) ≡ false
key_plain (Name n) = refl
key_plain (Index i) = refl

pub path_plain : (p : Path) → has_float (path_data p) ≡ false
path_plain p = items_plain key_data p.keys key_plain

located : (b : Bool) (line column : ℕ) → IsPlain (elim b [ true ↦ None | false ↦ Some (json.array (json.item (location_data line column) json.no_items)) ])
located true line column = tt
located false line column = refl

locations_plain : (line column : ℕ) → IsPlain (locations_data line column)
locations_plain line column = located (line == 0) line column

pub fault_plain : (f : Fault) → has_float (fault_data f) ≡ false
fault_plain f = members_plain (fault_parts f) (locations_plain f.line f.column, (refl, (if_some_plain path_data f.path path_plain, tt)))

pending_plain : (p : Pending) → has_float (pending_data p) ≡ false
pending_plain p = members_plain (pending_parts p) (refl, (if_some_plain json.string p.label (λ t. refl), (path_plain p.path, tt)))

fields_plain : (c : Content) → IsPlain (fields_data c)
fields_plain (Fields x) = no_float x
fields_plain (Items xs) = tt

items_data_plain : (c : Content) → IsPlain (items_data c)
items_data_plain (Fields x) = tt
items_data_plain (Items xs) = items_plain data_of xs no_float

entry_plain : (e : Entry) → has_float (entry_data e) ≡ false
entry_plain e =
    let faults = unless_empty_plain fault_data e.errors fault_plain in
    let keys = unless_empty_plain key_data e.sub_path.keys key_plain in
    members_plain (entry_parts e) (fields_plain e.content, (faults, (refl, (items_data_plain e.content, (keys, tt)))))

completed_plain : (c : Completed) → has_float (completed_data c) ≡ false
completed_plain c = members_plain (completed_parts c) (unless_empty_plain fault_data c.errors fault_plain, (refl, tt))

pub payload_plain : (p : Payload) → has_float (payload_data p) ≡ false
payload_plain p =
    let ends = unless_empty_plain completed_data p.completed completed_plain in
    let data_plain = if_some_plain data_of p.initial no_float in
    let faults = unless_empty_plain fault_data p.errors fault_plain in
    let next = if_some_plain json.boolean p.has_next (λ b. refl) in
    let entries = unless_empty_plain entry_data p.incremental entry_plain in
    let announced = unless_empty_plain pending_data p.pending pending_plain in
    members_plain (payload_parts p) (ends, (data_plain, (faults, (next, (entries, (announced, tt))))))
