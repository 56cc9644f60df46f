-- The JSON of a payload is read back as the same payload.
use Rattle.std.proofs.Common.{◌≡◌, ℕ, zero, suc, ◌^◌, ◌<◌, ◌≤◌, List, [], ◌∷◌, map, refl, sym, ◌∙◌, ap, Bool, true, false, cond, ◌==◌, Option, Some, None, IsTrue, IsSome, ◌↔◌, Ordering, Less, Equal, Greater, lt-ltb, eqb-true, nat_lt, arith}
use Rattle.std.proofs.lemmas.Bool.{eqb-false}
use Rattle.std.specs.Prelude.{codes, IsUtf8, is_some, option_map, option_and_then, IfSome}
use Rattle.std.specs.List.{AllByRecursion}
use Rattle.std.specs.Option.{option_or}
use Rattle.std.specs.Ordering.{nat_cmp, match_ordering}
use Rattle.std.specs.Cmp.Lexicographic.{slice_cmp}
use Rattle.serde_json.specs.Data as json
use Rattle.serde_json.specs.Data.{Data, depth}
use Rattle.serde_json.specs.Read.{max_depth}
use Rattle.serde_json.specs.Find.{get_member, as_str, as_bool, as_object}
use Rattle.serde_json.specs.View.{items_of}
use Rattle.gql_tree.specs.declared.path.Key.{Key}
use Rattle.gql_tree.specs.declared.path.Key.TheVariants.{Name, Index}
use Rattle.gql_tree.specs.declared.path.Path.{Path}
use Rattle.gql_tree.specs.declared.value.Value.{Value, out-Value}
use Rattle.gql_tree.specs.declared.value.Value.TheOpen.{Value-F}
use Rattle.gql_tree.specs.declared.value.Value.TheFolds.{map-Value, fold_out-Value}
use Rattle.gql_tree.specs.declared.delivery.Fault.{Fault}
use Rattle.gql_tree.specs.declared.delivery.Pending.{Pending}
use Rattle.gql_tree.specs.declared.delivery.Content.{Content}
use Rattle.gql_tree.specs.declared.delivery.Content.TheVariants.{Fields, Items}
use Rattle.gql_tree.specs.declared.delivery.Entry.{Entry}
use Rattle.gql_tree.specs.declared.delivery.Completed.{Completed}
use Rattle.gql_tree.specs.declared.delivery.Payload.{Payload}
use Rattle.gql_tree.specs.Flat.{Layer}
use Rattle.gql_tree.specs.FromJson.{value_of}
use Rattle.gql_tree.specs.Json.{data_step, data_of}
use Rattle.gql_payload.specs.PayloadText as text
use Rattle.gql_payload.specs.PayloadText.{present, array, unless_empty, if_some, number, key_data, path_data, fault_data, pending_data, fields_data, items_data, entry_data, completed_data, payload_data, payload_text}
use Rattle.gql_tree.specs.Same.{SameItems, SameMaybe}
use Rattle.gql_tree.specs.Sound.{is_object, is_object_or_null, IsLocated, IsOfFields, IsSoundEntry, IsSound, SameContent, SameEntries, SamePayload}
use Rattle.gql_tree.proofs.Marks.{same-value_of}
use Rattle.gql_tree.proofs.Typed.{no_bad_number}
use Rattle.gql_payload.specs.Reading.{unless_null, optional, each, optional_list, value, fields, whole, counted, key, path, location, locations, fault, pending, content, entry, completed, initial, completed_of, initial_of, errors_of, has_next_of, incremental_of, pending_of, payload, Decodes}
use Rattle.gql_tree.specs.Typed.{IsTypedValue, IsTypedKey, IsTypedPath, IsTypedFault, IsTypedPending, IsTypedContent, IsTypedEntry, IsTypedCompleted, IsTypedPayload}
use Rattle.gql_payload.proofs.Printed.{read-compact_text}
use Rattle.gql_payload.proofs.Orderly.{payload_orderly}
use Rattle.gql_payload.proofs.Contents.{Part, fault_parts, pending_parts, entry_parts, completed_parts, payload_parts}

-- ---- a member of an object

-- the datum of a name among the parts
abbrev part_at : List ℕ → List Part → Option Data
part_at k [] = None
part_at k (m ∷ ms) = match_ordering (slice_cmp nat_cmp k m.0) (part_at k ms) (option_or m.1 (part_at k ms)) (part_at k ms)

same_ordering : {A : Type 0} (o : Ordering) (x : A) → match_ordering o x x x ≡ x
same_ordering Less x = refl
same_ordering Equal x = refl
same_ordering Greater x = refl

at-members : (k : List ℕ) (ms : List Part) → get_member k (present ms) ≡ part_at k ms
at-members k [] = refl
at-members k ((n, None) ∷ ms) = at-members k ms ∙ sym (same_ordering (slice_cmp nat_cmp k n) (part_at k ms))
at-members k ((n, Some d) ∷ ms) = ap (λ r. match_ordering (slice_cmp nat_cmp k n) r (Some d) r) (at-members k ms)

or_none : {A : Type 0} (o : Option A) → option_or o None ≡ o
or_none None = refl
or_none (Some x) = refl

-- a part that may be left out
found : (k : List ℕ) (ms : List Part) (o : Option Data) → part_at k ms ≡ option_or o None → get_member k (present ms) ≡ o
found k ms o h = at-members k ms ∙ (h ∙ or_none o)

-- ---- lists

each-map : {X Y : Type 0} (P : X → Type 0) (g : X → Data) (f : Data → Option Y) (h : X → Y) → ((x : X) → P x → f (g x) ≡ Some (h x)) → (xs : List X) → AllByRecursion P xs → each f (items_of (map g xs)) ≡ Some (map h xs)
each-map P g f h back [] all = refl
each-map P g f h back (x ∷ xs) all = rw (back x all.0, each-map P g f h back xs all.1) refl

each-same : {X : Type 0} (P : X → Type 0) (g : X → Data) (f : Data → Option X) → ((x : X) → P x → f (g x) ≡ Some x) → (xs : List X) → AllByRecursion P xs → each f (items_of (map g xs)) ≡ Some xs
each-same P g f back [] all = refl
each-same P g f back (x ∷ xs) all = rw (back x all.0, each-same P g f back xs all.1) refl

listed : {X Y : Type 0} (g : X → Data) (f : Data → Option Y) (xs : List X) → optional_list f (unless_null (unless_empty g xs)) ≡ each f (items_of (map g xs))
listed g f [] = refl
listed g f (x ∷ xs) = refl

both_all : {X : Type 0} (P Q : X → Type 0) (xs : List X) → AllByRecursion P xs → AllByRecursion Q xs → AllByRecursion (λ x. P x × Q x) xs
both_all P Q [] h k = tt
both_all P Q (x ∷ xs) h k = ((h.0, k.0), both_all P Q xs h.1 k.1)

-- ---- paths and errors

whole_back : (n : ℕ) → n < 2 ^ 32 → whole (number n) ≡ Some n
whole_back n h = ap (λ b. cond b (Some n) None) (lt-ltb n (2 ^ 32) h)

counted_back : (n : ℕ) → n < 2 ^ 32 → 0 < n → counted (number n) ≡ Some n
counted_back n h k = ap (option_and_then (λ m. cond (nat_lt 0 m) (Some m) None)) (whole_back n h) ∙ ap (λ b. cond b (Some n) None) (lt-ltb 0 n k)

key_back : (k : Key) → IsTypedKey k → key (key_data k) ≡ Some k
key_back (Name n) h = refl
key_back (Index i) h = ap (option_map Index) (whole_back i h)

path_back : (p : Path) → IsTypedPath p → path (path_data p) ≡ Some p
path_back p h = ap (option_map (λ keys. record { keys = keys })) (each-same IsTypedKey key_data key key_back p.keys h)

optional_path : (o : Option Path) → IfSome o IsTypedPath → optional path (unless_null (if_some path_data o)) ≡ Some o
optional_path None h = refl
optional_path (Some p) h = ap (option_map Some) (path_back p h)

location_back : (line column : ℕ) → line < 2 ^ 32 → column < 2 ^ 32 → 0 < line → 0 < column → location (text.location_data line column) ≡ Some (record { line = line; column = column })
location_back line column hl hc kl kc = rw (counted_back line hl kl, counted_back column hc kc) refl

positive : (n : ℕ) → (n ≡ 0 → ⊥) → 0 < n
positive zero h = absurd (h refl)
positive (suc n) h = omega arith

located_by : (b : Bool) (line column : ℕ) → line < 2 ^ 32 → column < 2 ^ 32 → (line == 0) ≡ b → (line ≡ 0) ↔ (column ≡ 0)
    → locations (unless_null (elim b [ true ↦ None | false ↦ Some (json.array (json.item (text.location_data line column) json.no_items)) ])) ≡ Some (record { line = line; column = column })
located_by true line column hl hc e h = let z : line ≡ 0 = eqb-true line 0 e in rw (z, h.0 z) refl
located_by false line column hl hc e h =
    let kl : 0 < line = positive line (λ z. eqb-false line 0 e z) in
    location_back line column hl hc kl (positive column (λ z. eqb-false line 0 e (h.1 z)))

fault_back : (f : Fault) → IsLocated f × IsTypedFault f → fault (fault_data f) ≡ Some f
fault_back f h =
    rw (found (codes "message") (fault_parts f) (Some (json.string f.message)) refl, found (codes "locations") (fault_parts f) (text.locations_data f.line f.column) refl, found (codes "path") (fault_parts f) (if_some path_data f.path) refl)
    (rw (located_by (f.line == 0) f.line f.column h.1.line h.1.column refl h.0, optional_path f.path h.1.path) refl)

faults_back : (fs : List Fault) → AllByRecursion IsLocated fs → AllByRecursion IsTypedFault fs → optional_list fault (unless_null (unless_empty fault_data fs)) ≡ Some fs
faults_back fs h k = listed fault_data fault fs ∙ each-same (λ f. IsLocated f × IsTypedFault f) fault_data fault fault_back fs (both_all IsLocated IsTypedFault fs h k)

-- ---- incremental delivery

optional_text : (o : Option (List ℕ)) → optional as_str (unless_null (if_some json.string o)) ≡ Some o
optional_text None = refl
optional_text (Some t) = refl

pending_back : (p : Pending) → IsTypedPending p → pending (pending_data p) ≡ Some p
pending_back p h =
    rw (found (codes "id") (pending_parts p) (Some (json.string p.id)) refl, found (codes "path") (pending_parts p) (Some (path_data p.path)) refl, found (codes "label") (pending_parts p) (if_some json.string p.label) refl)
    (rw (path_back p.path h, optional_text p.label) refl)

completed_back : (c : Completed) → AllByRecursion IsLocated c.errors × IsTypedCompleted c → completed (completed_data c) ≡ Some c
completed_back c h =
    rw (found (codes "id") (completed_parts c) (Some (json.string c.id)) refl, found (codes "errors") (completed_parts c) (unless_empty fault_data c.errors) refl)
    (rw (faults_back c.errors h.0 h.1) refl)

-- the value of a value's JSON
abbrev pub again : Value → Value
again v = value_of (data_of v)

value_back : (v : Value) → IsTypedValue v → value (data_of v) ≡ Some (again v)
value_back v h = ap (λ b. cond b None (Some (again v))) (no_bad_number v h)

object_of : (d : Data) → IsSome (as_object d) → fields d ≡ value d
object_of json.null h = absurd (cc)
object_of (json.boolean b) h = absurd (cc)
object_of (json.number n) h = absurd (cc)
object_of (json.string s) h = absurd (cc)
object_of (json.array ds) h = absurd (cc)
object_of (json.object ms) h = refl

object_layer : (y : Layer) → IsTrue (is_object y) → IsSome (as_object (data_step (map-Value Value Data data_of y)))
object_layer (Value-F.Object ms) h = refl
object_layer _ h = absurd (cc)

fields_back : (v : Value) → IsTrue (is_object (out-Value v)) → IsTypedValue v → fields (data_of v) ≡ Some (again v)
fields_back v h k =
    let is : IsSome (as_object (data_of v)) = ap (λ d. is_some (as_object d)) (fold_out-Value Data data_step v) ∙ object_layer (out-Value v) h in
    object_of (data_of v) is ∙ value_back v k

abbrev pub content_again : Content → Content
content_again (Fields v) = Fields (again v)
content_again (Items vs) = Items (map again vs)

content_back : (c : Content) → IsOfFields c → IsTypedContent c → content (fields_data c) (items_data c) ≡ Some (content_again c)
content_back (Fields v) h k = ap (option_map Fields) (fields_back v h k.0)
content_back (Items vs) h k = ap (option_map Items) (each-map IsTypedValue data_of value again value_back vs k.1)

abbrev pub entry_again : Entry → Entry
entry_again e = record { id = e.id; sub_path = e.sub_path; content = content_again e.content; errors = e.errors }

keys_back : (ks : List Key) → AllByRecursion IsTypedKey ks → optional_list key (unless_null (unless_empty key_data ks)) ≡ Some ks
keys_back ks h = listed key_data key ks ∙ each-same IsTypedKey key_data key key_back ks h

entry_back : (e : Entry) → IsSoundEntry e × IsTypedEntry e → entry (entry_data e) ≡ Some (entry_again e)
entry_back e h =
    rw (found (codes "id") (entry_parts e) (Some (json.string e.id)) refl, found (codes "subPath") (entry_parts e) (unless_empty key_data e.sub_path.keys) refl, found (codes "data") (entry_parts e) (fields_data e.content) refl, found (codes "items") (entry_parts e) (items_data e.content) refl, found (codes "errors") (entry_parts e) (unless_empty fault_data e.errors) refl)
    (rw (keys_back e.sub_path.keys h.1.sub_path, content_back e.content h.0.content h.1.content, faults_back e.errors h.0.errors h.1.errors) refl)

-- ---- the payload

initial_datum : (d : Data) (y : Layer) → d ≡ data_step (map-Value Value Data data_of y) → IsTrue (is_object_or_null y) → value d ≡ Some (value_of d) → initial (Some d) ≡ Some (Some (value_of d))
initial_datum d Value-F.Null e h k = rw e refl
initial_datum d (Value-F.Object ms) e h k = rw e (ap (option_map Some) (sym (ap value e) ∙ (k ∙ ap (λ x. Some (value_of x)) e)))
initial_datum d (Value-F.Bool b) e h k = absurd (cc)
initial_datum d (Value-F.Int n) e h k = absurd (cc)
initial_datum d (Value-F.Text t) e h k = absurd (cc)
initial_datum d (Value-F.List xs) e h k = absurd (cc)

initial_back : (o : Option Value) → IfSome o (λ v. IsTrue (is_object_or_null (out-Value v))) → IfSome o IsTypedValue → initial (if_some data_of o) ≡ Some (option_map again o)
initial_back None h k = refl
initial_back (Some v) h k = initial_datum (data_of v) (out-Value v) (fold_out-Value Data data_step v) h (value_back v k)

has_next_back : (o : Option Bool) → optional as_bool (unless_null (if_some json.boolean o)) ≡ Some o
has_next_back None = refl
has_next_back (Some b) = refl

abbrev pub payload_again : Payload → Payload
payload_again p = record { initial = option_map again p.initial; errors = p.errors; pending = p.pending; incremental = map entry_again p.incremental; completed = p.completed; has_next = p.has_next }

pub payload_back : (p : Payload) → IsSound p → IsTypedPayload p → payload (payload_data p) ≡ Some (payload_again p)
payload_back p h k =
    let completed_is : completed_of (payload_data p) ≡ Some p.completed =
    ap (λ o. optional_list completed (unless_null o)) (found (codes "completed") (payload_parts p) (unless_empty completed_data p.completed) refl)
    ∙ (listed completed_data completed p.completed ∙ each-same (λ c. AllByRecursion IsLocated c.errors × IsTypedCompleted c) completed_data completed completed_back p.completed (both_all _ IsTypedCompleted p.completed h.completed k.completed)) in
    let initial_is : initial_of (payload_data p) ≡ Some (option_map again p.initial) =
    ap initial (found (codes "data") (payload_parts p) (if_some data_of p.initial) refl) ∙ initial_back p.initial h.initial k.initial in
    let errors_is : errors_of (payload_data p) ≡ Some p.errors =
    ap (λ o. optional_list fault (unless_null o)) (found (codes "errors") (payload_parts p) (unless_empty fault_data p.errors) refl) ∙ faults_back p.errors h.errors k.errors in
    let has_next_is : has_next_of (payload_data p) ≡ Some p.has_next =
    ap (λ o. optional as_bool (unless_null o)) (found (codes "hasNext") (payload_parts p) (if_some json.boolean p.has_next) refl) ∙ has_next_back p.has_next in
    let incremental_is : incremental_of (payload_data p) ≡ Some (map entry_again p.incremental) =
    ap (λ o. optional_list entry (unless_null o)) (found (codes "incremental") (payload_parts p) (unless_empty entry_data p.incremental) refl)
    ∙ (listed entry_data entry p.incremental ∙ each-map (λ e. IsSoundEntry e × IsTypedEntry e) entry_data entry entry_again entry_back p.incremental (both_all IsSoundEntry IsTypedEntry p.incremental h.incremental k.incremental)) in
    let pending_is : pending_of (payload_data p) ≡ Some p.pending =
    ap (λ o. optional_list pending (unless_null o)) (found (codes "pending") (payload_parts p) (unless_empty pending_data p.pending) refl)
    ∙ (listed pending_data pending p.pending ∙ each-same IsTypedPending pending_data pending pending_back p.pending k.pending) in
    rw (completed_is, initial_is, errors_is, has_next_is, incremental_is, pending_is) refl

-- ---- it is the same payload

items_same : (vs : List Value) → AllByRecursion IsTypedValue vs → SameItems vs (map again vs)
items_same [] h = tt
items_same (v ∷ vs) h = (same-value_of v h.0, items_same vs h.1)

content_same : (c : Content) → IsTypedContent c → SameContent c (content_again c)
content_same (Fields v) h = same-value_of v h.0
content_same (Items vs) h = items_same vs h.1

entries_same : (es : List Entry) → AllByRecursion IsTypedEntry es → SameEntries es (map entry_again es)
entries_same [] h = tt
entries_same (e ∷ es) h = (record { id = refl; sub_path = refl; content = content_same e.content h.0.content; errors = refl }, entries_same es h.1)

initial_same : (o : Option Value) → IfSome o IsTypedValue → SameMaybe o (option_map again o)
initial_same None h = tt
initial_same (Some v) h = same-value_of v h

pub payload_same : (p : Payload) → IsTypedPayload p → SamePayload p (payload_again p)
payload_same p k = record {
  initial = initial_same p.initial k.initial;
  errors = refl;
  pending = refl;
  incremental = entries_same p.incremental k.incremental;
  completed = refl;
  has_next = refl;
}

-- a payload that makes sense is what its text decodes to, up to the order of members
pub text_back : (p : Payload) → IsSound p → IsTypedPayload p → IsUtf8 (payload_text p) → depth (payload_data p) ≤ max_depth → (again : Payload) × Decodes (payload_text p) again × SamePayload p again
text_back p sound typed utf8 deep =
    let read_is = read-compact_text (payload_data p) (payload_orderly p typed) deep in
    (payload_again p, (payload_data p, ((utf8, read_is), refl), payload_back p sound typed), payload_same p typed)
