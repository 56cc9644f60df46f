-- The JSON of a payload is orderly: its numbers are read back, and the names of its objects ascend.
use Rattle.std.proofs.Common.{◌≡◌, ℕ, ◌^◌, ◌<◌, List, [], ◌∷◌, map, refl, sym, ◌∙◌, ap, subst, Bool, true, false, ◌==◌, IsTrue, Option, Some, None, Ordering, Less, Equal, Greater, nat_cmp, ltb-true, arith}
use Rattle.std.specs.Prelude.{ℤ, pos, negsuc, ⊤, IfSome}
use Rattle.std.specs.List.{AllByRecursion}
use Rattle.std.specs.Ordering.{match_ordering, ordering_reverse}
use Rattle.std.specs.Cmp.Lexicographic.{slice_cmp, nat_list_cmp_total}
use Rattle.serde_json.specs.Data as json
use Rattle.serde_json.specs.Data.{Data, Members, no_members, member, put}
use Rattle.serde_json.specs.Find.{of_integer}
use Rattle.serde_json.specs.View.{items_of}
use Rattle.gql_tree.specs.declared.fields.Named.{Named}
use Rattle.gql_tree.specs.declared.path.Key.{Key}
use Rattle.gql_tree.specs.declared.path.Key.TheVariants.{Name, Index}
use Rattle.gql_tree.specs.declared.path.Path.{Path}
use Rattle.gql_tree.specs.declared.value.Value.{Value, roll-Value}
use Rattle.gql_tree.specs.declared.value.Value.TheOpen.{Value-F}
use Rattle.gql_tree.specs.declared.value.Value.TheFolds.{map-Value, fold-roll-Value, ind-Value}
use Rattle.gql_tree.specs.declared.delivery.Fault.{Fault}
use Rattle.gql_tree.specs.declared.delivery.Pending.{Pending}
use Rattle.gql_tree.specs.declared.delivery.Content.{Content}
use Rattle.gql_tree.specs.declared.delivery.Content.TheVariants.{Fields, Items}
use Rattle.gql_tree.specs.declared.delivery.Entry.{Entry}
use Rattle.gql_tree.specs.declared.delivery.Completed.{Completed}
use Rattle.gql_tree.specs.declared.delivery.Payload.{Payload}
use Rattle.gql_tree.specs.Names.{apart}
use Rattle.gql_tree.specs.Json.{put_all, data_step, data_of}
use Rattle.gql_payload.specs.PayloadText.{present, unless_empty, if_some, key_data, path_data, location_data, fault_data, pending_data, fields_data, items_data, entry_data, completed_data, payload_data}
use Rattle.gql_tree.specs.Typed.{fits, all_items, all_members, typed_step, is_typed}
use Rattle.gql_tree.proofs.Json.{named_map}
use Rattle.gql_tree.proofs.Marks.{left_of, right_of}
use Rattle.gql_tree.specs.Typed.{IsTypedValue, IsTypedKey, IsTypedPath, IsTypedFault, IsTypedPending, IsTypedContent, IsTypedEntry, IsTypedCompleted, IsTypedPayload}
use Rattle.gql_payload.proofs.Contents.{Part, fault_parts, pending_parts, entry_parts, completed_parts, payload_parts}
use Rattle.gql_payload.proofs.Members.{is_less, leads, ascends}
use Rattle.gql_payload.proofs.Printed.{IsReadable, Leads, IsOrderly, AreOrderlyItems, AreOrderlyMembers}

-- ---- members that are put in

leads_from : (k l : List ℕ) (ms : Members) → slice_cmp nat_cmp k l ≡ Less → Leads l ms → Leads k ms
leads_from k l no_members h f = tt
leads_from k l (member m d ms) h f = (nat_list_cmp_total.trans k l m h f.0, leads_from k l ms h f.1)

greater_less : (k l : List ℕ) → slice_cmp nat_cmp k l ≡ Greater → slice_cmp nat_cmp l k ≡ Less
greater_less k l h = nat_list_cmp_total.antisymm l k ∙ ap ordering_reverse h

leads_put_by : (o : Ordering) (j k l : List ℕ) (d e : Data) (ms : Members) → slice_cmp nat_cmp j k ≡ Less → slice_cmp nat_cmp j l ≡ Less → Leads j ms → Leads j (put k d ms) → Leads j (match_ordering o (member k d (member l e ms)) (member l d ms) (member l e (put k d ms)))
leads_put_by Less j k l d e ms hk hl f p = (hk, (hl, f))
leads_put_by Equal j k l d e ms hk hl f p = (hl, f)
leads_put_by Greater j k l d e ms hk hl f p = (hl, p)

leads_put : (j k : List ℕ) (d : Data) (ms : Members) → slice_cmp nat_cmp j k ≡ Less → Leads j ms → Leads j (put k d ms)
leads_put j k d no_members h f = (h, tt)
leads_put j k d (member l e ms) h f = leads_put_by (slice_cmp nat_cmp k l) j k l d e ms h f.0 f.1 (leads_put j k d ms h f.1)

put_by : (o : Ordering) (k l : List ℕ) (d e : Data) (ms : Members) → slice_cmp nat_cmp k l ≡ o → IsOrderly d → IsOrderly e → Leads l ms → AreOrderlyMembers ms → AreOrderlyMembers (put k d ms) → AreOrderlyMembers (match_ordering o (member k d (member l e ms)) (member l d ms) (member l e (put k d ms)))
put_by Less k l d e ms is hd he f hm p = (hd, (is, leads_from k l ms is f), (he, f, hm))
put_by Equal k l d e ms is hd he f hm p = (hd, f, hm)
put_by Greater k l d e ms is hd he f hm p = (he, leads_put l k d ms (greater_less k l is) f, p)

put_orderly : (k : List ℕ) (d : Data) (ms : Members) → IsOrderly d → AreOrderlyMembers ms → AreOrderlyMembers (put k d ms)
put_orderly k d no_members hd hm = (hd, tt, tt)
put_orderly k d (member l e ms) hd hm = put_by (slice_cmp nat_cmp k l) k l d e ms refl hd hm.0 hm.1 hm.2 (put_orderly k d ms hd hm.2)

-- ---- values

abbrev Orderly : Value → Type 0
Orderly x = IsTypedValue x → IsOrderly (data_of x)

abbrev OrderlyValue : Type 0
OrderlyValue = (x : Value) × Orderly x

abbrev value_in : OrderlyValue → Value
value_in e = e.0

items_orderly : (xs : List OrderlyValue) → IsTrue (all_items (λ b. b) (map is_typed (map value_in xs))) → AreOrderlyItems (items_of (map data_of (map value_in xs)))
items_orderly [] h = tt
items_orderly (x ∷ xs) h = (x.1 (left_of (is_typed x.0) _ h), items_orderly xs (right_of (is_typed x.0) _ h))

fields_orderly : (ms : List (Named OrderlyValue)) (found : Members) → IsTrue (all_members (λ b. b) (map (named_map is_typed) (map (named_map value_in) ms))) → AreOrderlyMembers found → AreOrderlyMembers (put_all (λ d. d) found (map (named_map data_of) (map (named_map value_in) ms)))
fields_orderly [] found h k = k
fields_orderly (m ∷ ms) found h k = fields_orderly ms (put m.name (data_of m.value.0) found) (right_of (is_typed m.value.0) _ h) (put_orderly m.name (data_of m.value.0) found (m.value.1 (left_of (is_typed m.value.0) _ h)) k)

int_orderly : (z : ℤ) → IsTrue (fits z) → IsReadable (of_integer z)
int_orderly (pos n) h = let less : n < 2 ^ 63 = ltb-true n (2 ^ 63) h in let wide : n < 2 ^ 64 = omega (arith, less) in wide
int_orderly (negsuc n) h = ltb-true n (2 ^ 63) h

step_orderly : (y : Value-F OrderlyValue) → IsTrue (typed_step (map-Value Value Bool is_typed (map-Value OrderlyValue Value value_in y))) → IsOrderly (data_step (map-Value Value Data data_of (map-Value OrderlyValue Value value_in y)))
step_orderly Value-F.Null h = tt
step_orderly (Value-F.Bool b) h = tt
step_orderly (Value-F.Int z) h = int_orderly z h
step_orderly (Value-F.Text t) h = tt
step_orderly (Value-F.List xs) h = items_orderly xs h
step_orderly (Value-F.Object ms) h = fields_orderly ms no_members (right_of (apart (map (named_map is_typed) (map (named_map value_in) ms))) _ h) tt

roll_orderly : (y : Value-F OrderlyValue) → Orderly (roll-Value (map-Value OrderlyValue Value value_in y))
roll_orderly y h =
    subst IsOrderly (sym (fold-roll-Value Data data_step (map-Value OrderlyValue Value value_in y)))
    (step_orderly y (sym (fold-roll-Value Bool typed_step (map-Value OrderlyValue Value value_in y)) ∙ h))

value_orderly : (x : Value) → Orderly x
value_orderly = ind-Value Orderly (λ x y is. subst (λ (z : Value-F Value). Orderly (roll-Value z)) is (roll_orderly y))

-- ---- objects of parts

abbrev IsPart : Option Data → Type 0
IsPart None = ⊤
IsPart (Some d) = IsOrderly d

abbrev AreParts : List Part → Type 0
AreParts [] = ⊤
AreParts (m ∷ ms) = IsPart m.1 × AreParts ms

less_is : (o : Ordering) → is_less o ≡ true → o ≡ Less
less_is Less h = refl
less_is Equal h = absurd (cc)
less_is Greater h = absurd (cc)

parts_lead : (k : List ℕ) (ms : List Part) → leads k ms ≡ true → Leads k (present ms)
parts_lead k [] h = tt
parts_lead k ((n, None) ∷ ms) h = parts_lead k ms (right_of _ _ h)
parts_lead k ((n, Some d) ∷ ms) h = (less_is (slice_cmp nat_cmp k n) (left_of _ _ h), parts_lead k ms (right_of _ _ h))

members_orderly : (ms : List Part) → ascends ms ≡ true → AreParts ms → AreOrderlyMembers (present ms)
members_orderly [] h k = tt
members_orderly ((n, None) ∷ ms) h k = members_orderly ms (right_of _ _ h) k.1
members_orderly ((n, Some d) ∷ ms) h k = (k.0, parts_lead n ms (left_of _ _ h), members_orderly ms (right_of _ _ h) k.1)

array_orderly : {X : Type 0} (P : X → Type 0) (f : X → Data) → ((x : X) → P x → IsOrderly (f x)) → (xs : List X) → AllByRecursion P xs → AreOrderlyItems (items_of (map f xs))
array_orderly P f each [] h = tt
array_orderly P f each (x ∷ xs) h = (each x h.0, array_orderly P f each xs h.1)

unless_empty_orderly : {X : Type 0} (P : X → Type 0) (f : X → Data) → ((x : X) → P x → IsOrderly (f x)) → (xs : List X) → AllByRecursion P xs → IsPart (unless_empty f xs)
unless_empty_orderly P f each [] h = tt
unless_empty_orderly P f each (x ∷ xs) h = array_orderly P f each (x ∷ xs) h

if_some_orderly : {X : Type 0} (P : X → Type 0) (f : X → Data) → ((x : X) → P x → IsOrderly (f x)) → (o : Option X) → IfSome o P → IsPart (if_some f o)
if_some_orderly P f each None h = tt
if_some_orderly P f each (Some x) h = each x h

text_orderly : (o : Option (List ℕ)) → IsPart (if_some json.string o)
text_orderly None = tt
text_orderly (Some t) = tt

bool_orderly : (o : Option Bool) → IsPart (if_some json.boolean o)
bool_orderly None = tt
bool_orderly (Some b) = tt

-- ---- the objects of a payload

wide : (n : ℕ) → n < 2 ^ 32 → n < 2 ^ 64
wide n h = omega (arith, h)

key_orderly : (k : Key) → IsTypedKey k → IsOrderly (key_data k)
key_orderly (Name n) h = tt
key_orderly (Index i) h = wide i h

path_orderly : (p : Path) → IsTypedPath p → IsOrderly (path_data p)
path_orderly p h = array_orderly IsTypedKey key_data key_orderly p.keys h

located : (b : Bool) (line column : ℕ) → line < 2 ^ 32 → column < 2 ^ 32 → IsPart (elim b [ true ↦ None | false ↦ Some (json.array (json.item (location_data line column) json.no_items)) ])
located true line column h k = tt
located false line column h k = ((wide column k, (refl, tt), (wide line h, tt, tt)), tt)

fault_orderly : (f : Fault) → IsTypedFault f → IsOrderly (fault_data f)
fault_orderly f h = members_orderly (fault_parts f) refl (located (f.line == 0) f.line f.column h.line h.column, (tt, (if_some_orderly IsTypedPath path_data path_orderly f.path h.path, tt)))

pending_orderly : (p : Pending) → IsTypedPending p → IsOrderly (pending_data p)
pending_orderly p h = members_orderly (pending_parts p) refl (tt, (text_orderly p.label, (path_orderly p.path h, tt)))

content_fields : (c : Content) → IsTypedContent c → IsPart (fields_data c)
content_fields (Fields v) h = value_orderly v h.0
content_fields (Items vs) h = tt

content_items : (c : Content) → IsTypedContent c → IsPart (items_data c)
content_items (Fields v) h = tt
content_items (Items vs) h = array_orderly IsTypedValue data_of value_orderly vs h.1

entry_orderly : (e : Entry) → IsTypedEntry e → IsOrderly (entry_data e)
entry_orderly e h =
    members_orderly (entry_parts e) refl (content_fields e.content h.content, (unless_empty_orderly IsTypedFault fault_data fault_orderly e.errors h.errors, (tt, (content_items e.content h.content, (unless_empty_orderly IsTypedKey key_data key_orderly e.sub_path.keys h.sub_path, tt)))))

completed_orderly : (c : Completed) → IsTypedCompleted c → IsOrderly (completed_data c)
completed_orderly c h = members_orderly (completed_parts c) refl (unless_empty_orderly IsTypedFault fault_data fault_orderly c.errors h, (tt, tt))

pub payload_orderly : (p : Payload) → IsTypedPayload p → IsOrderly (payload_data p)
payload_orderly p h =
    let ends = unless_empty_orderly IsTypedCompleted completed_data completed_orderly p.completed h.completed in
    let first_data = if_some_orderly IsTypedValue data_of value_orderly p.initial h.initial in
    let faults = unless_empty_orderly IsTypedFault fault_data fault_orderly p.errors h.errors in
    let entries = unless_empty_orderly IsTypedEntry entry_data entry_orderly p.incremental h.incremental in
    let announced = unless_empty_orderly IsTypedPending pending_data pending_orderly p.pending h.pending in
    members_orderly (payload_parts p) refl (ends, (first_data, (faults, (bool_orderly p.has_next, (entries, (announced, tt))))))
