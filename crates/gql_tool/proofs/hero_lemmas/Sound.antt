-- The payloads of documents of heroes can be written and read back: they make sense, and are shallow.
use Rattle.std.proofs.Common.{◌≡◌, refl, sym, ap, subst, ℕ, suc, ◌≤◌, max, Bool, true, false, IsTrue, List, [], ◌∷◌, ◌++◌, map, Option, Some, None, arith}
use Rattle.std.specs.Prelude.{◌==◌, IfSome, codes, decimal}
use Rattle.std.specs.List.{AllByRecursion}
use Rattle.std.specs.declared.cmp.Ordering.{Ordering}
use Rattle.std.specs.declared.cmp.Ordering.TheVariants.{Less, Equal, Greater}
use Rattle.std.specs.Ordering.{nat_cmp, match_ordering}
use Rattle.std.specs.Cmp.Lexicographic.{slice_cmp}
use Rattle.serde_json.specs.Data as json
use Rattle.serde_json.specs.Data.{Data, Items, Members, depth, items_depth, members_depth}
use Rattle.serde_json.specs.View.{items_of}
use Rattle.gql_tree.specs.declared.Key.{Key}
use Rattle.gql_tree.specs.declared.Key.TheVariants as keys
use Rattle.gql_tree.specs.declared.Path.{Path}
use Rattle.gql_tree.specs.declared.Spot.{Spot}
use Rattle.gql_tree.specs.declared.Fault.{Fault}
use Rattle.gql_tree.specs.declared.Named.{Named}
use Rattle.gql_tree.specs.declared.Value.{Value, out-Value}
use Rattle.gql_tree.specs.declared.Value.TheVariants.{outs-Object}
use Rattle.gql_tree.specs.declared.Value.TheVariants as v
use Rattle.gql_tree.specs.declared.Pending.{Pending}
use Rattle.gql_tree.specs.declared.Content.TheVariants.{Fields}
use Rattle.gql_tree.specs.declared.Completed.{Completed}
use Rattle.gql_tree.specs.declared.Payload.{Payload}
use Rattle.gql_tree.specs.Json.{put_all, data_of}
use Rattle.gql_payload.specs.PayloadText.{present, object_with, unless_empty, if_some, key_data, path_data, location_data, locations_data, fault_data, pending_data, entry_data, completed_data, payload_data}
use Rattle.gql_tree.specs.Sound.{IsSound, IsLocated, is_object, is_object_or_null}
use Rattle.gql_tree.specs.Inline.{inline_payloads}
use Rattle.gql_tree.proofs.Json.{data_Null, data_Int, data_Text, data_Object}
use Rattle.gql_model.specs.Complete.{Part, fault_at, value_in}
use Rattle.gql_model.specs.Operations.{forest}
use Rattle.gql_tool.specs.declared.hero.shape.Leaf.{Leaf}
use Rattle.gql_tool.specs.declared.hero.shape.Deferred.{Deferred}
use Rattle.gql_tool.specs.declared.hero.shape.HeroDocument.{HeroDocument}
use Rattle.gql_tool.specs.declared.hero.tables.LeafCell.{LeafCell}
use Rattle.gql_tool.specs.declared.hero.tables.LeafCell.TheVariants.{Null, Int, Text, Error}
use Rattle.gql_tool.specs.declared.hero.tables.Person.{Person}
use Rattle.gql_tool.specs.declared.hero.tables.HeroTables.{HeroTables}
use Rattle.gql_tool.specs.declared.hero.tables.HeroCell.{HeroCell}
use Rattle.gql_tool.specs.declared.hero.tables.HeroCell.TheVariants as hero_cells
use Rattle.gql_tool.specs.hero.Shape.{deferred_leaves_of}
use Rattle.gql_tool.specs.hero.Operation.{nodes_of}
use Rattle.gql_tool.specs.hero.Service.{service, query}
use Rattle.gql_tool.specs.hero.Hero.{hero_path, is_required, cell_under, cell_part, leaf_path, leaf_part, leaf_members, leaf_faults, some_bubble, hero_object, single, announcing, completing_by, standing_payloads, person_payloads, person_payloads_by, EachOnce, RefStands, IsSpot, ArePlaced, IsPlaced}
use Rattle.gql_tool.proofs.hero_lemmas.Payloads.{payloads-person, payloads-null, payloads-error}
use Rattle.gql_tool.proofs.hero_lemmas.Forests.{person_at}

-- ---- a fact of each payload, whatever the hero is

-- what is said of payloads follows from what is said of a person's and of those without one
module _ (P : Payload → Type 0) (t : HeroTables) (d : HeroDocument) (once : EachOnce d) (there : RefStands t) where
  abbrev Each : List Payload → Type 0
  Each ps = AllByRecursion P ps

  by_cell : (c : HeroCell) → t.hero ≡ c → P (single v.Null []) → ((m : List ℕ) → P (single v.Null (fault_at d.hero m hero_path ∷ []))) → ((p : Person) → Each (person_payloads p d)) → Each (inline_payloads (forest (service t) (nodes_of d) query))
  by_cell hero_cells.Null is null error person = subst Each (sym (payloads-null t d is)) (null, tt)
  by_cell (hero_cells.Error m) is null error person = subst Each (sym (payloads-error t d m is)) (error m, tt)
  by_cell (hero_cells.Ref n) is null error person =
      let found = person_at t.persons n (there n is) in
      subst Each (sym (payloads-person t d n found.0 found.1 is once)) (person found.0)

  each_payload : P (single v.Null []) → ((m : List ℕ) → P (single v.Null (fault_at d.hero m hero_path ∷ []))) → ((p : Person) → Each (person_payloads p d)) → Each (inline_payloads (forest (service t) (nodes_of d) query))
  each_payload = by_cell t.hero refl

-- ---- faults have a place

abbrev AreLocated : List Fault → Type 0
AreLocated fs = AllByRecursion IsLocated fs

pub located : (spot : Spot) (message : List ℕ) (path : List Key) → IsSpot spot → IsLocated (fault_at spot message path)
located spot message path h = (λ e. absurd (omega (arith, e, h.0)), λ e. absurd (omega (arith, e, h.1)))

cell_located : (required : Bool) (spot : Spot) (path : List Key) (c : LeafCell) → IsSpot spot → AreLocated (cell_part required spot path c).faults
cell_located true spot path Null h = (located spot Rattle.gql_model.specs.Complete.null_message path h, tt)
cell_located false spot path Null h = tt
cell_located required spot path (Int n) h = tt
cell_located required spot path (Text s) h = tt
cell_located true spot path (Error m) h = (located spot m path h, tt)
cell_located false spot path (Error m) h = (located spot m path h, tt)

both_located : (fs gs : List Fault) → AreLocated fs → AreLocated gs → AreLocated (fs ++ gs)
both_located [] gs h k = k
both_located (f ∷ fs) gs h k = (h.0, both_located fs gs h.1 k)

pub leaves_located : (p : Person) (ls : List Leaf) → ArePlaced ls → AreLocated (leaf_faults p ls)
leaves_located p [] h = tt
leaves_located p (l ∷ ls) h = both_located (leaf_part p l).faults (leaf_faults p ls) (cell_located (is_required l.name) l.spot (leaf_path l.name) (cell_under p l.name) h.0) (leaves_located p ls h.1)

-- ---- they make sense

object_is : (ms : List (Named Value)) → IsTrue (is_object (out-Value (v.Object ms)))
object_is ms = ap is_object (outs-Object ms)

hero_is : (x : Value) → IsTrue (is_object_or_null (out-Value (hero_object x)))
hero_is x = ap is_object_or_null (outs-Object (record { name = codes "hero"; value = x } ∷ []))

single_sound : (x : Value) (fs : List Fault) → AreLocated fs → IsSound (single x fs)
single_sound x fs h = record { initial = hero_is x; errors = h; incremental = tt; completed = tt }

announcing_sound : (x : Value) (fs : List Fault) (label : Option (List ℕ)) → AreLocated fs → IsSound (announcing x fs label)
announcing_sound x fs label h = record { initial = hero_is x; errors = h; incremental = tt; completed = tt }

completing_sound : (b : Bool) (ms : List (Named Value)) (fs : List Fault) → AreLocated fs → IsSound (completing_by b (v.Object ms) fs)
completing_sound true ms fs h = record { initial = tt; errors = tt; incremental = tt; completed = (h, tt) }
completing_sound false ms fs h = record { initial = tt; errors = tt; incremental = (record { content = object_is ms; errors = h }, tt); completed = (tt, tt) }

abbrev Sense : List Payload → Type 0
Sense ps = AllByRecursion IsSound ps

waiting_sense : (p : Person) (leaves : List Leaf) (label : Option (List ℕ)) (at : Spot) (ls : List Leaf) → ArePlaced leaves → ArePlaced ls → Sense (standing_payloads p leaves (Some (record { label = label; spot = at; leaves = ls })))
waiting_sense p leaves label at [] h k = (single_sound (v.Object (leaf_members p leaves)) (leaf_faults p leaves) (leaves_located p leaves h), tt)
waiting_sense p leaves label at (l ∷ ls) h k = (
  announcing_sound (v.Object (leaf_members p leaves)) (leaf_faults p leaves) label (leaves_located p leaves h),
  (completing_sound (some_bubble p (l ∷ ls)) (leaf_members p (l ∷ ls)) (leaf_faults p (l ∷ ls)) (leaves_located p (l ∷ ls) k), tt),
)

person_sense : (b : Bool) (p : Person) (leaves : List Leaf) (o : Option Deferred) → ArePlaced leaves → ArePlaced (deferred_leaves_of o) → Sense (person_payloads_by b p leaves o)
person_sense true p leaves o h k = (single_sound v.Null (leaf_faults p leaves) (leaves_located p leaves h), tt)
person_sense false p leaves None h k = (single_sound (v.Object (leaf_members p leaves)) (leaf_faults p leaves) (leaves_located p leaves h), tt)
person_sense false p leaves (Some def) h k = waiting_sense p leaves def.label def.spot def.leaves h k

pub hero_payloads_make_sense : (t : HeroTables) (d : HeroDocument) → EachOnce d → RefStands t → IsPlaced d → AllByRecursion IsSound (inline_payloads (forest (service t) (nodes_of d) query))
hero_payloads_make_sense t d once there placed =
    each_payload IsSound t d once there
    (single_sound v.Null [] tt)
    (λ m. single_sound v.Null (fault_at d.hero m hero_path ∷ []) (located d.hero m hero_path placed.hero, tt))
    (λ p. person_sense (some_bubble p d.leaves) p d.leaves d.deferred placed.leaves placed.deferred)

-- ---- they are shallow

no_more : (a b n : ℕ) → a ≤ n → b ≤ n → max a b ≤ n
no_more a b n h k = omega arith

put_by : (o : Ordering) (k l : List ℕ) (d e : Data) (ms : Members) (n : ℕ) → depth d ≤ n → depth e ≤ n → members_depth ms ≤ n → members_depth (json.put k d ms) ≤ n → members_depth (match_ordering o (json.member k d (json.member l e ms)) (json.member l d ms) (json.member l e (json.put k d ms))) ≤ n
put_by Less k l d e ms n a b c h = no_more (depth d) (max (depth e) (members_depth ms)) n a (no_more (depth e) (members_depth ms) n b c)
put_by Equal k l d e ms n a b c h = no_more (depth d) (members_depth ms) n a c
put_by Greater k l d e ms n a b c h = no_more (depth e) (members_depth (json.put k d ms)) n b h

put_depth : (k : List ℕ) (d : Data) (ms : Members) (n : ℕ) → depth d ≤ n → members_depth ms ≤ n → members_depth (json.put k d ms) ≤ n
put_depth k d json.no_members n a c = no_more (depth d) 0 n a (omega arith)
put_depth k d (json.member l e ms) n a c =
    let first : depth e ≤ n = omega (arith, c) in
    let rest : members_depth ms ≤ n = omega (arith, c) in
    put_by (slice_cmp nat_cmp k l) k l d e ms n a first rest (put_depth k d ms n a rest)

abbrev Shallow : ℕ → Named Value → Type 0
Shallow n m = depth (data_of m.value) ≤ n

put_all_depth : (ms : List (Named Value)) (found : Members) (n : ℕ) → AllByRecursion (Shallow n) ms → members_depth found ≤ n → members_depth (put_all data_of found ms) ≤ n
put_all_depth [] found n h k = k
put_all_depth (m ∷ ms) found n h k = put_all_depth ms (json.put m.name (data_of m.value) found) n h.1 (put_depth m.name (data_of m.value) found n h.0 k)

object_depth : (ms : List (Named Value)) (n : ℕ) → AllByRecursion (Shallow n) ms → depth (data_of (v.Object ms)) ≤ suc n
object_depth ms n h = subst (λ (d : Data). depth d ≤ suc n) (sym (data_Object ms)) (let k = put_all_depth ms json.no_members n h (omega arith) in omega (arith, k))

null_depth : (n : ℕ) → depth (data_of v.Null) ≤ n
null_depth n = subst (λ (d : Data). depth d ≤ n) (sym data_Null) (omega arith)

cell_depth : (required : Bool) (spot : Spot) (path : List Key) (c : LeafCell) → depth (data_of (value_in (cell_part required spot path c))) ≤ 0
cell_depth true spot path Null = null_depth 0
cell_depth false spot path Null = null_depth 0
cell_depth required spot path (Int n) = subst (λ (d : Data). depth d ≤ 0) (sym (data_Int n)) (omega arith)
cell_depth required spot path (Text s) = subst (λ (d : Data). depth d ≤ 0) (sym (data_Text s)) (omega arith)
cell_depth true spot path (Error m) = null_depth 0
cell_depth false spot path (Error m) = null_depth 0

leaves_shallow : (p : Person) (ls : List Leaf) → AllByRecursion (Shallow 0) (leaf_members p ls)
leaves_shallow p [] = tt
leaves_shallow p (l ∷ ls) = (cell_depth (is_required l.name) l.spot (leaf_path l.name) (cell_under p l.name), leaves_shallow p ls)

fields_depth : (p : Person) (ls : List Leaf) → depth (data_of (v.Object (leaf_members p ls))) ≤ 1
fields_depth p ls = object_depth (leaf_members p ls) 0 (leaves_shallow p ls)

hero_depth : (x : Value) → depth (data_of x) ≤ 1 → depth (data_of (hero_object x)) ≤ 2
hero_depth x h = object_depth (record { name = codes "hero"; value = x } ∷ []) 1 (h, tt)

-- ---- errors

key_depth : (k : Key) → depth (key_data k) ≡ 0
key_depth (keys.Name n) = refl
key_depth (keys.Index i) = refl

array_depth : {X : Type 0} (f : X → Data) (n : ℕ) → ((x : X) → depth (f x) ≤ n) → (xs : List X) → items_depth (items_of (map f xs)) ≤ n
array_depth f n h [] = omega arith
array_depth f n h (x ∷ xs) = no_more (depth (f x)) (items_depth (items_of (map f xs))) n (h x) (array_depth f n h xs)

path_depth : (p : Path) → depth (path_data p) ≤ 1
path_depth p = let h = array_depth key_data 0 (λ k. (let e = key_depth k in omega (arith, e))) p.keys in omega (arith, h)

-- members that may be left out
abbrev MaybeMembers : Type 0
MaybeMembers = List (List ℕ × Option Data)

abbrev Below : ℕ → List ℕ × Option Data → Type 0
Below n m = IfSome m.1 (λ d. depth d ≤ n)

members_below : (ms : MaybeMembers) (n : ℕ) → AllByRecursion (Below n) ms → members_depth (present ms) ≤ n
members_below [] n h = omega arith
members_below ((k, None) ∷ ms) n h = members_below ms n h.1
members_below ((k, Some d) ∷ ms) n h = no_more (depth d) (members_depth (present ms)) n h.0 (members_below ms n h.1)

object_below : (ms : MaybeMembers) (n : ℕ) → AllByRecursion (Below n) ms → depth (object_with ms) ≤ suc n
object_below ms n h = let k = members_below ms n h in omega (arith, k)

unless_empty_below : {X : Type 0} (f : X → Data) (n : ℕ) → ((x : X) → depth (f x) ≤ n) → (xs : List X) → IfSome (unless_empty f xs) (λ d. depth d ≤ suc n)
unless_empty_below f n h [] = tt
unless_empty_below f n h (x ∷ xs) = let k = array_depth f n h (x ∷ xs) in omega (arith, k)

locations_below : (line column : ℕ) → IfSome (locations_data line column) (λ d. depth d ≤ 2)
locations_below line column = by_none (line == 0)
  where
    by_none : (b : Bool) → IfSome (elim b [ true ↦ None | false ↦ Some (json.array (json.item (location_data line column) json.no_items)) ]) (λ d. depth d ≤ 2)
    by_none true = tt
    by_none false = omega arith

if_path_below : (o : Option Path) → IfSome (if_some path_data o) (λ d. depth d ≤ 2)
if_path_below None = tt
if_path_below (Some path) = let h = path_depth path in omega (arith, h)

if_label_below : (o : Option (List ℕ)) (n : ℕ) → IfSome (if_some json.string o) (λ d. depth d ≤ n)
if_label_below None n = tt
if_label_below (Some label) n = omega arith

if_more_below : (o : Option Bool) (n : ℕ) → IfSome (if_some json.boolean o) (λ d. depth d ≤ n)
if_more_below None n = tt
if_more_below (Some b) n = omega arith

abbrev fault_members : Fault → MaybeMembers
fault_members f = (codes "locations", locations_data f.line f.column) ∷ (codes "message", Some (json.string f.message)) ∷ (codes "path", if_some path_data f.path) ∷ []

fault_depth : (f : Fault) → depth (fault_data f) ≤ 3
fault_depth f = object_below (fault_members f) 2 (locations_below f.line f.column, (omega arith, (if_path_below f.path, tt)))

-- ---- payloads

abbrev pending_members : Pending → MaybeMembers
pending_members x = (codes "id", Some (json.string x.id)) ∷ (codes "label", if_some json.string x.label) ∷ (codes "path", Some (path_data x.path)) ∷ []

pending_depth : (x : Pending) → depth (pending_data x) ≤ 3
pending_depth x = object_below (pending_members x) 2 (omega arith, (if_label_below x.label 2, ((let h = path_depth x.path in omega (arith, h)), tt)))

abbrev completed_members : Completed → MaybeMembers
completed_members x = (codes "errors", unless_empty fault_data x.errors) ∷ (codes "id", Some (json.string x.id)) ∷ []

completed_depth : (x : Completed) → depth (completed_data x) ≤ 5
completed_depth x = object_below (completed_members x) 4 (unless_empty_below fault_data 3 fault_depth x.errors, (omega arith, tt))

abbrev payload_members : Payload → MaybeMembers
payload_members p =
    (codes "completed", unless_empty completed_data p.completed)
    ∷ (codes "data", if_some data_of p.initial)
    ∷ (codes "errors", unless_empty fault_data p.errors)
    ∷ (codes "hasNext", if_some json.boolean p.has_next)
    ∷ (codes "incremental", unless_empty entry_data p.incremental)
    ∷ (codes "pending", unless_empty pending_data p.pending) ∷ []

abbrev ShallowPayload : Payload → Type 0
ShallowPayload p = depth (payload_data p) ≤ 127

payload_depth : (p : Payload) → IfSome (if_some data_of p.initial) (λ d. depth d ≤ 6) → IfSome (unless_empty entry_data p.incremental) (λ d. depth d ≤ 6) → ShallowPayload p
payload_depth p initial entries =
    let h = object_below (payload_members p) 6 (
      unless_empty_below completed_data 5 completed_depth p.completed,
      (
        initial,
        (
          weaker (unless_empty fault_data p.errors) (unless_empty_below fault_data 3 fault_depth p.errors),
          (
            if_more_below p.has_next 6,
            (
              entries,
              (weaker (unless_empty pending_data p.pending) (unless_empty_below pending_data 3 pending_depth p.pending), tt),
            ),
          ),
        ),
      ),
    ) in
    omega (arith, h)
  where
    weaker : (o : Option Data) → IfSome o (λ d. depth d ≤ 4) → IfSome o (λ d. depth d ≤ 6)
    weaker None h = tt
    weaker (Some d) h = omega (arith, h)

hero_shallow : (x : Value) → depth (data_of x) ≤ 1 → depth (data_of (hero_object x)) ≤ 6
hero_shallow x h = let k = hero_depth x h in omega (arith, k)

single_shallow : (x : Value) (fs : List Fault) → depth (data_of x) ≤ 1 → ShallowPayload (single x fs)
single_shallow x fs h = payload_depth (single x fs) (hero_shallow x h) tt

announcing_shallow : (x : Value) (fs : List Fault) (label : Option (List ℕ)) → depth (data_of x) ≤ 1 → ShallowPayload (announcing x fs label)
announcing_shallow x fs label h = payload_depth (announcing x fs label) (hero_shallow x h) tt

-- an entry of shallow fields
abbrev fields_members : List ℕ → Value → List Fault → MaybeMembers
fields_members id x fs = (codes "data", Some (data_of x)) ∷ (codes "errors", unless_empty fault_data fs) ∷ (codes "id", Some (json.string id)) ∷ (codes "items", None) ∷ (codes "subPath", None) ∷ []

entry_depth : (id : List ℕ) (x : Value) (fs : List Fault) → depth (data_of x) ≤ 1 → depth (entry_data (record { id = id; sub_path = record { keys = [] }; content = Fields x; errors = fs })) ≤ 5
entry_depth id x fs h = object_below (fields_members id x fs) 4 (omega (arith, h), (unless_empty_below fault_data 3 fault_depth fs, (omega arith, (tt, (tt, tt)))))

completing_shallow : (b : Bool) (x : Value) (fs : List Fault) → depth (data_of x) ≤ 1 → ShallowPayload (completing_by b x fs)
completing_shallow true x fs h = payload_depth (completing_by true x fs) tt tt
completing_shallow false x fs h = payload_depth (completing_by false x fs) tt (let k = entry_depth (decimal 0) x fs h in omega (arith, k))

abbrev EachShallow : List Payload → Type 0
EachShallow ps = AllByRecursion ShallowPayload ps

waiting_shallow : (p : Person) (leaves : List Leaf) (label : Option (List ℕ)) (at : Spot) (ls : List Leaf) → EachShallow (standing_payloads p leaves (Some (record { label = label; spot = at; leaves = ls })))
waiting_shallow p leaves label at [] = (single_shallow (v.Object (leaf_members p leaves)) (leaf_faults p leaves) (fields_depth p leaves), tt)
waiting_shallow p leaves label at (l ∷ ls) = (
  announcing_shallow (v.Object (leaf_members p leaves)) (leaf_faults p leaves) label (fields_depth p leaves),
  (completing_shallow (some_bubble p (l ∷ ls)) (v.Object (leaf_members p (l ∷ ls))) (leaf_faults p (l ∷ ls)) (fields_depth p (l ∷ ls)), tt),
)

person_shallow : (b : Bool) (p : Person) (leaves : List Leaf) (o : Option Deferred) → EachShallow (person_payloads_by b p leaves o)
person_shallow true p leaves o = (single_shallow v.Null (leaf_faults p leaves) (null_depth 1), tt)
person_shallow false p leaves None = (single_shallow (v.Object (leaf_members p leaves)) (leaf_faults p leaves) (fields_depth p leaves), tt)
person_shallow false p leaves (Some def) = waiting_shallow p leaves def.label def.spot def.leaves

pub hero_payloads_are_shallow : (t : HeroTables) (d : HeroDocument) → EachOnce d → RefStands t → AllByRecursion (λ p. depth (payload_data p) ≤ 127) (inline_payloads (forest (service t) (nodes_of d) query))
hero_payloads_are_shallow t d once there =
    each_payload ShallowPayload t d once there
    (single_shallow v.Null [] (null_depth 1))
    (λ m. single_shallow v.Null (fault_at d.hero m hero_path ∷ []) (null_depth 1))
    (λ p. person_shallow (some_bubble p d.leaves) p d.leaves d.deferred)
