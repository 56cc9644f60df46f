-- The texts of the payloads of a request that is built are read back.
use Rattle.std.proofs.Common.{◌≡◌, refl, sym, ◌∙◌, subst, ℕ, zero, suc, ◌≤◌, Bool, true, false, IsTrue, List, [], ◌∷◌, ◌++◌, map, Option, Some, None, IsUtf8, arith}
use Rattle.std.specs.Prelude.{◌==◌, ◌&&◌, IfSome, codes, decimal, slice_get}
use Rattle.std.specs.List.{AllByRecursion as Each}
use Rattle.std.proofs.lemmas.Bool.{and_parts}
use Rattle.json.proofs.Printed.Utf8.{are_ascii, IsUtf8-are_ascii}
use Rattle.serde_json.specs.Data as json
use Rattle.serde_json.specs.Data.{Data, Members, depth}
use Rattle.serde_json.specs.View.{items_of}
use Rattle.gql_tree.specs.declared.Key.{Key}
use Rattle.gql_tree.specs.declared.Spot.{Spot}
use Rattle.gql_tree.specs.declared.Fault.{Fault}
use Rattle.gql_tree.specs.declared.Named.{Named}
use Rattle.gql_tree.specs.declared.Value.{Value}
use Rattle.gql_tree.specs.declared.Value.TheVariants as v
use Rattle.gql_tree.specs.declared.Pending.{Pending}
use Rattle.gql_tree.specs.declared.Content.TheVariants.{Fields}
use Rattle.gql_tree.specs.declared.Entry.{Entry}
use Rattle.gql_tree.specs.declared.Completed.{Completed}
use Rattle.gql_tree.specs.declared.Payload.{Payload}
use Rattle.gql_tree.specs.Json.{put_all, data_of}
use Rattle.gql_tree.specs.Names.{apart}
use Rattle.gql_tree.specs.Typed.{all_members, is_typed}
use Rattle.gql_payload.specs.PayloadText.{present, unless_empty, if_some, key_data, path_data, location_data, locations_data, fault_data, pending_data, entry_data, completed_data, payload_data}
use Rattle.gql_tree.specs.Inline.{inline_payloads}
use Rattle.gql_tree.proofs.Json.{data_Null, data_Int, data_Text, data_Object}
use Rattle.gql_tree.proofs.Typed.{typed_Null, typed_Int, typed_Text, typed_Object, and_true}
use Rattle.gql_tree.specs.Sound.{IsSound}
use Rattle.gql_tree.specs.Typed.{IsTypedValue, IsTypedKey, IsTypedFault, IsTypedPending, IsTypedEntry, IsTypedCompleted, IsTypedPayload}
use Rattle.gql_payload.proofs.Back.{text_back}
use Rattle.gql_payload.proofs.Contents.{Part as Member, fault_parts, pending_parts, entry_parts, completed_parts, payload_parts}
use Rattle.gql_payload.proofs.Utf8.{IsUtf8Data, AreUtf8Items, AreUtf8Members, IsUtf8-AreAscii, decimal_ascii, IsUtf8-compact_text}
use Rattle.gql_payload.proofs.Utf8Read.{put_utf8}
use Rattle.gql_model.specs.Complete.{fault_at, null_message, value_in}
use Rattle.gql_model.specs.Operations.{forest}
use Rattle.gql_tool.specs.declared.hero.shape.LeafName.{LeafName}
use Rattle.gql_tool.specs.declared.hero.shape.LeafName.TheVariants.{Id, Name, Age, Boom}
use Rattle.gql_tool.specs.declared.hero.shape.Leaf.{Leaf}
use Rattle.gql_tool.specs.declared.hero.shape.Deferred.{Deferred}
use Rattle.gql_tool.specs.declared.hero.shape.HeroDocument.{HeroDocument}
use Rattle.gql_tool.specs.declared.hero.tables.LeafCell.{LeafCell}
use Rattle.gql_tool.specs.declared.hero.tables.LeafCell.TheVariants.{Null, Int, Text, Error}
use Rattle.gql_tool.specs.declared.hero.tables.Person.{Person}
use Rattle.gql_tool.specs.declared.hero.tables.HeroTables.{HeroTables}
use Rattle.gql_tool.specs.declared.hero.tables.HeroCell.{HeroCell}
use Rattle.gql_tool.specs.declared.hero.tables.HeroCell.TheVariants as hero_cells
use Rattle.gql_tool.specs.hero.Shape.{times, deferred_leaves_of}
use Rattle.gql_tool.specs.hero.Built.{regions}
use Rattle.gql_tool.specs.hero.Operation.{name_of, nodes_of}
use Rattle.gql_tool.specs.hero.Service.{service, query}
use Rattle.gql_tool.specs.inner.Servable.{IsReadBack}
use Rattle.gql_tool.specs.hero.Hero.{hero_path, is_required, cell_under, cell_part, leaf_path, leaf_part, leaf_members, leaf_faults, some_bubble, hero_object, single, announcing, completing_by, standing_payloads, person_payloads_by, EachOnce, RefStands, CellFits, PersonFits, HeroFits, TablesFit, IsBuilt}
use Rattle.gql_tool.proofs.hero_lemmas.Forests.{person_at}
use Rattle.gql_tool.proofs.hero_lemmas.Once.{apart-members}
use Rattle.gql_tool.proofs.hero_lemmas.Payloads.{payloads-person, payloads-null, payloads-error}
use Rattle.gql_tool.proofs.hero_lemmas.Sound.{hero_payloads_make_sense, hero_payloads_are_shallow}
use Rattle.gql_tool.proofs.hero_lemmas.Reading.{built-read, built-once, built-stands}
use Rattle.gql_tool.proofs.hero_lemmas.Spots.{FitsSpot, FitsDocument, read-fits, built-placed}
use Rattle.gql_tool.proofs.hero_lemmas.TableTexts.{tables_in-fit}

-- ---- lists

firsts : {X : Type 0} (P Q : X → Type 0) (xs : List X) → Each (λ x. P x × Q x) xs → Each P xs
firsts P Q [] h = tt
firsts P Q (x ∷ xs) h = (h.0.0, firsts P Q xs h.1)

seconds : {X : Type 0} (P Q : X → Type 0) (xs : List X) → Each (λ x. P x × Q x) xs → Each Q xs
seconds P Q [] h = tt
seconds P Q (x ∷ xs) h = (h.0.1, seconds P Q xs h.1)

both_each : {X : Type 0} (P : X → Type 0) (xs ys : List X) → Each P xs → Each P ys → Each P (xs ++ ys)
both_each P [] ys h k = k
both_each P (x ∷ xs) ys h k = (h.0, both_each P xs ys h.1 k)

-- ---- JSON

abbrev MaybeUtf8 : Option Data → Type 0
MaybeUtf8 o = IfSome o IsUtf8Data

abbrev names_ascii : List Member → Bool
names_ascii [] = true
names_ascii (m ∷ ms) = are_ascii m.0 && names_ascii ms

members_utf8 : (ms : List Member) → names_ascii ms ≡ true → Each (λ m. MaybeUtf8 m.1) ms → AreUtf8Members (present ms)
members_utf8 [] names h = tt
members_utf8 ((k, None) ∷ ms) names h = members_utf8 ms (and_parts _ _ names).1 h.1
members_utf8 ((k, Some d) ∷ ms) names h = (IsUtf8-are_ascii k (and_parts _ _ names).0, h.0, members_utf8 ms (and_parts _ _ names).1 h.1)

items_utf8 : {X : Type 0} (f : X → Data) (xs : List X) → Each (λ x. IsUtf8Data (f x)) xs → AreUtf8Items (items_of (map f xs))
items_utf8 f [] h = tt
items_utf8 f (x ∷ xs) h = (h.0, items_utf8 f xs h.1)

unless_empty_utf8 : {X : Type 0} (f : X → Data) (xs : List X) → Each (λ x. IsUtf8Data (f x)) xs → MaybeUtf8 (unless_empty f xs)
unless_empty_utf8 f [] h = tt
unless_empty_utf8 f (x ∷ xs) h = items_utf8 f (x ∷ xs) h

-- ---- values

abbrev pub ValueFits : Value → Type 0
ValueFits x = IsTypedValue x × IsUtf8Data (data_of x)

abbrev MemberFits : Named Value → Type 0
MemberFits m = IsUtf8 m.name × ValueFits m.value

pub null_fits : ValueFits v.Null
null_fits = (typed_Null, subst IsUtf8Data (sym data_Null) tt)

put_all_utf8 : (ms : List (Named Value)) (found : Members) → Each MemberFits ms → AreUtf8Members found → AreUtf8Members (put_all data_of found ms)
put_all_utf8 [] found h k = k
put_all_utf8 (m ∷ ms) found h k = put_all_utf8 ms (json.put m.name (data_of m.value) found) h.1 (put_utf8 m.name (data_of m.value) found h.0.0 h.0.1.1 k)

all_typed : (ms : List (Named Value)) → Each MemberFits ms → IsTrue (all_members is_typed ms)
all_typed [] h = refl
all_typed (m ∷ ms) h = and_true _ _ h.0.1.0 (all_typed ms h.1)

object_fits : (ms : List (Named Value)) → IsTrue (apart ms) → Each MemberFits ms → ValueFits (v.Object ms)
object_fits ms names h = (
  typed_Object ms ∙ and_true _ _ names (all_typed ms h),
  subst IsUtf8Data (sym (data_Object ms)) (put_all_utf8 ms json.no_members h tt),
)

pub hero_fits : (x : Value) → ValueFits x → ValueFits (hero_object x)
hero_fits x h = object_fits (record { name = codes "hero"; value = x } ∷ []) refl ((IsUtf8-are_ascii (codes "hero") refl, h), tt)

cell_fits : (required : Bool) (spot : Spot) (path : List Key) (c : LeafCell) → CellFits c → ValueFits (value_in (cell_part required spot path c))
cell_fits true spot path Null h = null_fits
cell_fits false spot path Null h = null_fits
cell_fits required spot path (Int n) h = (typed_Int n ∙ h, subst IsUtf8Data (sym (data_Int n)) tt)
cell_fits required spot path (Text s) h = (typed_Text s, subst IsUtf8Data (sym (data_Text s)) h)
cell_fits true spot path (Error m) h = null_fits
cell_fits false spot path (Error m) h = null_fits

under_fits : (p : Person) (name : LeafName) → PersonFits p → CellFits (cell_under p name)
under_fits p Id h = h.id
under_fits p Name h = h.name
under_fits p Age h = h.age
under_fits p Boom h = h.boom

name_utf8 : (name : LeafName) → IsUtf8 (name_of name)
name_utf8 Id = IsUtf8-are_ascii (codes "id") refl
name_utf8 Name = IsUtf8-are_ascii (codes "name") refl
name_utf8 Age = IsUtf8-are_ascii (codes "age") refl
name_utf8 Boom = IsUtf8-are_ascii (codes "boom") refl

members_fit : (p : Person) (ls : List Leaf) → PersonFits p → Each MemberFits (leaf_members p ls)
members_fit p [] h = tt
members_fit p (l ∷ ls) h = ((name_utf8 l.name, cell_fits (is_required l.name) l.spot (leaf_path l.name) (cell_under p l.name) (under_fits p l.name h)), members_fit p ls h)

-- each leaf once
abbrev Once : List Leaf → Type 0
Once ls = (name : LeafName) → times name ls ≤ 1

pub fields_fit : (p : Person) (ls : List Leaf) → PersonFits p → Once ls → ValueFits (v.Object (leaf_members p ls))
fields_fit p ls h once = object_fits (leaf_members p ls) (apart-members p ls once) (members_fit p ls h)

-- ---- errors

abbrev KeyFits : Key → Type 0
KeyFits k = IsTypedKey k × IsUtf8Data (key_data k)

path_utf8 : (path : List Key) → Each KeyFits path → IsUtf8Data (path_data (record { keys = path }))
path_utf8 path h = items_utf8 key_data path (seconds IsTypedKey (λ k. IsUtf8Data (key_data k)) path h)

hero_path_fits : Each KeyFits hero_path
hero_path_fits = ((tt, IsUtf8-are_ascii (codes "hero") refl), tt)

leaf_path_fits : (name : LeafName) → Each KeyFits (leaf_path name)
leaf_path_fits name = ((tt, IsUtf8-are_ascii (codes "hero") refl), ((tt, name_utf8 name), tt))

abbrev FaultFits : Fault → Type 0
FaultFits f = IsTypedFault f × IsUtf8Data (fault_data f)

abbrev FaultsFit : List Fault → Type 0
FaultsFit fs = Each FaultFits fs

locations_utf8 : (line column : ℕ) → MaybeUtf8 (locations_data line column)
locations_utf8 line column = by_none (line == 0)
  where
    one : IsUtf8Data (location_data line column)
    one = (IsUtf8-are_ascii (codes "column") refl, tt, (IsUtf8-are_ascii (codes "line") refl, tt, tt))

    by_none : (b : Bool) → MaybeUtf8 (elim b [ true ↦ None | false ↦ Some (json.array (json.item (location_data line column) json.no_items)) ])
    by_none true = tt
    by_none false = (one, tt)

fault_fits : (spot : Spot) (message : List ℕ) (path : List Key) → FitsSpot spot → IsUtf8 message → Each KeyFits path → FaultFits (fault_at spot message path)
fault_fits spot message path at text h = (
  record { line = at.0; column = at.1; path = firsts IsTypedKey (λ k. IsUtf8Data (key_data k)) path h },
  members_utf8 (fault_parts (fault_at spot message path)) refl (locations_utf8 spot.line spot.column, (text, (path_utf8 path h, tt))),
)

null_message_utf8 : IsUtf8 null_message
null_message_utf8 = IsUtf8-are_ascii null_message refl

cell_faults_fit : (required : Bool) (spot : Spot) (path : List Key) (c : LeafCell) → FitsSpot spot → Each KeyFits path → CellFits c → FaultsFit (cell_part required spot path c).faults
cell_faults_fit true spot path Null at h k = (fault_fits spot null_message path at null_message_utf8 h, tt)
cell_faults_fit false spot path Null at h k = tt
cell_faults_fit required spot path (Int n) at h k = tt
cell_faults_fit required spot path (Text s) at h k = tt
cell_faults_fit true spot path (Error m) at h k = (fault_fits spot m path at k h, tt)
cell_faults_fit false spot path (Error m) at h k = (fault_fits spot m path at k h, tt)

-- the places of leaves
abbrev LeavesFit : List Leaf → Type 0
LeavesFit ls = Each (λ leaf. FitsSpot leaf.spot) ls

leaf_faults_fit : (p : Person) (ls : List Leaf) → PersonFits p → LeavesFit ls → FaultsFit (leaf_faults p ls)
leaf_faults_fit p [] h k = tt
leaf_faults_fit p (l ∷ ls) h k =
    both_each FaultFits (leaf_part p l).faults (leaf_faults p ls)
    (cell_faults_fit (is_required l.name) l.spot (leaf_path l.name) (cell_under p l.name) k.0 (leaf_path_fits l.name) (under_fits p l.name h))
    (leaf_faults_fit p ls h k.1)

-- ---- payloads

-- what a payload must have to be read back, but for its sense and its depth
pub record CanBeWritten (p : Payload) : Type 0 where
  pub typed : IsTypedPayload p
  pub utf8 : IsUtf8Data (payload_data p)

id_utf8 : IsUtf8 (decimal 0)
id_utf8 = IsUtf8-AreAscii (decimal 0) (decimal_ascii 0)

abbrev PendingFits : Pending → Type 0
PendingFits x = IsTypedPending x × IsUtf8Data (pending_data x)

abbrev EntryFits : Entry → Type 0
EntryFits x = IsTypedEntry x × IsUtf8Data (entry_data x)

abbrev CompletedFits : Completed → Type 0
CompletedFits x = IsTypedCompleted x × IsUtf8Data (completed_data x)

typed_initial : (o : Option Value) → IfSome o ValueFits → IfSome o IsTypedValue
typed_initial None h = tt
typed_initial (Some x) h = h.0

initial_utf8 : (o : Option Value) → IfSome o ValueFits → MaybeUtf8 (if_some data_of o)
initial_utf8 None h = tt
initial_utf8 (Some x) h = h.1

more_utf8 : (o : Option Bool) → MaybeUtf8 (if_some json.boolean o)
more_utf8 None = tt
more_utf8 (Some b) = tt

faults_utf8 : (fs : List Fault) → FaultsFit fs → MaybeUtf8 (unless_empty fault_data fs)
faults_utf8 fs h = unless_empty_utf8 fault_data fs (seconds IsTypedFault (λ f. IsUtf8Data (fault_data f)) fs h)

typed_faults : (fs : List Fault) → FaultsFit fs → Each IsTypedFault fs
typed_faults = firsts IsTypedFault (λ f. IsUtf8Data (fault_data f))

payload_fits : (p : Payload) → IfSome p.initial ValueFits → FaultsFit p.errors → Each PendingFits p.pending → Each EntryFits p.incremental → Each CompletedFits p.completed → CanBeWritten p
payload_fits p initial errors pending incremental completed = record {
  typed = record {
    initial = typed_initial p.initial initial;
    errors = typed_faults p.errors errors;
    pending = firsts IsTypedPending (λ x. IsUtf8Data (pending_data x)) p.pending pending;
    incremental = firsts IsTypedEntry (λ x. IsUtf8Data (entry_data x)) p.incremental incremental;
    completed = firsts IsTypedCompleted (λ x. IsUtf8Data (completed_data x)) p.completed completed;
  };
  utf8 = members_utf8 (payload_parts p) refl (
    unless_empty_utf8 completed_data p.completed (seconds IsTypedCompleted (λ x. IsUtf8Data (completed_data x)) p.completed completed),
    (
      initial_utf8 p.initial initial,
      (
        faults_utf8 p.errors errors,
        (
          more_utf8 p.has_next,
          (
            unless_empty_utf8 entry_data p.incremental (seconds IsTypedEntry (λ x. IsUtf8Data (entry_data x)) p.incremental incremental),
            (unless_empty_utf8 pending_data p.pending (seconds IsTypedPending (λ x. IsUtf8Data (pending_data x)) p.pending pending), tt),
          ),
        ),
      ),
    ),
  );
}

single_fits : (x : Value) (fs : List Fault) → ValueFits x → FaultsFit fs → CanBeWritten (single x fs)
single_fits x fs h k = payload_fits (single x fs) (hero_fits x h) k tt tt tt

label_utf8 : (o : Option (List ℕ)) → IfSome o IsUtf8 → MaybeUtf8 (if_some json.string o)
label_utf8 None h = tt
label_utf8 (Some label) h = h

announced_fits : (label : Option (List ℕ)) → IfSome label IsUtf8 → PendingFits (record { id = decimal 0; path = record { keys = hero_path }; label = label })
announced_fits label h = (
  firsts IsTypedKey (λ k. IsUtf8Data (key_data k)) hero_path hero_path_fits,
  members_utf8 (pending_parts (record { id = decimal 0; path = record { keys = hero_path }; label = label })) refl (id_utf8, (label_utf8 label h, (path_utf8 hero_path hero_path_fits, tt))),
)

announcing_fits : (x : Value) (fs : List Fault) (label : Option (List ℕ)) → ValueFits x → FaultsFit fs → IfSome label IsUtf8 → CanBeWritten (announcing x fs label)
announcing_fits x fs label h k l = payload_fits (announcing x fs label) (hero_fits x h) k (announced_fits label l, tt) tt tt

ended_fits : (fs : List Fault) → FaultsFit fs → CompletedFits (record { id = decimal 0; errors = fs })
ended_fits fs h = (typed_faults fs h, members_utf8 (completed_parts (record { id = decimal 0; errors = fs })) refl (faults_utf8 fs h, (id_utf8, tt)))

entry_fits : (x : Value) (fs : List Fault) → ValueFits x → FaultsFit fs → EntryFits (record { id = decimal 0; sub_path = record { keys = [] }; content = Fields x; errors = fs })
entry_fits x fs h k = (
  record { sub_path = tt; content = (h.0, tt); errors = typed_faults fs k },
  members_utf8 (entry_parts (record { id = decimal 0; sub_path = record { keys = [] }; content = Fields x; errors = fs })) refl (h.1, (faults_utf8 fs k, (id_utf8, (tt, (tt, tt))))),
)

completing_fits : (b : Bool) (x : Value) (fs : List Fault) → ValueFits x → FaultsFit fs → CanBeWritten (completing_by b x fs)
completing_fits true x fs h k = payload_fits (completing_by true x fs) tt tt tt tt (ended_fits fs k, tt)
completing_fits false x fs h k = payload_fits (completing_by false x fs) tt tt tt (entry_fits x fs h k, tt) (ended_fits [] tt, tt)

-- ---- the payloads of a person

abbrev EachWritten : List Payload → Type 0
EachWritten ps = Each CanBeWritten ps

-- what is so of a deferred piece
abbrev DeferredFits : Option Deferred → Type 0
DeferredFits o = IfSome o (λ def. FitsSpot def.spot × IfSome def.label IsUtf8)

waiting_fit : (p : Person) (leaves : List Leaf) (label : Option (List ℕ)) (at : Spot) (ls : List Leaf) → PersonFits p → Once leaves → Once ls → LeavesFit leaves → LeavesFit ls → IfSome label IsUtf8 → EachWritten (standing_payloads p leaves (Some (record { label = label; spot = at; leaves = ls })))
waiting_fit p leaves label at [] h once later a b l = (single_fits (v.Object (leaf_members p leaves)) (leaf_faults p leaves) (fields_fit p leaves h once) (leaf_faults_fit p leaves h a), tt)
waiting_fit p leaves label at (x ∷ xs) h once later a b l = (
  announcing_fits (v.Object (leaf_members p leaves)) (leaf_faults p leaves) label (fields_fit p leaves h once) (leaf_faults_fit p leaves h a) l,
  (completing_fits (some_bubble p (x ∷ xs)) (v.Object (leaf_members p (x ∷ xs))) (leaf_faults p (x ∷ xs)) (fields_fit p (x ∷ xs) h later) (leaf_faults_fit p (x ∷ xs) h b), tt),
)

person_fit : (b : Bool) (p : Person) (leaves : List Leaf) (o : Option Deferred) → PersonFits p → Once leaves → Once (deferred_leaves_of o) → LeavesFit leaves → LeavesFit (deferred_leaves_of o) → DeferredFits o → EachWritten (person_payloads_by b p leaves o)
person_fit true p leaves o h once later a b l = (single_fits v.Null (leaf_faults p leaves) null_fits (leaf_faults_fit p leaves h a), tt)
person_fit false p leaves None h once later a b l = (single_fits (v.Object (leaf_members p leaves)) (leaf_faults p leaves) (fields_fit p leaves h once) (leaf_faults_fit p leaves h a), tt)
person_fit false p leaves (Some def) h once later a b l = waiting_fit p leaves def.label def.spot def.leaves h once later a b l.1

-- ---- the payloads of a document

pub fits_at : (ps : List Person) (n : ℕ) (p : Person) → slice_get ps n ≡ Some p → Each PersonFits ps → PersonFits p
fits_at [] n p is h = absurd (cc)
fits_at (x ∷ xs) zero p is h = let same : x ≡ p = cc in subst PersonFits same h.0
fits_at (x ∷ xs) (suc n) p is h = fits_at xs n p is h.1

module _ (t : HeroTables) (d : HeroDocument) (once : EachOnce d) (there : RefStands t) (tables : TablesFit t) (document : FitsDocument d) where
  first_once : Once d.leaves
  first_once name = (let h = once name in omega (arith, h))

  later_once : Once (deferred_leaves_of d.deferred)
  later_once name = (let h = once name in omega (arith, h))

  by_cell : (c : HeroCell) → t.hero ≡ c → HeroFits c → EachWritten (inline_payloads (forest (service t) (nodes_of d) query))
  by_cell hero_cells.Null is h = subst EachWritten (sym (payloads-null t d is)) (single_fits v.Null [] null_fits tt, tt)
  by_cell (hero_cells.Error m) is h = subst EachWritten (sym (payloads-error t d m is)) (single_fits v.Null (fault_at d.hero m hero_path ∷ []) null_fits (fault_fits d.hero m hero_path document.hero h hero_path_fits, tt), tt)
  by_cell (hero_cells.Ref n) is h =
      let found = person_at t.persons n (there n is) in
      subst EachWritten (sym (payloads-person t d n found.0 found.1 is once))
      (person_fit (some_bubble found.0 d.leaves) found.0 d.leaves d.deferred (fits_at t.persons n found.0 found.1 tables.persons) first_once later_once document.leaves document.deferred document.fragment)

  hero_payloads_can_be_written : EachWritten (inline_payloads (forest (service t) (nodes_of d) query))
  hero_payloads_can_be_written = by_cell t.hero refl tables.hero

-- ---- they are read back

each_read_back : (ps : List Payload) → Each IsSound ps → Each (λ p. depth (payload_data p) ≤ 127) ps → Each CanBeWritten ps → Each IsReadBack ps
each_read_back [] sound deep written = tt
each_read_back (p ∷ ps) sound deep written = (text_back p sound.0 written.0.typed (IsUtf8-compact_text (payload_data p) written.0.utf8) deep.0, each_read_back ps sound.1 deep.1 written.1)

module _ (vars schema tables document : List ℕ) (t : HeroTables) (d : HeroDocument) (is : IsBuilt vars schema tables document t d) where
  -- each payload of a request that is built can be written
  pub hero_payloads_are_written : EachWritten (inline_payloads (regions t d))
  hero_payloads_are_written =
      let read = built-read vars schema tables document t d is in
      hero_payloads_can_be_written t d (built-once vars schema tables document t d is) (built-stands vars schema tables document t d is)
      (tables_in-fit tables t read.tables) (read-fits document read.it d read.utf8 read.within read.document read.hero)

  -- and is read back from its text
  pub hero_payloads_are_read_back : Each IsReadBack (inline_payloads (regions t d))
  hero_payloads_are_read_back =
      let once = built-once vars schema tables document t d is in
      let stands = built-stands vars schema tables document t d is in
      each_read_back (inline_payloads (regions t d)) (hero_payloads_make_sense t d once stands (built-placed vars schema tables document t d is)) (hero_payloads_are_shallow t d once stands) hero_payloads_are_written
