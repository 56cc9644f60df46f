-- What a payload does to a client: the state behind it, or the refusal.
-- Source: the response format of the GraphQL standard, section 7, and its incremental delivery. The order
-- of the refusals is this project's own.
use Rattle.std.specs.Prelude.{◌≡◌, ◌≢◌, ℕ, Bool, true, false, not, ◌&&◌, List, [], ◌∷◌, ◌++◌, Option, None, Some, Result, Ok, Err, cond, find, filter, flat_map, option_map}
use Rattle.std.specs.List.{list_any}
use Rattle.std.specs.Str.{bytes_eq}
use Rattle.gql_tree.specs.declared.path.Key.{Key}
use Rattle.gql_tree.specs.declared.value.Value.{Value}
use Rattle.gql_tree.specs.declared.value.Value.TheVariants as v
use Rattle.gql_tree.specs.declared.delivery.Fault.{Fault}
use Rattle.gql_tree.specs.declared.delivery.Failure.{Failure}
use Rattle.gql_tree.specs.declared.delivery.Payload.{Payload}
use Rattle.gql_tree.specs.declared.delivery.Pending.{Pending}
use Rattle.gql_tree.specs.declared.delivery.Entry.{Entry}
use Rattle.gql_tree.specs.declared.delivery.Completed.{Completed}
use Rattle.gql_tree.specs.declared.delivery.Content.{Content}
use Rattle.gql_tree.specs.declared.delivery.Content.TheVariants.{Fields, Items}
use Rattle.gql_tree.specs.Flat.{object, flat}
use Rattle.gql_tree.specs.Union.{IsUnion, Clashes, moved}
use Rattle.gql_tree.specs.Extended.{IsLonger, IsOther, marks}
use Rattle.gql_merge.specs.declared.state.State.{State}
use Rattle.gql_merge.specs.declared.refusal.MergeRefusal.{MergeRefusal}
use Rattle.gql_merge.specs.declared.refusal.MergeRefusal.TheVariants.{UnknownId, IdTwice, NoSuchPlace, Clash, AfterEnd, NotAList, OpenAtEnd, BadInitial, NoMemory}
use Rattle.gql_merge.specs.Steps.{Then, Each}
use Rattle.gql_merge.specs.Order.{Sorts, fault_cmp, failure_cmp}

abbrev pub Answer : Type 0
Answer = Result State MergeRefusal

-- ---- the value that a payload begins with

-- a first payload's data, or null where it has errors alone
abbrev pub first_value : Option Value → List Fault → Option Value
first_value (Some x) errors = Some x
first_value None [] = None
first_value None (f ∷ fs) = Some v.Null

-- a later payload has no data, and keeps what stands
abbrev pub kept_value : Value → Option Value → Option Value
kept_value x None = Some x
kept_value x (Some y) = None

abbrev pub begun : Option Value → Payload → Option Value
begun None p = first_value p.initial p.errors
begun (Some x) p = kept_value x p.initial

abbrev pub begin_with : Option Value → State → Answer
begin_with None s = Err BadInitial
begin_with (Some x) s = Ok (record s { value = Some x })

-- nothing comes after the end
abbrev pub begin : Payload → State → Answer
begin p s = cond s.ended (Err AfterEnd) (begin_with (begun s.value p) s)

abbrev pub Begins : Payload → State → Answer → Type 0
Begins p s r = r ≡ begin p s

-- ---- a pending

abbrev pub is_known : List ℕ → List (List ℕ) → Bool
is_known id ids = list_any (λ known. bytes_eq known id) ids

-- an id is announced once, and then is open
abbrev pub announce : Pending → State → Answer
announce p s = cond (is_known p.id s.ids) (Err IdTwice) (Ok (record s { ids = s.ids ++ p.id ∷ []; awaited = s.awaited ++ p ∷ [] }))

abbrev pub Announces : Pending → State → Answer → Type 0
Announces p s r = r ≡ announce p s

-- ---- an entry

-- the open pending of an id
abbrev pub opened : List ℕ → List Pending → Option Pending
opened id ps = find (λ p. bytes_eq p.id id) ps

-- only the value differs
abbrev pub OnlyValue : State → State → Type 0
OnlyValue s t = t ≡ record s { value = t.value }

-- what stands is united with the fields at the path
abbrev pub Grafts : List Key → Value → State → Answer → Type 0
Grafts path x s (Ok t) = OnlyValue s t × (marks s.value path ≡ Some object) × IsUnion (marks t.value) (marks s.value) (moved path (flat x))
Grafts path x s (Err NoSuchPlace) = marks s.value path ≢ Some object
Grafts path x s (Err Clash) = (marks s.value path ≡ Some object) × Clashes (marks s.value) (moved path (flat x))
Grafts path x s (Err _) = ⊥

-- the list at the path gets the items
abbrev pub Extends : List Key → List Value → State → Answer → Type 0
Extends path xs s (Ok t) = OnlyValue s t × IsLonger (marks t.value) (marks s.value) path xs
Extends path xs s (Err NoSuchPlace) = marks s.value path ≡ None
Extends path xs s (Err NotAList) = IsOther (marks s.value path)
Extends path xs s (Err _) = ⊥

abbrev pub Puts : Content → List Key → State → Answer → Type 0
Puts (Fields x) path = Grafts path x
Puts (Items xs) path = Extends path xs

-- where an entry is for: its pending's path, and then its own
abbrev pub target : Entry → List Pending → Option (List Key)
target e ps = option_map (λ p. p.path.keys ++ e.sub_path.keys) (opened e.id ps)

abbrev pub DeliversAt : Option (List Key) → Content → State → Answer → Type 0
DeliversAt None content s r = r ≡ Err UnknownId
DeliversAt (Some path) content s r = Puts content path s r

abbrev pub Delivers : Entry → State → Answer → Type 0
Delivers e s r = DeliversAt (target e s.awaited) e.content s r

-- ---- a completed id

-- with errors it is a failure of its pending
abbrev pub failed : Pending → List Fault → List Failure
failed p [] = []
failed p (f ∷ fs) = record { path = p.path; label = p.label; errors = f ∷ fs } ∷ []

abbrev pub without : List ℕ → List Pending → List Pending
without id ps = filter (λ p. not (bytes_eq p.id id)) ps

abbrev pub complete_of : Option Pending → Completed → State → Answer
complete_of None c s = Err UnknownId
complete_of (Some p) c s = Ok (record s { awaited = without c.id s.awaited; failures = s.failures ++ failed p c.errors })

-- it is open no longer
abbrev pub complete : Completed → State → Answer
complete c s = complete_of (opened c.id s.awaited) c s

abbrev pub Completes : Completed → State → Answer → Type 0
Completes c s r = r ≡ complete c s

-- ---- the end of a payload

-- the payload's own errors, and those of its entries
abbrev pub faults_of : Payload → List Fault
faults_of p = p.errors ++ flat_map (λ e. e.errors) p.incremental

-- whether no further payload comes: `hasNext` isn't true
abbrev pub is_last : Option Bool → Bool
is_last None = true
is_last (Some b) = not b

abbrev pub is_some_open : List Pending → Bool
is_some_open [] = false
is_some_open (p ∷ ps) = true

-- whether ids are left open by a last payload
abbrev pub leaves_open : Payload → State → Bool
leaves_open p s = is_last p.has_next && is_some_open s.awaited

-- the errors join the others, each list in its order
pub record IsEnd (p : Payload) (s t : State) : Type 0 where
  pub value : t.value ≡ s.value
  pub awaited : t.awaited ≡ s.awaited
  pub ids : t.ids ≡ s.ids
  pub errors : Sorts fault_cmp (s.errors ++ faults_of p) t.errors
  pub failures : Sorts failure_cmp s.failures t.failures
  pub ended : t.ended ≡ is_last p.has_next

abbrev pub Ends : Payload → State → Answer → Type 0
Ends p s (Ok t) = (leaves_open p s ≡ false) × IsEnd p s t
Ends p s (Err OpenAtEnd) = leaves_open p s ≡ true
Ends p s (Err _) = ⊥

-- ---- a payload

-- the parts of a payload in this order, and the first refusal decides
abbrev pub Apply : Payload → State → Answer → Type 0
Apply p = Then (Begins p) (Then (Each Announces p.pending) (Then (Each Delivers p.incremental) (Then (Each Completes p.completed) (Ends p))))

-- ---- the clauses of calls

-- a refusal other than want of memory is one of this kind
abbrev pub OnRefusal : {T : Type 0} → Result T MergeRefusal → (MergeRefusal → Type 0) → Type 0
OnRefusal (Ok x) P = Unit {0}
OnRefusal (Err NoMemory) P = Unit {0}
OnRefusal (Err e) P = P e

-- ---- before the first payload

abbrev pub fresh : State
fresh = record { value = None; awaited = []; ids = []; errors = []; failures = []; ended = false }
