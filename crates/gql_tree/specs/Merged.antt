-- What a client has in the end that was sent all payloads of a forest. No order of the tasks is in this definition.
-- Source: incremental delivery of the GraphQL standard, as a profile.
use Rattle.std.specs.Prelude.{◌≡◌, ◌↔◌, ℕ, ◌+◌, Bool, true, not, ◌&&◌, List, [], ◌∷◌, ◌++◌, length, filter, find, map, flat_map, Contains, Option, Some, None, option_map, if◌then◌else◌}
use Rattle.gql_tree.specs.declared.path.Key.{Key}
use Rattle.gql_tree.specs.declared.path.Key.TheVariants.{Index}
use Rattle.gql_tree.specs.declared.value.Value.{Value}
use Rattle.gql_tree.specs.declared.delivery.Fault.{Fault}
use Rattle.gql_tree.specs.declared.delivery.Failure.{Failure}
use Rattle.gql_tree.specs.declared.delivery.FragId.{FragId}
use Rattle.gql_tree.specs.declared.delivery.Stream.{Stream}
use Rattle.gql_tree.specs.declared.delivery.RegionResult.{RegionResult}
use Rattle.gql_tree.specs.declared.delivery.TaskWork.TheVariants.{Fields, Item}
use Rattle.gql_tree.specs.Keys.{same_lists, same_key}
use Rattle.gql_tree.specs.Flat.{Mark, list, flat}
use Rattle.gql_tree.specs.Typed.{IsTypedValue}
use Rattle.gql_tree.specs.Order.{group_cmp, fault_cmp, failure_cmp}
use Rattle.gql_tree.specs.Ordered.{ordered}
use Rattle.gql_tree.specs.Forest.{Forest, Branches, grown, none, more, outcome_value}
use Rattle.gql_tree.specs.Fate.{is_good, ItemRun, Scope, scope_of, groups_of, is_ok, is_delivered, is_announced, items_run, items_of_stream, is_item_delivered}

-- ---- what is delivered

-- a region's value, the place where it begins, and its errors
pub record Part : Type 0 where
  pub at : List Key
  pub value : Value
  pub errors : List Fault

-- a region's part at a path
abbrev pub part : List Key → RegionResult → Part
part at r = record { at = at; value = outcome_value r.outcome; errors = r.faults }

-- an announced list with the number of its items that are delivered
pub record Grown : Type 0 where
  pub at : List Key
  pub length : ℕ

-- the fault list of the first failed item
abbrev pub first_failure : List ItemRun → Option (List Fault)
first_failure items = option_map (λ x. x.region.faults) (find (λ x. not (is_good x.region)) items)

-- the list of an announced stream
abbrev pub grown_list : List ItemRun → Stream → Grown
grown_list items s = record { at = s.path.keys; length = s.first + length (filter (λ x. is_item_delivered items x.stream x.index) (items_of_stream items s)) }

-- an announced stream that fails
abbrev pub stream_failures : List ItemRun → Stream → List Failure
stream_failures items s = elim (first_failure (items_of_stream items s)) [ None ↦ [] | Some fs ↦ record { path = s.path; label = s.label; errors = fs } ∷ [] ]

-- the errors of its failed groups, in group order
abbrev pub errors_of : Scope → FragId → List Fault
errors_of s id = flat_map (λ x. x.region.faults) (filter (λ x. not (is_good x.region)) (ordered (λ x y. group_cmp x.group y.group) (groups_of s id)))

-- the announced fragments of a delivered scope that fail
abbrev pub fragment_failures : Scope → List Failure
fragment_failures s = map (λ f. record { path = f.id.path; label = f.label; errors = errors_of s f.id }) (filter (λ f. is_announced s f.id && not (is_ok s f.id)) s.fragments)

-- all of a forest that is delivered
pub record Delivery : Type 0 where
  pub parts : List Part
  pub lists : List Grown
  pub failures : List Failure

-- nothing is delivered
abbrev pub nothing : Delivery
nothing = record { parts = []; lists = []; failures = [] }

-- two deliveries, one behind the other
abbrev pub both : Delivery → Delivery → Delivery
both a b = record { parts = a.parts ++ b.parts; lists = a.lists ++ b.lists; failures = a.failures ++ b.failures }

-- a region that is delivered, with its streams
abbrev pub one : List Key → RegionResult → List ItemRun → Delivery
one at r items = record { parts = part at r ∷ []; lists = map (grown_list items) r.streams; failures = flat_map (stream_failures items) r.streams }

-- a scope that is delivered: its root region, what is delivered below it, and its fragments that fail
abbrev pub whole_scope : List Key → RegionResult → List ItemRun → Scope → Delivery → Delivery
whole_scope at r items s inside = both (one at r items) (both inside (record { parts = []; lists = []; failures = fragment_failures s }))

-- what is delivered of the tasks of a region of this scope, and below them; `here` tells whether the region is delivered,
-- and `items` are the items of its streams
abbrev pub delivered_below : Scope → Bool → List ItemRun → Branches → Delivery
delivered_below s here items none = nothing
delivered_below s here items (more (Fields g) (grown r inner) bs) =
    both (if is_delivered s g then one g.path.keys r (items_run inner) else nothing)
    (both (delivered_below s (is_delivered s g) (items_run inner) inner) (delivered_below s here items bs))
delivered_below s here items (more (Item st i) (grown r inner) bs) =
    both (if here && is_item_delivered items st i
    then whole_scope (st.path.keys ++ Index i ∷ []) r (items_run inner) (scope_of (grown r inner)) (delivered_below (scope_of (grown r inner)) true (items_run inner) inner)
    else nothing)
    (delivered_below s here items bs)

-- all of a forest that is delivered, from its root on
abbrev pub delivery : Forest → Delivery
delivery (grown r bs) = whole_scope [] r (items_run bs) (scope_of (grown r bs)) (delivered_below (scope_of (grown r bs)) true (items_run bs) bs)

-- ---- what is merged

-- an announced list has its first items and those that are delivered
abbrev pub settled : List Grown → List Key → Mark → Mark
settled lists path m = elim (find (λ l. same_lists same_key l.at path) lists) [ None ↦ m | Some l ↦ list l.length ]

-- a delivered part has the mark
abbrev pub HasMark : Delivery → List Key → Mark → Type 0
HasMark d path m = (x : Part) × Contains d.parts x × (rest : List Key) × (raw : Mark)
    × (path ≡ x.at ++ rest) × (flat x.value rest ≡ Some raw) × (m ≡ settled d.lists path raw)

-- a value that has the union of the delivered parts, their errors, and the failures, both in order
pub record IsMerged (f : Forest) (value : Value) (faults : List Fault) (failed : List Failure) : Type 0 where
  pub typed : IsTypedValue value
  pub marks : (path : List Key) (m : Mark) → (flat value path ≡ Some m) ↔ HasMark (delivery f) path m
  pub errors : faults ≡ ordered fault_cmp (flat_map (λ x. x.errors) (delivery f).parts)
  pub failures : failed ≡ ordered failure_cmp (delivery f).failures
