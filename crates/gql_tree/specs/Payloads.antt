-- The payloads of a forest by a schedule: one for the initial region, and one for each later time at which something is announced, released or done.
-- Source: the payload kinds of the incremental delivery of the GraphQL standard, as a profile.
use Rattle.std.specs.Prelude.{ℕ, ◌+◌, nat_lt, Bool, true, false, not, ◌&&◌, ◌==◌, List, [], ◌∷◌, ◌++◌, length, drop, filter, flat_map, map, Option, Some, None, decimal, if◌then◌else◌}
use Rattle.std.specs.List.{list_any, list_all}
use Rattle.std.specs.declared.cmp.Ordering.{Ordering}
use Rattle.std.specs.declared.cmp.Ordering.TheVariants.{Less, Equal, Greater}
use Rattle.std.specs.Ordering.{nat_cmp, ordering_then}
use Rattle.std.specs.Option.{option_cmp}
use Rattle.std.specs.Cmp.Lexicographic.{slice_cmp}
use Rattle.gql_tree.specs.declared.path.Key.{Key}
use Rattle.gql_tree.specs.declared.value.Value.{Value}
use Rattle.gql_tree.specs.declared.delivery.Fault.{Fault}
use Rattle.gql_tree.specs.declared.delivery.FragId.{FragId}
use Rattle.gql_tree.specs.declared.delivery.RegionResult.{RegionResult}
use Rattle.gql_tree.specs.declared.delivery.Pending.{Pending}
use Rattle.gql_tree.specs.declared.delivery.Entry.{Entry}
use Rattle.gql_tree.specs.declared.delivery.Completed.{Completed}
use Rattle.gql_tree.specs.declared.delivery.Content.TheVariants.{Fields, Items}
use Rattle.gql_tree.specs.declared.delivery.Payload.{Payload}
use Rattle.gql_tree.specs.Keys.{same_fragment}
use Rattle.gql_tree.specs.Fate.{same_path}
use Rattle.gql_tree.specs.Order.{path_cmp}
use Rattle.gql_tree.specs.Ordered.{ordered}
use Rattle.gql_tree.specs.Forest.{Forest, region, outcome_value}
use Rattle.gql_tree.specs.Times.{Time, is_at, has_time}
use Rattle.gql_tree.specs.Course.{Schedule, Awaited, at_first, by_owners, by_stream, Arrival, Course, course}

-- ---- ids

-- a fragment before a stream
abbrev pub kind_cmp : Bool → Bool → Ordering
kind_cmp false false = Equal
kind_cmp false true = Less
kind_cmp true false = Greater
kind_cmp true true = Equal

-- by the time of the announcement, then by path, a fragment before a stream, then by place
abbrev pub awaited_cmp : Awaited → Awaited → Ordering
awaited_cmp a b =
    ordering_then (option_cmp nat_cmp a.announced b.announced)
    (ordering_then (path_cmp a.path.keys b.path.keys)
    (ordering_then (kind_cmp a.is_stream b.is_stream) (nat_cmp a.place b.place)))

-- what is announced, with the number of its id
pub record Known : Type 0 where
  pub number : ℕ
  pub awaited : Awaited

-- numbered from here on
abbrev pub known_from : ℕ → List Awaited → List Known
known_from n [] = []
known_from n (a ∷ rest) = record { number = n; awaited = a } ∷ known_from (n + 1) rest

-- all that is announced, in the order of the ids
abbrev pub all_known : Course → List Known
all_known c = known_from 0 (ordered awaited_cmp (filter (λ a. has_time a.announced) c.awaited))

-- its announcement
abbrev pub pending_of : Known → Pending
pending_of k = record { id = decimal k.number; path = k.awaited.path; label = k.awaited.label }

-- its end
abbrev pub completed_of : Known → Completed
completed_of k = record { id = decimal k.number; errors = k.awaited.errors }

-- ---- entries

-- it is a fragment, and one of these
abbrev pub is_among : List FragId → Awaited → Bool
is_among ids a = not a.is_stream && list_any (λ id. same_fragment id (record { place = a.place; path = a.path })) ids

-- the one with the longest path, of several the first
abbrev pub farthest : List Known → Option Known
farthest [] = None
farthest (k ∷ ks) = elim (farthest ks) [ None ↦ Some k | Some l ↦ if nat_lt (length k.awaited.path.keys) (length l.awaited.path.keys) then Some l else Some k ]

-- an entry with what its place in the payload goes by: its target, and for a group its owners' places
pub record Standing : Type 0 where
  pub at : List Key
  pub places : List ℕ
  pub entry : Entry

-- by target, then in group order
abbrev pub standing_cmp : Standing → Standing → Ordering
standing_cmp a b = ordering_then (path_cmp a.at b.at) (slice_cmp nat_cmp a.places b.places)

-- what it brings
abbrev pub value_at : Arrival → Value
value_at x = outcome_value x.region.outcome

-- a group's entry under this id; its path is the id's path and then the entry's own
abbrev pub group_entry : Arrival → List ℕ → Known → Standing
group_entry x places k = record {
  at = x.at;
  places = places;
  entry = record { id = decimal k.number; sub_path = record { keys = drop (length k.awaited.path.keys) x.at }; content = Fields (value_at x); errors = x.region.faults };
}

-- a released group is one entry, under the id of the farthest of the owners that carry it
abbrev pub group_entries : List Known → Arrival → List Standing
group_entries ks x = elim x.way [
  | at_first ↦ []
  | by_owners g ids ↦ elim (farthest (filter (λ k. is_among ids k.awaited) ks)) [ None ↦ [] | Some k ↦ group_entry x (map (λ o. o.place) g.owners) k ∷ [] ]
  | by_stream s ↦ []
]

-- it is an item of this stream
abbrev pub is_item_of : Known → Arrival → Bool
is_item_of k x = elim x.way [ at_first ↦ false | by_owners g ids ↦ false | by_stream s ↦ k.awaited.is_stream && same_path s.path k.awaited.path ]

-- the items of one stream in one payload are one entry
abbrev pub items_entry : Known → List Arrival → List Standing
items_entry k [] = []
items_entry k (x ∷ xs) = record {
  at = k.awaited.path.keys;
  places = [];
  entry = record { id = decimal k.number; sub_path = record { keys = [] }; content = Items (map value_at (x ∷ xs)); errors = flat_map (λ y. y.region.faults) (x ∷ xs) };
} ∷ []

-- the entry of a stream, if any of these is its item
abbrev pub stream_entries : List Arrival → Known → List Standing
stream_entries xs k = items_entry k (filter (is_item_of k) xs)

-- what is released at one time, by target and then in group order
abbrev pub entries_of : List Known → List Arrival → List Entry
entries_of ks xs = map (λ e. e.entry) (ordered standing_cmp (flat_map (group_entries ks) xs ++ flat_map (stream_entries xs) ks))

-- ---- payloads

-- what is released at one time
abbrev pub arrivals_at : Course → ℕ → List Arrival
arrivals_at c t = filter (λ x. is_at t x.released) c.arrivals

-- what is announced, released and done at one time
abbrev pub payload_at : Course → ℕ → Option Value → List Fault → Option Bool → Payload
payload_at c t initial errors has_next = record {
  initial = initial;
  errors = errors;
  pending = map pending_of (filter (λ k. is_at t k.awaited.announced) (all_known c));
  incremental = entries_of (all_known c) (arrivals_at c t);
  completed = map completed_of (filter (λ k. is_at t k.awaited.done) (all_known c));
  has_next = has_next;
}

-- one more time, in ascending order and each once
abbrev pub noted : ℕ → List ℕ → List ℕ
noted t [] = t ∷ []
noted t (u ∷ us) = if nat_lt t u then t ∷ u ∷ us else if t == u then u ∷ us else u ∷ noted t us

-- those above 0, in ascending order and each once
abbrev pub noted_all : List Time → List ℕ
noted_all [] = []
noted_all (None ∷ ts) = noted_all ts
noted_all (Some t ∷ ts) = if t == 0 then noted_all ts else noted t (noted_all ts)

-- the times above 0 at which something is announced, released or done
abbrev pub moments : Course → List ℕ
moments c = noted_all (map (λ a. a.announced) c.awaited ++ (map (λ x. x.released) c.arrivals ++ map (λ a. a.done) c.awaited))

-- all that is announced is done
abbrev pub is_finished : Course → Bool
is_finished c = list_all (λ a. has_time a.done) c.awaited

-- absent where nothing is ever announced, false on the last payload, else true
abbrev pub next_of : Course → List ℕ → Option Bool
next_of c ts = elim c.awaited [ [] ↦ None | a ∷ rest ↦ elim ts [ [] ↦ Some (not (is_finished c)) | u ∷ us ↦ Some true ] ]

-- one for each of these times
abbrev pub payloads_from : Course → List ℕ → List Payload
payloads_from c [] = []
payloads_from c (t ∷ ts) = payload_at c t None [] (next_of c ts) ∷ payloads_from c ts

-- the first has the value and the errors of the initial region
abbrev pub payloads_of : RegionResult → Course → List Payload
payloads_of r c = payload_at c 0 (Some (outcome_value r.outcome)) r.faults (next_of c (moments c)) ∷ payloads_from c (moments c)

-- the payloads of a forest by a schedule
abbrev pub payloads : Forest → Schedule → List Payload
payloads f p = payloads_of (region f) (course p f)
