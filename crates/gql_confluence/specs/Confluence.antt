-- What holds of a client that is sent the payloads of a well-formed forest by a lawful schedule.
use Rattle.std.specs.Prelude.{◌≡◌, ◌⊎◌, ℕ, ◌<◌, ◌^◌, true, List, [], ◌∷◌, ◌++◌, length, map, flat_map, Contains, Ok, Err, count_by}
use Rattle.std.specs.List.{AllByRecursion}
use Rattle.std.specs.Str.{bytes_eq}
use Rattle.gql_tree.specs.declared.delivery.Frag.{Frag}
use Rattle.gql_tree.specs.declared.delivery.Payload.{Payload}
use Rattle.gql_tree.specs.declared.delivery.Pending.{Pending}
use Rattle.gql_tree.specs.declared.delivery.Stream.{Stream}
use Rattle.gql_tree.specs.Forest.{Forest}
use Rattle.gql_tree.specs.Typed.{IsTypedPayload}
use Rattle.gql_merge.specs.declared.state.State.{State}
use Rattle.gql_merge.specs.declared.refusal.MergeRefusal.{MergeRefusal}
use Rattle.gql_merge.specs.Same.{IsTypedState}
use Rattle.gql_merge.specs.Merging.{SamePayloads, Hears, HasMerged}
use Rattle.gql_tree.specs.Course.{Schedule, Arrival, course}
use Rattle.gql_tree.specs.Fate.{is_announced}
use Rattle.gql_tree.specs.Payloads.{payloads}
use Rattle.gql_tree.specs.Numbering.{times, is_complete}
use Rattle.gql_tree.specs.WellFormed.{Site, sites, IsWellFormed}
use Rattle.gql_tree.specs.Lawful.{IsLawful}

-- fewer than 2 ^ 64 ids are given; an id is a number in decimal, and numbers below 2 ^ 64 have different texts
abbrev pub HasFewIds : Forest → Schedule → Type 0
HasFewIds f p = length (course p f).awaited < 2 ^ 64

-- a client that is sent the payloads, up to the order of members, takes each of them
abbrev pub AreTaken : Forest → Schedule → Type 0
AreTaken f p = (ps qs : List Payload) (e : MergeRefusal) → SamePayloads (payloads f p) (ps ++ qs) → Hears ps (Err e) → ⊥

-- and has the defined response in the end, in which no schedule occurs, if its value can exist
abbrev pub AreMerged : Forest → Schedule → Type 0
AreMerged f p = (ps : List Payload) (t : State) → SamePayloads (payloads f p) ps → Hears ps (Ok t) → IsTypedState t → HasMerged f t

-- where the payloads can exist, there is such a client
abbrev pub AreHeard : Forest → Schedule → Type 0
AreHeard f p = (ps : List Payload) → SamePayloads (payloads f p) ps → AllByRecursion IsTypedPayload ps → (t : State) × Hears ps (Ok t) × HasMerged f t

-- it holds for each well-formed forest and lawful schedule
abbrev pub ByLawfulSchedules : (Forest → Schedule → Type 0) → Type 0
ByLawfulSchedules P = (f : Forest) (p : Schedule) → IsWellFormed f → IsLawful f p → HasFewIds f p → P f p

-- the ids that a payload announces
abbrev pub announced_ids : Payload → List (List ℕ)
announced_ids p = map (λ x. x.id) p.pending

-- the ids that a payload ends
abbrev pub completed_ids : Payload → List (List ℕ)
completed_ids p = map (λ x. x.id) p.completed

-- an id that is announced is announced once in all, and completed once, in no earlier payload
abbrev pub HasOneRecord : List Payload → Type 0
HasOneRecord ps = (before after : List Payload) (q : Payload) (id : List ℕ) → ps ≡ before ++ q ∷ after → Contains (announced_ids q) id
    → (count_by (bytes_eq id) (flat_map announced_ids ps) ≡ 1) × (count_by (bytes_eq id) (flat_map completed_ids ps) ≡ 1) × (count_by (bytes_eq id) (flat_map completed_ids before) ≡ 0)

-- the payloads of every forest by a lawful schedule have one record of each id
abbrev pub IdsAreCompleted : Type 0
IdsAreCompleted = (f : Forest) (p : Schedule) → IsLawful f p → HasFewIds f p → HasOneRecord (payloads f p)

-- the ids that a payload goes on with or ends
abbrev pub used_ids : Payload → List (List ℕ)
used_ids p = map (λ x. x.id) p.incremental ++ completed_ids p

-- an id that is used is announced in the same payload or in an earlier one
abbrev pub AreAnnouncedFirst : List Payload → Type 0
AreAnnouncedFirst ps = (before after : List Payload) (q : Payload) (id : List ℕ) → ps ≡ before ++ q ∷ after → Contains (used_ids q) id → Contains (flat_map announced_ids (before ++ q ∷ [])) id

-- by a lawful schedule the payloads of every well-formed forest use no id that isn't announced
abbrev pub IdsAreAnnouncedFirst : Type 0
IdsAreAnnouncedFirst = (f : Forest) (p : Schedule) → IsWellFormed f → IsLawful f p → AreAnnouncedFirst (payloads f p)

-- a deferred fragment of the forest that has a group and stands in no fragment that fails, or a stream of a region that is delivered
abbrev pub IsOfTheForest : Forest → Schedule → Pending → Type 0
IsOfTheForest f p x = (y : Site) × Contains (sites f) y
    × (((z : Frag) × Contains y.region.fragments z × (is_announced y.scope z.id ≡ true) × (x.path ≡ z.id.path) × (x.label ≡ z.label))
    ⊎ ((s : Stream) × Contains y.region.streams s × (x.path ≡ s.path) × (x.label ≡ s.label) × ((a : Arrival) × Contains (course p f).arrivals a × (a.at ≡ y.at) × (a.region ≡ y.region))))

-- whatever the schedule, each pending is that of such a fragment or stream: what isn't announced has no id
abbrev pub PendingsAreOfTheForest : Type 0
PendingsAreOfTheForest = (f : Forest) (p : Schedule) (q : Payload) (x : Pending) → IsWellFormed f → Contains (payloads f p) q → Contains q.pending x → IsOfTheForest f p x

-- the times of a complete order of a well-formed forest are lawful
abbrev pub CompleteOrdersAreLawful : Type 0
CompleteOrdersAreLawful = (f : Forest) (ns : List ℕ) → IsWellFormed f → is_complete f ns ≡ true → IsLawful f (times f ns)
