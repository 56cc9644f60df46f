-- What the regions that have ended determine: the payloads so far. A server that publishes payloads as tasks end rests on it.
use Rattle.std.specs.Prelude.{◌≡◌, ℕ, ◌≤◌, Bool, true, List, ◌++◌, length, map}
use Rattle.std.specs.List.{list_any}
use Rattle.std.specs.Ordering.{is_eq}
use Rattle.gql_tree.specs.declared.delivery.Payload.{Payload}
use Rattle.gql_tree.specs.declared.delivery.TaskWork.{TaskWork}
use Rattle.gql_tree.specs.Forest.{Forest, Branches, grown, none, more}
use Rattle.gql_tree.specs.Numbering.{work_cmp, start, end_all, times, is_complete}
use Rattle.gql_tree.specs.Payloads.{payloads}
use Rattle.gql_tree.specs.WellFormed.{IsWellFormed}

-- it is one of the tasks that have ended
abbrev pub has_ended : List TaskWork → TaskWork → Bool
has_ended ended w = list_any (λ v. is_eq (work_cmp v w)) ended

-- the same tasks one beside the other, and of those that have ended the same regions, with the same below them; the region of a
-- task that hasn't ended may be any
abbrev pub SameBelow : List TaskWork → Branches → Branches → Type 0
SameBelow ended none none = Unit {0}
SameBelow ended (more v (grown r bs) vs) (more w (grown q cs) ws) = (v ≡ w) × (has_ended ended v ≡ true → (r ≡ q) × SameBelow ended bs cs) × SameBelow ended vs ws
SameBelow ended _ _ = ⊥

-- two forests that are the same as far as these tasks have ended
abbrev pub SameSoFar : List TaskWork → Forest → Forest → Type 0
SameSoFar ended (grown r bs) (grown q cs) = (r ≡ q) × SameBelow ended bs cs

-- the tasks that have ended after these events
abbrev pub ended_after : Forest → List ℕ → List TaskWork
ended_after f ns = (end_all (start f) ns).ended

-- the payloads after some events of a complete order are the first of all, whatever ends later; each later event has at most one
abbrev pub PayloadsStay : Type 0
PayloadsStay = (f : Forest) (ms ns : List ℕ) → IsWellFormed f → is_complete f (ms ++ ns) ≡ true
    → (later : List Payload) × (payloads f (times f (ms ++ ns)) ≡ payloads f (times f ms) ++ later) × (length later ≤ length ns)

-- the tasks that are numbered after some events, by number
abbrev pub numbered_after : Forest → List ℕ → List TaskWork
numbered_after f ns = map (λ m. m.work) (end_all (start f) ns).made

-- which tasks have ended after some events, with it the schedule, and which task has which number then: all are those of each forest
-- that is the same so far
abbrev pub TasksAreOfThePast : Type 0
TasksAreOfThePast = (f g : Forest) (ns : List ℕ) → SameSoFar (ended_after f ns) f g
    → (ended_after g ns ≡ ended_after f ns) × (times g ns ≡ times f ns) × (numbered_after g ns ≡ numbered_after f ns)

-- the payloads after some events are those of each well-formed forest that is the same so far
abbrev pub PayloadsAreOfThePast : Type 0
PayloadsAreOfThePast = (f g : Forest) (ns : List ℕ) → IsWellFormed f → IsWellFormed g → SameSoFar (ended_after f ns) f g
    → payloads g (times g ns) ≡ payloads f (times f ns)
