-- The numbers of tasks, the orders in which tasks end, and the times that an order gives. Tasks are numbered from 0: first those
-- that the initial region makes, and then, whenever a task ends, those that its region makes. The first task to end is event 1.
use Rattle.std.specs.Prelude.{ℕ, zero, suc, ◌+◌, nat_lt, Bool, true, false, not, ◌&&◌, ◌==◌, List, [], ◌∷◌, ◌++◌, length, map, slice_get, Some, None, if◌then◌else◌}
use Rattle.std.specs.List.{list_any}
use Rattle.std.specs.declared.cmp.Ordering.{Ordering}
use Rattle.std.specs.declared.cmp.Ordering.TheVariants.{Less, Greater}
use Rattle.std.specs.Ordering.{nat_cmp, ordering_then, is_eq}
use Rattle.gql_tree.specs.declared.delivery.TaskWork.{TaskWork}
use Rattle.gql_tree.specs.declared.delivery.TaskWork.TheVariants.{Fields, Item}
use Rattle.gql_tree.specs.Order.{group_cmp, stream_cmp}
use Rattle.gql_tree.specs.Ordered.{ordered}
use Rattle.gql_tree.specs.Forest.{Forest, Branches, grown, none, more, branches, numbers}
use Rattle.gql_tree.specs.Times.{Time, latest_of}
use Rattle.gql_tree.specs.Course.{Schedule, course}
use Rattle.gql_tree.specs.Payloads.{is_finished}

-- the order of the tasks that one region makes: groups in group order, then items by stream path and index
abbrev pub work_cmp : TaskWork → TaskWork → Ordering
work_cmp (Fields g) (Fields h) = group_cmp g h
work_cmp (Fields g) (Item s i) = Less
work_cmp (Item s i) (Fields g) = Greater
work_cmp (Item s i) (Item t j) = ordering_then (stream_cmp s t) (nat_cmp i j)

-- a task and what grows of its region
pub record Made : Type 0 where
  pub work : TaskWork
  pub forest : Forest

-- the tasks of a region, as they lie in the forest
abbrev pub made_of : Branches → List Made
made_of none = []
made_of (more w f bs) = record { work = w; forest = f } ∷ made_of bs

-- the tasks that a region makes, in the order of their numbers
abbrev pub makes : Forest → List Made
makes f = ordered (λ a b. work_cmp a.work b.work) (made_of (branches f))

-- the tasks that are numbered, by number, and those that have ended, in the order of the events
pub record Events : Type 0 where
  pub made : List Made
  pub ended : List TaskWork

-- before the first task has ended
abbrev pub start : Forest → Events
start f = record { made = makes f; ended = [] }

-- the task of this number ends; a number that isn't given changes nothing
abbrev pub end_one : Events → ℕ → Events
end_one e n = elim (slice_get e.made n) [ None ↦ e | Some m ↦ record { made = e.made ++ makes m.forest; ended = e.ended ++ m.work ∷ [] } ]

-- these end, one after another
abbrev pub end_all : Events → List ℕ → Events
end_all e [] = e
end_all e (n ∷ ns) = end_all (end_one e n) ns

-- each number is new, and given before its event
abbrev pub is_order_from : Events → List ℕ → List ℕ → Bool
is_order_from e past [] = true
is_order_from e past (n ∷ ns) = nat_lt n (length e.made) && not (list_any (λ m. m == n) past) && is_order_from (end_one e n) (n ∷ past) ns

-- an order in which tasks of the forest can end
abbrev pub is_order : Forest → List ℕ → Bool
is_order f ns = is_order_from (start f) [] ns

-- the event at which this task ended, where so many events came before these
abbrev pub event_from : ℕ → List TaskWork → TaskWork → Time
event_from k [] w = None
event_from k (v ∷ vs) w = if is_eq (work_cmp v w) then Some (k + 1) else event_from (k + 1) vs w

-- the event at which this task ended
abbrev pub event_of : List TaskWork → TaskWork → Time
event_of = event_from 0

-- what is announced is done, and an item released, as soon as all that it waits for has ended
abbrev pub by_events : List TaskWork → Schedule
by_events ended = record {
  fragment_done = λ id t xs. latest_of t (map (λ x. event_of ended (Fields x.group)) xs);
  item_released = λ s i t xs. latest_of t (map (λ x. event_of ended (Item x.stream x.index)) xs);
  stream_done = λ s t xs. latest_of t (map (λ x. event_of ended (Item x.stream x.index)) xs);
}

-- the times that an order gives
abbrev pub times : Forest → List ℕ → Schedule
times f ns = by_events (end_all (start f) ns).ended

-- all that is announced is done after this order
abbrev pub is_finished_after : Forest → List ℕ → Bool
is_finished_after f ns = is_finished (course (times f ns) f)

-- finished after a list of numbers that begins with the first list and goes on with a proper prefix of the second
abbrev pub is_finished_within : Forest → List ℕ → List ℕ → Bool
is_finished_within f ms [] = false
is_finished_within f ms (n ∷ ns) = if is_finished_after f ms then true else is_finished_within f (ms ++ n ∷ []) ns

-- an order after which all that is announced is done, as it is after no proper prefix of it
abbrev pub is_complete : Forest → List ℕ → Bool
is_complete f ns = is_order f ns && is_finished_after f ns && not (is_finished_within f [] ns)

-- how many tasks there are below
abbrev pub size : Branches → ℕ
size none = 0
size (more w (grown r inner) bs) = size inner + size bs + 1

-- 0, 1, 2 and so on, as far as it is complete; at most so many more
abbrev pub inline_from : Forest → ℕ → ℕ → List ℕ
inline_from f n zero = numbers 0 n
inline_from f n (suc most) = if is_finished_after f (numbers 0 n) then numbers 0 n else inline_from f (n + 1) most

-- the order of a run that ends each task before it begins the next
abbrev pub inline_order : Forest → List ℕ
inline_order f = inline_from f 0 (size (branches f))
