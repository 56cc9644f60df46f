-- Lawful schedules: what is announced has its times, and they don't go back. No task is in this definition: a publisher may hold
-- back what could be sent, as long as it keeps this order.
use Rattle.std.specs.Prelude.{nat_le, Bool, false, ◌&&◌, List, [], ◌∷◌, filter, Some, None, IsTrue}
use Rattle.std.specs.List.{list_all}
use Rattle.gql_tree.specs.Forest.{Forest}
use Rattle.gql_tree.specs.Fate.{same_path}
use Rattle.gql_tree.specs.Times.{Time}
use Rattle.gql_tree.specs.Course.{Schedule, Awaited, at_first, by_owners, by_stream, Arrival, Course, course}

-- both have a time, and the second isn't earlier
abbrev pub is_not_after : Time → Time → Bool
is_not_after None u = false
is_not_after (Some a) None = false
is_not_after (Some a) (Some b) = nat_le a b

-- done at event 1 or later, and not before it is announced
abbrev pub is_done_in_time : Awaited → Bool
is_done_in_time a = is_not_after (Some 1) a.done && is_not_after a.announced a.done

-- it is an item of this stream
abbrev pub is_item_of_stream : Awaited → Arrival → Bool
is_item_of_stream a x = elim x.way [ at_first ↦ false | by_owners g ids ↦ false | by_stream s ↦ a.is_stream && same_path s.path a.path ]

-- from this time on, in this order, and up to the second time
abbrev pub follow : Time → List Arrival → Time → Bool
follow t [] u = is_not_after t u
follow t (x ∷ xs) u = is_not_after t x.released && is_not_after (Some 1) x.released && follow x.released xs u

-- a stream's delivered items come from its announcement on, in order of the index, and not after it is done
abbrev pub has_items_in_time : List Arrival → Awaited → Bool
has_items_in_time xs a = follow a.announced (filter (is_item_of_stream a) xs) a.done

-- all that is announced is done in time, and has its items in time
pub record IsLawfulCourse (c : Course) : Type 0 where
  pub done : IsTrue (list_all is_done_in_time c.awaited)
  pub items : IsTrue (list_all (has_items_in_time c.arrivals) c.awaited)

-- the schedule is lawful for this forest
abbrev pub IsLawful : Forest → Schedule → Type 0
IsLawful f p = IsLawfulCourse (course p f)
