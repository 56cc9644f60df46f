-- Times at which something is announced, released or done: numbers of events, 0 for the initial region. What rests on a task
-- that hasn't ended has no time yet.
use Rattle.std.specs.Prelude.{ℕ, max, min, Bool, true, false, ◌==◌, List, [], ◌∷◌, Option, Some, None}

-- the number of an event, or none yet
abbrev pub Time : Type 0
Time = Option ℕ

-- the later of two; none where one of them is none
abbrev pub latest : Time → Time → Time
latest None u = None
latest (Some a) None = None
latest (Some a) (Some b) = Some (max a b)

-- the earlier of two; none where both are none
abbrev pub earliest : Time → Time → Time
earliest None u = u
earliest (Some a) None = Some a
earliest (Some a) (Some b) = Some (min a b)

-- the latest of a time and these
abbrev pub latest_of : Time → List Time → Time
latest_of t [] = t
latest_of t (u ∷ us) = latest u (latest_of t us)

-- the earliest of these
abbrev pub earliest_of : List Time → Time
earliest_of [] = None
earliest_of (t ∷ ts) = earliest t (earliest_of ts)

-- it is there, and this number
abbrev pub is_at : ℕ → Time → Bool
is_at t None = false
is_at t (Some a) = a == t

-- both are none, or one number
abbrev pub same_time : Time → Time → Bool
same_time None None = true
same_time None (Some b) = false
same_time (Some a) u = is_at a u

-- it is there
abbrev pub has_time : Time → Bool
has_time None = false
has_time (Some a) = true
