-- What comes of a forest by a schedule: when each fragment and stream is announced and done, and when each region is released.
-- A fragment is announced when the nearest fragment around it that isn't empty is done, or with its scope; a group is released
-- when the first of its owners that are ok is done; a stream is announced with the region that it stands in. A schedule says the
-- rest: when fragments and streams are done, and when items are released. So the times that an order of the tasks gives, and any
-- other times that a publisher may choose, are two values of one type.
-- Source: incremental delivery of the GraphQL standard, as a profile.
use Rattle.std.specs.Prelude.{ℕ, nat_le, Bool, true, false, ◌&&◌, ◌||◌, List, [], ◌∷◌, ◌++◌, filter, map, Option, Some, None, if◌then◌else◌}
use Rattle.std.specs.List.{list_all}
use Rattle.gql_tree.specs.declared.path.Key.{Key}
use Rattle.gql_tree.specs.declared.path.Key.TheVariants.{Index}
use Rattle.gql_tree.specs.declared.path.Path.{Path}
use Rattle.gql_tree.specs.declared.delivery.Fault.{Fault}
use Rattle.gql_tree.specs.declared.delivery.Frag.{Frag}
use Rattle.gql_tree.specs.declared.delivery.FragId.{FragId}
use Rattle.gql_tree.specs.declared.delivery.Group.{Group}
use Rattle.gql_tree.specs.declared.delivery.Stream.{Stream}
use Rattle.gql_tree.specs.declared.delivery.RegionResult.{RegionResult}
use Rattle.gql_tree.specs.declared.delivery.TaskWork.TheVariants.{Fields, Item}
use Rattle.gql_tree.specs.Forest.{Forest, Branches, grown, none, more}
use Rattle.gql_tree.specs.Fate.{is_good, GroupRun, ItemRun, Scope, scope_of, groups_of, is_empty, above, is_ok, is_delivered, is_announced, items_run, items_of_stream, is_item_delivered}
use Rattle.gql_tree.specs.Merged.{errors_of, first_failure}
use Rattle.gql_tree.specs.Times.{Time, earliest_of, same_time}

-- when a fragment or a stream is done and when an item is released, told by the time of the announcement and by the regions waited for
pub record Schedule : Type 0 where
  -- a fragment waits for its groups
  pub fragment_done : FragId → Time → List GroupRun → Time
  -- an item waits for the items up to it
  pub item_released : Stream → ℕ → Time → List ItemRun → Time
  -- a stream waits for its items, or for those up to the first that failed
  pub stream_done : Stream → Time → List ItemRun → Time

-- ---- the times of one scope

module _ (p : Schedule) (s : Scope) (begun : Time) where
  -- at the time at which the nearest of these that isn't empty is done, or with the scope; the nearest stands first
  abbrev pub announced_below : List FragId → Time
  announced_below [] = begun
  announced_below (id ∷ ids) = if is_empty s id then announced_below ids else p.fragment_done id (announced_below ids) (groups_of s id)

  -- when it is announced
  abbrev pub announced_at : FragId → Time
  announced_at id = announced_below (above s id)

  -- when it is done
  abbrev pub done_at : FragId → Time
  done_at id = p.fragment_done id (announced_at id) (groups_of s id)

  -- the owners that are ok
  abbrev pub ok_owners : Group → List FragId
  ok_owners g = filter (is_ok s) g.owners

  -- when its region is released: at the earliest time at which an owner that is ok is done
  abbrev pub released_at : Group → Time
  released_at g = earliest_of (map done_at (ok_owners g))

  -- the owners that are ok and done then
  abbrev pub carriers : Group → List FragId
  carriers g = filter (λ id. same_time (done_at id) (released_at g)) (ok_owners g)

-- ---- the times of one region's streams

-- the items of a stream up to this one
abbrev pub items_up_to : List ItemRun → Stream → ℕ → List ItemRun
items_up_to items s i = filter (λ x. nat_le x.index i) (items_of_stream items s)

-- the items that a stream waits for: all, or those up to the first that failed
abbrev pub items_awaited : List ItemRun → Stream → List ItemRun
items_awaited items s = filter (λ x. list_all (λ y. nat_le x.index y.index || is_good y.region) (items_of_stream items s)) (items_of_stream items s)

-- ---- what comes of a forest

-- a fragment or a stream that is announced
pub record Awaited : Type 0 where
  pub path : Path
  pub label : Option (List ℕ)
  -- else a fragment
  pub is_stream : Bool
  pub place : ℕ
  pub announced : Time
  pub done : Time
  -- none where it doesn't fail
  pub errors : List Fault

-- by what a region comes
pub data Way : Type 0 where
  -- the initial region
  at_first : Way
  -- a group, with the owners that are ok and done when it is released
  by_owners : Group → List FragId → Way
  -- an item
  by_stream : Stream → Way

-- a region that is delivered, the place where it begins, and when it is released
pub record Arrival : Type 0 where
  pub at : List Key
  pub region : RegionResult
  pub released : Time
  pub way : Way

-- all that is announced, and all that is delivered
pub record Course : Type 0 where
  pub awaited : List Awaited
  pub arrivals : List Arrival

-- nothing comes
abbrev pub nothing_comes : Course
nothing_comes = record { awaited = []; arrivals = [] }

-- what comes of two things, one behind the other
abbrev pub both_come : Course → Course → Course
both_come a b = record { awaited = a.awaited ++ b.awaited; arrivals = a.arrivals ++ b.arrivals }

-- no errors where there is no failure
abbrev pub faults_or_none : Option (List Fault) → List Fault
faults_or_none None = []
faults_or_none (Some fs) = fs

module _ (p : Schedule) where
  -- a fragment of a scope that began then
  abbrev pub awaited_fragment : Scope → Time → Frag → Awaited
  awaited_fragment s begun f = record {
    path = f.id.path;
    label = f.label;
    is_stream = false;
    place = f.id.place;
    announced = announced_at p s begun f.id;
    done = done_at p s begun f.id;
    errors = if is_ok s f.id then [] else errors_of s f.id;
  }

  -- a stream is announced when its region is released
  abbrev pub awaited_stream : List ItemRun → Time → Stream → Awaited
  awaited_stream items released s = record {
    path = s.path;
    label = s.label;
    is_stream = true;
    place = s.place;
    announced = released;
    done = p.stream_done s released (items_awaited items s);
    errors = faults_or_none (first_failure (items_of_stream items s));
  }

  -- the fragments of a delivered scope that are announced
  abbrev pub awaited_fragments : Scope → Time → List Awaited
  awaited_fragments s begun = map (awaited_fragment s begun) (filter (λ f. is_announced s f.id) s.fragments)

  -- a region that is delivered, with its streams
  abbrev pub one_comes : List Key → RegionResult → Time → Way → List ItemRun → Course
  one_comes at r released way items = record {
    awaited = map (awaited_stream items released) r.streams;
    arrivals = record { at = at; region = r; released = released; way = way } ∷ [];
  }

  -- a scope that is delivered: its root region, what is delivered below it, and its fragments
  abbrev pub scope_comes : List Key → RegionResult → Time → Way → List ItemRun → Scope → Course → Course
  scope_comes at r begun way items s inside = both_come (one_comes at r begun way items) (both_come inside (record { awaited = awaited_fragments s begun; arrivals = [] }))

  -- when an item of a region that is released then is released
  abbrev pub item_at : List ItemRun → Time → Stream → ℕ → Time
  item_at items released s i = p.item_released s i released (items_up_to items s i)

  -- what comes of the tasks of a region of this scope, and below them; `here` tells whether the region is delivered, `released`
  -- when, and `items` are the items of its streams
  abbrev pub come_below : Scope → Time → Bool → Time → List ItemRun → Branches → Course
  come_below s begun here released items none = nothing_comes
  come_below s begun here released items (more (Fields g) (grown r inner) bs) =
      both_come (if is_delivered s g then one_comes g.path.keys r (released_at p s begun g) (by_owners g (carriers p s begun g)) (items_run inner) else nothing_comes)
      (both_come (come_below s begun (is_delivered s g) (released_at p s begun g) (items_run inner) inner) (come_below s begun here released items bs))
  come_below s begun here released items (more (Item st i) (grown r inner) bs) =
      both_come (if here && is_item_delivered items st i
      then scope_comes (st.path.keys ++ Index i ∷ []) r (item_at items released st i) (by_stream st) (items_run inner) (scope_of (grown r inner))
      (come_below (scope_of (grown r inner)) (item_at items released st i) true (item_at items released st i) (items_run inner) inner)
      else nothing_comes)
      (come_below s begun here released items bs)

  -- what comes of a forest, from its root on; the initial region is released at time 0
  abbrev pub course : Forest → Course
  course (grown r bs) = scope_comes [] r (Some 0) at_first (items_run bs) (scope_of (grown r bs)) (come_below (scope_of (grown r bs)) (Some 0) true (Some 0) (items_run bs) bs)
