-- Which groups and items of a forest are delivered, which fragments and streams are announced, and which of those fail.
-- Source: incremental delivery of the GraphQL standard, as a profile. No time is in these definitions.
use Rattle.std.specs.Prelude.{ℕ, zero, suc, nat_lt, Bool, true, false, not, ◌&&◌, ◌||◌, List, [], ◌∷◌, ◌++◌, length, filter, find, Option, Some, None, option_and_then}
use Rattle.std.specs.List.{list_any, list_all}
use Rattle.gql_tree.specs.declared.path.Path.{Path}
use Rattle.gql_tree.specs.declared.delivery.FragId.{FragId}
use Rattle.gql_tree.specs.declared.delivery.Frag.{Frag}
use Rattle.gql_tree.specs.declared.delivery.Group.{Group}
use Rattle.gql_tree.specs.declared.delivery.Stream.{Stream}
use Rattle.gql_tree.specs.declared.delivery.Outcome.TheVariants.{Good, Failed}
use Rattle.gql_tree.specs.declared.delivery.RegionResult.{RegionResult}
use Rattle.gql_tree.specs.declared.delivery.TaskWork.TheVariants.{Fields, Item}
use Rattle.gql_tree.specs.Keys.{same_fragment, same_lists, same_key}
use Rattle.gql_tree.specs.Forest.{Forest, Branches, grown, none, more, region}

-- the region reached its beginning with a value
abbrev pub is_good : RegionResult → Bool
is_good r = elim r.outcome [ Good x ↦ true | Failed ↦ false ]

-- ---- scopes: the initial answer or one item of a stream, with the regions of its groups all the way down

-- a group that was run
pub record GroupRun : Type 0 where
  pub group : Group
  pub region : RegionResult

-- an item that was run
pub record ItemRun : Type 0 where
  pub stream : Stream
  pub index : ℕ
  pub region : RegionResult

-- the groups of a scope
abbrev pub groups_below : Branches → List GroupRun
groups_below none = []
groups_below (more (Fields g) (grown r inner) bs) = record { group = g; region = r } ∷ (groups_below inner ++ groups_below bs)
groups_below (more (Item s i) f bs) = groups_below bs

-- the deferred fragments that arise in the regions of a scope below its root
abbrev pub fragments_below : Branches → List Frag
fragments_below none = []
fragments_below (more (Fields g) (grown r inner) bs) = r.fragments ++ (fragments_below inner ++ fragments_below bs)
fragments_below (more (Item s i) f bs) = fragments_below bs

-- a scope's fragments, and its groups with their regions
pub record Scope : Type 0 where
  pub fragments : List Frag
  pub groups : List GroupRun

-- the scope of a root region with what is below it
abbrev pub scope_of : Forest → Scope
scope_of (grown r bs) = record { fragments = r.fragments ++ fragments_below bs; groups = groups_below bs }

-- the items that one region's streams made
abbrev pub items_run : Branches → List ItemRun
items_run none = []
items_run (more (Fields g) f bs) = items_run bs
items_run (more (Item s i) f bs) = record { stream = s; index = i; region = region f } ∷ items_run bs

-- ---- fragments

-- the fragment is one of the group's owners
abbrev pub has_owner : FragId → GroupRun → Bool
has_owner id x = list_any (λ o. same_fragment o id) x.group.owners

-- the fragment that this one stands in
abbrev pub parent_of : List Frag → FragId → Option FragId
parent_of fs id = option_and_then (λ f. f.parent) (find (λ f. same_fragment f.id id) fs)

-- those that a fragment stands in, the nearest first, at most so many
abbrev pub ancestors : ℕ → List Frag → Option FragId → List FragId
ancestors zero fs id = []
ancestors (suc most) fs None = []
ancestors (suc most) fs (Some id) = id ∷ ancestors most fs (parent_of fs id)

module _ (s : Scope) where
  -- its groups, good and failed, in order of the tasks
  abbrev pub groups_of : FragId → List GroupRun
  groups_of id = filter (has_owner id) s.groups

  -- no group waits for it
  abbrev pub is_empty : FragId → Bool
  is_empty id = elim (groups_of id) [ [] ↦ true | x ∷ xs ↦ false ]

  -- each of its groups reached its beginning with a value
  abbrev pub all_good : FragId → Bool
  all_good id = list_all (λ x. is_good x.region) (groups_of id)

  -- all proper ancestors; a fragment has no more of them than there are fragments
  abbrev pub above : FragId → List FragId
  above id = ancestors (length s.fragments) s.fragments (parent_of s.fragments id)

  -- all its groups are good, and so are those of the fragments that it stands in
  abbrev pub is_ok : FragId → Bool
  is_ok id = all_good id && list_all all_good (above id)

  -- an owner is ok; the scope is delivered too
  abbrev pub is_delivered : Group → Bool
  is_delivered g = list_any is_ok g.owners

  -- it has a group, and all that it stands in is ok; the scope is delivered too
  abbrev pub is_announced : FragId → Bool
  is_announced id = not (is_empty id) && list_all is_ok (above id)

-- ---- streams

-- the two paths are the same, key by key
abbrev pub same_path : Path → Path → Bool
same_path p q = same_lists same_key p.keys q.keys

-- the items of this stream
abbrev pub items_of_stream : List ItemRun → Stream → List ItemRun
items_of_stream items s = filter (λ x. same_path x.stream.path s.path) items

-- no item up to this one failed; the stream is announced too
abbrev pub is_item_delivered : List ItemRun → Stream → ℕ → Bool
is_item_delivered items s i = list_all (λ x. nat_lt i x.index || is_good x.region) (items_of_stream items s)
