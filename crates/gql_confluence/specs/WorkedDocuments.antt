-- Forests of worked documents, what running the regions of each gives; and two schedules.
use Rattle.std.specs.Prelude.{ℕ, ◌-◌, pos, List, [], ◌∷◌, ◌++◌, map, Some, None, codes}
use Rattle.gql_tree.specs.declared.path.Key.{Key}
use Rattle.gql_tree.specs.declared.path.Key.TheVariants.{Name, Index}
use Rattle.gql_tree.specs.declared.value.Value.{Value}
use Rattle.gql_tree.specs.declared.value.Value.TheVariants as v
use Rattle.gql_tree.specs.declared.delivery.Fault.{Fault}
use Rattle.gql_tree.specs.declared.delivery.FragId.{FragId}
use Rattle.gql_tree.specs.declared.delivery.Group.{Group}
use Rattle.gql_tree.specs.declared.delivery.Stream.{Stream}
use Rattle.gql_tree.specs.declared.delivery.Outcome.TheVariants.{Good, Failed}
use Rattle.gql_tree.specs.declared.delivery.RegionResult.{RegionResult}
use Rattle.gql_tree.specs.declared.delivery.TaskWork.TheVariants.{Fields, Item}
use Rattle.gql_tree.specs.WorkedForests.{one_member, hero, fragment, labelled, ended, waiting, crew}
use Rattle.gql_tree.specs.Forest.{Forest, grown, none, more}
use Rattle.gql_tree.specs.Course.{Schedule}

-- a text
abbrev pub text : List ℕ → Value
text = v.Text

-- ---- errors

-- an error in line 1
abbrev pub fault_at : List ℕ → ℕ → List Key → Fault
fault_at message column path = record { message = message; line = 1; column = column; path = Some (record { keys = path }) }

-- the error of a field that fails
abbrev pub bang_at : ℕ → List Key → Fault
bang_at = fault_at (codes "bang")

-- the error of a null where none may stand
abbrev pub null_at : ℕ → List Key → Fault
null_at = fault_at (codes "Null in a non-null position")

-- the path of the field that fails
abbrev pub boom_path : List Key
boom_path = hero ++ Name (codes "boom") ∷ []

-- ---- groups and regions

-- a group at this path, with fields of these keys
abbrev pub group_at : List Key → List FragId → List (List ℕ) → Group
group_at path owners keys = record { owners = owners; path = record { keys = path }; row = record { kind = 1; number = 0 }; fields = map (λ k. record { key = k; nodes = [] }) keys }

-- a region with this value that makes no tasks
abbrev pub good : Value → RegionResult
good x = ended (Good x) []

-- a region that fails
abbrev pub failed_by : Fault → RegionResult
failed_by f = ended Failed (f ∷ [])

-- an object with a name
abbrev pub named : List ℕ → Value
named name = one_member (codes "name") (text name)

-- an object with an age
abbrev pub age : ℕ → Value
age n = one_member (codes "age") (v.Int (pos n))

-- { name } of one
abbrev pub luke : RegionResult
luke = good (named (codes "Luke"))

-- { name } of another
abbrev pub leia : RegionResult
leia = good (named (codes "Leia"))

-- { age }
abbrev pub age_20 : RegionResult
age_20 = good (age 20)

-- ---- { hero { name ... @defer { name } } }: nothing is left to be deferred

-- the fragment has no label and no group
abbrev pub empty_fragment : Forest
empty_fragment =
    grown (record {
      outcome = Good (one_member (codes "hero") (one_member (codes "name") (text (codes "Luke"))));
      faults = [];
      fragments = record { id = fragment 3; label = None; parent = None } ∷ [];
      groups = [];
      streams = [];
    }) none

-- ---- { hero { id ... @defer(label: "A") { ... @defer(label: "B") { name } } } }: A has nothing of its own

-- the name, in B alone
abbrev pub name_of_b : Group
name_of_b = group_at hero (fragment 4 ∷ []) (codes "name" ∷ [])

-- B stands in A
abbrev pub empty_around_another : Forest
empty_around_another =
    grown (waiting (labelled 3 (codes "A") None ∷ labelled 4 (codes "B") (Some (fragment 3)) ∷ []) (name_of_b ∷ []))
    (more (Fields name_of_b) (grown luke none) none)

-- ---- { hero { id } ... @defer(label: "D") { hero { name } } }: the fragment stands above what it brings

-- the fragment of the root
abbrev pub top_fragment : FragId
top_fragment = record { place = 3; path = record { keys = [] } }

-- the name, at hero
abbrev pub name_of_top : Group
name_of_top = group_at hero (top_fragment ∷ []) (codes "name" ∷ [])

-- its entry goes below the fragment's path
abbrev pub deferred_at_the_top : Forest
deferred_at_the_top =
    grown (waiting (record { id = top_fragment; label = Some (codes "D"); parent = None } ∷ []) (name_of_top ∷ []))
    (more (Fields name_of_top) (grown luke none) none)

-- ---- { hero { id ... @defer(label: "A") { name boom } ... @defer(label: "B") { name age } } }: a shared name, and A fails

-- the field that fails, in A
abbrev pub boom_of_a : Group
boom_of_a = group_at hero (fragment 3 ∷ []) (codes "boom" ∷ [])

-- the name, in both
abbrev pub name_of_both : Group
name_of_both = group_at hero (fragment 3 ∷ fragment 6 ∷ []) (codes "name" ∷ [])

-- the age, in B
abbrev pub age_of_b : Group
age_of_b = group_at hero (fragment 6 ∷ []) (codes "age" ∷ [])

-- three tasks
abbrev pub one_shared_group : Forest
one_shared_group =
    grown (waiting (labelled 3 (codes "A") None ∷ labelled 6 (codes "B") None ∷ []) (boom_of_a ∷ name_of_both ∷ age_of_b ∷ []))
    (more (Fields boom_of_a) (grown (failed_by (bang_at 41 boom_path)) none)
    (more (Fields name_of_both) (grown luke none)
    (more (Fields age_of_b) (grown age_20 none) none)))

-- the same, but that the age fails too
abbrev pub age_that_fails : Forest
age_that_fails =
    grown (waiting (labelled 3 (codes "A") None ∷ labelled 6 (codes "B") None ∷ []) (boom_of_a ∷ name_of_both ∷ age_of_b ∷ []))
    (more (Fields boom_of_a) (grown (failed_by (bang_at 41 boom_path)) none)
    (more (Fields name_of_both) (grown luke none)
    (more (Fields age_of_b) (grown (failed_by (bang_at 78 (hero ++ Name (codes "age") ∷ []))) none) none)))

-- ---- { hero { id ... @defer(label: "A") { boom ... @defer(label: "B") { name } } } }: A fails, and B stands in it

-- the name, in B alone
abbrev pub name_of_inner : Group
name_of_inner = group_at hero (fragment 5 ∷ []) (codes "name" ∷ [])

-- B is never announced
abbrev pub inside_a_failed_one : Forest
inside_a_failed_one =
    grown (waiting (labelled 3 (codes "A") None ∷ labelled 5 (codes "B") (Some (fragment 3)) ∷ []) (boom_of_a ∷ name_of_inner ∷ []))
    (more (Fields boom_of_a) (grown (failed_by (bang_at 36 boom_path)) none)
    (more (Fields name_of_inner) (grown luke none) none))

-- ---- { hero { id ... @defer(label: "A") { boom x: boom } ... @defer(label: "B") { boom } } }: both fail, by a shared group

-- the field of A alone
abbrev pub x_of_a : Group
x_of_a = group_at hero (fragment 3 ∷ []) (codes "x" ∷ [])

-- the field of both
abbrev pub boom_of_both : Group
boom_of_both = group_at hero (fragment 3 ∷ fragment 6 ∷ []) (codes "boom" ∷ [])

-- the error of the field of A alone
abbrev pub bang_x : Fault
bang_x = bang_at 41 (hero ++ Name (codes "x") ∷ [])

-- the error of the field of both
abbrev pub bang_boom : Fault
bang_boom = bang_at 36 boom_path

-- two tasks, and both fail
abbrev pub two_that_fail : Forest
two_that_fail =
    grown (waiting (labelled 3 (codes "A") None ∷ labelled 6 (codes "B") None ∷ []) (x_of_a ∷ boom_of_both ∷ []))
    (more (Fields x_of_a) (grown (failed_by bang_x) none)
    (more (Fields boom_of_both) (grown (failed_by bang_boom) none) none))

-- ---- streams

-- a stream at this path, of the field of this name
abbrev pub stream_at : List Key → List ℕ → ℕ → ℕ → ℕ → Stream
stream_at path name place first length = record {
  path = record { keys = path };
  row = record { kind = 0; number = 0 };
  field = record { key = name; nodes = [] };
  label = None;
  place = place;
  first = first;
  length = length;
}

-- an initial region with a stream, and the items that its list has so far
abbrev pub streaming : List ℕ → List Value → Stream → RegionResult
streaming name items s = record { outcome = Good (one_member name (v.List items)); faults = []; fragments = []; groups = []; streams = s ∷ [] }

-- ---- { crew @stream(initialCount: 1) { name } }: the last item fails, since its name is null

-- the list of the crew from its second item on
abbrev pub crew_from_1 : Stream
crew_from_1 = stream_at crew (codes "crew") 1 1 3

-- the error of the third name
abbrev pub crew_null : ℕ → Fault
crew_null column = null_at column (crew ++ Index 2 ∷ Name (codes "name") ∷ [])

-- two tasks, and the second fails
abbrev pub failed_item : Forest
failed_item =
    grown (streaming (codes "crew") (named (codes "Luke") ∷ []) crew_from_1)
    (more (Item crew_from_1 1) (grown leia none)
    (more (Item crew_from_1 2) (grown (failed_by (crew_null 34)) none) none))

-- ---- { cast @stream(initialCount: 1) { name } }: items may be null

-- the path of the list
abbrev pub cast : List Key
cast = Name (codes "cast") ∷ []

-- an item that is null, since its name is
abbrev pub nulled : ℕ → RegionResult
nulled column = ended (Good v.Null) (null_at column (cast ++ Index 2 ∷ Name (codes "name") ∷ []) ∷ [])

-- the list of the cast from its second item on
abbrev pub cast_from_1 : Stream
cast_from_1 = stream_at cast (codes "cast") 1 1 3

-- two tasks, and the second gives null and an error
abbrev pub null_item : Forest
null_item =
    grown (streaming (codes "cast") (named (codes "Luke") ∷ []) cast_from_1)
    (more (Item cast_from_1 1) (grown leia none)
    (more (Item cast_from_1 2) (grown (nulled 34) none) none))

-- ---- { cast @stream { name } }

-- the whole list of the cast
abbrev pub cast_from_0 : Stream
cast_from_0 = stream_at cast (codes "cast") 1 0 3

-- three items
abbrev pub whole_list : Forest
whole_list =
    grown (streaming (codes "cast") [] cast_from_0)
    (more (Item cast_from_0 0) (grown luke none)
    (more (Item cast_from_0 1) (grown leia none)
    (more (Item cast_from_0 2) (grown (nulled 18) none) none)))

-- ---- { crew @stream { name ... @defer(label: "F") { age } } }: a fragment in each item, and the last item fails

-- the whole list of the crew
abbrev pub crew_from_0 : Stream
crew_from_0 = stream_at crew (codes "crew") 1 0 3

-- the path of an item
abbrev pub at_item : ℕ → List Key
at_item i = crew ++ Index i ∷ []

-- the fragment of an item
abbrev pub inner_fragment : ℕ → FragId
inner_fragment i = record { place = 3; path = record { keys = at_item i } }

-- the age of an item
abbrev pub age_of_item : ℕ → Group
age_of_item i = group_at (at_item i) (inner_fragment i ∷ []) (codes "age" ∷ [])

-- an item with its fragment
abbrev pub member : ℕ → List ℕ → RegionResult
member i name = record { outcome = Good (named name); faults = []; fragments = record { id = inner_fragment i; label = Some (codes "F"); parent = None } ∷ []; groups = age_of_item i ∷ []; streams = [] }

-- the error of the third name
abbrev pub null_name : Fault
null_name = crew_null 18

-- an age that is null
abbrev pub no_age : RegionResult
no_age = good (one_member (codes "age") v.Null)

-- three items, and then the ages of the first two
abbrev pub fragments_in_items : Forest
fragments_in_items =
    grown (streaming (codes "crew") [] crew_from_0)
    (more (Item crew_from_0 0) (grown (member 0 (codes "Luke")) (more (Fields (age_of_item 0)) (grown age_20 none) none))
    (more (Item crew_from_0 1) (grown (member 1 (codes "Leia")) (more (Fields (age_of_item 1)) (grown no_age none) none))
    (more (Item crew_from_0 2) (grown (failed_by null_name) none) none)))

-- ---- { hero { id ... @defer(label: "A") { friends @stream { boom } age } ... @defer(label: "B") { age } } }: a stream in a fragment

-- the path of the list
abbrev pub friends : List Key
friends = hero ++ Name (codes "friends") ∷ []

-- the list, in A
abbrev pub friends_of_a : Group
friends_of_a = group_at hero (fragment 3 ∷ []) (codes "friends" ∷ [])

-- the age, in both
abbrev pub age_of_both : Group
age_of_both = group_at hero (fragment 3 ∷ fragment 7 ∷ []) (codes "age" ∷ [])

-- the whole list
abbrev pub friends_stream : Stream
friends_stream = stream_at friends (codes "friends") 4 0 1

-- the error of its one item
abbrev pub bang_friend : Fault
bang_friend = bang_at 54 (friends ++ Index 0 ∷ Name (codes "boom") ∷ [])

-- two groups, and then the item, which fails
abbrev pub stream_in_a_fragment : Forest
stream_in_a_fragment =
    grown (waiting (labelled 3 (codes "A") None ∷ labelled 7 (codes "B") None ∷ []) (friends_of_a ∷ age_of_both ∷ []))
    (more (Fields friends_of_a) (grown (streaming (codes "friends") [] friends_stream) (more (Item friends_stream 0) (grown (failed_by bang_friend) none) none))
    (more (Fields age_of_both) (grown age_20 none) none))

-- ---- schedules

-- all is done with the first payload
abbrev pub done_at_the_start : Schedule
done_at_the_start = record {
  fragment_done = λ id t xs. Some 0;
  item_released = λ s i t xs. Some 0;
  stream_done = λ s t xs. Some 0;
}

-- the last of three items comes first
abbrev pub items_backwards : Schedule
items_backwards = record {
  fragment_done = λ id t xs. Some 3;
  item_released = λ s i t xs. Some (3 - i);
  stream_done = λ s t xs. Some 3;
}
