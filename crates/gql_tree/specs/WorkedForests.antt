-- Forests whose deliveries are written out.
use Rattle.std.specs.Prelude.{ℕ, List, [], ◌∷◌, Option, Some, None, codes}
use Rattle.gql_tree.specs.declared.path.Key.{Key}
use Rattle.gql_tree.specs.declared.path.Key.TheVariants.{Name}
use Rattle.gql_tree.specs.declared.value.Value.{Value}
use Rattle.gql_tree.specs.declared.value.Value.TheVariants as v
use Rattle.gql_tree.specs.declared.delivery.Fault.{Fault}
use Rattle.gql_tree.specs.declared.delivery.Frag.{Frag}
use Rattle.gql_tree.specs.declared.delivery.FragId.{FragId}
use Rattle.gql_tree.specs.declared.delivery.Group.{Group}
use Rattle.gql_tree.specs.declared.delivery.Stream.{Stream}
use Rattle.gql_tree.specs.declared.delivery.Outcome.{Outcome}
use Rattle.gql_tree.specs.declared.delivery.Outcome.TheVariants.{Good, Failed}
use Rattle.gql_tree.specs.declared.delivery.RegionResult.{RegionResult}
use Rattle.gql_tree.specs.declared.delivery.TaskWork.TheVariants.{Fields, Item}
use Rattle.gql_tree.specs.Forest.{Forest, grown, none, more}

-- an object of one member
abbrev pub one_member : List ℕ → Value → Value
one_member name x = v.Object (record { name = name; value = x } ∷ [])

-- ---- deferred fragments at `hero`

-- the path of all that is deferred here
abbrev pub hero : List Key
hero = Name (codes "hero") ∷ []

-- a deferred fragment at this place of the operation
abbrev pub fragment : ℕ → FragId
fragment place = record { place = place; path = record { keys = hero } }

-- one with its label, and the one that it stands in
abbrev pub labelled : ℕ → List ℕ → Option FragId → Frag
labelled place label parent = record { id = fragment place; label = Some label; parent = parent }

-- a group with these owners
abbrev pub group : List FragId → Group
group owners = record { owners = owners; path = record { keys = hero }; row = record { kind = 1; number = 0 }; fields = [] }

-- the error of the field `boom`
abbrev pub bang : Fault
bang = record { message = codes "bang"; line = 1; column = 36; path = Some (record { keys = Name (codes "hero") ∷ Name (codes "boom") ∷ [] }) }

-- a region that makes no tasks
abbrev pub ended : Outcome → List Fault → RegionResult
ended outcome faults = record { outcome = outcome; faults = faults; fragments = []; groups = []; streams = [] }

-- the region that gives the name
abbrev pub luke : RegionResult
luke = ended (Good (one_member (codes "name") (v.Text (codes "Luke")))) []

-- the region that fails
abbrev pub boom : RegionResult
boom = ended Failed (bang ∷ [])

-- an initial region with these fragments and groups
abbrev pub waiting : List Frag → List Group → RegionResult
waiting fragments groups = record {
  outcome = Good (one_member (codes "hero") (one_member (codes "id") (v.Text (codes "1"))));
  faults = [];
  fragments = fragments;
  groups = groups;
  streams = [];
}

-- { hero { id ... @defer(label: "D") { name } } }
abbrev pub late_name : Forest
late_name =
    grown (waiting (labelled 3 (codes "D") None ∷ []) (group (fragment 3 ∷ []) ∷ []))
    (more (Fields (group (fragment 3 ∷ []))) (grown luke none) none)

-- { hero { id ... @defer(label: "A") { name boom } ... @defer(label: "B") { name } } }, where `boom` fails and `name` is shared
abbrev pub shared_name : Forest
shared_name =
    grown (waiting (labelled 3 (codes "A") None ∷ labelled 6 (codes "B") None ∷ []) (group (fragment 3 ∷ []) ∷ group (fragment 3 ∷ fragment 6 ∷ []) ∷ []))
    (more (Fields (group (fragment 3 ∷ []))) (grown boom none)
    (more (Fields (group (fragment 3 ∷ fragment 6 ∷ []))) (grown luke none) none))

-- { hero { id ... @defer(label: "A") { boom ... @defer(label: "B") { name } } } }, where `boom` fails
abbrev pub nested_name : Forest
nested_name =
    grown (waiting (labelled 3 (codes "A") None ∷ labelled 5 (codes "B") (Some (fragment 3)) ∷ []) (group (fragment 3 ∷ []) ∷ group (fragment 5 ∷ []) ∷ []))
    (more (Fields (group (fragment 3 ∷ []))) (grown boom none)
    (more (Fields (group (fragment 5 ∷ []))) (grown luke none) none))

-- ---- a stream at `crew`

-- the path of the list
abbrev pub crew : List Key
crew = Name (codes "crew") ∷ []

-- its items from 1 up to 4
abbrev pub crew_stream : Stream
crew_stream = record {
  path = record { keys = crew };
  row = record { kind = 0; number = 0 };
  field = record { key = codes "crew"; nodes = [] };
  label = Some (codes "S");
  place = 1;
  first = 1;
  length = 4;
}

-- the region of one item
abbrev pub item : List ℕ → RegionResult
item name = ended (Good (v.Text name)) []

-- { crew @stream(label: "S", initialCount: 1) }, whose item 2 fails
abbrev pub streamed : Forest
streamed =
    grown (record { outcome = Good (v.Object (record { name = codes "crew"; value = v.List (v.Text (codes "Luke") ∷ []) } ∷ [])); faults = []; fragments = []; groups = []; streams = crew_stream ∷ [] })
    (more (Item crew_stream 1) (grown (item (codes "Leia")) none)
    (more (Item crew_stream 2) (grown boom none)
    (more (Item crew_stream 3) (grown (item (codes "Han")) none) none)))
