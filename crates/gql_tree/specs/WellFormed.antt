-- Forests that keep what execution keeps. Each field of `IsWellFormed` is a test over the forest's regions, each where it lies.
use Rattle.std.specs.Prelude.{◌≡◌, ℕ, zero, suc, nat_lt, Bool, true, false, not, ◌&&◌, ◌||◌, ◌==◌, List, [], ◌∷◌, ◌++◌, length, drop, map, flat_map, Option, Some, None, IsTrue, if◌then◌else◌}
use Rattle.std.specs.List.{list_any, list_all, AllByRecursion}
use Rattle.std.specs.Str.{bytes_eq}
use Rattle.gql_tree.specs.declared.path.Key.{Key}
use Rattle.gql_tree.specs.declared.path.Key.TheVariants.{Name, Index}
use Rattle.gql_tree.specs.declared.fields.Named.{Named}
use Rattle.gql_tree.specs.declared.value.Value.{Value, out-Value}
use Rattle.gql_tree.specs.declared.delivery.Fault.{Fault}
use Rattle.gql_tree.specs.declared.delivery.Frag.{Frag}
use Rattle.gql_tree.specs.declared.delivery.FragId.{FragId}
use Rattle.gql_tree.specs.declared.delivery.Group.{Group}
use Rattle.gql_tree.specs.declared.delivery.Stream.{Stream}
use Rattle.gql_tree.specs.declared.delivery.RegionResult.{RegionResult}
use Rattle.gql_tree.specs.declared.delivery.TaskWork.{TaskWork}
use Rattle.gql_tree.specs.declared.delivery.TaskWork.TheVariants.{Fields, Item}
use Rattle.gql_tree.specs.Keys.{same_lists, same_key, same_fragment}
use Rattle.gql_tree.specs.Flat.{Mark, object, list, flat, members_of}
use Rattle.gql_tree.specs.Forest.{Forest, Branches, grown, none, more, tasks_of, outcome_value}
use Rattle.gql_tree.specs.Fate.{is_good, Scope, scope_of, parent_of, above, same_path}

-- ---- regions where they lie

-- a region in a forest
pub record Site : Type 0 where
  -- the place where it begins
  pub at : List Key
  pub is_root : Bool
  -- of its group; a scope's root has none
  pub owners : List FragId
  -- the keys of its group's fields
  pub keys : List (List ℕ)
  -- the fragments that arise in it or above it in its scope
  pub around : List Frag
  pub scope : Scope
  pub region : RegionResult
  -- the tasks below it
  pub works : List TaskWork

-- the tasks, without what grows of them
abbrev pub works_of : Branches → List TaskWork
works_of none = []
works_of (more w f bs) = w ∷ works_of bs

-- the root of a scope: the initial region, or an item
abbrev pub root_site : List Key → RegionResult → Branches → Site
root_site at r bs = record { at = at; is_root = true; owners = []; keys = []; around = r.fragments; scope = scope_of (grown r bs); region = r; works = works_of bs }

-- the response keys of its fields
abbrev pub keys_of : Group → List (List ℕ)
keys_of g = map (λ d. d.key) g.fields

-- the regions below one, in this scope and in the scopes of items; these fragments arise in it or above it
abbrev pub sites_below : Scope → List Frag → Branches → List Site
sites_below s around none = []
sites_below s around (more (Fields g) (grown r inner) bs) =
    record { at = g.path.keys; is_root = false; owners = g.owners; keys = keys_of g; around = r.fragments ++ around; scope = s; region = r; works = works_of inner }
    ∷ (sites_below s (r.fragments ++ around) inner ++ sites_below s around bs)
sites_below s around (more (Item st i) (grown r inner) bs) =
    root_site (st.path.keys ++ Index i ∷ []) r inner
    ∷ (sites_below (scope_of (grown r inner)) r.fragments inner ++ sites_below s around bs)

-- all regions, each before those below it
abbrev pub sites : Forest → List Site
sites (grown r bs) = root_site [] r bs ∷ sites_below (scope_of (grown r bs)) r.fragments bs

-- ---- tests of paths and marks

-- the second path goes on from the first
abbrev pub is_prefix : List Key → List Key → Bool
is_prefix [] ks = true
is_prefix (j ∷ js) [] = false
is_prefix (j ∷ js) (k ∷ ks) = same_key j k && is_prefix js ks

-- what stands in the region's value at a path of the whole answer
abbrev pub mark_at : Site → List Key → Option Mark
mark_at x path = if is_prefix x.at path then flat (outcome_value x.region.outcome) (drop (length x.at) path) else None

-- an object
abbrev pub shows_object : Option Mark → Bool
shows_object None = false
shows_object (Some object) = true
shows_object (Some _) = false

-- a list of so many items
abbrev pub shows_list : ℕ → Option Mark → Bool
shows_list n None = false
shows_list n (Some (list m)) = m == n
shows_list n (Some _) = false

-- nothing
abbrev pub shows_nothing : Option Mark → Bool
shows_nothing None = true
shows_nothing (Some m) = false

-- no two of them meet the test
abbrev pub no_two : {X : Type 0} → (X → X → Bool) → List X → Bool
no_two same [] = true
no_two same (x ∷ xs) = not (list_any (same x) xs) && no_two same xs

-- each is greater than the one before
abbrev pub ascending : List ℕ → Bool
ascending [] = true
ascending (m ∷ []) = true
ascending (m ∷ n ∷ ns) = nat_lt m n && ascending (n ∷ ns)

-- ---- fragments

-- it is one of these
abbrev pub is_one_of : FragId → List FragId → Bool
is_one_of id ids = list_any (λ o. same_fragment o id) ids

-- it arises in the region or above it
abbrev pub arises_around : Site → FragId → Bool
arises_around x id = list_any (λ f. same_fragment f.id id) x.around

-- a parent arises in the fragment's region or above, and its path is a prefix
abbrev pub has_its_parent : Site → Frag → Bool
has_its_parent x f = elim f.parent [ None ↦ true | Some p ↦ arises_around x p && is_prefix p.path.keys f.id.path.keys ]

-- going from parent to parent comes to an end, after at most so many
abbrev pub comes_to_an_end : ℕ → List Frag → Option FragId → Bool
comes_to_an_end zero fs None = true
comes_to_an_end zero fs (Some id) = false
comes_to_an_end (suc most) fs None = true
comes_to_an_end (suc most) fs (Some id) = comes_to_an_end most fs (parent_of fs id)

-- parents form no cycle
abbrev pub is_outermost_in_the_end : Site → Frag → Bool
is_outermost_in_the_end x f = comes_to_an_end (length x.scope.fragments) x.scope.fragments (parent_of x.scope.fragments f.id)

-- it is an owner of the region, or has an ancestor that is
abbrev pub is_tied : Site → FragId → Bool
is_tied x id = is_one_of id x.owners || list_any (λ a. is_one_of a x.owners) (above x.scope id)

-- it stands in a fragment that the region waits for
abbrev pub has_tied_parent : Site → Frag → Bool
has_tied_parent x f = elim f.parent [ None ↦ false | Some p ↦ is_tied x p ]

-- ---- groups

-- it arises around the group, at the group's object or above, and isn't inside another owner
abbrev pub is_owner_in_order : Site → Group → FragId → Bool
is_owner_in_order x g id = arises_around x id && is_prefix id.path.keys g.path.keys && not (list_any (λ a. is_one_of a g.owners) (above x.scope id))

-- at least one, in ascending order of place
abbrev pub has_owners : Group → Bool
has_owners g = elim g.owners [ [] ↦ false | o ∷ os ↦ ascending (map (λ o. o.place) g.owners) ]

-- an object of its region's value, and strictly below the beginning of a region that is no root
abbrev pub stands_below : Site → Group → Bool
stands_below x g = shows_object (mark_at x g.path.keys) && (x.is_root || nat_lt (length x.at) (length g.path.keys))

-- its object has none of its keys yet
abbrev pub brings_new_keys : Site → Group → Bool
brings_new_keys x g = list_all (λ k. shows_nothing (mark_at x (g.path.keys ++ Name k ∷ []))) (keys_of g)

-- one stands in both
abbrev pub share_a_key : List (List ℕ) → List (List ℕ) → Bool
share_a_key ks ls = list_any (λ k. list_any (bytes_eq k) ls) ks

-- two regions of groups at one path with the same owners' places, or with a key in common
abbrev pub collide : Site → Site → Bool
collide x y = not x.is_root && not y.is_root && same_lists same_key x.at y.at
    && (same_lists (λ i j. i == j) (map (λ o. o.place) x.owners) (map (λ o. o.place) y.owners) || share_a_key x.keys y.keys)

-- ---- streams

-- the list stands in the region's value with its first items, and more are to come
abbrev pub begins_a_list : Site → Stream → Bool
begins_a_list x s = shows_list s.first (mark_at x s.path.keys) && nat_lt s.first s.length

-- ---- regions

-- a failure has an error
abbrev pub is_blamed : RegionResult → Bool
is_blamed r = is_good r || elim r.faults [ [] ↦ false | f ∷ fs ↦ true ]

-- line and column are both 0 or both not
abbrev pub is_located : Fault → Bool
is_located f = elim (f.line == 0) [ true ↦ f.column == 0 | false ↦ not (f.column == 0) ]

-- the members' names are these keys
abbrev pub has_the_keys : List (List ℕ) → List (Named Value) → Bool
has_the_keys ks ms = list_all (λ m. list_any (bytes_eq m.name) ks) ms && list_all (λ k. list_any (λ m. bytes_eq m.name k) ms) ks

-- the value of a good region of a group is an object whose names are the keys of the group's fields
abbrev pub has_its_fields : Site → Bool
has_its_fields x = not (is_good x.region) || (if x.is_root then true else shows_object (flat (outcome_value x.region.outcome) []) && has_the_keys x.keys (members_of (out-Value (outcome_value x.region.outcome))))

-- its value is an object, if it has one
abbrev pub is_object_if_good : RegionResult → Bool
is_object_if_good r = not (is_good r) || shows_object (flat (outcome_value r.outcome) [])

-- ---- the whole

-- each region meets the test
abbrev pub EachSite : Forest → (Site → Bool) → Type 0
EachSite f test = IsTrue (list_all test (sites f))

-- the initial region
abbrev pub first_region : Forest → RegionResult
first_region (grown r bs) = r

-- what the regions that execution gives have in common
pub record IsWellFormed (f : Forest) : Type 0 where
  -- below each region are the regions of its tasks
  pub grows : AllByRecursion (λ x. x.works ≡ tasks_of x.region) (sites f)
  -- any two fragments differ in place or path; each has its parent around it, and parents form no cycle
  pub fragments_apart : IsTrue (no_two (λ x y. same_fragment x.id y.id) (flat_map (λ x. x.region.fragments) (sites f)))
  pub parents : EachSite f (λ x. list_all (has_its_parent x) x.region.fragments)
  pub no_cycle : EachSite f (λ x. list_all (is_outermost_in_the_end x) x.region.fragments)
  -- a group has owners, in ascending order of place, around it, at prefixes of its path, none inside another
  pub owned : EachSite f (λ x. list_all has_owners x.region.groups)
  pub owners : EachSite f (λ x. list_all (λ g. list_all (is_owner_in_order x g) g.owners) x.region.groups)
  -- a group stands at an object of its region
  pub groups_stand : EachSite f (λ x. list_all (stands_below x) x.region.groups)
  -- in the region of a group, all that is deferred stands in its owners
  pub tied_parents : EachSite f (λ x. x.is_root || list_all (has_tied_parent x) x.region.fragments)
  pub tied_owners : EachSite f (λ x. x.is_root || list_all (λ g. list_all (is_tied x) g.owners) x.region.groups)
  -- two groups at one path differ in their owners and share no key, and a group's keys are new at its object
  pub groups_apart : IsTrue (no_two collide (sites f))
  pub new_keys : EachSite f (λ x. list_all (brings_new_keys x) x.region.groups)
  -- a stream goes on with a list of its region, and no two streams with one
  pub streams_stand : EachSite f (λ x. list_all (begins_a_list x) x.region.streams)
  pub streams_apart : IsTrue (no_two (λ s t. same_path s.path t.path) (flat_map (λ x. x.region.streams) (sites f)))
  -- a failed region has a fault, and a fault has a line and a column or neither
  pub blamed : EachSite f (λ x. is_blamed x.region)
  pub located : EachSite f (λ x. list_all is_located x.region.faults)
  -- good values are objects with the wanted names
  pub first_object : IsTrue (is_object_if_good (first_region f))
  pub fields : EachSite f has_its_fields
