-- The forests of documents of heroes: one task at most, which is run behind the initial region.
use Rattle.std.proofs.Common.{◌≡◌, refl, sym, ap, ◌∙◌, subst, ℕ, zero, suc, ◌+◌, ◌*◌, ◌<◌, Bool, true, false, List, [], ◌∷◌, ◌++◌, length, Option, Some, None, arith}
use Rattle.std.specs.Prelude.{◌||◌, slice_get}
use Rattle.gql_tree.specs.declared.Key.{Key}
use Rattle.gql_tree.specs.declared.Spot.{Spot}
use Rattle.gql_tree.specs.declared.Fault.{Fault}
use Rattle.gql_tree.specs.declared.Group.{Group}
use Rattle.gql_tree.specs.declared.Payload.{Payload}
use Rattle.gql_tree.specs.declared.Value.TheVariants as v
use Rattle.gql_tree.specs.declared.Outcome.TheVariants.{Good}
use Rattle.gql_tree.specs.declared.RegionResult.{RegionResult}
use Rattle.gql_tree.specs.declared.TaskWork.{TaskWork}
use Rattle.gql_tree.specs.declared.TaskWork.TheVariants.{Fields}
use Rattle.gql_tree.specs.Forest.{Forest, Branches, grown, none, more}
use Rattle.gql_model.specs.declared.Node.{Node}
use Rattle.gql_model.specs.Complete.{Part, fault_at, is_bubble}
use Rattle.gql_model.specs.Region.{initial_region, task_region}
use Rattle.gql_model.specs.Operations.{forest_below, forest}
use Rattle.gql_tool.specs.declared.hero.shape.Leaf.{Leaf}
use Rattle.gql_tool.specs.declared.hero.shape.Deferred.{Deferred}
use Rattle.gql_tool.specs.declared.hero.shape.HeroDocument.{HeroDocument}
use Rattle.gql_tool.specs.declared.hero.tables.LeafCell.{LeafCell}
use Rattle.gql_tool.specs.declared.hero.tables.LeafCell.TheVariants.{Null, Int, Text, Error}
use Rattle.gql_tool.specs.declared.hero.tables.Person.{Person}
use Rattle.gql_tool.specs.declared.hero.tables.HeroTables.{HeroTables}
use Rattle.gql_tool.specs.declared.hero.tables.HeroCell.{HeroCell}
use Rattle.gql_tool.specs.declared.hero.tables.HeroCell.TheVariants as hero_cells
use Rattle.gql_tool.specs.hero.Shape.{deferred_leaves_of}
use Rattle.gql_tool.specs.hero.Operation.{nodes_of}
use Rattle.gql_tool.specs.hero.Service.{service, query}
use Rattle.gql_tool.specs.hero.Hero.{hero_path, is_required, cell_under, cell_part, leaf_path, leaf_part, leaf_members, leaf_faults, some_bubble, hero_object, announcing, completing_by, standing_payloads, person_payloads_by, EachOnce, RefStands}
use Rattle.gql_tool.proofs.hero_lemmas.Fields.{leaf_details}
use Rattle.gql_tool.proofs.hero_lemmas.Met.{document, nodes, fragment_id, fragment_in}
use Rattle.gql_tool.proofs.hero_lemmas.Region.{person, initial_region-person, group_region-leaves, leaves_region_by, found_of, hero_value, unless}
use Rattle.gql_tool.proofs.hero_lemmas.OneTask.{IsRun, alone_run, good_run, failed_run}

-- ---- a bubbling leaf has a fault

abbrev HasSome : List Fault → Type 0
HasSome fs = fs ≡ [] → ⊥

cell_blamed : (required : Bool) (spot : Spot) (path : List Key) (c : LeafCell) → is_bubble (cell_part required spot path c) ≡ true → HasSome (cell_part required spot path c).faults
cell_blamed true spot path Null h = λ e. absurd (cc)
cell_blamed false spot path Null h = absurd (cc)
cell_blamed true spot path (Int n) h = absurd (cc)
cell_blamed false spot path (Int n) h = absurd (cc)
cell_blamed true spot path (Text t) h = absurd (cc)
cell_blamed false spot path (Text t) h = absurd (cc)
cell_blamed true spot path (Error m) h = λ e. absurd (cc)
cell_blamed false spot path (Error m) h = absurd (cc)

first_some : (xs ys : List Fault) → HasSome xs → HasSome (xs ++ ys)
first_some [] ys h = absurd (h refl)
first_some (x ∷ xs) ys h = λ e. absurd (cc)

second_some : (xs ys : List Fault) → HasSome ys → HasSome (xs ++ ys)
second_some [] ys h = h
second_some (x ∷ xs) ys h = λ e. absurd (cc)

blamed_by : (b : Bool) (x : Part) (rest : Bool) (fs : List Fault) → (b ≡ true → HasSome x.faults) → (rest ≡ true → HasSome fs) → b || rest ≡ true → HasSome (x.faults ++ fs)
blamed_by true x rest fs first later h = first_some x.faults fs (first refl)
blamed_by false x rest fs first later h = second_some x.faults fs (later h)

pub leaves_blamed : (p : Person) (ls : List Leaf) → some_bubble p ls ≡ true → HasSome (leaf_faults p ls)
leaves_blamed p [] h = absurd (cc)
leaves_blamed p (l ∷ ls) h = blamed_by (is_bubble (leaf_part p l)) (leaf_part p l) (some_bubble p ls) (leaf_faults p ls) (cell_blamed (is_required l.name) l.spot (leaf_path l.name) (cell_under p l.name)) (leaves_blamed p ls) h

-- ---- the forest of a person

-- its task's depth is never met
two_deep : (k : ℕ) → 2 * k + 2 ≡ suc (suc (2 * k))
two_deep k = omega arith

module _ (t : HeroTables) (spot hero : Spot) (leaves : List Leaf) (n : ℕ) (p : Person) (is : slice_get t.persons n ≡ Some p) where
  abbrev ns : Option Deferred → List Node
  ns = nodes spot hero leaves

  abbrev run : Option Deferred → TaskWork → RegionResult
  run o = task_region (service t) (ns o)

  -- the initial region, by whether the hero's leaves bubble
  abbrev pub first : Bool → Option Deferred → RegionResult
  first b o = record { outcome = Good (hero_value t spot hero leaves n p is b); faults = leaf_faults p leaves; fragments = unless t spot hero leaves n p is b (found_of t spot hero leaves n p is o).fragments; groups = unless t spot hero leaves n p is b (found_of t spot hero leaves n p is o).groups; streams = [] }

  -- the group of deferred leaves, and its region
  abbrev pub group_of : List Leaf → Group
  group_of ls = record { owners = fragment_id (length leaves) ∷ []; path = record { keys = hero_path }; row = person n; fields = leaf_details (2 + length leaves + 1) (Some (fragment_id (length leaves))) ls }

  abbrev pub later : Bool → List Leaf → RegionResult
  later = leaves_region_by t spot hero leaves n p is

  abbrev pub waiting : Bool → List Leaf → Branches
  waiting b [] = none
  waiting b (l ∷ ls) = more (Fields (group_of (l ∷ ls))) (grown (later b (l ∷ ls)) none) none

  abbrev pub branches_by : Bool → Option Deferred → Branches
  branches_by true o = none
  branches_by false o = waiting (some_bubble p (deferred_leaves_of o)) (deferred_leaves_of o)

  abbrev pub forest_by : Bool → Option Deferred → Forest
  forest_by b o = grown (first b o) (branches_by b o)

  grown-later : (o : Option Deferred) (k : ℕ) (b : Bool) (ls : List Leaf) → forest_below (run o) (suc k) (later b ls) ≡ grown (later b ls) none
  grown-later o k true ls = refl
  grown-later o k false ls = refl

  grown-waiting : (k : ℕ) (label : Option (List ℕ)) (at : Spot) (ls : List Leaf) → (let o : Option Deferred = Some (record { label = label; spot = at; leaves = ls }) in forest_below (run o) (suc (suc k)) (first false o) ≡ forest_by false o)
  grown-waiting k label at [] = refl
  grown-waiting k label at (l ∷ ls) =
      let def : Deferred = record { label = label; spot = at; leaves = l ∷ ls } in
      let around : Forest → Forest = λ f. grown (first false (Some def)) (more (Fields (group_of (l ∷ ls))) f none) in
      ap (λ (r : RegionResult). around (forest_below (run (Some def)) (suc k) r)) (group_region-leaves t spot hero leaves n p is def)
      ∙ ap around (grown-later (Some def) k (some_bubble p (l ∷ ls)) (l ∷ ls))

  grown-first : (k : ℕ) (b : Bool) (o : Option Deferred) → forest_below (run o) (suc (suc k)) (first b o) ≡ forest_by b o
  grown-first k true o = refl
  grown-first k false None = refl
  grown-first k false (Some def) = grown-waiting k def.label def.spot def.leaves

  forest-of : (o : Option Deferred) → EachOnce (document spot hero leaves o) → t.hero ≡ hero_cells.Ref n → forest (service t) (ns o) query ≡ forest_by (some_bubble p leaves) o
  forest-of o once ref =
      ap (λ (r : RegionResult). forest_below (run o) (2 * length (ns o) + 2) r) (initial_region-person t spot hero leaves n p is o once ref)
      ∙ (ap (λ k. forest_below (run o) k (first (some_bubble p leaves) o)) (two_deep (length (ns o)))
      ∙ grown-first (2 * length (ns o)) (some_bubble p leaves) o)

  -- ---- what is sent of it

  -- a forest of deferred leaves, by whether they bubble
  abbrev pub forest_with : Option (List ℕ) → Spot → Bool → List Leaf → Forest
  forest_with label at b ls = grown (first false (Some (record { label = label; spot = at; leaves = ls }))) (waiting b ls)

  abbrev both_payloads : Option (List ℕ) → Bool → List Leaf → List Payload
  both_payloads label b ls = announcing (v.Object (leaf_members p leaves)) (leaf_faults p leaves) label ∷ completing_by b (v.Object (leaf_members p ls)) (leaf_faults p ls) ∷ []

  run-waiting : (label : Option (List ℕ)) (at : Spot) (b : Bool) (l : Leaf) (ls : List Leaf) → IsRun (forest_with label at b (l ∷ ls)) (both_payloads label b (l ∷ ls))
  run-waiting label at true l ls =
      failed_run (hero_object (v.Object (leaf_members p leaves))) (leaf_faults p leaves) (fragment_id (length leaves)) label (person n) (leaf_details (2 + length leaves + 1) (Some (fragment_id (length leaves))) (l ∷ ls)) (leaf_faults p (l ∷ ls))
  run-waiting label at false l ls =
      good_run (hero_object (v.Object (leaf_members p leaves))) (leaf_faults p leaves) (fragment_id (length leaves)) label (person n) (leaf_details (2 + length leaves + 1) (Some (fragment_id (length leaves))) (l ∷ ls)) (leaf_faults p (l ∷ ls)) (v.Object (leaf_members p (l ∷ ls)))

  run-deferred : (label : Option (List ℕ)) (at : Spot) (ls : List Leaf) → (let o : Option Deferred = Some (record { label = label; spot = at; leaves = ls }) in IsRun (forest_by false o) (standing_payloads p leaves o))
  run-deferred label at [] = alone_run (Good (hero_object (v.Object (leaf_members p leaves)))) (leaf_faults p leaves) (fragment_in (length leaves) (record { label = label; spot = at; leaves = [] }) ∷ [])
  run-deferred label at (l ∷ ls) = run-waiting label at (some_bubble p (l ∷ ls)) l ls

  pub run-person : (b : Bool) (o : Option Deferred) → IsRun (forest_by b o) (person_payloads_by b p leaves o)
  run-person true o = alone_run (Good (hero_object v.Null)) (leaf_faults p leaves) []
  run-person false None = alone_run (Good (hero_object (v.Object (leaf_members p leaves)))) (leaf_faults p leaves) []
  run-person false (Some def) = run-deferred def.label def.spot def.leaves

-- a hero that is a person
pub forest-person : (t : HeroTables) (d : HeroDocument) (n : ℕ) (p : Person) (is : slice_get t.persons n ≡ Some p) → t.hero ≡ hero_cells.Ref n → EachOnce d → forest (service t) (nodes_of d) query ≡ forest_by t d.spot d.hero d.leaves n p is (some_bubble p d.leaves) d.deferred
forest-person t d n p is ref once = forest-of t d.spot d.hero d.leaves n p is d.deferred once ref

-- a hero that is null or an error
abbrev pub null_region : List Fault → RegionResult
null_region fs = record { outcome = Good (hero_object v.Null); faults = fs; fragments = []; groups = []; streams = [] }

abbrev pub with_hero : HeroTables → HeroCell → HeroTables
with_hero t c = record t { hero = c }

pub region-null : (t : HeroTables) (d : HeroDocument) → initial_region (service (with_hero t hero_cells.Null)) (nodes_of d) query ≡ null_region []
region-null t d = refl

pub region-error : (t : HeroTables) (d : HeroDocument) (m : List ℕ) → initial_region (service (with_hero t (hero_cells.Error m))) (nodes_of d) query ≡ null_region (fault_at d.hero m hero_path ∷ [])
region-error t d m = refl

forest-region : (t : HeroTables) (d : HeroDocument) (fs : List Fault) → initial_region (service t) (nodes_of d) query ≡ null_region fs → forest (service t) (nodes_of d) query ≡ grown (null_region fs) none
forest-region t d fs is =
    let run = task_region (service t) (nodes_of d) in
    ap (λ (r : RegionResult). forest_below run (2 * length (nodes_of d) + 2) r) is
    ∙ ap (λ k. forest_below run k (null_region fs)) (two_deep (length (nodes_of d)))

pub forest-null : (t : HeroTables) (d : HeroDocument) → t.hero ≡ hero_cells.Null → forest (service t) (nodes_of d) query ≡ grown (null_region []) none
forest-null t d is =
    ap (λ c. forest (service (with_hero t c)) (nodes_of d) query) is ∙ forest-region (with_hero t hero_cells.Null) d [] (region-null t d)

pub forest-error : (t : HeroTables) (d : HeroDocument) (m : List ℕ) → t.hero ≡ hero_cells.Error m → forest (service t) (nodes_of d) query ≡ grown (null_region (fault_at d.hero m hero_path ∷ [])) none
forest-error t d m is =
    ap (λ c. forest (service (with_hero t c)) (nodes_of d) query) is ∙ forest-region (with_hero t (hero_cells.Error m)) d (fault_at d.hero m hero_path ∷ []) (region-error t d m)

-- ---- every hero

-- the person of the tables that the hero is
pub person_at : (ps : List Person) (n : ℕ) → n < length ps → (p : Person) × (slice_get ps n ≡ Some p)
person_at [] n h = absurd (omega arith)
person_at (p ∷ ps) zero h = (p, refl)
person_at (p ∷ ps) (suc n) h = person_at ps n (omega arith)

-- a run of a forest, whatever it is
abbrev Runs : Forest → Type 0
Runs f = (ps : List Payload) × IsRun f ps

run_null : (fs : List Fault) → Runs (grown (null_region fs) none)
run_null fs = (_, alone_run (Good (hero_object v.Null)) fs [])

run_cell : (t : HeroTables) (d : HeroDocument) (c : HeroCell) → t.hero ≡ c → EachOnce d → RefStands t → Runs (forest (service t) (nodes_of d) query)
run_cell t d hero_cells.Null is once there = subst Runs (sym (forest-null t d is)) (run_null [])
run_cell t d (hero_cells.Error m) is once there = subst Runs (sym (forest-error t d m is)) (run_null (fault_at d.hero m hero_path ∷ []))
run_cell t d (hero_cells.Ref n) is once there =
    let found = person_at t.persons n (there n is) in
    subst Runs (sym (forest-person t d n found.0 found.1 is once)) (_, run-person t d.spot d.hero d.leaves n found.0 found.1 (some_bubble found.0 d.leaves) d.deferred)

-- the forest of every hero can be run so
pub hero_runs : (t : HeroTables) (d : HeroDocument) → EachOnce d → RefStands t → Runs (forest (service t) (nodes_of d) query)
hero_runs t d = run_cell t d t.hero refl
