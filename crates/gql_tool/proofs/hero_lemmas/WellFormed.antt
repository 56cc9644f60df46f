-- The forests of documents of heroes are well formed.
use Rattle.std.proofs.Common.{◌≡◌, refl, sym, ap, ◌∙◌, subst, ℕ, ◌+◌, ◌≤◌, Bool, true, false, not, List, [], ◌∷◌, ◌++◌, append_assoc, map, length, Option, Some, None, arith}
use Rattle.std.specs.Prelude.{◌&&◌, ◌||◌, ◌==◌, slice_get, codes}
use Rattle.std.specs.List.{AllByRecursion, list_any, list_all}
use Rattle.std.specs.Str.{bytes_eq}
use Rattle.std.proofs.lemmas.Slice.Eq.{bytes_eq-Decides}
use Rattle.std.proofs.lemmas.Bool.Decides.{Decides-eqb}
use Rattle.gql_tree.specs.declared.Key.TheVariants.{Name as Named_key}
use Rattle.gql_tree.specs.declared.Spot.{Spot}
use Rattle.gql_tree.specs.declared.Fault.{Fault}
use Rattle.gql_tree.specs.declared.Named.{Named}
use Rattle.gql_tree.specs.declared.FragId.{FragId}
use Rattle.gql_tree.specs.declared.Value.{Value, out-Value}
use Rattle.gql_tree.specs.declared.Value.TheVariants.{outs-Object}
use Rattle.gql_tree.specs.declared.Value.TheVariants as v
use Rattle.gql_tree.specs.declared.Outcome.TheVariants.{Good, Failed}
use Rattle.gql_tree.specs.Names.{named}
use Rattle.gql_tree.specs.Flat.{object, flat, members_of}
use Rattle.gql_tree.specs.Sound.{IsLocated}
use Rattle.gql_tree.specs.Forest.{Forest, grown, none}
use Rattle.gql_tree.specs.WellFormed.{shows_object, shows_nothing, is_located, has_the_keys, IsWellFormed}
use Rattle.gql_model.specs.Complete.{fault_at}
use Rattle.gql_model.specs.Operations.{forest}
use Rattle.gql_tool.specs.declared.hero.shape.LeafName.{LeafName}
use Rattle.gql_tool.specs.declared.hero.shape.Leaf.{Leaf}
use Rattle.gql_tool.specs.declared.hero.shape.Deferred.{Deferred}
use Rattle.gql_tool.specs.declared.hero.shape.HeroDocument.{HeroDocument}
use Rattle.gql_tool.specs.declared.hero.tables.Person.{Person}
use Rattle.gql_tool.specs.declared.hero.tables.HeroTables.{HeroTables}
use Rattle.gql_tool.specs.declared.hero.tables.HeroCell.{HeroCell}
use Rattle.gql_tool.specs.declared.hero.tables.HeroCell.TheVariants as hero_cells
use Rattle.gql_tool.specs.hero.Shape.{same_name, times, deferred_leaves_of}
use Rattle.gql_tool.specs.hero.Operation.{name_of, nodes_of}
use Rattle.gql_tool.specs.hero.Service.{service, query}
use Rattle.gql_tool.specs.hero.Hero.{hero_path, hero_object, leaf_member, leaf_members, leaf_faults, some_bubble, EachOnce, RefStands, ArePlaced, IsPlaced}
use Rattle.gql_tool.proofs.hero_lemmas.Fields.{leaf_details}
use Rattle.gql_tool.proofs.hero_lemmas.Flat.{at_path, flat-here, flat-name, flat-hero, no_named}
use Rattle.gql_tool.proofs.hero_lemmas.Forests.{null_region, leaves_blamed, forest_by, forest_with, forest-person, forest-null, forest-error, person_at}
use Rattle.gql_tool.proofs.hero_lemmas.Met.{document, fragment_id}
use Rattle.gql_tool.proofs.hero_lemmas.Once.{count_true, fewer, same_name-self, times-cons}
use Rattle.gql_tool.proofs.hero_lemmas.Region.{person}
use Rattle.gql_tool.proofs.hero_lemmas.Sound.{located, leaves_located}
use Rattle.gql_tool.proofs.hero_lemmas.WellFormedTask.{alone_well_formed, empty_well_formed, waiting_well_formed}

-- ---- faults

located_by : (a b : Bool) (m n : ℕ) → (m == 0) ≡ a → (n == 0) ≡ b → (m ≡ 0 → n ≡ 0) → (n ≡ 0 → m ≡ 0) → elim a [ true ↦ b | false ↦ not b ] ≡ true
located_by true true m n e f to from = refl
located_by true false m n e f to from = (let h = sym f ∙ (Decides-eqb n 0).1 (to ((Decides-eqb m 0).0 e)) in absurd (cc))
located_by false true m n e f to from = (let h = sym e ∙ (Decides-eqb m 0).1 (from ((Decides-eqb n 0).0 f)) in absurd (cc))
located_by false false m n e f to from = refl

fault_located : (f : Fault) → IsLocated f → is_located f ≡ true
fault_located f h = located_by (f.line == 0) (f.column == 0) f.line f.column refl refl h.0 h.1

all_located : (fs : List Fault) → AllByRecursion IsLocated fs → list_all is_located fs ≡ true
all_located [] h = refl
all_located (f ∷ fs) h = λ i. fault_located f h.0 i && all_located fs h.1 i

-- a list that has something
some_fault : (fs : List Fault) → (fs ≡ [] → ⊥) → elim fs [ [] ↦ false | x ∷ xs ↦ true ] ≡ true
some_fault [] h = absurd (h refl)
some_fault (f ∷ fs) h = refl

-- ---- the keys of leaves

abbrev names : List Leaf → List (List ℕ)
names ls = map (λ l. name_of l.name) ls

keys-leaves : (k : ℕ) (tag : Option FragId) (ls : List Leaf) → map (λ d. d.key) (leaf_details k tag ls) ≡ names ls
keys-leaves k tag [] = refl
keys-leaves k tag (l ∷ ls) = ap (λ ns. name_of l.name ∷ ns) (keys-leaves (k + 1) tag ls)

-- a name stands in a list around it
stands_in : (n : List ℕ) (before after : List (List ℕ)) → list_any (bytes_eq n) (before ++ n ∷ after) ≡ true
stands_in n [] after = ap (λ b. b || list_any (bytes_eq n) after) ((bytes_eq-Decides n n).1 refl)
stands_in n (m ∷ before) after = ap (λ b. bytes_eq n m || b) (stands_in n before after) ∙ either (bytes_eq n m)
  where
    either : (b : Bool) → b || true ≡ true
    either true = refl
    either false = refl

module _ (p : Person) where
  -- each member has the name of a leaf
  members_named : (before : List (List ℕ)) (ls : List Leaf) → list_all (λ (m : Named Value). list_any (bytes_eq m.name) (before ++ names ls)) (leaf_members p ls) ≡ true
  members_named before [] = refl
  members_named before (l ∷ ls) =
      let rest = members_named (before ++ name_of l.name ∷ []) ls in
      let same = append_assoc before (name_of l.name ∷ []) (names ls) in
      λ i. stands_in (name_of l.name) before (names ls) i && (subst (λ (ns : List (List ℕ)). list_all (λ (m : Named Value). list_any (bytes_eq m.name) ns) (leaf_members p ls) ≡ true) same rest) i

  -- and each leaf's name is that of a member
  leaves_named : (before : List (Named Value)) (ls : List Leaf) → list_all (λ k. list_any (λ (m : Named Value). bytes_eq m.name k) (before ++ leaf_members p ls)) (names ls) ≡ true
  leaves_named before [] = refl
  leaves_named before (l ∷ ls) =
      let rest = leaves_named (before ++ leaf_member p l ∷ []) ls in
      let same = append_assoc before (leaf_member p l ∷ []) (leaf_members p ls) in
      λ i. member_in (leaf_member p l) before (leaf_members p ls) i && (subst (λ (ms : List (Named Value)). list_all (λ k. list_any (λ (m : Named Value). bytes_eq m.name k) ms) (names ls) ≡ true) same rest) i
    where
      member_in : (m : Named Value) (front back : List (Named Value)) → list_any (λ (x : Named Value). bytes_eq x.name m.name) (front ++ m ∷ back) ≡ true
      member_in m [] back = ap (λ b. b || list_any (λ (x : Named Value). bytes_eq x.name m.name) back) ((bytes_eq-Decides m.name m.name).1 refl)
      member_in m (x ∷ front) back = ap (λ b. bytes_eq x.name m.name || b) (member_in m front back) ∙ either (bytes_eq x.name m.name)
        where
          either : (b : Bool) → b || true ≡ true
          either true = refl
          either false = refl

  keys_are : (k : ℕ) (tag : Option FragId) (ls : List Leaf) → has_the_keys (map (λ d. d.key) (leaf_details k tag ls)) (leaf_members p ls) ≡ true
  keys_are k tag ls = ap (λ ks. has_the_keys ks (leaf_members p ls)) (keys-leaves k tag ls) ∙ (λ i. members_named [] ls i && leaves_named [] ls i)

  -- ---- the hero has none of the keys of deferred leaves

  under_hero : (ls : List Leaf) (k : List ℕ) → flat (hero_object (v.Object (leaf_members p ls))) (hero_path ++ Named_key k ∷ []) ≡ at_path [] (named k (leaf_members p ls))
  under_hero ls k = flat-hero (v.Object (leaf_members p ls)) (codes "hero") (Named_key k ∷ []) ∙ flat-name (leaf_members p ls) k []

  new_name : (ls : List Leaf) (l : Leaf) (ms : List Leaf) → ((a : LeafName) → times a ls + times a (l ∷ ms) ≤ 1) → times l.name ls ≡ 0
  new_name ls l ms once =
      let one = times-cons l.name l ms ∙ count_true (same_name l.name l.name) (times l.name ms) (same_name-self l.name) in
      (let h = once l.name in omega (arith, h, one))

  new_keys : (ls ms : List Leaf) → ((a : LeafName) → times a ls + times a ms ≤ 1) → list_all (λ k. shows_nothing (flat (hero_object (v.Object (leaf_members p ls))) (hero_path ++ Named_key k ∷ []))) (names ms) ≡ true
  new_keys ls [] once = refl
  new_keys ls (m ∷ ms) once =
      let here = under_hero ls (name_of m.name) ∙ ap (at_path []) (no_named m.name p ls (new_name ls m ms once)) in
      let rest = new_keys ls ms (λ a. (let h = once a in let le = fewer a m ms in omega (arith, h, le))) in
      λ i. shows_nothing (here i) && rest i

-- ---- the forest of a person

object_there : (x : Value) → shows_object (flat (hero_object x) []) ≡ true
object_there x = ap shows_object (flat-here (record { name = codes "hero"; value = x } ∷ []))

module _ (t : HeroTables) (spot hero : Spot) (leaves : List Leaf) (n : ℕ) (p : Person) (is : slice_get t.persons n ≡ Some p) (placed : ArePlaced leaves) where
  abbrev of : Bool → Option Deferred → Forest
  of = forest_by t spot hero leaves n p is

  abbrev value : Value
  value = hero_object (v.Object (leaf_members p leaves))

  first_located : list_all is_located (leaf_faults p leaves) ≡ true
  first_located = all_located (leaf_faults p leaves) (leaves_located p leaves placed)

  stands : flat value hero_path ≡ Some object
  stands = flat-hero (v.Object (leaf_members p leaves)) (codes "hero") [] ∙ flat-here (leaf_members p leaves)

  object_has : (k : ℕ) (tag : Option FragId) (ls : List Leaf) → shows_object (flat (v.Object (leaf_members p ls)) []) && has_the_keys (map (λ d. d.key) (leaf_details k tag ls)) (members_of (out-Value (v.Object (leaf_members p ls)))) ≡ true
  object_has k tag ls =
      let ms = leaf_members p ls in
      (λ i. shows_object (flat-here ms i) && has_the_keys (map (λ d. d.key) (leaf_details k tag ls)) (members_of (outs-Object ms i))) ∙ keys_are p k tag ls

  waiting_by : (label : Option (List ℕ)) (at : Spot) (l : Leaf) (ls : List Leaf) (b : Bool) → some_bubble p (l ∷ ls) ≡ b → EachOnce (document spot hero leaves (Some (record { label = label; spot = at; leaves = l ∷ ls }))) → ArePlaced (l ∷ ls)
      → IsWellFormed (forest_with t spot hero leaves n p is label at b (l ∷ ls))
  waiting_by label at l ls b bubbles once later = by b bubbles
    where
      fresh : list_all (λ k. shows_nothing (flat value (hero_path ++ Named_key k ∷ []))) (map (λ d. d.key) (leaf_details (2 + length leaves + 1) (Some (fragment_id (length leaves))) (l ∷ ls))) ≡ true
      fresh = ap (list_all (λ k. shows_nothing (flat value (hero_path ++ Named_key k ∷ [])))) (keys-leaves (2 + length leaves + 1) (Some (fragment_id (length leaves))) (l ∷ ls)) ∙ new_keys p leaves (l ∷ ls) once

      later_located : list_all is_located (leaf_faults p (l ∷ ls)) ≡ true
      later_located = all_located (leaf_faults p (l ∷ ls)) (leaves_located p (l ∷ ls) later)

      by : (b : Bool) → some_bubble p (l ∷ ls) ≡ b → IsWellFormed (forest_with t spot hero leaves n p is label at b (l ∷ ls))
      by true e =
          waiting_well_formed value (leaf_faults p leaves) (object_there (v.Object (leaf_members p leaves))) first_located (fragment_id (length leaves)) label (person n) (leaf_details (2 + length leaves + 1) (Some (fragment_id (length leaves))) (l ∷ ls))
          (leaf_faults p (l ∷ ls)) Failed stands fresh later_located (some_fault (leaf_faults p (l ∷ ls)) (leaves_blamed p (l ∷ ls) e)) refl
      by false e =
          waiting_well_formed value (leaf_faults p leaves) (object_there (v.Object (leaf_members p leaves))) first_located (fragment_id (length leaves)) label (person n) (leaf_details (2 + length leaves + 1) (Some (fragment_id (length leaves))) (l ∷ ls))
          (leaf_faults p (l ∷ ls)) (Good (v.Object (leaf_members p (l ∷ ls)))) stands fresh later_located refl (object_has (2 + length leaves + 1) (Some (fragment_id (length leaves))) (l ∷ ls))

  deferred_by : (label : Option (List ℕ)) (at : Spot) (ls : List Leaf) → EachOnce (document spot hero leaves (Some (record { label = label; spot = at; leaves = ls }))) → ArePlaced ls → IsWellFormed (of false (Some (record { label = label; spot = at; leaves = ls })))
  deferred_by label at [] once later = empty_well_formed value (leaf_faults p leaves) (object_there (v.Object (leaf_members p leaves))) first_located (fragment_id (length leaves)) label (person n) []
  deferred_by label at (l ∷ ls) once later = waiting_by label at l ls (some_bubble p (l ∷ ls)) refl once later

  person_is : (b : Bool) (o : Option Deferred) → EachOnce (document spot hero leaves o) → ArePlaced (deferred_leaves_of o) → IsWellFormed (of b o)
  person_is true o once later = alone_well_formed (hero_object v.Null) (leaf_faults p leaves) (object_there v.Null) first_located
  person_is false None once later = alone_well_formed value (leaf_faults p leaves) (object_there (v.Object (leaf_members p leaves))) first_located
  person_is false (Some def) once later = deferred_by def.label def.spot def.leaves once later

-- ---- every hero

null_is : (f : Forest) (fs : List Fault) → f ≡ grown (null_region fs) none → list_all is_located fs ≡ true → IsWellFormed f
null_is f fs is located = subst IsWellFormed (sym is) (alone_well_formed (hero_object v.Null) fs (object_there v.Null) located)

cell_is : (t : HeroTables) (d : HeroDocument) (c : HeroCell) → t.hero ≡ c → EachOnce d → RefStands t → IsPlaced d → IsWellFormed (forest (service t) (nodes_of d) query)
cell_is t d hero_cells.Null is once there placed = null_is _ [] (forest-null t d is) refl
cell_is t d (hero_cells.Error m) is once there placed = null_is _ (fault_at d.hero m hero_path ∷ []) (forest-error t d m is) (all_located (fault_at d.hero m hero_path ∷ []) (located d.hero m hero_path placed.hero, tt))
cell_is t d (hero_cells.Ref n) is once there placed =
    let found = person_at t.persons n (there n is) in
    subst IsWellFormed (sym (forest-person t d n found.0 found.1 is once)) (person_is t d.spot d.hero d.leaves n found.0 found.1 placed.leaves (some_bubble found.0 d.leaves) d.deferred once placed.deferred)

pub hero_is_well_formed : (t : HeroTables) (d : HeroDocument) → EachOnce d → RefStands t → IsPlaced d → IsWellFormed (forest (service t) (nodes_of d) query)
hero_is_well_formed t d = cell_is t d t.hero refl
