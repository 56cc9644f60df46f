-- What is merged from the payloads of a document of heroes, beside its plain execution.
use Rattle.std.proofs.Common.{◌≡◌, refl, sym, ap, ◌∙◌, subst, ℕ, ◌+◌, Bool, true, false, List, [], ◌∷◌, ◌++◌, map, length, Option, Some, None}
use Rattle.std.specs.Prelude.{◌||◌, slice_get, filter, flat_map, codes}
use Rattle.std.proofs.lemmas.List.Elements.{filter-append}
use Rattle.std.proofs.lemmas.Grind.{flat_map-append}
use Rattle.gql_tree.specs.declared.Key.{Key}
use Rattle.gql_tree.specs.declared.Key.TheVariants.{Name as Named_key}
use Rattle.gql_tree.specs.declared.Spot.{Spot}
use Rattle.gql_tree.specs.declared.Fault.{Fault}
use Rattle.gql_tree.specs.declared.FragId.{FragId}
use Rattle.gql_tree.specs.declared.Value.{Value}
use Rattle.gql_tree.specs.declared.Value.TheVariants as v
use Rattle.gql_tree.specs.declared.RegionResult.{RegionResult}
use Rattle.gql_tree.specs.Flat.{flat}
use Rattle.gql_tree.specs.Same.{SameFlat}
use Rattle.gql_tree.specs.Order.{fault_cmp, failure_cmp}
use Rattle.gql_tree.specs.Ordered.{ordered}
use Rattle.gql_tree.specs.Forest.{Forest, Branches, grown, none, outcome_value}
use Rattle.gql_tree.specs.Merged.{Part, Delivery, delivery, IsMerged}
use Rattle.gql_merge.proofs.Totals.{faults_total}
use Rattle.gql_model.specs.Complete.{fault_at, is_bubble, Part as Done}
use Rattle.gql_model.specs.Operations.{forest}
use Rattle.gql_model.specs.Plain.{plain, has_place, kept}
use Rattle.gql_tool.specs.declared.hero.shape.LeafName.{LeafName}
use Rattle.gql_tool.specs.declared.hero.shape.Leaf.{Leaf}
use Rattle.gql_tool.specs.declared.hero.shape.Deferred.{Deferred}
use Rattle.gql_tool.specs.declared.hero.shape.HeroDocument.{HeroDocument}
use Rattle.gql_tool.specs.declared.hero.tables.LeafCell.{LeafCell}
use Rattle.gql_tool.specs.declared.hero.tables.LeafCell.TheVariants.{Null, Int, Text, Error}
use Rattle.gql_tool.specs.declared.hero.tables.Person.{Person}
use Rattle.gql_tool.specs.declared.hero.tables.HeroTables.{HeroTables}
use Rattle.gql_tool.specs.declared.hero.tables.HeroCell.{HeroCell}
use Rattle.gql_tool.specs.declared.hero.tables.HeroCell.TheVariants as hero_cells
use Rattle.gql_tool.specs.hero.Shape.{deferred_leaves_of}
use Rattle.gql_tool.specs.hero.Operation.{name_of, nodes_of}
use Rattle.gql_tool.specs.hero.Service.{service, query}
use Rattle.gql_tool.specs.hero.Hero.{hero_path, hero_object, is_required, cell_under, cell_part, leaf_path, leaf_part, leaf_member, leaf_members, leaf_faults, some_bubble, EachOnce, RefStands}
use Rattle.gql_model.proofs.Kept.{kept-ordered, kept-same}
use Rattle.gql_tool.proofs.hero_lemmas.Fields.{leaf_details, append-nil}
use Rattle.gql_tool.proofs.hero_lemmas.Met.{document, fragment_id}
use Rattle.gql_tool.proofs.hero_lemmas.Region.{person}
use Rattle.gql_tool.proofs.hero_lemmas.Flat.{Members, NamesApart, NamesApart-leaves, flat-hero, flat-null}
use Rattle.gql_tool.proofs.hero_lemmas.Forests.{first, waiting, forest_by, forest-person, forest-null, forest-error, person_at, null_region}
use Rattle.gql_tool.proofs.hero_lemmas.Plain.{plain-person, plain-null, plain-error, map-append}
use Rattle.gql_tool.proofs.hero_lemmas.Deliveries.{good_delivered, failed_delivered}
use Rattle.gql_tool.proofs.hero_lemmas.Delivery.{of_parts, Marks, one_same, two_same, some_ordered}

-- ---- all leaves together

bubble-append : (p : Person) (ls ms : List Leaf) → some_bubble p (ls ++ ms) ≡ some_bubble p ls || some_bubble p ms
bubble-append p [] ms = refl
bubble-append p (l ∷ ls) ms = ap (λ b. is_bubble (leaf_part p l) || b) (bubble-append p ls ms) ∙ grouped (is_bubble (leaf_part p l)) (some_bubble p ls) (some_bubble p ms)
  where
    grouped : (a b c : Bool) → a || (b || c) ≡ (a || b) || c
    grouped true b c = refl
    grouped false b c = refl

faults-append : (p : Person) (ls ms : List Leaf) → leaf_faults p (ls ++ ms) ≡ leaf_faults p ls ++ leaf_faults p ms
faults-append p ls ms = ap (flat_map (λ (x : Done). x.faults)) (map-append (leaf_part p) ls ms) ∙ flat_map-append (λ (x : Done). x.faults) (map (leaf_part p) ls) (map (leaf_part p) ms)

-- ---- errors

-- a leaf's place doesn't stand
abbrev NoLeaf : Value → Type 0
NoLeaf value = (a : LeafName) → flat value (leaf_path a) ≡ None

abbrev placed_faults : Value → List Fault → List Fault
placed_faults value fs = filter (λ f. has_place value f.path) fs

cell-unplaced : (value : Value) (required : Bool) (spot : Spot) (path : List Key) (c : LeafCell) → flat value path ≡ None → placed_faults value (cell_part required spot path c).faults ≡ []
cell-unplaced value true spot path Null h = rw h refl
cell-unplaced value false spot path Null h = refl
cell-unplaced value required spot path (Int n) h = refl
cell-unplaced value required spot path (Text s) h = refl
cell-unplaced value true spot path (Error m) h = rw h refl
cell-unplaced value false spot path (Error m) h = rw h refl

leaves-unplaced : (value : Value) (p : Person) (ls : List Leaf) → NoLeaf value → placed_faults value (leaf_faults p ls) ≡ []
leaves-unplaced value p [] h = refl
leaves-unplaced value p (l ∷ ls) h =
    filter-append (λ (f : Fault). has_place value f.path) (leaf_part p l).faults (leaf_faults p ls)
    ∙ (ap (λ fs. fs ++ placed_faults value (leaf_faults p ls)) (cell-unplaced value (is_required l.name) l.spot (leaf_path l.name) (cell_under p l.name) (h l.name))
    ∙ leaves-unplaced value p ls h)

kept-none : (value : Value) (p : Person) (ls : List Leaf) → NoLeaf value → kept value (leaf_faults p ls) ≡ []
kept-none value p ls h = ap (ordered fault_cmp) (leaves-unplaced value p ls h)

no_leaf : (value : Value) → SameFlat value (hero_object v.Null) → NoLeaf value
no_leaf value same a = same (leaf_path a) ∙ (flat-hero v.Null (codes "hero") (Named_key (name_of a) ∷ []) ∙ flat-null (Named_key (name_of a)) [])

-- ---- the delivery of a person's forest

-- data and errors are those of a region
abbrev IsOfRegion : Value → List Fault → RegionResult → Type 0
IsOfRegion value faults r = SameFlat value (outcome_value r.outcome) × (kept value faults ≡ kept value r.faults)

module _ (t : HeroTables) (spot hero : Spot) (leaves : List Leaf) (n : ℕ) (p : Person) (is : slice_get t.persons n ≡ Some p) where
  abbrev region_of : Bool → Option Deferred → RegionResult
  region_of = first t spot hero leaves n p is

  abbrev branches_of : Bool → List Leaf → Branches
  branches_of = waiting t spot hero leaves n p is

  -- a response to these leaves, if one bubbles or none does
  abbrev shown : Bool → List Leaf → Value
  shown b ls = hero_object (elim b [ true ↦ v.Null | false ↦ v.Object (leaf_members p ls) ])

  abbrev first_part : Bool → Part
  first_part b = record { at = []; value = shown b leaves; errors = leaf_faults p leaves }

  abbrev later_part : List Leaf → Part
  later_part ls = record { at = hero_path; value = v.Object (leaf_members p ls); errors = leaf_faults p ls }

  abbrev waits : Option (List ℕ) → Spot → List Leaf → Option Deferred
  waits label at ls = Some (record { label = label; spot = at; leaves = ls })

  abbrev id : FragId
  id = fragment_id (length leaves)

  abbrev forest_of : Option (List ℕ) → Spot → Bool → List Leaf → Forest
  forest_of label at b ls = grown (region_of false (waits label at ls)) (branches_of b ls)

  delivered-both : (label : Option (List ℕ)) (at : Spot) (l : Leaf) (ls : List Leaf) → delivery (forest_of label at false (l ∷ ls)) ≡ of_parts (first_part false ∷ later_part (l ∷ ls) ∷ []) []
  delivered-both label at l ls = good_delivered (shown false leaves) (leaf_faults p leaves) id label (person n) (leaf_details (2 + length leaves + 1) (Some id) (l ∷ ls)) (v.Object (leaf_members p (l ∷ ls))) (leaf_faults p (l ∷ ls))

  failed-later : (label : Option (List ℕ)) (at : Spot) (l : Leaf) (ls : List Leaf) → [] ≡ ordered failure_cmp (delivery (forest_of label at true (l ∷ ls))).failures → ⊥
  failed-later label at l ls h =
      let one = failed_delivered (shown false leaves) (leaf_faults p leaves) id label (person n) (leaf_details (2 + length leaves + 1) (Some id) (l ∷ ls)) (leaf_faults p (l ∷ ls)) in
      some_ordered _ [] (h ∙ ap (λ (d : Delivery). ordered failure_cmp d.failures) one)

  -- ---- what is merged is a response to all leaves

  -- data and errors are those of a response to these leaves
  abbrev IsWhole : Value → List Fault → List Leaf → Type 0
  IsWhole value faults ls = SameFlat value (shown (some_bubble p ls) ls) × (kept value faults ≡ kept value (leaf_faults p ls))

  abbrev Errors : List Fault → List Part → Type 0
  Errors faults xs = faults ≡ ordered fault_cmp (flat_map (λ x. x.errors) xs)

  module _ (value : Value) (faults : List Fault) where
    kept-errors : (fs : List Fault) → faults ≡ ordered fault_cmp fs → kept value faults ≡ kept value fs
    kept-errors fs is = ap (kept value) is ∙ kept-ordered faults_total value fs

    bubbled : (ms : List Leaf) → some_bubble p leaves ≡ true → Marks value (of_parts (first_part true ∷ []) []) → Errors faults (first_part true ∷ []) → IsWhole value faults (leaves ++ ms)
    bubbled ms e marks errors =
        let same : SameFlat value (shown true leaves) = one_same value (shown true leaves) (leaf_faults p leaves) [] marks in
        let bubbles : some_bubble p (leaves ++ ms) ≡ true = bubble-append p leaves ms ∙ ap (λ b. b || some_bubble p ms) e in
        let unplaced = no_leaf value same in (
          subst (SameFlat value) (ap (λ b. shown b (leaves ++ ms)) (sym bubbles)) same,
          kept-errors (leaf_faults p leaves ++ []) errors ∙ (ap (kept value) (append-nil (leaf_faults p leaves)) ∙ (kept-none value p leaves unplaced ∙ sym (kept-none value p (leaves ++ ms) unplaced))),
        )

    stood : some_bubble p leaves ≡ false → Marks value (of_parts (first_part false ∷ []) []) → Errors faults (first_part false ∷ []) → IsWhole value faults (leaves ++ [])
    stood e marks errors =
        let same : SameFlat value (shown false leaves) = one_same value (shown false leaves) (leaf_faults p leaves) [] marks in
        subst (IsWhole value faults) (sym (append-nil leaves)) (
          subst (SameFlat value) (ap (λ b. shown b leaves) (sym e)) same,
          kept-errors (leaf_faults p leaves ++ []) errors ∙ ap (kept value) (append-nil (leaf_faults p leaves)),
        )

    joined : (ms : List Leaf) → some_bubble p leaves ≡ false → some_bubble p ms ≡ false → NamesApart (leaf_members p leaves) (leaf_members p ms) → Marks value (of_parts (first_part false ∷ later_part ms ∷ []) []) → Errors faults (first_part false ∷ later_part ms ∷ []) → IsWhole value faults (leaves ++ ms)
    joined ms e f apart marks errors =
        let same = two_same value (leaf_members p leaves) (leaf_members p ms) (leaf_faults p leaves) (leaf_faults p ms) [] apart marks in
        let stands : some_bubble p (leaves ++ ms) ≡ false = bubble-append p leaves ms ∙ (ap (λ b. b || some_bubble p ms) e ∙ f) in
        let value_is = ap (λ (xs : Members). hero_object (v.Object xs)) (sym (map-append (leaf_member p) leaves ms)) ∙ ap (λ b. shown b (leaves ++ ms)) (sym stands) in
        let faults_are = ap (λ (fs : List Fault). leaf_faults p leaves ++ fs) (append-nil (leaf_faults p ms)) ∙ sym (faults-append p leaves ms) in
        (subst (SameFlat value) value_is same, kept-errors (leaf_faults p leaves ++ (leaf_faults p ms ++ [])) errors ∙ ap (kept value) faults_are)

    later_by : (label : Option (List ℕ)) (at : Spot) (l : Leaf) (ls : List Leaf) (b : Bool) → some_bubble p leaves ≡ false → some_bubble p (l ∷ ls) ≡ b → NamesApart (leaf_members p leaves) (leaf_members p (l ∷ ls)) → IsMerged (forest_of label at b (l ∷ ls)) value faults [] → IsWhole value faults (leaves ++ l ∷ ls)
    later_by label at l ls true e f apart merged = absurd (failed-later label at l ls merged.failures)
    later_by label at l ls false e f apart merged =
        let is = delivered-both label at l ls in
        joined (l ∷ ls) e f apart (subst (Marks value) is merged.marks) (merged.errors ∙ ap (λ (d : Delivery). ordered fault_cmp (flat_map (λ x. x.errors) d.parts)) is)

    waiting_by : (label : Option (List ℕ)) (at : Spot) (ls : List Leaf) → some_bubble p leaves ≡ false → EachOnce (document spot hero leaves (waits label at ls)) → IsMerged (forest_of label at (some_bubble p ls) ls) value faults [] → IsWhole value faults (leaves ++ ls)
    waiting_by label at [] e once merged = stood e merged.marks merged.errors
    waiting_by label at (l ∷ ls) e once merged = later_by label at l ls (some_bubble p (l ∷ ls)) e refl (NamesApart-leaves p leaves (l ∷ ls) once) merged

    merged_by : (b : Bool) (o : Option Deferred) → some_bubble p leaves ≡ b → EachOnce (document spot hero leaves o) → IsMerged (forest_by t spot hero leaves n p is b o) value faults [] → IsWhole value faults (leaves ++ deferred_leaves_of o)
    merged_by true o e once merged = bubbled (deferred_leaves_of o) e merged.marks merged.errors
    merged_by false None e once merged = stood e merged.marks merged.errors
    merged_by false (Some def) e once merged = waiting_by def.label def.spot def.leaves e once merged

-- ---- every hero

alone_plain : (f : Forest) (r : RegionResult) (fs : List Fault) (value : Value) (faults : List Fault) → f ≡ grown (null_region fs) none → r ≡ null_region fs → IsMerged f value faults [] → IsOfRegion value faults r
alone_plain f r fs value faults is same merged =
    let alone = subst (λ (g : Forest). IsMerged g value faults []) is merged in
    subst (IsOfRegion value faults) (sym same) (
      one_same value (hero_object v.Null) fs [] alone.marks,
      ap (kept value) alone.errors ∙ (kept-ordered faults_total value (fs ++ []) ∙ ap (kept value) (append-nil fs)),
    )

plain_cell : (t : HeroTables) (d : HeroDocument) (c : HeroCell) → t.hero ≡ c → EachOnce d → RefStands t → (value : Value) (faults : List Fault) → IsMerged (forest (service t) (nodes_of d) query) value faults [] → IsOfRegion value faults (plain (service t) (nodes_of d) query)
plain_cell t d hero_cells.Null is once there value faults merged = alone_plain _ _ [] value faults (forest-null t d is) (plain-null t d is) merged
plain_cell t d (hero_cells.Error m) is once there value faults merged = alone_plain _ _ (fault_at d.hero m hero_path ∷ []) value faults (forest-error t d m is) (plain-error t d m is) merged
plain_cell t d (hero_cells.Ref n) is once there value faults merged =
    let found = person_at t.persons n (there n is) in
    let p = found.0 in
    let grown_is = forest-person t d n p found.1 is once in
    subst (IsOfRegion value faults) (sym (plain-person t d n p found.1 is once))
    (merged_by t d.spot d.hero d.leaves n p found.1 value faults (some_bubble p d.leaves) d.deferred refl once (subst (λ (g : Forest). IsMerged g value faults []) grown_is merged))

-- where nothing failed, what is merged is the response of plain execution
pub merged_is_plain : (t : HeroTables) (d : HeroDocument) → EachOnce d → RefStands t → (value : Value) (faults : List Fault) → IsMerged (forest (service t) (nodes_of d) query) value faults [] → (let r = plain (service t) (nodes_of d) query in SameFlat value (outcome_value r.outcome) × (kept value faults ≡ kept (outcome_value r.outcome) r.faults))
merged_is_plain t d once there value faults merged =
    let r = plain (service t) (nodes_of d) query in
    let same = plain_cell t d t.hero refl once there value faults merged in
    (same.0, same.1 ∙ kept-same value (outcome_value r.outcome) r.faults same.0)
