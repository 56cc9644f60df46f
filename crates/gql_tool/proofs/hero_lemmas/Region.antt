-- The regions of a document of heroes, by its leaves.
use Rattle.std.proofs.Common.{◌≡◌, refl, sym, ap, ◌∙◌, ℕ, suc, ◌+◌, ◌≤◌, Bool, true, false, not, List, [], ◌∷◌, ◌++◌, map, length, Option, Some, None}
use Rattle.std.specs.Prelude.{slice_get, filter, flat_map, zip, codes}
use Rattle.gql_tree.specs.declared.Key.{Key}
use Rattle.gql_tree.specs.declared.Spot.{Spot}
use Rattle.gql_tree.specs.declared.Row.{Row}
use Rattle.gql_tree.specs.Order.{group_cmp, stream_cmp}
use Rattle.gql_tree.specs.Ordered.{ordered}
use Rattle.gql_tree.specs.declared.Fault.{Fault}
use Rattle.gql_tree.specs.declared.FragId.{FragId}
use Rattle.gql_tree.specs.declared.Frag.{Frag}
use Rattle.gql_tree.specs.declared.Group.{Group}
use Rattle.gql_tree.specs.declared.Stream.{Stream}
use Rattle.gql_tree.specs.declared.Detail.{Detail}
use Rattle.gql_tree.specs.declared.Occurrence.{Occurrence}
use Rattle.gql_tree.specs.declared.Value.{Value}
use Rattle.gql_tree.specs.declared.Value.TheVariants as v
use Rattle.gql_tree.specs.declared.Outcome.TheVariants.{Good}
use Rattle.gql_tree.specs.declared.RegionResult.{RegionResult}
use Rattle.gql_model.specs.declared.Node.{Node}
use Rattle.gql_model.specs.UsedType.{named}
use Rattle.gql_model.specs.World.{World, Cell}
use Rattle.gql_model.specs.Collect.{Met, met, merged, fragments}
use Rattle.gql_model.specs.Complete.{Part, Found, bubble, good, no_found, value_in, found_in, with_parts, whole, soft, complete}
use Rattle.gql_model.specs.Objects.{stream_at, object_value, field_part, object_part, object_at, object_from, groups_at, is_own}
use Rattle.gql_model.specs.Region.{region_of, failed, initial_region, group_region}
use Rattle.gql_tool.specs.declared.hero.shape.Leaf.{Leaf}
use Rattle.gql_tool.specs.declared.hero.shape.Deferred.{Deferred}
use Rattle.gql_tool.specs.declared.hero.tables.LeafCell.{LeafCell}
use Rattle.gql_tool.specs.declared.hero.tables.LeafCell.TheVariants.{Null, Int, Text, Error}
use Rattle.gql_tool.specs.declared.hero.tables.Person.{Person}
use Rattle.gql_tool.specs.declared.hero.tables.HeroTables.{HeroTables}
use Rattle.gql_tool.specs.declared.hero.tables.HeroCell.{HeroCell}
use Rattle.gql_tool.specs.declared.hero.tables.HeroCell.TheVariants as hero_cells
use Rattle.gql_tool.specs.hero.HeroTables.{hero_row}
use Rattle.gql_tool.specs.hero.Shape.{times, deferred_leaves_of}
use Rattle.gql_tool.specs.hero.Operation.{leaf_node, name_of, deferred_nodes}
use Rattle.gql_tool.specs.hero.Service.{service, query}
use Rattle.gql_tool.specs.hero.Hero.{hero_path, is_required, cell_under, cell_part, leaf_part, leaf_member, leaf_parts, leaf_members, leaf_faults, some_bubble}
use Rattle.gql_tool.proofs.hero_lemmas.Leaf.{field_part-leaf}
use Rattle.gql_tool.proofs.hero_lemmas.Fields.{Placed, leaf_details, merged-leaves, append-nil}
use Rattle.gql_tool.proofs.hero_lemmas.Met.{nodes, fragment_id, fragment_in, hero_occurrence, leaves-placed, deferred_leaves-placed, occurrences-None, occurrences-Some, fragments-None, fragments-Some, is_above-self}
use Rattle.gql_tool.proofs.hero_lemmas.Once.{KeysApart-leaves}
use Rattle.gql_tool.proofs.hero_lemmas.Groups.{filter-own, groups_at-waiting, groups_at-none}

abbrev pub person : ℕ → Row
person n = record { kind = 1; number = n }

-- ---- leaves

-- the leaves' fields by their nodes
pub field_parts-leaves : (t : HeroTables) (ns : List Node) (object : List Occurrence → Row → List Key → Part) (n : ℕ) (p : Person) (parent k : ℕ) (tag : Option FragId) (ls : List Leaf) → slice_get t.persons n ≡ Some p → Placed ns k (map (leaf_node parent) ls) → map (λ d. field_part (service t) ns (object d.nodes) (person n) hero_path d) (leaf_details k tag ls) ≡ leaf_parts p ls
field_parts-leaves t ns object n p parent k tag [] is h = refl
field_parts-leaves t ns object n p parent k tag (l ∷ ls) is h =
    let d : Detail = record { key = name_of l.name; nodes = record { node = k; tag = tag } ∷ [] } in
    let here = field_part-leaf t ns (object d.nodes) n p parent l d is refl h.0 in
    let rest = field_parts-leaves t ns object n p parent (k + 1) tag ls is h.1 in
    ap (λ (x : Part). x ∷ map (λ d. field_part (service t) ns (object d.nodes) (person n) hero_path d) (leaf_details (k + 1) tag ls)) here
    ∙ ap (λ (xs : List Part). leaf_part p l ∷ xs) rest

object_value-leaves : (p : Person) (k : ℕ) (tag : Option FragId) (ls : List Leaf) → object_value (leaf_details k tag ls) (map value_in (leaf_parts p ls)) ≡ v.Object (leaf_members p ls)
object_value-leaves p k tag ls = ap v.Object (members k ls)
  where
    members : (k : ℕ) (ls : List Leaf) → map (λ m. record { name = (m.0).key; value = m.1 }) (zip (leaf_details k tag ls) (map value_in (leaf_parts p ls))) ≡ leaf_members p ls
    members k [] = refl
    members k (l ∷ ls) = ap (λ ms. leaf_member p l ∷ ms) (members (k + 1) ls)

found_in-cell : (required : Bool) (spot : Spot) (path : List Key) (c : LeafCell) → found_in (cell_part required spot path c) ≡ no_found
found_in-cell true spot path Null = refl
found_in-cell false spot path Null = refl
found_in-cell required spot path (Int n) = refl
found_in-cell required spot path (Text t) = refl
found_in-cell true spot path (Error m) = refl
found_in-cell false spot path (Error m) = refl

nothing_found : {A : Type 0} (g : Found → List A) → g no_found ≡ [] → (p : Person) (ls : List Leaf) → flat_map (λ x. g (found_in x)) (leaf_parts p ls) ≡ []
nothing_found g none p [] = refl
nothing_found g none p (l ∷ ls) = rw (found_in-cell (is_required l.name) l.spot (Rattle.gql_tool.specs.hero.Hero.leaf_path l.name) (cell_under p l.name), none, nothing_found g none p ls) refl

pub with_parts-leaves : (f : Found) (p : Person) (ls : List Leaf) → with_parts f (leaf_parts p ls) ≡ f
with_parts-leaves f p ls =
    rw (nothing_found (λ x. x.fragments) refl p ls, nothing_found (λ x. x.groups) refl p ls, nothing_found (λ x. x.streams) refl p ls)
    (rw (append-nil f.fragments, append-nil f.groups, append-nil f.streams) refl)

-- an object of leaves
abbrev pub leaves_part : Person → Found → List Leaf → Part
leaves_part p f ls = record { result = elim (some_bubble p ls) [ true ↦ bubble | false ↦ good (v.Object (leaf_members p ls)) f ]; faults = leaf_faults p ls }

whole-leaves : (p : Person) (k : ℕ) (tag : Option FragId) (f : Found) (ls : List Leaf) → whole (object_value (leaf_details k tag ls)) f (leaf_parts p ls) ≡ leaves_part p f ls
whole-leaves p k tag f ls =
    let make : Value → Found → Part = λ x g. record { result = elim (some_bubble p ls) [ true ↦ bubble | false ↦ good x g ]; faults = leaf_faults p ls } in
    ap (λ x. make x (with_parts f (leaf_parts p ls))) (object_value-leaves p k tag ls) ∙ ap (make (v.Object (leaf_members p ls))) (with_parts-leaves f p ls)

-- ---- the object of the hero

module _ (t : HeroTables) (spot hero : Spot) (leaves : List Leaf) (n : ℕ) (p : Person) (is : slice_get t.persons n ≡ Some p) where
  abbrev ns : Option Deferred → List Node
  ns = nodes spot hero leaves

  abbrev count : ℕ
  count = length leaves

  -- where the deferred leaves stand, and the fragment that they wait for
  abbrev pub behind : ℕ
  behind = 2 + count + 1

  abbrev pub fragment : FragId
  fragment = fragment_id count

  abbrev pub groups_of : List Leaf → List Group
  groups_of [] = []
  groups_of (m ∷ ms) = record { owners = fragment ∷ []; path = record { keys = hero_path }; row = person n; fields = leaf_details behind (Some fragment) (m ∷ ms) } ∷ []

  abbrev pub found_of : Option Deferred → Found
  found_of None = no_found
  found_of (Some def) = record { fragments = fragment_in count def ∷ []; groups = groups_of def.leaves; streams = [] }

  object_from-details : (o : Option Deferred) (deep : ℕ) (ms : List Met) (ds : List Detail) (f : Found) → merged ms ≡ ds → fragments ms ≡ f.fragments → groups_at (ns o) [] (person n) hero_path ds ≡ f.groups → f.streams ≡ [] → filter (is_own (ns o) []) ds ≡ leaf_details 2 None leaves
      → object_from (service t) (ns o) (object_part (service t) (ns o) deep []) [] (person n) hero_path ms ≡ leaves_part p f leaves
  object_from-details o deep ms ds f details frags groups streams own =
      let object : List Occurrence → Row → List Key → Part = λ os r q. object_part (service t) (ns o) deep [] r os q in
      let shape : List Detail → Found → Part = λ xs g. whole (object_value xs) g (map (λ d. field_part (service t) (ns o) (object d.nodes) (person n) hero_path d) xs) in
      let parts = field_parts-leaves t (ns o) object n p 1 2 None leaves is (leaves-placed spot hero leaves o) in
      let g : List Detail → Found = λ xs. record { fragments = fragments ms; groups = groups_at (ns o) [] (person n) hero_path xs; streams = [] } in
      let found : List Frag → List Group → List Stream → Found = λ fs gs ss. record { fragments = fs; groups = gs; streams = ss } in
      let found_is : g ds ≡ f = ap (λ fs. found fs (groups_at (ns o) [] (person n) hero_path ds) []) frags ∙ (ap (λ gs. found f.fragments gs []) groups ∙ ap (found f.fragments f.groups) (sym streams)) in
      ap (λ (xs : List Detail). shape (filter (is_own (ns o) []) xs) (g xs)) details
      ∙ (ap (λ (xs : List Detail). shape xs (g ds)) own
      ∙ (ap (shape (leaf_details 2 None leaves)) found_is
      ∙ (ap (λ (ps : List Part). whole (object_value (leaf_details 2 None leaves)) f ps) parts ∙ whole-leaves p 2 None f leaves)))

  abbrev EachOnce : Option Deferred → Type 0
  EachOnce o = (a : Rattle.gql_tool.specs.declared.hero.shape.LeafName.LeafName) → times a leaves + times a (deferred_leaves_of o) ≤ 1

  hero_object-None : (deep : ℕ) → EachOnce None → object_part (service t) (ns None) (suc deep) [] (person n) hero_occurrence hero_path ≡ leaves_part p no_found leaves
  hero_object-None deep once =
      let ms = met (service t) (ns None) 1 hero_path hero_occurrence in
      let merge = merged-leaves 2 0 None None leaves [] ms (occurrences-None spot hero leaves (service t)) (KeysApart-leaves 2 0 None None leaves [] once) in
      let ds = leaf_details 2 None leaves ++ [] in
      object_from-details None deep ms ds no_found merge (fragments-None spot hero leaves (service t)) (groups-none leaves 2) refl (own-none leaves 2)
    where
      own-none : (ls : List Leaf) (k : ℕ) → filter (is_own (ns None) []) (leaf_details k None ls ++ []) ≡ leaf_details k None ls
      own-none [] k = refl
      own-none (l ∷ ls) k = ap (λ ds. record { key = name_of l.name; nodes = record { node = k; tag = None } ∷ [] } ∷ ds) (own-none ls (k + 1))

      others-none : (ls : List Leaf) (k : ℕ) → filter (λ d. not (is_own (ns None) [] d)) (leaf_details k None ls ++ []) ≡ []
      others-none [] k = refl
      others-none (l ∷ ls) k = others-none ls (k + 1)

      groups-none : (ls : List Leaf) (k : ℕ) → groups_at (ns None) [] (person n) hero_path (leaf_details k None ls ++ []) ≡ []
      groups-none ls k = ap (λ (xs : List Detail). map {A = List FragId × List Detail} {B = Group} (λ g. record { owners = g.0; path = record { keys = hero_path }; row = person n; fields = g.1 }) (Rattle.gql_model.specs.Lists.gathered (Rattle.gql_tree.specs.Keys.same_lists Rattle.gql_tree.specs.Keys.same_fragment) (map {A = Detail} {B = List FragId × Detail} (λ d. (Rattle.gql_model.specs.Owners.owners (ns None) d.nodes, d)) xs))) (others-none ls k)

  hero_object-Some : (def : Deferred) (deep : ℕ) → EachOnce (Some def) → object_part (service t) (ns (Some def)) (suc deep) [] (person n) hero_occurrence hero_path ≡ leaves_part p (found_of (Some def)) leaves
  hero_object-Some def deep once =
      let o = Some def in
      let ms = met (service t) (ns o) 1 hero_path hero_occurrence in
      let tag = Some fragment in
      let merge = merged-leaves 2 behind None tag leaves def.leaves ms (occurrences-Some spot hero leaves (service t) def) (KeysApart-leaves 2 behind None tag leaves def.leaves once) in
      let above = is_above-self spot hero leaves def in
      let ds = leaf_details 2 None leaves ++ leaf_details behind tag def.leaves in
      object_from-details o deep ms ds (found_of o) merge (fragments-Some spot hero leaves (service t) def) (groups def.leaves above) refl (filter-own (ns o) count above 2 behind leaves def.leaves)
    where
      groups : (ls : List Leaf) → Rattle.gql_model.specs.Owners.is_above (ns (Some def)) (fragment_id count) (fragment_id count) ≡ false → groups_at (ns (Some def)) [] (person n) hero_path (leaf_details 2 None leaves ++ leaf_details behind (Some fragment) ls) ≡ groups_of ls
      groups [] above = groups_at-none (ns (Some def)) count above (person n) 2 behind leaves
      groups (m ∷ ms) above = groups_at-waiting (ns (Some def)) count above (person n) 2 behind leaves m ms

  pub hero_object : (o : Option Deferred) (deep : ℕ) → EachOnce o → object_part (service t) (ns o) (suc deep) [] (person n) hero_occurrence hero_path ≡ leaves_part p (found_of o) leaves
  hero_object None deep once = hero_object-None deep once
  hero_object (Some def) deep once = hero_object-Some def deep once

  -- ---- the regions

  abbrev pub hero_value : Bool → Value
  hero_value b = v.Object (record { name = codes "hero"; value = elim b [ true ↦ v.Null | false ↦ v.Object (leaf_members p leaves) ] } ∷ [])

  abbrev pub frags_in : Option Deferred → List Frag
  frags_in o = (found_of o).fragments

  abbrev pub unless : {A : Type 0} → Bool → List A → List A
  unless true xs = []
  unless false xs = xs

  -- a region whose hero is a person
  abbrev pub person_region : Option Deferred → RegionResult
  person_region o = record { outcome = Good (hero_value (some_bubble p leaves)); faults = leaf_faults p leaves; fragments = unless (some_bubble p leaves) (found_of o).fragments; groups = unless (some_bubble p leaves) (found_of o).groups; streams = [] }

  -- the region of a root whose one field gives this part
  abbrev pub root_part : Part → Part
  root_part x = whole (object_value (record { key = codes "hero"; nodes = hero_occurrence } ∷ [])) no_found (x ∷ [])

  ordered-groups : (o : Option Deferred) → ordered group_cmp ((found_of o).groups ++ []) ≡ (found_of o).groups
  ordered-groups None = refl
  ordered-groups (Some def) = by_leaves def.leaves
    where
      by_leaves : (ms : List Leaf) → ordered group_cmp (groups_of ms ++ []) ≡ groups_of ms
      by_leaves [] = refl
      by_leaves (m ∷ ms) = refl

  streams-none : (o : Option Deferred) → (found_of o).streams ≡ []
  streams-none None = refl
  streams-none (Some def) = refl

  pub root_region : (o : Option Deferred) (b : Bool) (fs : List Fault) → region_of (root_part (soft (record { result = elim b [ true ↦ bubble | false ↦ good (v.Object (leaf_members p leaves)) (found_of o) ]; faults = fs }))) ≡ record { outcome = Good (hero_value b); faults = fs; fragments = unless b (found_of o).fragments; groups = unless b (found_of o).groups; streams = [] }
  root_region o true fs = ap (λ (gs : List Fault). (let r : RegionResult = record { outcome = Good (hero_value true); faults = gs; fragments = []; groups = []; streams = [] } in r)) (append-nil fs)
  root_region o false fs =
      let make : List Fault → List Frag → List Group → List Stream → RegionResult = λ gs xs ys zs. record { outcome = Good (hero_value false); faults = gs; fragments = xs; groups = ys; streams = ordered stream_cmp zs } in
      ap (λ gs. make gs ((found_of o).fragments ++ []) (ordered group_cmp ((found_of o).groups ++ [])) ((found_of o).streams ++ [])) (append-nil fs)
      ∙ (ap (λ xs. make fs xs (ordered group_cmp ((found_of o).groups ++ [])) ((found_of o).streams ++ [])) (append-nil (found_of o).fragments)
      ∙ (ap (λ ys. make fs (found_of o).fragments ys ((found_of o).streams ++ [])) (ordered-groups o)
      ∙ ap (λ zs. make fs (found_of o).fragments (found_of o).groups (zs ++ [])) (streams-none o)))

  -- ---- the operation's regions

  abbrev w : World
  w = service t

  abbrev hero_detail : Detail
  hero_detail = record { key = codes "hero"; nodes = hero_occurrence }

  abbrev hero_part : Option Deferred → Cell → Part
  hero_part o c = complete hero (λ r q. object_part w (ns o) (length (ns o)) [] r hero_occurrence q) (stream_at query hero_detail None) (named 1) None c hero_path

  root_object : (o : Option Deferred) → object_at w (ns o) [] query (record { node = 0; tag = None } ∷ []) [] ≡ root_part (hero_part o (hero_row t.hero))
  root_object o = refl

  pub initial_region-person : (o : Option Deferred) → EachOnce o → t.hero ≡ hero_cells.Ref n → initial_region w (ns o) query ≡ person_region o
  initial_region-person o once ref =
      ap region_of (root_object o)
      ∙ (ap (λ (c : HeroCell). region_of (root_part (hero_part o (hero_row c)))) ref
      ∙ (ap (λ (x : Part). region_of (root_part (soft x))) (hero_object o (suc (length (map (leaf_node 1) leaves ++ deferred_nodes (2 + count) o))) once)
      ∙ root_region o (some_bubble p leaves) (leaf_faults p leaves)))

  -- the deferred leaves' region
  abbrev pub leaves_region_by : Bool → List Leaf → RegionResult
  leaves_region_by true ls = failed (leaf_faults p ls)
  leaves_region_by false ls = record { outcome = Good (v.Object (leaf_members p ls)); faults = leaf_faults p ls; fragments = []; groups = []; streams = [] }

  region_of-leaves : (b : Bool) (ls : List Leaf) → region_of (record { result = elim b [ true ↦ bubble | false ↦ good (v.Object (leaf_members p ls)) no_found ]; faults = leaf_faults p ls }) ≡ leaves_region_by b ls
  region_of-leaves true ls = refl
  region_of-leaves false ls = refl

  pub group_region-leaves : (def : Deferred) → group_region w (ns (Some def)) (record { owners = fragment ∷ []; path = record { keys = hero_path }; row = person n; fields = leaf_details behind (Some fragment) def.leaves }) ≡ leaves_region_by (some_bubble p def.leaves) def.leaves
  group_region-leaves def =
      let object : List Occurrence → Row → List Key → Part = λ os r q. object_at w (ns (Some def)) (fragment ∷ []) r os q in
      let parts = field_parts-leaves t (ns (Some def)) object n p (2 + count) behind (Some fragment) def.leaves is (deferred_leaves-placed spot hero leaves def) in
      ap (λ (ps : List Part). region_of (whole (object_value (leaf_details behind (Some fragment) def.leaves)) no_found ps)) parts
      ∙ (ap region_of (whole-leaves p behind (Some fragment) no_found def.leaves) ∙ region_of-leaves (some_bubble p def.leaves) def.leaves)
