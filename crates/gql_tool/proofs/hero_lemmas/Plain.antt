-- The plain execution of a document of heroes: one object of all its leaves.
use Rattle.std.proofs.Common.{◌≡◌, refl, sym, ap, ◌∙◌, ℕ, suc, ◌+◌, true, false, not, List, [], ◌∷◌, ◌++◌, map, length, Option, Some, None, arith}
use Rattle.std.specs.Prelude.{slice_get, filter, flat_map, zip, codes}
use Rattle.std.specs.List.{range_with_len}
use Rattle.std.proofs.lemmas.List.{length-map}
use Rattle.std.proofs.lemmas.Grind.{flat_map-append}
use Rattle.gql_tree.specs.declared.Key.{Key}
use Rattle.gql_tree.specs.declared.Spot.{Spot}
use Rattle.gql_tree.specs.declared.Row.{Row}
use Rattle.gql_tree.specs.declared.FragId.{FragId}
use Rattle.gql_tree.specs.declared.Frag.{Frag}
use Rattle.gql_tree.specs.declared.Group.{Group}
use Rattle.gql_tree.specs.declared.Detail.{Detail}
use Rattle.gql_tree.specs.declared.Occurrence.{Occurrence}
use Rattle.gql_tree.specs.declared.Named.{Named}
use Rattle.gql_tree.specs.declared.Value.{Value}
use Rattle.gql_tree.specs.declared.Value.TheVariants as v
use Rattle.gql_tree.specs.declared.RegionResult.{RegionResult}
use Rattle.gql_tree.specs.Keys.{same_lists, same_fragment}
use Rattle.gql_model.specs.declared.Node.{Node}
use Rattle.gql_model.specs.declared.NodeKind.TheVariants.{Field, Fragment}
use Rattle.gql_model.specs.Lists.{gathered}
use Rattle.gql_model.specs.UsedType.{named}
use Rattle.gql_model.specs.World.{World, Cell}
use Rattle.gql_model.specs.Collect.{Met, met, met_child, met_below, children_of, merged, occurrences, fragments}
use Rattle.gql_model.specs.Owners.{owners}
use Rattle.gql_model.specs.Complete.{Part, Found, bubble, good, no_found, value_in, with_parts, whole, soft, complete, fault_at}
use Rattle.gql_model.specs.Objects.{stream_at, object_value, field_part, object_part, groups_at, is_own}
use Rattle.gql_model.specs.Region.{region_of, initial_region}
use Rattle.gql_model.specs.Plain.{undeferred, plain}
use Rattle.gql_tool.specs.declared.hero.shape.Leaf.{Leaf}
use Rattle.gql_tool.specs.declared.hero.shape.Deferred.{Deferred}
use Rattle.gql_tool.specs.declared.hero.shape.HeroDocument.{HeroDocument}
use Rattle.gql_tool.specs.declared.hero.tables.Person.{Person}
use Rattle.gql_tool.specs.declared.hero.tables.HeroTables.{HeroTables}
use Rattle.gql_tool.specs.declared.hero.tables.HeroCell.{HeroCell}
use Rattle.gql_tool.specs.declared.hero.tables.HeroCell.TheVariants as hero_cells
use Rattle.gql_tool.specs.hero.HeroTables.{hero_row}
use Rattle.gql_tool.specs.hero.Shape.{deferred_leaves_of}
use Rattle.gql_tool.specs.hero.Operation.{name_of, leaf_node, deferred_nodes, nodes_of}
use Rattle.gql_tool.specs.hero.Service.{service, query}
use Rattle.gql_tool.specs.hero.Hero.{hero_path, leaf_part, leaf_parts, leaf_member, leaf_members, leaf_faults, some_bubble, EachOnce}
use Rattle.gql_tool.proofs.hero_lemmas.Fields.{Placed, placed, placed_by, leaf_mets, leaf_pairs, leaf_details, met_child-leaves, occurrences-leaves, fragments-leaves, merged-leaves, append-nil}
use Rattle.gql_tool.proofs.hero_lemmas.Met.{document, nodes, hero_occurrence}
use Rattle.gql_tool.proofs.hero_lemmas.Once.{KeysApart-leaves}
use Rattle.gql_tool.proofs.hero_lemmas.Leaf.{field_part-leaf}
use Rattle.gql_tool.proofs.hero_lemmas.Region.{person, leaves_part, with_parts-leaves, field_parts-leaves, root_part, root_region, initial_region-person, person_region}
use Rattle.gql_tool.proofs.hero_lemmas.Forests.{null_region, with_hero}

-- ---- nodes

plain_leaves : (k : ℕ) (ls : List Leaf) → map undeferred (map (leaf_node k) ls) ≡ map (leaf_node k) ls
plain_leaves k [] = refl
plain_leaves k (l ∷ ls) = ap (λ ns. leaf_node k l ∷ ns) (plain_leaves k ls)

pub map-append : {A B : Type 0} (f : A → B) (xs ys : List A) → map f (xs ++ ys) ≡ map f xs ++ map f ys
map-append f [] ys = refl
map-append f (x ∷ xs) ys = ap (λ zs. f x ∷ zs) (map-append f xs ys)

-- ---- the fields of two lists of leaves that nothing waits for

abbrev details : ℕ → ℕ → List Leaf → List Leaf → List Detail
details k j ls ms = leaf_details k None ls ++ leaf_details j None ms

abbrev detail : ℕ → Leaf → Detail
detail k l = record { key = name_of l.name; nodes = record { node = k; tag = None } ∷ [] }

module _ (ns : List Node) where
  own-details : (k j : ℕ) (ls ms : List Leaf) → filter (is_own ns []) (details k j ls ms) ≡ details k j ls ms
  own-details k j [] [] = refl
  own-details k j [] (m ∷ ms) = ap (λ ds. detail j m ∷ ds) (own-details k (j + 1) [] ms)
  own-details k j (l ∷ ls) ms = ap (λ ds. detail k l ∷ ds) (own-details (k + 1) j ls ms)

  others-details : (k j : ℕ) (ls ms : List Leaf) → filter (λ d. not (is_own ns [] d)) (details k j ls ms) ≡ []
  others-details k j [] [] = refl
  others-details k j [] (m ∷ ms) = others-details k (j + 1) [] ms
  others-details k j (l ∷ ls) ms = others-details (k + 1) j ls ms

  groups-details : (row : Row) (k j : ℕ) (ls ms : List Leaf) → groups_at ns [] row hero_path (details k j ls ms) ≡ []
  groups-details row k j ls ms =
      let group : List FragId × List Detail → Group = λ g. record { owners = g.0; path = record { keys = hero_path }; row = row; fields = g.1 } in
      ap (λ (xs : List Detail). map group (gathered (same_lists same_fragment) (map {A = Detail} {B = List FragId × Detail} (λ d. (owners ns d.nodes, d)) xs))) (others-details k j ls ms)

-- they complete to the parts of all leaves
module _ (t : HeroTables) (ns : List Node) (object : List Occurrence → Row → List Key → Part) (n : ℕ) (p : Person) (is : slice_get t.persons n ≡ Some p) where
  abbrev part_of : Detail → Part
  part_of d = field_part (service t) ns (object d.nodes) (person n) hero_path d

  parts-details : (q k j : ℕ) (ls ms : List Leaf) → Placed ns k (map (leaf_node 1) ls) → Placed ns j (map (leaf_node q) ms) → map part_of (details k j ls ms) ≡ leaf_parts p (ls ++ ms)
  parts-details q k j [] ms h g = field_parts-leaves t ns object n p q j None ms is g
  parts-details q k j (l ∷ ls) ms h g =
      ap (λ (x : Part). x ∷ map part_of (details (k + 1) j ls ms)) (field_part-leaf t ns (object (detail k l).nodes) n p 1 l (detail k l) is refl h.0)
      ∙ ap (λ (xs : List Part). leaf_part p l ∷ xs) (parts-details q (k + 1) j ls ms h.1 g)

module _ (p : Person) where
  abbrev members_of : List Detail → List Value → List (Named Value)
  members_of ds xs = map (λ m. record { name = (m.0).key; value = m.1 }) (zip ds xs)

  members-details : (k j : ℕ) (ls ms : List Leaf) → members_of (details k j ls ms) (map value_in (leaf_parts p (ls ++ ms))) ≡ leaf_members p (ls ++ ms)
  members-details k j [] [] = refl
  members-details k j [] (m ∷ ms) = ap (λ xs. leaf_member p m ∷ xs) (members-details k (j + 1) [] ms)
  members-details k j (l ∷ ls) ms = ap (λ xs. leaf_member p l ∷ xs) (members-details (k + 1) j ls ms)

  whole-details : (k j : ℕ) (ls ms : List Leaf) → whole (object_value (details k j ls ms)) no_found (leaf_parts p (ls ++ ms)) ≡ leaves_part p no_found (ls ++ ms)
  whole-details k j ls ms =
      let all = ls ++ ms in
      let make : Value → Found → Part = λ x g. record { result = elim (some_bubble p all) [ true ↦ bubble | false ↦ good x g ]; faults = leaf_faults p all } in
      ap (λ (xs : List (Named Value)). make (v.Object xs) (with_parts no_found (leaf_parts p all))) (members-details k j ls ms) ∙ ap (make (v.Object (leaf_members p all))) (with_parts-leaves no_found p all)

-- ---- the object of the hero

module _ (t : HeroTables) (spot hero : Spot) (leaves : List Leaf) (n : ℕ) (p : Person) (is : slice_get t.persons n ≡ Some p) (def : Deferred) where
  abbrev w : World
  w = service t

  abbrev count : ℕ
  count = length leaves

  abbrev behind : ℕ
  behind = 2 + count + 1

  abbrev all : List Leaf
  all = leaves ++ def.leaves

  -- the fragment, which waits no more
  abbrev fragment_node : Node
  fragment_node = record { kind = Fragment None None; parent = 1; children = range_with_len behind (length def.leaves); spot = def.spot }

  abbrev operation_node : Node
  operation_node = record { kind = Fragment None None; parent = 0; children = 1 ∷ []; spot = spot }

  abbrev hero_node : Node
  hero_node = record { kind = Field (codes "hero") (codes "hero") [] None; parent = 0; children = range_with_len 2 count ++ (2 + count) ∷ []; spot = hero }

  abbrev fragment_nodes : List Node
  fragment_nodes = fragment_node ∷ map (leaf_node (2 + count)) def.leaves

  abbrev ns : List Node
  ns = operation_node ∷ hero_node ∷ map (leaf_node 1) leaves ++ fragment_nodes

  ns-undeferred : map undeferred (nodes spot hero leaves (Some def)) ≡ ns
  ns-undeferred =
      let front : List Node → List Node = λ xs. operation_node ∷ hero_node ∷ xs in
      ap front (map-append undeferred (map (leaf_node 1) leaves) (deferred_nodes (2 + count) (Some def)))
      ∙ (ap (λ xs. front (xs ++ (fragment_node ∷ map undeferred (map (leaf_node (2 + count)) def.leaves)))) (plain_leaves 1 leaves)
      ∙ ap (λ xs. front (map (leaf_node 1) leaves ++ fragment_node ∷ xs)) (plain_leaves (2 + count) def.leaves))

  leaves-placed : Placed ns 2 (map (leaf_node 1) leaves)
  leaves-placed = placed (operation_node ∷ hero_node ∷ []) (map (leaf_node 1) leaves) fragment_nodes

  fragment-placed : Placed ns (2 + count) fragment_nodes
  fragment-placed =
      let front = operation_node ∷ hero_node ∷ map (leaf_node 1) leaves in
      let same : length (map (leaf_node 1) leaves) ≡ count = length-map leaves (leaf_node 1) in
      let at : 2 + count ≡ length front = omega (arith, same) in
      placed_by front fragment_nodes [] ns (2 + count) (ap (λ xs. front ++ xs) (sym (append-nil fragment_nodes))) at

  -- ---- what collecting meets

  abbrev mets : List Met
  mets = met w ns 1 hero_path hero_occurrence

  abbrev more : ℕ
  more = length (map (leaf_node 1) leaves ++ fragment_nodes)

  abbrev below : ℕ → Option FragId → ℕ → List Met
  below deep = met_below w ns 1 hero_path deep

  abbrev child : (Option FragId → ℕ → List Met) → ℕ → List Met
  child inner c = met_child w ns 1 hero_path inner None c (slice_get ns c)

  child-fragment : child (below (suc more)) (2 + count) ≡ leaf_mets behind None def.leaves
  child-fragment =
      ap (λ o. met_child w ns 1 hero_path (below (suc more)) None (2 + count) o) fragment-placed.0
      ∙ (ap (λ o. flat_map (child (below more)) (children_of o)) fragment-placed.0
      ∙ met_child-leaves w ns 1 hero_path (below more) (2 + count) behind None def.leaves fragment-placed.1)

  mets-leaves : mets ≡ leaf_mets 2 None leaves ++ leaf_mets behind None def.leaves
  mets-leaves =
      let f = child (below (suc more)) in
      append-nil _
      ∙ (flat_map-append f (range_with_len 2 count) ((2 + count) ∷ [])
      ∙ (ap (λ ms. ms ++ (f (2 + count) ++ [])) (met_child-leaves w ns 1 hero_path (below (suc more)) 1 2 None leaves leaves-placed)
      ∙ ap (λ ms. leaf_mets 2 None leaves ++ ms) (append-nil (f (2 + count)) ∙ child-fragment)))

  occurrences-all : occurrences mets ≡ leaf_pairs 2 None leaves ++ leaf_pairs behind None def.leaves
  occurrences-all =
      let rest : occurrences (leaf_mets behind None def.leaves) ≡ leaf_pairs behind None def.leaves =
      ap occurrences (sym (append-nil (leaf_mets behind None def.leaves))) ∙ (occurrences-leaves behind None def.leaves [] ∙ append-nil (leaf_pairs behind None def.leaves)) in
      ap occurrences mets-leaves ∙ (occurrences-leaves 2 None leaves (leaf_mets behind None def.leaves) ∙ ap (λ ps. leaf_pairs 2 None leaves ++ ps) rest)

  fragments-none : fragments mets ≡ []
  fragments-none =
      let rest : fragments (leaf_mets behind None def.leaves) ≡ [] =
      ap fragments (sym (append-nil (leaf_mets behind None def.leaves))) ∙ fragments-leaves behind None def.leaves [] in
      ap fragments mets-leaves ∙ (fragments-leaves 2 None leaves (leaf_mets behind None def.leaves) ∙ rest)

  -- ---- the object

  object : (deep : ℕ) → EachOnce (document spot hero leaves (Some def)) → object_part w ns (suc deep) [] (person n) hero_occurrence hero_path ≡ leaves_part p no_found all
  object deep once =
      let inner : List Occurrence → Row → List Key → Part = λ os r q. object_part w ns deep [] r os q in
      let shape : List Detail → Found → Part = λ xs g. whole (object_value xs) g (map (λ d. field_part w ns (inner d.nodes) (person n) hero_path d) xs) in
      let ds = details 2 behind leaves def.leaves in
      let merge : merged mets ≡ ds = merged-leaves 2 behind None None leaves def.leaves mets occurrences-all (KeysApart-leaves 2 behind None None leaves def.leaves once) in
      let g : List Detail → Found = λ xs. record { fragments = fragments mets; groups = groups_at ns [] (person n) hero_path xs; streams = [] } in
      let found : List Frag → List Group → Found = λ fs gs. record { fragments = fs; groups = gs; streams = [] } in
      let found_is : g ds ≡ no_found = ap (λ fs. found fs (groups_at ns [] (person n) hero_path ds)) fragments-none ∙ ap (found []) (groups-details ns (person n) 2 behind leaves def.leaves) in
      ap (λ (xs : List Detail). shape (filter (is_own ns []) xs) (g xs)) merge
      ∙ (ap (λ (xs : List Detail). shape xs (g ds)) (own-details ns 2 behind leaves def.leaves)
      ∙ (ap (shape ds) found_is
      ∙ (ap (λ (ps : List Part). whole (object_value ds) no_found ps) (parts-details t ns inner n p is (2 + count) 2 behind leaves def.leaves leaves-placed fragment-placed.1)
      ∙ whole-details p 2 behind leaves def.leaves)))

  -- ---- the response

  abbrev hero_detail : Detail
  hero_detail = record { key = codes "hero"; nodes = hero_occurrence }

  abbrev hero_part : Cell → Part
  hero_part c = complete hero (λ r q. object_part w ns (length ns) [] r hero_occurrence q) (stream_at query hero_detail None) (named 1) None c hero_path

  abbrev root : Part → RegionResult
  root x = region_of (root_part t spot hero all n p is x)

  region-all : EachOnce (document spot hero leaves (Some def)) → t.hero ≡ hero_cells.Ref n → initial_region w ns query ≡ person_region t spot hero all n p is None
  region-all once ref =
      ap (λ (c : HeroCell). root (hero_part (hero_row c))) ref
      ∙ (ap (λ (x : Part). root (soft x)) (object (suc more) once)
      ∙ root_region t spot hero all n p is None (some_bubble p all) (leaf_faults p all))

-- ---- every hero

module _ (t : HeroTables) (spot hero : Spot) (leaves : List Leaf) (n : ℕ) (p : Person) (is : slice_get t.persons n ≡ Some p) where
  abbrev plain_region : List Leaf → RegionResult
  plain_region ls = person_region t spot hero ls n p is None

  unchanged : map undeferred (nodes spot hero leaves None) ≡ nodes spot hero leaves None
  unchanged =
      let operation : Node = record { kind = Fragment None None; parent = 0; children = 1 ∷ []; spot = spot } in
      let field : Node = record { kind = Field (codes "hero") (codes "hero") [] None; parent = 0; children = range_with_len 2 (length leaves) ++ []; spot = hero } in
      ap (λ xs. operation ∷ field ∷ xs) (map-append undeferred (map (leaf_node 1) leaves) [] ∙ ap (λ xs. xs ++ []) (plain_leaves 1 leaves))

  plain-of : (o : Option Deferred) → EachOnce (document spot hero leaves o) → t.hero ≡ hero_cells.Ref n → plain (service t) (nodes spot hero leaves o) query ≡ plain_region (leaves ++ deferred_leaves_of o)
  plain-of None once ref = ap (λ ns. initial_region (service t) ns query) unchanged ∙ (initial_region-person t spot hero leaves n p is None once ref ∙ ap plain_region (sym (append-nil leaves)))
  plain-of (Some def) once ref = ap (λ ns. initial_region (service t) ns query) (ns-undeferred t spot hero leaves n p is def) ∙ region-all t spot hero leaves n p is def once ref

-- a hero that is a person
pub plain-person : (t : HeroTables) (d : HeroDocument) (n : ℕ) (p : Person) (is : slice_get t.persons n ≡ Some p) → t.hero ≡ hero_cells.Ref n → EachOnce d → plain (service t) (nodes_of d) query ≡ person_region t d.spot d.hero (d.leaves ++ deferred_leaves_of d.deferred) n p is None
plain-person t d n p is ref once = plain-of t d.spot d.hero d.leaves n p is d.deferred once ref

-- a hero that is null or an error
pub plain-null : (t : HeroTables) (d : HeroDocument) → t.hero ≡ hero_cells.Null → plain (service t) (nodes_of d) query ≡ null_region []
plain-null t d is = ap (λ c. plain (service (with_hero t c)) (nodes_of d) query) is

pub plain-error : (t : HeroTables) (d : HeroDocument) (m : List ℕ) → t.hero ≡ hero_cells.Error m → plain (service t) (nodes_of d) query ≡ null_region (fault_at d.hero m hero_path ∷ [])
plain-error t d m is = ap (λ c. plain (service (with_hero t c)) (nodes_of d) query) is
