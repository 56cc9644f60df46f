-- What collecting meets at the hero of a document.
use Rattle.std.proofs.Common.{◌≡◌, refl, sym, ap, ◌∙◌, ℕ, zero, suc, ◌+◌, false, List, [], ◌∷◌, ◌++◌, map, length, Option, Some, None, arith}
use Rattle.std.proofs.lemmas.List.{length-map}
use Rattle.std.specs.Prelude.{slice_get, flat_map, ◌==◌, codes}
use Rattle.std.specs.List.{range_with_len, list_any}
use Rattle.std.proofs.lemmas.Grind.{flat_map-append}
use Rattle.std.proofs.lemmas.Bool.Decides.{nat_tests}
use Rattle.gql_tree.specs.declared.Spot.{Spot}
use Rattle.gql_tree.specs.declared.FragId.{FragId}
use Rattle.gql_tree.specs.declared.Frag.{Frag}
use Rattle.gql_tree.specs.declared.Occurrence.{Occurrence}
use Rattle.gql_model.specs.declared.Node.{Node}
use Rattle.gql_model.specs.declared.NodeKind.TheVariants.{Field, Fragment}
use Rattle.gql_model.specs.World.{World}
use Rattle.gql_model.specs.Collect.{Met, field, deferred, met, met_below, met_child, occurrences, fragments}
use Rattle.gql_model.specs.Owners.{above, ancestors, is_above}
use Rattle.gql_tool.specs.declared.hero.shape.Leaf.{Leaf}
use Rattle.gql_tool.specs.declared.hero.shape.Deferred.{Deferred}
use Rattle.gql_tool.specs.declared.hero.shape.HeroDocument.{HeroDocument}
use Rattle.gql_tool.specs.hero.Operation.{leaf_node, nodes_of, deferred_nodes}
use Rattle.gql_tool.specs.hero.Hero.{hero_path}
use Rattle.gql_tool.proofs.hero_lemmas.Fields.{Placed, placed, placed_by, leaf_mets, leaf_pairs, met_child-leaves, occurrences-leaves, fragments-leaves, append-nil}

-- the deferred fragment of a document with so many leaves before it
abbrev pub fragment_id : ℕ → FragId
fragment_id leaves = record { place = 2 + leaves; path = record { keys = hero_path } }

abbrev pub fragment_in : ℕ → Deferred → Frag
fragment_in leaves def = record { id = fragment_id leaves; label = def.label; parent = None }

-- the hero's occurrence
abbrev pub hero_occurrence : List Occurrence
hero_occurrence = record { node = 1; tag = None } ∷ []

module _ (spot hero : Spot) (leaves : List Leaf) where
  abbrev pub document : Option Deferred → HeroDocument
  document o = record { spot = spot; hero = hero; leaves = leaves; deferred = o }

  abbrev pub nodes : Option Deferred → List Node
  nodes o = nodes_of (document o)

  abbrev fragment_node : Deferred → Node
  fragment_node def = record { kind = Fragment None (Some (record { label = def.label })); parent = 1; children = range_with_len (2 + length leaves + 1) (length def.leaves); spot = def.spot }

  abbrev operation_node : Node
  operation_node = record { kind = Fragment None None; parent = 0; children = 1 ∷ []; spot = spot }

  abbrev hero_node : Option Deferred → Node
  hero_node o = record { kind = Field (codes "hero") (codes "hero") [] None; parent = 0; children = range_with_len 2 (length leaves) ++ Rattle.gql_tool.specs.hero.Operation.deferred_numbers (2 + length leaves) o; spot = hero }

  pub leaves-placed : (o : Option Deferred) → Placed (nodes o) 2 (map (leaf_node 1) leaves)
  leaves-placed o = placed (operation_node ∷ hero_node o ∷ []) (map (leaf_node 1) leaves) (deferred_nodes (2 + length leaves) o)

  deferred-placed : (def : Deferred) → Placed (nodes (Some def)) (2 + length leaves) (fragment_node def ∷ map (leaf_node (2 + length leaves)) def.leaves)
  deferred-placed def =
      let front = operation_node ∷ hero_node (Some def) ∷ map (leaf_node 1) leaves in
      let back = fragment_node def ∷ map (leaf_node (2 + length leaves)) def.leaves in
      let same : length (map (leaf_node 1) leaves) ≡ length leaves = length-map leaves (leaf_node 1) in
      let at : 2 + length leaves ≡ length front = omega (arith, same) in
      placed_by front back [] (nodes (Some def)) (2 + length leaves) (ap (λ xs. front ++ xs) (sym (append-nil back))) at

  pub deferred_leaves-placed : (def : Deferred) → Placed (nodes (Some def)) (2 + length leaves + 1) (map (leaf_node (2 + length leaves)) def.leaves)
  deferred_leaves-placed def = (deferred-placed def).1

  fragment-placed : (def : Deferred) → slice_get (nodes (Some def)) (2 + length leaves) ≡ Some (fragment_node def)
  fragment-placed def = (deferred-placed def).0

  module _ (w : World) where
    abbrev mets : Option Deferred → List Met
    mets o = met w (nodes o) 1 hero_path hero_occurrence

    abbrev child : Option Deferred → (Option FragId → ℕ → List Met) → Option FragId → ℕ → List Met
    child o below tag c = met_child w (nodes o) 1 hero_path below tag c (slice_get (nodes o) c)

    -- how many nodes stand behind the first two
    abbrev more : Option Deferred → ℕ
    more o = length (map (leaf_node 1) leaves ++ deferred_nodes (2 + length leaves) o)

    abbrev below : Option Deferred → ℕ → Option FragId → ℕ → List Met
    below o deep = met_below w (nodes o) 1 hero_path deep

    mets-None : mets None ≡ leaf_mets 2 None leaves ++ []
    mets-None =
        let children = append-nil (range_with_len 2 (length leaves)) in
        ap (λ cs. flat_map (child None (below None (suc (more None))) None) cs ++ []) children
        ∙ ap (λ ms. ms ++ []) (met_child-leaves w (nodes None) 1 hero_path (below None (suc (more None))) 1 2 None leaves (leaves-placed None))

    -- the deferred fragment, and its leaves with it as their tag
    abbrev deferred_mets : Deferred → List Met
    deferred_mets def = deferred (fragment_in (length leaves) def) ∷ leaf_mets (2 + length leaves + 1) (Some (fragment_id (length leaves))) def.leaves

    child-fragment : (def : Deferred) → child (Some def) (below (Some def) (suc (more (Some def)))) None (2 + length leaves) ≡ deferred_mets def
    child-fragment def =
        let o = Some def in
        let id = fragment_id (length leaves) in
        ap (λ n. met_child w (nodes o) 1 hero_path (below o (suc (more o))) None (2 + length leaves) n) (fragment-placed def)
        ∙ ap (λ ms. deferred (fragment_in (length leaves) def) ∷ ms)
        (ap (λ n. flat_map (child o (below o (more o)) (Some id)) (Rattle.gql_model.specs.Collect.children_of n)) (fragment-placed def)
        ∙ met_child-leaves w (nodes o) 1 hero_path (below o (more o)) (2 + length leaves) (2 + length leaves + 1) (Some id) def.leaves (deferred_leaves-placed def))

    mets-Some : (def : Deferred) → mets (Some def) ≡ leaf_mets 2 None leaves ++ deferred_mets def
    mets-Some def =
        let o = Some def in
        let f = child o (below o (suc (more o))) None in
        append-nil _
        ∙ (flat_map-append f (range_with_len 2 (length leaves)) ((2 + length leaves) ∷ [])
        ∙ (ap (λ ms. ms ++ (f (2 + length leaves) ++ [])) (met_child-leaves w (nodes o) 1 hero_path (below o (suc (more o))) 1 2 None leaves (leaves-placed o))
        ∙ ap (λ ms. leaf_mets 2 None leaves ++ ms) (append-nil (f (2 + length leaves)) ∙ child-fragment def)))

    pub occurrences-None : occurrences (mets None) ≡ leaf_pairs 2 None leaves ++ leaf_pairs 0 None []
    occurrences-None = ap occurrences mets-None ∙ occurrences-leaves 2 None leaves []

    pub occurrences-Some : (def : Deferred) → occurrences (mets (Some def)) ≡ leaf_pairs 2 None leaves ++ leaf_pairs (2 + length leaves + 1) (Some (fragment_id (length leaves))) def.leaves
    occurrences-Some def =
        let tag = Some (fragment_id (length leaves)) in
        let rest : occurrences (leaf_mets (2 + length leaves + 1) tag def.leaves) ≡ leaf_pairs (2 + length leaves + 1) tag def.leaves =
        ap occurrences (sym (append-nil (leaf_mets (2 + length leaves + 1) tag def.leaves))) ∙ (occurrences-leaves (2 + length leaves + 1) tag def.leaves [] ∙ append-nil (leaf_pairs (2 + length leaves + 1) tag def.leaves)) in
        ap occurrences (mets-Some def) ∙ (occurrences-leaves 2 None leaves (deferred_mets def) ∙ ap (λ ps. leaf_pairs 2 None leaves ++ ps) rest)

    pub fragments-None : fragments (mets None) ≡ []
    fragments-None = ap fragments mets-None ∙ fragments-leaves 2 None leaves []

    pub fragments-Some : (def : Deferred) → fragments (mets (Some def)) ≡ fragment_in (length leaves) def ∷ []
    fragments-Some def =
        let tag = Some (fragment_id (length leaves)) in
        let rest : fragments (leaf_mets (2 + length leaves + 1) tag def.leaves) ≡ [] =
        ap fragments (sym (append-nil (leaf_mets (2 + length leaves + 1) tag def.leaves))) ∙ fragments-leaves (2 + length leaves + 1) tag def.leaves [] in
        ap fragments (mets-Some def) ∙ (fragments-leaves 2 None leaves (deferred_mets def) ∙ ap (λ fs. fragment_in (length leaves) def ∷ fs) rest)

  -- ---- the fragment is no ancestor of its own

  above_first : (deep : ℕ) (o : Option Deferred) → above (nodes o) deep 0 ≡ []
  above_first zero o = refl
  above_first (suc deep) o = refl

  abbrev step : Option Deferred → ℕ → Option Node → List ℕ
  step o deep n = elim n [ None ↦ [] | Some node ↦ node.parent ∷ above (nodes o) deep node.parent ]

  ancestors-fragment : (def : Deferred) → ancestors (nodes (Some def)) (2 + length leaves) ≡ 1 ∷ 0 ∷ []
  ancestors-fragment def =
      let o = Some def in
      let place : 2 + length leaves ≡ suc (suc (length leaves)) = omega arith in
      let at : slice_get (nodes o) (suc (suc (length leaves))) ≡ Some (fragment_node def) = ap (slice_get (nodes o)) (sym place) ∙ fragment-placed def in
      ap (above (nodes o) (suc (suc (length (map (leaf_node 1) leaves ++ deferred_nodes (2 + length leaves) o))))) place
      ∙ (ap (step o (suc (length (map (leaf_node 1) leaves ++ deferred_nodes (2 + length leaves) o)))) at
      ∙ ap (λ ns. 1 ∷ 0 ∷ ns) (above_first (length (map (leaf_node 1) leaves ++ deferred_nodes (2 + length leaves) o)) o))

  other_place : (n : ℕ) → list_any (λ p. p == 2 + n) (1 ∷ 0 ∷ []) ≡ false
  other_place n = grind (arith, nat_tests)

  pub is_above-self : (def : Deferred) → is_above (nodes (Some def)) (fragment_id (length leaves)) (fragment_id (length leaves)) ≡ false
  is_above-self def = ap (list_any (λ p. p == 2 + length leaves)) (ancestors-fragment def) ∙ other_place (length leaves)
