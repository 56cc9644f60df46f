-- A query of the hero that is written as a document is found in it.
use Rattle.std.proofs.Common.{◌≡◌, refl, ap, ◌∙◌, ℕ, ◌+◌, ◌≤◌, Bool, true, cond, List, [], ◌∷◌, ◌++◌, map, length, drop, Option, Some, None, arith}
use Rattle.std.specs.Prelude.{nat_le, ◌&&◌, option_map, option_and_then, codes}
use Rattle.std.proofs.lemmas.Bool.Decides.{nat_tests}
use Rattle.gql_model.specs.declared.syntax.Literal.TheVariants.{outs-Text}
use Rattle.gql_model.specs.declared.syntax.Literal.TheVariants as literal
use Rattle.gql_model.specs.declared.syntax.Argument.{out-roll-Argument}
use Rattle.gql_model.specs.declared.syntax.Selection.{Selection}
use Rattle.gql_model.specs.declared.syntax.Selection.TheVariants.{outs-Field, outs-Inline}
use Rattle.gql_model.specs.declared.syntax.Selection.TheVariants as selection
use Rattle.gql_model.specs.declared.syntax.FieldNode.{roll-FieldNode, out-roll-FieldNode}
use Rattle.gql_model.specs.declared.syntax.InlineNode.{roll-InlineNode, out-roll-InlineNode}
use Rattle.gql_tool.specs.declared.hero.shape.LeafName.{LeafName}
use Rattle.gql_tool.specs.declared.hero.shape.LeafName.TheVariants.{Id, Name, Age, Boom}
use Rattle.gql_tool.specs.declared.hero.shape.Leaf.{Leaf}
use Rattle.gql_tool.specs.declared.hero.shape.Deferred.{Deferred}
use Rattle.gql_tool.specs.declared.hero.shape.HeroDocument.{HeroDocument}
use Rattle.gql_tool.specs.hero.Shape.{Field, Inline, AnyArgument, AnyValue, leaf_name, leaf_in, leaf_at, leaf_of, leaves_of, behind_leaves, string_in, label_in, label_of, deferred_by, deferred_in, deferred_at, deferred_of, ending_of, hero_by, hero_in, hero_at, root_of, times, deferred_leaves_of, stands_once, once_each, hero_of}
use Rattle.gql_tool.specs.hero.Operation.{name_of}
use Rattle.gql_tool.specs.hero.Hero.{EachOnce}
use Rattle.gql_tool.specs.hero.Written.{Places, written_leaf, written_label, written_deferred, written_hero, written, HasLeaf, HasDeferred, HasLeaves}

-- ---- leaves

name_known : (name : LeafName) → leaf_name (name_of name) ≡ Some name
name_known Id = refl
name_known Name = refl
name_known Age = refl
name_known Boom = refl

abbrev pub leaf_layer : Leaf → Field
leaf_layer leaf = record { alias = None; name = name_of leaf.name; arguments = []; directives = []; selections = []; spot = leaf.spot }

leaf_written : (leaf : Leaf) → leaf_of (written_leaf leaf) ≡ Some leaf
leaf_written leaf =
    ap leaf_at (outs-Field (roll-FieldNode (leaf_layer leaf)))
    ∙ (ap leaf_in (out-roll-FieldNode (leaf_layer leaf)) ∙ ap (λ (o : Option LeafName). option_map (λ name. (let found : Leaf = record { name = name; spot = leaf.spot } in found)) o) (name_known leaf.name))

-- what a first selection gives
abbrev pub first : List Leaf → Option Leaf → List Leaf
first leaves o = elim o [ None ↦ [] | Some leaf ↦ leaf ∷ leaves ]

leaves_written : (leaves : List Leaf) (rest : List Selection) → leaves_of rest ≡ [] → leaves_of (map written_leaf leaves ++ rest) ≡ leaves
leaves_written [] rest none = none
leaves_written (leaf ∷ leaves) rest none = ap (first (leaves_of (map written_leaf leaves ++ rest))) (leaf_written leaf) ∙ ap (λ (ls : List Leaf). leaf ∷ ls) (leaves_written leaves rest none)

leaves_alone : (leaves : List Leaf) → leaves_of (map written_leaf leaves) ≡ leaves
leaves_alone [] = refl
leaves_alone (leaf ∷ leaves) = ap (first (leaves_of (map written_leaf leaves))) (leaf_written leaf) ∙ ap (λ (ls : List Leaf). leaf ∷ ls) (leaves_alone leaves)

drop_leaves : (leaves : List Leaf) (rest : List Selection) → drop (length leaves) (map written_leaf leaves ++ rest) ≡ rest
drop_leaves [] rest = refl
drop_leaves (leaf ∷ leaves) rest = drop_leaves leaves rest

drop_alone : (leaves : List Leaf) → drop (length leaves) (map written_leaf leaves) ≡ []
drop_alone [] = refl
drop_alone (leaf ∷ leaves) = drop_alone leaves

behind_written : (leaves : List Leaf) (rest : List Selection) → leaves_of rest ≡ [] → behind_leaves (map written_leaf leaves ++ rest) ≡ rest
behind_written leaves rest none = ap (λ (ls : List Leaf). drop (length ls) (map written_leaf leaves ++ rest)) (leaves_written leaves rest none) ∙ drop_leaves leaves rest

behind_alone : (leaves : List Leaf) → behind_leaves (map written_leaf leaves) ≡ []
behind_alone leaves = ap (λ (ls : List Leaf). drop (length ls) (map written_leaf leaves)) (leaves_alone leaves) ∙ drop_alone leaves

-- ---- the deferred piece

module _ (at : Places) where
  label_written : (label : Option (List ℕ)) → label_of (written_label at label) ≡ Some label
  label_written None = refl
  label_written (Some label) =
      let layer : AnyArgument = record { name = codes "label"; value = literal.Text label at.string; spot = at.label } in
      ap (λ (a : AnyArgument). option_map Some (label_in a)) (out-roll-Argument layer) ∙ ap (λ (v : AnyValue). option_map Some (string_in v)) (outs-Text label at.string)

  abbrev pub inline_layer : Deferred → Inline
  inline_layer def = record { condition = None; directives = record { name = codes "defer"; arguments = written_label at def.label; spot = at.directive } ∷ []; selections = map written_leaf def.leaves; spot = def.spot }

  abbrev inline : Deferred → Selection
  inline def = selection.Inline (roll-InlineNode (inline_layer def))

  not_a_leaf : (def : Deferred) → leaf_of (inline def) ≡ None
  not_a_leaf def = ap leaf_at (outs-Inline (roll-InlineNode (inline_layer def)))

  piece_written : (def : Deferred) → HasLeaf def.leaves → deferred_by def.spot def.leaves [] def.label ≡ Some def
  piece_written def has = by_leaves def.leaves has
    where
      by_leaves : (leaves : List Leaf) → HasLeaf leaves → deferred_by def.spot leaves [] def.label ≡ Some (record { label = def.label; spot = def.spot; leaves = leaves })
      by_leaves [] has = absurd has
      by_leaves (leaf ∷ leaves) has = refl

  deferred_written : (def : Deferred) → HasLeaf def.leaves → deferred_of (inline def) ≡ Some def
  deferred_written def has =
      ap deferred_at (outs-Inline (roll-InlineNode (inline_layer def)))
      ∙ (ap deferred_in (out-roll-InlineNode (inline_layer def))
      ∙ (ap (λ (o : Option (Option (List ℕ))). option_and_then (deferred_by def.spot (leaves_of (map written_leaf def.leaves)) (behind_leaves (map written_leaf def.leaves))) o) (label_written def.label)
      ∙ (ap (λ (ls : List Leaf). deferred_by def.spot ls (behind_leaves (map written_leaf def.leaves)) def.label) (leaves_alone def.leaves)
      ∙ (ap (λ (ss : List Selection). deferred_by def.spot def.leaves ss def.label) (behind_alone def.leaves) ∙ piece_written def has))))

  ending_written : (o : Option Deferred) → HasDeferred o → ending_of (written_deferred at o) ≡ Some o
  ending_written None has = refl
  ending_written (Some def) has = ap (option_map Some) (deferred_written def has)

  no_leaves : (o : Option Deferred) → leaves_of (written_deferred at o) ≡ []
  no_leaves None = refl
  no_leaves (Some def) = ap (first []) (not_a_leaf def)

  -- ---- the query

  abbrev made : HeroDocument → List Leaf → Option Deferred → HeroDocument
  made d leaves o = record { spot = d.spot; hero = d.hero; leaves = leaves; deferred = o }

  hero_made : (d : HeroDocument) (leaves : List Leaf) (rest : List Selection) → HasLeaf leaves → ending_of rest ≡ Some d.deferred → hero_by d.spot d.hero leaves rest ≡ Some (made d leaves d.deferred)
  hero_made d [] rest has ends = absurd has
  hero_made d (leaf ∷ leaves) rest has ends = ap (option_map (made d (leaf ∷ leaves))) ends

  abbrev pub hero_layer : HeroDocument → Field
  hero_layer d = record { alias = None; name = codes "hero"; arguments = []; directives = []; selections = map written_leaf d.leaves ++ written_deferred at d.deferred; spot = d.hero }

  root_written : (d : HeroDocument) → HasLeaves d → root_of d.spot (written_hero at d ∷ []) ≡ Some d
  root_written d has =
      let rest = written_deferred at d.deferred in
      let none = no_leaves d.deferred in
      ap (hero_at d.spot) (outs-Field (roll-FieldNode (hero_layer d)))
      ∙ (ap (hero_in d.spot) (out-roll-FieldNode (hero_layer d))
      ∙ (ap (λ (ls : List Leaf). hero_by d.spot d.hero ls (behind_leaves (map written_leaf d.leaves ++ rest))) (leaves_written d.leaves rest none)
      ∙ (ap (hero_by d.spot d.hero d.leaves) (behind_written d.leaves rest none) ∙ hero_made d d.leaves rest has.0 (ending_written d.deferred has.1))))

  test_true : (n : ℕ) → n ≤ 1 → nat_le n 1 ≡ true
  test_true n h = grind (arith, nat_tests)

  all_true : (a b c d : Bool) → a ≡ true → b ≡ true → c ≡ true → d ≡ true → a && (b && (c && (d && true))) ≡ true
  all_true a b c d ha hb hc hd = rw (ha, hb, hc, hd) refl

  once_written : (d : HeroDocument) → EachOnce d → once_each d ≡ Some d
  once_written d once =
      let each : (name : LeafName) → stands_once d name ≡ true = λ name. test_true (times name d.leaves + times name (deferred_leaves_of d.deferred)) (once name) in
      ap (λ (b : Bool). cond b (Some d) None) (all_true (stands_once d Id) (stands_once d Name) (stands_once d Age) (stands_once d Boom) (each Id) (each Name) (each Age) (each Boom))

  pub written_found : (d : HeroDocument) → HasLeaves d → EachOnce d → hero_of (written at d) ≡ Some d
  written_found d has once = ap (option_and_then once_each) (root_written d has) ∙ once_written d once
