-- The places and the labels of the query that a document is.
use Rattle.std.proofs.Common.{◌≡◌, ℕ, zero, suc, Bool, true, false, cond, List, [], ◌∷◌, length, drop, Option, Some, None, subst}
use Rattle.std.specs.Prelude.{◌==◌, ◌&&◌, IfSome, option_map, option_and_then, codes}
use Rattle.std.specs.Option.{is_none}
use Rattle.std.specs.List.{AllByRecursion as Each}
use Rattle.std.specs.Str.{bytes_eq}
use Rattle.gql_tree.specs.declared.Spot.{Spot}
use Rattle.gql_model.specs.declared.syntax.Literal.{out-Literal}
use Rattle.gql_model.specs.declared.syntax.Literal.TheOpen.{Literal-F}
use Rattle.gql_model.specs.declared.syntax.Argument.{Argument, out-Argument}
use Rattle.gql_model.specs.declared.syntax.DirectiveUse.{DirectiveUse}
use Rattle.gql_model.specs.declared.syntax.Selection.{Selection, out-Selection}
use Rattle.gql_model.specs.declared.syntax.Selection.TheOpen.{Selection-F}
use Rattle.gql_model.specs.declared.syntax.FieldNode.{out-FieldNode}
use Rattle.gql_model.specs.declared.syntax.InlineNode.{out-InlineNode}
use Rattle.gql_model.specs.declared.syntax.Definition.{Definition}
use Rattle.gql_model.specs.declared.syntax.Definition.TheVariants as definition
use Rattle.gql_model.specs.declared.syntax.Document.{Document}
use Rattle.gql_tool.specs.declared.hero.shape.LeafName.{LeafName}
use Rattle.gql_tool.specs.declared.hero.shape.Leaf.{Leaf}
use Rattle.gql_tool.specs.declared.hero.shape.Deferred.{Deferred}
use Rattle.gql_tool.specs.declared.hero.shape.HeroDocument.{HeroDocument}
use Rattle.gql_tool.specs.hero.Shape.{AnySelection, Inline, AnyValue, leaf_name, is_plain, leaf_at, leaf_of, leaves_of, behind_leaves, string_in, label_in, label_of, defer_of, deferred_by, deferred_in, deferred_at, deferred_of, ending_of, hero_by, hero_at, root_of, is_plain_query, document_of, deferred_leaves_of, once_each, hero_of}
use Rattle.gql_tool.proofs.hero_lemmas.Gives.{ValueIs, ArgumentIs, DirectiveIs, InlineIs, LayerIs, SelectionIs, DefinitionIs}
use Rattle.gql_tool.proofs.hero_lemmas.Reading.{some_if, some_then}

-- of places and of a label
pub record HasPlaces (P : Spot → Type 0) (L : List ℕ → Type 0) (d : HeroDocument) : Type 0 where
  pub operation : P d.spot
  pub hero : P d.hero
  pub leaves : Each (λ leaf. P leaf.spot) d.leaves
  pub fragment : IfSome d.deferred (λ def. P def.spot × IfSome def.label L)
  pub deferred : Each (λ leaf. P leaf.spot) (deferred_leaves_of d.deferred)

-- a test that gives something, or nothing
if_some : {A : Type 0} (Q : A → Type 0) (b : Bool) (o : Option A) → IfSome o Q → IfSome (cond b o None) Q
if_some Q true o h = h
if_some Q false o h = tt

mapped : {A B : Type 0} (Q : A → Type 0) (R : B → Type 0) (f : A → B) (o : Option A) → IfSome o Q → ((x : A) → Q x → R (f x)) → IfSome (option_map f o) R
mapped Q R f None h next = tt
mapped Q R f (Some x) h next = next x h

then : {A B : Type 0} (Q : A → Type 0) (R : B → Type 0) (f : A → Option B) (o : Option A) → IfSome o Q → ((x : A) → Q x → IfSome (f x) R) → IfSome (option_and_then f o) R
then Q R f None h next = tt
then Q R f (Some x) h next = next x h

each_drop : {A : Type 0} (Q : A → Type 0) (n : ℕ) (xs : List A) → Each Q xs → Each Q (drop n xs)
each_drop Q zero xs h = h
each_drop Q (suc n) [] h = tt
each_drop Q (suc n) (x ∷ xs) h = each_drop Q n xs h.1

module _ (P : Spot → Type 0) (L : List ℕ → Type 0) where
  abbrev LeafIs : Leaf → Type 0
  LeafIs leaf = P leaf.spot

  abbrev Is : ℕ → Selection → Type 0
  Is n s = SelectionIs P L n s

  -- ---- leaves

  named : (spot : Spot) (o : Option LeafName) → P spot → IfSome (option_map (λ name. (let leaf : Leaf = record { name = name; spot = spot } in leaf)) o) LeafIs
  named spot None h = tt
  named spot (Some word) h = h

  leaf_layer : (Below : Selection → Type 0) (layer : AnySelection) → LayerIs P L Below layer → IfSome (leaf_at layer) LeafIs
  leaf_layer Below (Selection-F.Field f) h = if_some LeafIs (is_plain (out-FieldNode f) && length (out-FieldNode f).selections == 0) _ (named (out-FieldNode f).spot (leaf_name (out-FieldNode f).name) h.0)
  leaf_layer Below (Selection-F.Spread f) h = tt
  leaf_layer Below (Selection-F.Inline f) h = tt

  leaf_is : (n : ℕ) (s : Selection) → Is (suc n) s → IfSome (leaf_of s) LeafIs
  leaf_is n s h = leaf_layer (Is n) (out-Selection s) h

  with_first : (o : Option Leaf) (leaves : List Leaf) → IfSome o LeafIs → Each LeafIs leaves → Each LeafIs (elim o [ None ↦ [] | Some leaf ↦ leaf ∷ leaves ])
  with_first None leaves h hs = tt
  with_first (Some leaf) leaves h hs = (h, hs)

  leaves_are : (n : ℕ) (ss : List Selection) → Each (Is (suc n)) ss → Each LeafIs (leaves_of ss)
  leaves_are n [] h = tt
  leaves_are n (s ∷ ss) h = with_first (leaf_of s) (leaves_of ss) (leaf_is n s h.0) (leaves_are n ss h.1)

  -- ---- the deferred piece

  abbrev LabelIs : Option (List ℕ) → Type 0
  LabelIs o = IfSome o L

  string_is : (layer : AnyValue) → ValueIs P L layer → IfSome (string_in layer) L
  string_is (Literal-F.Text text spot) h = h
  string_is _ h = tt

  label_is : (arguments : List Argument) → Each (ArgumentIs P L) arguments → IfSome (label_of arguments) LabelIs
  label_is [] h = tt
  label_is (a ∷ []) h =
      mapped L LabelIs Some (label_in (out-Argument a)) (if_some L (bytes_eq (out-Argument a).name (codes "label")) (string_in (out-Literal (out-Argument a).value)) (string_is (out-Literal (out-Argument a).value) h.0)) (λ x k. k)
  label_is (a ∷ b ∷ more) h = tt

  defer_is : (directives : List DirectiveUse) → Each (DirectiveIs P L) directives → IfSome (defer_of directives) LabelIs
  defer_is [] h = tt
  defer_is (d ∷ []) h = if_some LabelIs (bytes_eq d.name (codes "defer")) (label_of d.arguments) (label_is d.arguments h.0)
  defer_is (d ∷ e ∷ more) h = tt

  abbrev DeferredIs : Deferred → Type 0
  DeferredIs def = (P def.spot × LabelIs def.label) × Each LeafIs def.leaves

  piece_is : (spot : Spot) (leaves : List Leaf) (rest : List Selection) (label : Option (List ℕ)) → P spot → Each LeafIs leaves → LabelIs label → IfSome (deferred_by spot leaves rest label) DeferredIs
  piece_is spot [] rest label at hs h = tt
  piece_is spot (leaf ∷ leaves) [] label at hs h = ((at, h), hs)
  piece_is spot (leaf ∷ leaves) (s ∷ ss) label at hs h = tt

  fragment_is : (n : ℕ) (f : Inline) → InlineIs P L (Is (suc n)) f → IfSome (deferred_in f) DeferredIs
  fragment_is n f h =
      if_some DeferredIs (is_none f.condition) _
      (then LabelIs DeferredIs (deferred_by f.spot (leaves_of f.selections) (behind_leaves f.selections)) (defer_of f.directives) (defer_is f.directives h.1.0)
      (λ label k. piece_is f.spot (leaves_of f.selections) (behind_leaves f.selections) label h.0 (leaves_are n f.selections h.1.1) k))

  deferred_layer : (n : ℕ) (layer : AnySelection) → LayerIs P L (Is (suc n)) layer → IfSome (deferred_at layer) DeferredIs
  deferred_layer n (Selection-F.Field f) h = tt
  deferred_layer n (Selection-F.Spread f) h = tt
  deferred_layer n (Selection-F.Inline f) h = fragment_is n (out-InlineNode f) h

  -- ---- the query

  abbrev EndIs : Option Deferred → Type 0
  EndIs o = IfSome o DeferredIs

  ending_is : (n : ℕ) (ss : List Selection) → Each (Is (suc (suc n))) ss → IfSome (ending_of ss) EndIs
  ending_is n [] h = tt
  ending_is n (s ∷ []) h = mapped DeferredIs EndIs Some (deferred_of s) (deferred_layer n (out-Selection s) h.0) (λ def k. k)
  ending_is n (s ∷ t ∷ more) h = tt

  abbrev Places : HeroDocument → Type 0
  Places = HasPlaces P L

  placed : (spot hero : Spot) (leaves : List Leaf) (o : Option Deferred) → P spot → P hero → Each LeafIs leaves → EndIs o → Places (record { spot = spot; hero = hero; leaves = leaves; deferred = o })
  placed spot hero leaves None at here hs h = record { operation = at; hero = here; leaves = hs; fragment = tt; deferred = tt }
  placed spot hero leaves (Some def) at here hs h = record { operation = at; hero = here; leaves = hs; fragment = h.0; deferred = h.1 }

  hero_is : (n : ℕ) (spot hero : Spot) (leaves : List Leaf) (rest : List Selection) → P spot → P hero → Each LeafIs leaves → Each (Is (suc (suc n))) rest → IfSome (hero_by spot hero leaves rest) Places
  hero_is n spot hero [] rest at here hs h = tt
  hero_is n spot hero (leaf ∷ leaves) rest at here hs h =
      mapped EndIs Places (λ o. record { spot = spot; hero = hero; leaves = leaf ∷ leaves; deferred = o }) (ending_of rest) (ending_is n rest h) (λ o k. placed spot hero (leaf ∷ leaves) o at here hs k)

  root_layer : (n : ℕ) (spot : Spot) (layer : AnySelection) → P spot → LayerIs P L (Is (suc (suc n))) layer → IfSome (hero_at spot layer) Places
  root_layer n spot (Selection-F.Field f) at h =
      let field = out-FieldNode f in
      let behind = each_drop (Is (suc (suc n))) (length (leaves_of field.selections)) field.selections h.1 in
      if_some Places (is_plain field && bytes_eq field.name (codes "hero")) _
      (hero_is n spot field.spot (leaves_of field.selections) (behind_leaves field.selections) at h.0 (leaves_are (suc n) field.selections h.1) behind)
  root_layer n spot (Selection-F.Spread f) at h = tt
  root_layer n spot (Selection-F.Inline f) at h = tt

  root_is : (n : ℕ) (spot : Spot) (ss : List Selection) → P spot → Each (Is (suc (suc (suc n)))) ss → IfSome (root_of spot ss) Places
  root_is n spot [] at h = tt
  root_is n spot (s ∷ []) at h = root_layer n spot (out-Selection s) at h.0
  root_is n spot (s ∷ t ∷ more) at h = tt

  query_is : (definitions : List Definition) → Each (DefinitionIs P L 3) definitions → IfSome (document_of definitions) Places
  query_is [] h = tt
  query_is (definition.Operation op ∷ []) h = if_some Places (is_plain_query op) (root_of op.spot op.selections) (root_is 0 op.spot op.selections h.0.0 h.0.1)
  query_is (definition.Operation op ∷ other ∷ more) h = tt
  query_is (definition.Fragment f ∷ more) h = tt

  -- where the document has such places and strings, so does the query
  pub hero_of-places : (it : Document) (d : HeroDocument) → Each (DefinitionIs P L 3) it.definitions → hero_of it ≡ Some d → Places d
  hero_of-places it d h is =
      let q = some_then once_each (document_of it.definitions) d is in
      let p = some_if _ (Some q.0) d q.2 in
      let same : q.0 ≡ d = cc in
      subst Places same (subst (λ (o : Option HeroDocument). IfSome o Places) q.1 (query_is it.definitions h))
