-- A document in which a query of the hero is found is that query, written as a document.
use Rattle.std.proofs.Common.{◌≡◌, refl, sym, ap, ◌∙◌, subst, inl, inr, ℕ, Bool, true, false, cond, List, [], ◌∷◌, ◌++◌, map, length, drop, append-nil, Option, Some, None, arith}
use Rattle.std.specs.Prelude.{◌==◌, ◌&&◌, ◌⊎◌, option_map, option_and_then, codes}
use Rattle.std.specs.Option.{is_none}
use Rattle.std.specs.Str.{bytes_eq}
use Rattle.std.proofs.lemmas.Bool.Decides.{nat_tests}
use Rattle.std.proofs.lemmas.Slice.Eq.{bytes_eq-Decides}
use Rattle.gql_tree.specs.declared.Spot.{Spot}
use Rattle.gql_model.specs.declared.syntax.Literal.{out-Literal, roll-Literal, roll-out-Literal}
use Rattle.gql_model.specs.declared.syntax.Literal.TheOpen.{Literal-F}
use Rattle.gql_model.specs.declared.syntax.Literal.TheVariants.{rolls-Text}
use Rattle.gql_model.specs.declared.syntax.Literal.TheVariants as literal
use Rattle.gql_model.specs.declared.syntax.Argument.{Argument, out-Argument, roll-Argument, roll-out-Argument}
use Rattle.gql_model.specs.declared.syntax.DirectiveUse.{DirectiveUse}
use Rattle.gql_model.specs.declared.syntax.Selection.{Selection, out-Selection, roll-Selection, roll-out-Selection}
use Rattle.gql_model.specs.declared.syntax.Selection.TheOpen.{Selection-F}
use Rattle.gql_model.specs.declared.syntax.Selection.TheVariants.{rolls-Field, rolls-Inline}
use Rattle.gql_model.specs.declared.syntax.Selection.TheVariants as selection
use Rattle.gql_model.specs.declared.syntax.FieldNode.{out-FieldNode, roll-FieldNode, roll-out-FieldNode}
use Rattle.gql_model.specs.declared.syntax.InlineNode.{out-InlineNode, roll-InlineNode, roll-out-InlineNode}
use Rattle.gql_model.specs.declared.syntax.OperationKind.{OperationKind}
use Rattle.gql_model.specs.declared.syntax.OperationKind.TheVariants as kind
use Rattle.gql_model.specs.declared.syntax.OperationDef.{OperationDef}
use Rattle.gql_model.specs.declared.syntax.Definition.{Definition}
use Rattle.gql_model.specs.declared.syntax.Definition.TheVariants as definition
use Rattle.gql_model.specs.declared.syntax.Document.{Document}
use Rattle.gql_tool.specs.declared.hero.shape.LeafName.{LeafName}
use Rattle.gql_tool.specs.declared.hero.shape.LeafName.TheVariants.{Id, Name, Age, Boom}
use Rattle.gql_tool.specs.declared.hero.shape.Leaf.{Leaf}
use Rattle.gql_tool.specs.declared.hero.shape.Deferred.{Deferred}
use Rattle.gql_tool.specs.declared.hero.shape.HeroDocument.{HeroDocument}
use Rattle.gql_tool.specs.hero.Shape.{AnySelection, Field, Inline, AnyValue, leaf_name, is_plain, leaf_in, leaf_at, leaf_of, leaves_of, behind_leaves, string_in, label_in, label_of, defer_of, deferred_by, deferred_in, deferred_at, deferred_of, ending_of, hero_by, hero_in, hero_at, root_of, is_query, is_plain_query, operation_in, document_of, once_each, hero_of}
use Rattle.gql_tool.specs.hero.Operation.{name_of}
use Rattle.gql_tool.specs.hero.Written.{Places, written_leaf, written_label, written_deferred, written_hero, written, HasLeaf, HasDeferred, HasLeaves, IsWritten}
use Rattle.gql_tool.proofs.hero_lemmas.Reading.{some_if, some_then, some_map, both_true, hero_of-once}
use Rattle.gql_tool.proofs.hero_lemmas.Written.{leaf_layer, first, inline_layer, hero_layer}

-- ---- tests

no_option : {A : Type 0} (o : Option A) → is_none o ≡ true → o ≡ None
no_option None h = refl
no_option (Some x) h = absurd (cc)

no_items : {A : Type 0} (xs : List A) → length xs == 0 ≡ true → xs ≡ []
no_items [] h = refl
no_items (x ∷ xs) h = absurd (grind (arith, nat_tests))

same_bytes : (xs ys : List ℕ) → bytes_eq xs ys ≡ true → xs ≡ ys
same_bytes xs ys h = (bytes_eq-Decides xs ys).0 h

-- a test that gives one thing, or another choice
either_some : {A : Type 0} (b : Bool) (x : A) (o : Option A) (y : A) → cond b (Some x) o ≡ Some y → ((b ≡ true) × (x ≡ y)) ⊎ (o ≡ Some y)
either_some true x o y h = inl (refl, cc)
either_some false x o y h = inr h

-- ---- leaves

name_only : (word : List ℕ) (name : LeafName) → leaf_name word ≡ Some name → word ≡ name_of name
name_only word name is = by_id (either_some (bytes_eq word (codes "id")) Id _ name is)
  where
    found : (other : LeafName) → bytes_eq word (name_of other) ≡ true → other ≡ name → word ≡ name_of name
    found other h same = same_bytes word (name_of other) h ∙ ap name_of same

    by_boom : ((bytes_eq word (codes "boom") ≡ true) × (Boom ≡ name)) ⊎ (None ≡ Some name) → word ≡ name_of name
    by_boom (inl h) = found Boom h.0 h.1
    by_boom (inr h) = absurd (cc)

    by_age : ((bytes_eq word (codes "age") ≡ true) × (Age ≡ name)) ⊎ (cond (bytes_eq word (codes "boom")) (Some Boom) None ≡ Some name) → word ≡ name_of name
    by_age (inl h) = found Age h.0 h.1
    by_age (inr h) = by_boom (either_some (bytes_eq word (codes "boom")) Boom None name h)

    by_name : ((bytes_eq word (codes "name") ≡ true) × (Name ≡ name)) ⊎ (cond (bytes_eq word (codes "age")) (Some Age) (cond (bytes_eq word (codes "boom")) (Some Boom) None) ≡ Some name) → word ≡ name_of name
    by_name (inl h) = found Name h.0 h.1
    by_name (inr h) = by_age (either_some (bytes_eq word (codes "age")) Age _ name h)

    by_id : ((bytes_eq word (codes "id") ≡ true) × (Id ≡ name)) ⊎ (cond (bytes_eq word (codes "name")) (Some Name) (cond (bytes_eq word (codes "age")) (Some Age) (cond (bytes_eq word (codes "boom")) (Some Boom) None)) ≡ Some name) → word ≡ name_of name
    by_id (inl h) = found Id h.0 h.1
    by_id (inr h) = by_name (either_some (bytes_eq word (codes "name")) Name _ name h)

-- a field with nothing but a name, selections and a place
plain_only : (f : Field) → is_plain f ≡ true → (f.alias ≡ None) × (f.arguments ≡ []) × (f.directives ≡ [])
plain_only f h =
    let p = both_true (is_none f.alias) _ h in
    let q = both_true (length f.arguments == 0) (length f.directives == 0) p.1 in
    (no_option f.alias p.0, no_items f.arguments q.0, no_items f.directives q.1)

leaf_only : (f : Field) (leaf : Leaf) → leaf_in f ≡ Some leaf → f ≡ leaf_layer leaf
leaf_only f leaf is =
    let make : LeafName → Leaf = λ name. record { name = name; spot = f.spot } in
    let p = some_if (is_plain f && length f.selections == 0) (option_map make (leaf_name f.name)) leaf is in
    let q = both_true (is_plain f) (length f.selections == 0) p.0 in
    let plain = plain_only f q.0 in
    let empty = no_items f.selections q.1 in
    let m = some_map make (leaf_name f.name) leaf p.1 in
    let named = name_only f.name m.0 m.1 in
    let same : f ≡ leaf_layer (make m.0) = λ i. record { alias = plain.0 i; name = named i; arguments = plain.1 i; directives = plain.2 i; selections = empty i; spot = f.spot } in
    same ∙ ap leaf_layer m.2

leaf_at_only : (layer : AnySelection) (leaf : Leaf) → leaf_at layer ≡ Some leaf → roll-Selection layer ≡ written_leaf leaf
leaf_at_only (Selection-F.Field f) leaf is = rolls-Field f ∙ ap selection.Field (sym (roll-out-FieldNode f) ∙ ap roll-FieldNode (leaf_only (out-FieldNode f) leaf is))
leaf_at_only (Selection-F.Spread f) leaf is = absurd (cc)
leaf_at_only (Selection-F.Inline f) leaf is = absurd (cc)

leaf_of_only : (s : Selection) (leaf : Leaf) → leaf_of s ≡ Some leaf → s ≡ written_leaf leaf
leaf_of_only s leaf is = sym (roll-out-Selection s) ∙ leaf_at_only (out-Selection s) leaf is

-- the leaves at the front, and what stands behind them
front_only : (s : Selection) (ss : List Selection) (leaves : List Leaf) (o : Option Leaf) → leaf_of s ≡ o → map written_leaf leaves ++ drop (length leaves) ss ≡ ss → map written_leaf (first leaves o) ++ drop (length (first leaves o)) (s ∷ ss) ≡ s ∷ ss
front_only s ss leaves None is rest = refl
front_only s ss leaves (Some leaf) is rest = λ i. sym (leaf_of_only s leaf is) i ∷ rest i

leaves_only : (ss : List Selection) → map written_leaf (leaves_of ss) ++ behind_leaves ss ≡ ss
leaves_only [] = refl
leaves_only (s ∷ ss) = front_only s ss (leaves_of ss) (leaf_of s) refl (leaves_only ss)

-- ---- the deferred piece

string_only : (layer : AnyValue) (text : List ℕ) → string_in layer ≡ Some text → (spot : Spot) × (layer ≡ Literal-F.Text text spot)
string_only (Literal-F.Text value spot) text is = (let same : value ≡ text = cc in (spot, ap (λ (t : List ℕ). Literal-F.Text t spot) same))
string_only (Literal-F.Variable name spot) text is = absurd (cc)
string_only (Literal-F.Int digits spot) text is = absurd (cc)
string_only (Literal-F.Bool b spot) text is = absurd (cc)
string_only (Literal-F.Null spot) text is = absurd (cc)
string_only (Literal-F.Enum name spot) text is = absurd (cc)
string_only (Literal-F.List items spot) text is = absurd (cc)
string_only (Literal-F.Object members spot) text is = absurd (cc)

-- an argument that is a label
abbrev label_argument : Spot → Spot → List ℕ → Argument
label_argument at string text = roll-Argument (record { name = codes "label"; value = literal.Text text string; spot = at })

argument_only : (a : Argument) (text : List ℕ) → label_in (out-Argument a) ≡ Some text → (string : Spot) × (a ≡ label_argument (out-Argument a).spot string text)
argument_only a text is =
    let layer = out-Argument a in
    let p = some_if (bytes_eq layer.name (codes "label")) (string_in (out-Literal layer.value)) text is in
    let s = string_only (out-Literal layer.value) text p.1 in
    let named = same_bytes layer.name (codes "label") p.0 in
    let value : layer.value ≡ literal.Text text s.0 = sym (roll-out-Literal layer.value) ∙ (ap roll-Literal s.1 ∙ rolls-Text text s.0) in
    let whole : layer ≡ record { name = codes "label"; value = literal.Text text s.0; spot = layer.spot } = λ i. record { name = named i; value = value i; spot = layer.spot } in
    (s.0, sym (roll-out-Argument a) ∙ ap roll-Argument whole)

abbrev places : Spot → Spot → Spot → Places
places directive label string = record { directive = directive; label = label; string = string }

abbrev AreLabel : List Argument → Option (List ℕ) → Type 0
AreLabel arguments label = (at string : Spot) × ((directive : Spot) → arguments ≡ written_label (places directive at string) label)

label_only : (spot : Spot) (arguments : List Argument) (label : Option (List ℕ)) → label_of arguments ≡ Some label → AreLabel arguments label
label_only spot [] label is = (let same : None ≡ label = cc in (spot, spot, λ directive. subst (λ (l : Option (List ℕ)). [] ≡ written_label (places directive spot spot) l) same refl))
label_only spot (a ∷ []) label is =
    let m = some_map Some (label_in (out-Argument a)) label is in
    let found = argument_only a m.0 m.1 in
    ((out-Argument a).spot, found.0, λ directive. subst (λ (l : Option (List ℕ)). a ∷ [] ≡ written_label (places directive (out-Argument a).spot found.0) l) m.2 (ap (λ (x : Argument). x ∷ []) found.1))
label_only spot (a ∷ b ∷ more) label is = absurd (cc)

abbrev defer_use : Places → Option (List ℕ) → DirectiveUse
defer_use at label = record { name = codes "defer"; arguments = written_label at label; spot = at.directive }

defer_only : (directives : List DirectiveUse) (label : Option (List ℕ)) → defer_of directives ≡ Some label → (at : Places) × (directives ≡ defer_use at label ∷ [])
defer_only [] label is = absurd (cc)
defer_only (d ∷ []) label is =
    let p = some_if (bytes_eq d.name (codes "defer")) (label_of d.arguments) label is in
    let a = label_only d.spot d.arguments label p.1 in
    let at = places d.spot a.0 a.1 in
    let named = same_bytes d.name (codes "defer") p.0 in
    let given = a.2 d.spot in
    let same : d ≡ defer_use at label = λ i. record { name = named i; arguments = given i; spot = d.spot } in
    (at, ap (λ (x : DirectiveUse). x ∷ []) same)
defer_only (d ∷ e ∷ more) label is = absurd (cc)

abbrev piece : Spot → Option (List ℕ) → List Leaf → Deferred
piece spot label leaves = record { label = label; spot = spot; leaves = leaves }

piece_only : (spot : Spot) (leaves : List Leaf) (rest : List Selection) (label : Option (List ℕ)) (def : Deferred) → deferred_by spot leaves rest label ≡ Some def → (rest ≡ []) × HasLeaf leaves × (piece spot label leaves ≡ def)
piece_only spot [] rest label def is = absurd (cc)
piece_only spot (leaf ∷ leaves) [] label def is = (refl, tt, cc)
piece_only spot (leaf ∷ leaves) (s ∷ ss) label def is = absurd (cc)

fragment_only : (f : Inline) (def : Deferred) → deferred_in f ≡ Some def → (at : Places) × (f ≡ inline_layer at def) × HasLeaf def.leaves
fragment_only f def is =
    let leaves = leaves_of f.selections in
    let p = some_if (is_none f.condition) (option_and_then (deferred_by f.spot leaves (behind_leaves f.selections)) (defer_of f.directives)) def is in
    let t = some_then (deferred_by f.spot leaves (behind_leaves f.selections)) (defer_of f.directives) def p.1 in
    let d = defer_only f.directives t.0 t.1 in
    let made = piece_only f.spot leaves (behind_leaves f.selections) t.0 def t.2 in
    let condition = no_option f.condition p.0 in
    let given = d.1 in
    let all : f.selections ≡ map written_leaf leaves = sym (leaves_only f.selections) ∙ (ap (λ (ss : List Selection). map written_leaf leaves ++ ss) made.0 ∙ append-nil (map written_leaf leaves)) in
    let same : f ≡ inline_layer d.0 (piece f.spot t.0 leaves) = λ i. record { condition = condition i; directives = given i; selections = all i; spot = f.spot } in
    (d.0, same ∙ ap (inline_layer d.0) made.2, subst (λ (x : Deferred). HasLeaf x.leaves) made.2 made.1)

abbrev inline : Places → Deferred → Selection
inline at def = selection.Inline (roll-InlineNode (inline_layer at def))

deferred_only : (layer : AnySelection) (def : Deferred) → deferred_at layer ≡ Some def → (at : Places) × (roll-Selection layer ≡ inline at def) × HasLeaf def.leaves
deferred_only (Selection-F.Field f) def is = absurd (cc)
deferred_only (Selection-F.Spread f) def is = absurd (cc)
deferred_only (Selection-F.Inline f) def is =
    let found = fragment_only (out-InlineNode f) def is in
    (found.0, rolls-Inline f ∙ ap selection.Inline (sym (roll-out-InlineNode f) ∙ ap roll-InlineNode found.1), found.2)

-- ---- the query

ending_only : (spot : Spot) (ss : List Selection) (o : Option Deferred) → ending_of ss ≡ Some o → (at : Places) × (ss ≡ written_deferred at o) × HasDeferred o
ending_only spot [] o is =
    let same : None ≡ o = cc in
    (places spot spot spot, subst (λ (x : Option Deferred). [] ≡ written_deferred (places spot spot spot) x) same refl, subst HasDeferred same tt)
ending_only spot (s ∷ []) o is =
    let m = some_map Some (deferred_of s) o is in
    let found = deferred_only (out-Selection s) m.0 m.1 in
    let same : s ≡ inline found.0 m.0 = sym (roll-out-Selection s) ∙ found.1 in
    (found.0, subst (λ (x : Option Deferred). s ∷ [] ≡ written_deferred found.0 x) m.2 (ap (λ (x : Selection). x ∷ []) same), subst HasDeferred m.2 found.2)
ending_only spot (s ∷ t ∷ more) o is = absurd (cc)

abbrev query : Spot → Spot → List Leaf → Option Deferred → HeroDocument
query spot hero leaves o = record { spot = spot; hero = hero; leaves = leaves; deferred = o }

query_only : (spot hero : Spot) (leaves : List Leaf) (rest : List Selection) (d : HeroDocument) → hero_by spot hero leaves rest ≡ Some d → (o : Option Deferred) × (ending_of rest ≡ Some o) × HasLeaf leaves × (query spot hero leaves o ≡ d)
query_only spot hero [] rest d is = absurd (cc)
query_only spot hero (leaf ∷ leaves) rest d is = (let m = some_map (query spot hero (leaf ∷ leaves)) (ending_of rest) d is in (m.0, m.1, tt, m.2))

hero_only : (spot : Spot) (f : Field) (d : HeroDocument) → hero_in spot f ≡ Some d → (at : Places) × (f ≡ hero_layer at d) × HasLeaves d × (spot ≡ d.spot)
hero_only spot f d is =
    let leaves = leaves_of f.selections in
    let p = some_if (is_plain f && bytes_eq f.name (codes "hero")) (hero_by spot f.spot leaves (behind_leaves f.selections)) d is in
    let q = both_true (is_plain f) (bytes_eq f.name (codes "hero")) p.0 in
    let plain = plain_only f q.0 in
    let named = same_bytes f.name (codes "hero") q.1 in
    let made = query_only spot f.spot leaves (behind_leaves f.selections) d p.1 in
    let end = ending_only spot (behind_leaves f.selections) made.0 made.1 in
    let all : f.selections ≡ map written_leaf leaves ++ written_deferred end.0 made.0 = sym (leaves_only f.selections) ∙ ap (λ (ss : List Selection). map written_leaf leaves ++ ss) end.1 in
    let same : f ≡ hero_layer end.0 (query spot f.spot leaves made.0) = λ i. record { alias = plain.0 i; name = named i; arguments = plain.1 i; directives = plain.2 i; selections = all i; spot = f.spot } in
    let has : HasLeaves (query spot f.spot leaves made.0) = (made.2, end.2) in
    (end.0, same ∙ ap (hero_layer end.0) made.3, subst HasLeaves made.3 has, ap (λ (x : HeroDocument). x.spot) made.3)

root_only : (spot : Spot) (layer : AnySelection) (d : HeroDocument) → hero_at spot layer ≡ Some d → (at : Places) × (roll-Selection layer ≡ written_hero at d) × HasLeaves d × (spot ≡ d.spot)
root_only spot (Selection-F.Field f) d is =
    let found = hero_only spot (out-FieldNode f) d is in
    (found.0, rolls-Field f ∙ ap selection.Field (sym (roll-out-FieldNode f) ∙ ap roll-FieldNode found.1), found.2, found.3)
root_only spot (Selection-F.Spread f) d is = absurd (cc)
root_only spot (Selection-F.Inline f) d is = absurd (cc)

roots_only : (spot : Spot) (ss : List Selection) (d : HeroDocument) → root_of spot ss ≡ Some d → (at : Places) × (ss ≡ written_hero at d ∷ []) × HasLeaves d × (spot ≡ d.spot)
roots_only spot [] d is = absurd (cc)
roots_only spot (s ∷ []) d is =
    let found = root_only spot (out-Selection s) d is in
    (found.0, ap (λ (x : Selection). x ∷ []) (sym (roll-out-Selection s) ∙ found.1), found.2, found.3)
roots_only spot (s ∷ t ∷ more) d is = absurd (cc)

query_kind : (k : OperationKind) → is_query k ≡ true → k ≡ kind.Query
query_kind kind.Query h = refl
query_kind kind.Mutation h = absurd (cc)
query_kind kind.Subscription h = absurd (cc)

abbrev operation : Places → HeroDocument → OperationDef
operation at d = record { kind = kind.Query; name = None; variables = []; directives = []; selections = written_hero at d ∷ []; spot = d.spot }

operation_only : (op : OperationDef) (d : HeroDocument) → operation_in op ≡ Some d → (at : Places) × (op ≡ operation at d) × HasLeaves d
operation_only op d is =
    let p = some_if (is_plain_query op) (root_of op.spot op.selections) d is in
    let a = both_true (is_query op.kind) _ p.0 in
    let b = both_true (is_none op.name) _ a.1 in
    let c = both_true (length op.variables == 0) (length op.directives == 0) b.1 in
    let kind_is = query_kind op.kind a.0 in
    let name_is = no_option op.name b.0 in
    let variables_are = no_items op.variables c.0 in
    let directives_are = no_items op.directives c.1 in
    let root = roots_only op.spot op.selections d p.1 in
    let selections_are = root.1 in
    let spot_is = root.3 in
    let same : op ≡ operation root.0 d = λ i. record { kind = kind_is i; name = name_is i; variables = variables_are i; directives = directives_are i; selections = selections_are i; spot = spot_is i } in
    (root.0, same, root.2)

definitions_only : (all : List Definition) (d : HeroDocument) → document_of all ≡ Some d → (at : Places) × (all ≡ definition.Operation (operation at d) ∷ []) × HasLeaves d
definitions_only [] d is = absurd (cc)
definitions_only (definition.Operation op ∷ []) d is =
    let found = operation_only op d is in
    (found.0, ap (λ (x : OperationDef). definition.Operation x ∷ []) found.1, found.2)
definitions_only (definition.Operation op ∷ other ∷ more) d is = absurd (cc)
definitions_only (definition.Fragment f ∷ more) d is = absurd (cc)

once_same : (x d : HeroDocument) → once_each x ≡ Some d → x ≡ d
once_same x d is = (let p = some_if _ (Some x) d is in cc)

pub found_only : (it : Document) (d : HeroDocument) → hero_of it ≡ Some d → IsWritten it d
found_only it d is =
    let q = some_then once_each (document_of it.definitions) d is in
    let same = once_same q.0 d q.2 in
    let found = definitions_only it.definitions q.0 q.1 in
    let all : it ≡ written found.0 q.0 = ap (λ (ds : List Definition). (let x : Document = record { definitions = ds } in x)) found.1 in
    (found.0, all ∙ ap (written found.0) same, subst HasLeaves same found.2, hero_of-once it d is)
