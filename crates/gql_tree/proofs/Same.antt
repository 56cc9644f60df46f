-- Equality by layers is equality of the maps.
use Rattle.std.proofs.Common.{◌≡◌, ℕ, zero, suc, ◌↔◌, List, [], ◌∷◌, length, refl, sym, subst, ◌∙◌, ap, Bool, true, false, cond, Some, None, Option, IsSome, IsTrue}
use Rattle.std.specs.Str.{bytes_eq}
use Rattle.std.specs.Prelude.{slice_get, option_and_then, option_map}
use Rattle.std.proofs.lemmas.Slice.Eq.{bytes_eq-Decides}
use Rattle.gql_tree.specs.declared.path.Key.{Key}
use Rattle.gql_tree.specs.declared.path.Key.TheVariants.{Name, Index}
use Rattle.gql_tree.specs.declared.value.Value.{Value, out-Value, roll-Value, roll-out-Value}
use Rattle.gql_tree.specs.declared.value.Value.TheOpen.{Value-F}
use Rattle.gql_tree.specs.declared.value.Value.TheVariants.{outs-List, outs-Object, rolls-List, rolls-Object}
use Rattle.gql_tree.specs.declared.value.Value.TheVariants as Value
use Rattle.gql_tree.specs.declared.fields.Named.{Named}
use Rattle.gql_tree.specs.Flat.{Layer, list, object, mark_of, items_of, members_of, below, find}
use Rattle.gql_tree.specs.Names.{named, has_name, apart}
use Rattle.gql_tree.proofs.Names.{either, both}
use Rattle.gql_tree.specs.Same.{SameFlat, SameMaybe, SameItems}
use Rattle.gql_tree.specs.inner.SameLayer.{SameLayer, FoundIn, NamedIn}

-- no later member has the name of an earlier one
abbrev pub Distinct : List (Named Value) → Type 0
Distinct [] = Unit {0}
Distinct (m ∷ ms) = (named m.name ms ≡ None) × Distinct ms

abbrev pub name_of : Named Value → List ℕ
name_of m = m.name

abbrev pub value_of : (Named Value) → Value
value_of m = m.value

skip_by : (b : Bool) (m : (Named Value)) (ms : List (Named Value)) (n : List ℕ) (v : Value) → (b ≡ true → name_of m ≡ n) → named (name_of m) ms ≡ None → named n ms ≡ Some v → cond b (Some (value_of m)) (named n ms) ≡ Some v
skip_by true m ms n v eq gone there = let e : name_of m ≡ n = eq refl in absurd (cc)
skip_by false m ms n v eq gone there = there

-- a later member of a name is no earlier one
pub named_skip : (m : (Named Value)) (ms : List (Named Value)) (n : List ℕ) (v : Value) → named (name_of m) ms ≡ None → named n ms ≡ Some v → named n (m ∷ ms) ≡ Some v
named_skip m ms n v gone there = skip_by (bytes_eq (name_of m) n) m ms n v (bytes_eq-Decides (name_of m) n).0 gone there

pub named_first : (m : (Named Value)) (ms : List (Named Value)) → named (name_of m) (m ∷ ms) ≡ Some (value_of m)
named_first m ms = ap (λ b. cond b (Some (value_of m)) (named (name_of m) ms)) ((bytes_eq-Decides (name_of m) (name_of m)).1 refl)

-- ---- from the layers to the maps

flat_maybe : (path : List Key) (a b : Option Value) → SameMaybe a b → option_map (λ w. mark_of (out-Value w)) (option_and_then (λ w. find w path) a) ≡ option_map (λ w. mark_of (out-Value w)) (option_and_then (λ w. find w path) b)
flat_maybe path None None h = refl
flat_maybe path None (Some w) h = absurd h
flat_maybe path (Some v) None h = absurd h
flat_maybe path (Some v) (Some w) h = h path

pub items_maybe : (xs ys : List Value) (i : ℕ) → SameItems xs ys → SameMaybe (slice_get xs i) (slice_get ys i)
items_maybe [] [] i h = tt
items_maybe [] (y ∷ ys) i h = absurd h
items_maybe (x ∷ xs) [] i h = absurd h
items_maybe (x ∷ xs) (y ∷ ys) zero h = h.0
items_maybe (x ∷ xs) (y ∷ ys) (suc i) h = items_maybe xs ys i h.1

found_by : (b : Bool) (m : (Named Value)) (ms ns : List (Named Value)) (n : List ℕ) (v : Value) → (b ≡ true → name_of m ≡ n) → SameMaybe (Some (value_of m)) (named (name_of m) ns) → (named n ms ≡ Some v → SameMaybe (Some v) (named n ns)) → cond b (Some (value_of m)) (named n ms) ≡ Some v → SameMaybe (Some v) (named n ns)
found_by true m ms ns n v eq here there is = let P : List ℕ → Type 0 = λ x. SameMaybe (Some (value_of m)) (named x ns) in let Q : Option Value → Type 0 = λ x. SameMaybe x (named n ns) in subst Q is (subst P (eq refl) here)
found_by false m ms ns n v eq here there is = there is

found : (ms ns : List (Named Value)) (n : List ℕ) (v : Value) → FoundIn ns ms → named n ms ≡ Some v → SameMaybe (Some v) (named n ns)
found [] ns n v h is = absurd (cc)
found (m ∷ ms) ns n v h is = found_by (bytes_eq (name_of m) n) m ms ns n v (bytes_eq-Decides (name_of m) n).0 h.0 (found ms ns n v h.1) is

known_by : (b : Bool) (m : (Named Value)) (ms ns : List (Named Value)) (n : List ℕ) → (b ≡ true → name_of m ≡ n) → IsSome (named (name_of m) ns) → (IsSome (named n ms) → IsSome (named n ns)) → IsSome (cond b (Some (value_of m)) (named n ms)) → IsSome (named n ns)
known_by true m ms ns n eq here there is = let P : List ℕ → Type 0 = λ x. IsSome (named x ns) in subst P (eq refl) here
known_by false m ms ns n eq here there is = there is

known : (ms ns : List (Named Value)) (n : List ℕ) → NamedIn ns ms → IsSome (named n ms) → IsSome (named n ns)
known [] ns n h is = absurd (cc)
known (m ∷ ms) ns n h is = known_by (bytes_eq (name_of m) n) m ms ns n (bytes_eq-Decides (name_of m) n).0 h.0 (known ms ns n h.1) is

maybe_from : (a b : Option Value) → ((v : Value) → a ≡ Some v → SameMaybe (Some v) b) → (IsSome b → IsSome a) → SameMaybe a b
maybe_from None None f g = tt
maybe_from None (Some w) f g = let e = g refl in absurd (cc)
maybe_from (Some v) b f g = f v refl

below_maybe : (a b : Layer) (k : Key) → SameLayer a b → SameMaybe (below a k) (below b k)
below_maybe a b (Index i) h = items_maybe (items_of a) (items_of b) i h.1
below_maybe a b (Name n) h = maybe_from _ _ (λ v is. found (members_of a) (members_of b) n v h.2 is) (known (members_of b) (members_of a) n h.3)

pub same_from_layer : (v w : Value) → SameLayer (out-Value v) (out-Value w) → SameFlat v w
same_from_layer v w h [] = ap Some h.0
same_from_layer v w h (k ∷ path) = flat_maybe path _ _ (below_maybe (out-Value v) (out-Value w) k h)

-- ---- from the maps to the layers

maybe_same : (a b : Option Value) → ((path : List Key) → option_map (λ w. mark_of (out-Value w)) (option_and_then (λ w. find w path) a) ≡ option_map (λ w. mark_of (out-Value w)) (option_and_then (λ w. find w path) b)) → SameMaybe a b
maybe_same None None h = tt
maybe_same None (Some w) h = let e = h [] in absurd (cc)
maybe_same (Some v) None h = let e = h [] in absurd (cc)
maybe_same (Some v) (Some w) h = h

pub same_below : (v w : Value) (k : Key) → SameFlat v w → SameMaybe (below (out-Value v) k) (below (out-Value w) k)
same_below v w k h = maybe_same _ _ (λ path. h (k ∷ path))

items_from : (xs ys : List Value) → ((i : ℕ) → SameMaybe (slice_get xs i) (slice_get ys i)) → SameItems xs ys
items_from [] [] h = tt
items_from [] (y ∷ ys) h = absurd (h 0)
items_from (x ∷ xs) [] h = absurd (h 0)
items_from (x ∷ xs) (y ∷ ys) h = (h 0, items_from xs ys (λ i. h (suc i)))

found_from : (ms ns : List (Named Value)) → Distinct ms → ((n : List ℕ) (v : Value) → named n ms ≡ Some v → SameMaybe (Some v) (named n ns)) → FoundIn ns ms
found_from [] ns s h = tt
found_from (m ∷ ms) ns s h = (h (name_of m) (value_of m) (named_first m ms), found_from ms ns s.1 (λ n v is. h n v (named_skip m ms n v s.0 is)))

some_by : (b : Bool) (a c : Option Value) → IsSome a → IsSome c → IsSome (cond b a c)
some_by true a c h k = h
some_by false a c h k = k

known_from : (ms ns : List (Named Value)) → ((n : List ℕ) → IsSome (named n ms) → IsSome (named n ns)) → NamedIn ns ms
known_from [] ns h = tt
known_from (m ∷ ms) ns h = (h (name_of m) (let P : Option Value → Type 0 = IsSome in subst P (sym (named_first m ms)) refl), known_from ms ns (λ n is. h n (some_by (bytes_eq (name_of m) n) (Some (value_of m)) (named n ms) refl is)))

maybe_found : (a b : Option Value) (v : Value) → SameMaybe a b → a ≡ Some v → SameMaybe (Some v) b
maybe_found a b v h is = let P : Option Value → Type 0 = λ x. SameMaybe x b in subst P is h

maybe_known : (a b : Option Value) → SameMaybe a b → IsSome b → IsSome a
maybe_known None None h is = is
maybe_known None (Some w) h is = absurd h
maybe_known (Some v) b h is = refl

some_same : {A : Type 0} (a b : A) → Some a ≡ Some b → a ≡ b
some_same a b e = cc

none_of : (n : List ℕ) (ms : List (Named Value)) → has_name n ms ≡ false → named n ms ≡ None
none_of n [] h = refl
none_of n (m ∷ ms) h = let p = either (bytes_eq m.name n) (has_name n ms) h in ap (λ b. cond b (Some m.value) (named n ms)) p.0 ∙ none_of n ms p.1

pub distinct_of : (ms : List (Named Value)) → IsTrue (apart ms) → Distinct ms
distinct_of [] h = tt
distinct_of (m ∷ ms) h = let p = both (has_name m.name ms) (apart ms) h in (none_of m.name ms p.0, distinct_of ms p.1)

pub layer_from_same : (v w : Value) → IsTrue (apart (members_of (out-Value v))) → SameFlat v w → SameLayer (out-Value v) (out-Value w)
layer_from_same v w s h = (
  some_same _ _ (h []),
  items_from _ _ (λ i. same_below v w (Index i) h),
  found_from _ _ (distinct_of (members_of (out-Value v)) s) (λ n x is. maybe_found _ _ x (same_below v w (Name n) h) is),
  known_from _ _ (λ n is. maybe_known _ _ (same_below v w (Name n) h) is),
)

pub same_length : (xs ys : List Value) → SameItems xs ys → length xs ≡ length ys
same_length [] [] h = refl
same_length [] (y ∷ ys) h = absurd h
same_length (x ∷ xs) [] h = absurd h
same_length (x ∷ xs) (y ∷ ys) h = ap suc (same_length xs ys h.1)

layer_of_items : (a b : Layer) (xs ys : List Value) (r : Bool) → a ≡ Value-F.List xs → b ≡ Value-F.List ys → IsTrue r ↔ SameItems xs ys → IsTrue r ↔ SameLayer a b
layer_of_items a b xs ys r e f h =
    let P : Layer → Layer → Type 0 = λ x y. IsTrue r ↔ SameLayer x y in
    let g : P (Value-F.List xs) (Value-F.List ys) = (λ t. (ap list (same_length xs ys (h.0 t)), h.0 t, tt, tt), λ s. h.1 s.1) in
    subst (λ (x : Layer). P x b) (sym e) (subst (λ (y : Layer). P (Value-F.List xs) y) (sym f) g)

pub value_of_items : (v w : Value) (xs ys : List Value) (r : Bool) → v ≡ Value.List xs → w ≡ Value.List ys → IsTrue r ↔ SameItems xs ys → IsTrue r ↔ SameLayer (out-Value v) (out-Value w)
value_of_items v w xs ys r e f h = layer_of_items _ _ xs ys r (ap out-Value e ∙ outs-List xs) (ap out-Value f ∙ outs-List ys) h

-- ---- values of other kinds

abbrev IsNoList : Layer → Type 0
IsNoList a = (xs : List Value) → a ≡ Value-F.List xs → ⊥

abbrev IsNoObject : Layer → Type 0
IsNoObject a = (ms : List (Named Value)) → a ≡ Value-F.Object ms → ⊥

no_list : (v : Value) → ((xs : List Value) → v ≡ Value.List xs → ⊥) → IsNoList (out-Value v)
no_list v h xs e = h xs (sym (roll-out-Value v) ∙ (ap roll-Value e ∙ rolls-List xs))

no_object : (v : Value) → ((ms : List (Named Value)) → v ≡ Value.Object ms → ⊥) → IsNoObject (out-Value v)
no_object v h ms e = h ms (sym (roll-out-Value v) ∙ (ap roll-Value e ∙ rolls-Object ms))

leaf_apart : (a : Layer) → IsNoObject a → IsTrue (apart (members_of a))
leaf_apart Value-F.Null h = refl
leaf_apart (Value-F.Bool b) h = refl
leaf_apart (Value-F.Int n) h = refl
leaf_apart (Value-F.Text t) h = refl
leaf_apart (Value-F.List xs) h = refl
leaf_apart (Value-F.Object ms) h = absurd (h ms refl)

-- a value without members has no name twice
pub value_apart : (v : Value) → ((ms : List (Named Value)) → v ≡ Value.Object ms → ⊥) → IsTrue (apart (members_of (out-Value v)))
value_apart v h = leaf_apart (out-Value v) (no_object v h)

leaf_same : (a b : Layer) → IsNoList a → IsNoObject a → mark_of a ≡ mark_of b → SameLayer a b
leaf_same Value-F.Null Value-F.Null p q h = (h, tt, tt, tt)
leaf_same Value-F.Null _ p q h = absurd (cc)
leaf_same (Value-F.Bool b) (Value-F.Bool c) p q h = (h, tt, tt, tt)
leaf_same (Value-F.Bool b) _ p q h = absurd (cc)
leaf_same (Value-F.Int m) (Value-F.Int n) p q h = (h, tt, tt, tt)
leaf_same (Value-F.Int m) _ p q h = absurd (cc)
leaf_same (Value-F.Text t) (Value-F.Text u) p q h = (h, tt, tt, tt)
leaf_same (Value-F.Text t) _ p q h = absurd (cc)
leaf_same (Value-F.List xs) b p q h = absurd (p xs refl)
leaf_same (Value-F.Object ms) b p q h = absurd (q ms refl)

-- leaves of one mark are the same
pub value_of_leaf : (v w : Value) (r : Bool) → ((xs : List Value) → v ≡ Value.List xs → ⊥) → ((ms : List (Named Value)) → v ≡ Value.Object ms → ⊥) → IsTrue r ↔ (mark_of (out-Value v) ≡ mark_of (out-Value w)) → IsTrue r ↔ SameLayer (out-Value v) (out-Value w)
value_of_leaf v w r p q h = (λ t. leaf_same _ _ (no_list v p) (no_object v q) (h.0 t), λ s. h.1 s.0)

list_alone : (b : Layer) (n : ℕ) → IsNoList b → list n ≡ mark_of b → ⊥
list_alone (Value-F.List ys) n q h = q ys refl
list_alone Value-F.Null n q h = absurd (cc)
list_alone (Value-F.Bool b) n q h = absurd (cc)
list_alone (Value-F.Int m) n q h = absurd (cc)
list_alone (Value-F.Text t) n q h = absurd (cc)
list_alone (Value-F.Object ms) n q h = absurd (cc)

object_alone : (b : Layer) → IsNoObject b → object ≡ mark_of b → ⊥
object_alone (Value-F.Object ns) q h = q ns refl
object_alone Value-F.Null q h = absurd (cc)
object_alone (Value-F.Bool b) q h = absurd (cc)
object_alone (Value-F.Int m) q h = absurd (cc)
object_alone (Value-F.Text t) q h = absurd (cc)
object_alone (Value-F.List xs) q h = absurd (cc)

-- a list differs from what is none
pub list_differs : (v w : Value) (xs : List Value) → v ≡ Value.List xs → ((ys : List Value) → w ≡ Value.List ys → ⊥) → IsTrue false ↔ SameLayer (out-Value v) (out-Value w)
list_differs v w xs e q = (λ f. absurd (cc), λ s. absurd (list_alone (out-Value w) (length xs) (no_list w q) (sym (ap mark_of (ap out-Value e ∙ outs-List xs)) ∙ s.0)))

-- an object differs from what is none
pub object_differs : (v w : Value) (ms : List (Named Value)) → v ≡ Value.Object ms → ((ns : List (Named Value)) → w ≡ Value.Object ns → ⊥) → IsTrue false ↔ SameLayer (out-Value v) (out-Value w)
object_differs v w ms e q = (λ f. absurd (cc), λ s. absurd (object_alone (out-Value w) (no_object w q) (sym (ap mark_of (ap out-Value e ∙ outs-Object ms)) ∙ s.0)))
