-- Two typed values that don't clash have a union, and so does a value with one that is put behind a path of it; and a list that
-- stands in a value can be longer.
use Rattle.std.proofs.Common.{◌≡◌, ℕ, zero, suc, inl, inr, List, [], ◌∷◌, ◌++◌, map, length, refl, sym, subst, ◌∙◌, ap, Bool, true, false, cond, Some, None, Option, IsSome, IsTrue, arith}
use Rattle.std.specs.Prelude.{slice_get, option_and_then, option_map, ◌&&◌}
use Rattle.std.specs.Bool.{Decides}
use Rattle.std.specs.List.{AllByRecursion}
use Rattle.std.specs.Str.{bytes_eq}
use Rattle.std.specs.Cmp.{booleans_Decides}
use Rattle.std.proofs.lemmas.Slice.Eq.{bytes_eq-Decides}
use Rattle.std.proofs.lemmas.Bool.Decides.{Decides-eqb, Decides-int_eq}
use Rattle.gql_tree.specs.declared.path.Key.{Key}
use Rattle.gql_tree.specs.declared.path.Key.TheVariants.{Name, Index}
use Rattle.gql_tree.specs.declared.fields.Named.{Named}
use Rattle.gql_tree.specs.declared.value.Value.{Value, out-Value, roll-Value, roll-out-Value}
use Rattle.gql_tree.specs.declared.value.Value.TheOpen.{Value-F}
use Rattle.gql_tree.specs.declared.value.Value.TheFolds.{map-Value, fold-roll-Value}
use Rattle.gql_tree.specs.declared.value.Value.TheVariants.{rolls-List, rolls-Object}
use Rattle.gql_tree.specs.declared.value.Value.TheVariants as v
use Rattle.gql_tree.specs.Names.{named, has_name, apart}
use Rattle.gql_tree.specs.Flat.{Layer, Mark, null, truth, integer, text, object, list, mark_of, items_of, below, find, flat}
use Rattle.gql_tree.specs.Extended.{IsLonger}
use Rattle.gql_tree.specs.inner.Place.{IsList, change_item, change_named, change_below, put_at}
use Rattle.gql_tree.specs.Typed.{all_items, all_members, typed_step, is_typed, IsTypedValue}
use Rattle.gql_tree.specs.Union.{IsUnion, Clashes, moved}
use Rattle.gql_tree.specs.inner.United.{Unites, Conflict, UnitesMaybe, UnitesItems, AllJoin, others}
use Rattle.gql_tree.proofs.Apart.{apart_changed, joined_apart}
use Rattle.gql_tree.proofs.Below.{from_below}
use Rattle.gql_tree.proofs.Extended.{longer, list_again}
use Rattle.gql_tree.proofs.Grafted.{put_union, clash_moved}
use Rattle.gql_tree.proofs.Json.{named_map}
use Rattle.gql_tree.proofs.Marks.{apart-map, left_of, right_of, typed_out, typed_below_value}
use Rattle.gql_tree.proofs.Same.{Distinct, distinct_of, named_first, named_skip}
use Rattle.gql_tree.proofs.Typed.{typed_List, typed_Object, and_true}
use Rattle.gql_tree.proofs.Union.{list_union, object_union, clash_here, clash_below, join_names, join_apart}

-- ---- marks that aren't different are the same

decided : {A : Type 0} (b : Bool) (x y : A) → Decides b (x ≡ y) → ((x ≡ y → ⊥) → ⊥) → x ≡ y
decided true x y d h = d.0 refl
decided false x y d h = absurd (h (λ e. let f : false ≡ true = d.1 e in absurd (cc)))

same_mark : (m n : Mark) → ((m ≡ n → ⊥) → ⊥) → m ≡ n
same_mark null null h = refl
same_mark null _ h = absurd (h (λ e. absurd (cc)))
same_mark (truth a) (truth b) h = ap truth (decided _ a b (booleans_Decides a b) (λ k. h (λ e. let same : a ≡ b = cc in k same)))
same_mark (truth a) _ h = absurd (h (λ e. absurd (cc)))
same_mark (integer a) (integer b) h = ap integer (decided _ a b (Decides-int_eq a b) (λ k. h (λ e. let same : a ≡ b = cc in k same)))
same_mark (integer a) _ h = absurd (h (λ e. absurd (cc)))
same_mark (text a) (text b) h = ap text (decided _ a b (bytes_eq-Decides a b) (λ k. h (λ e. let same : a ≡ b = cc in k same)))
same_mark (text a) _ h = absurd (h (λ e. absurd (cc)))
same_mark object object h = refl
same_mark object _ h = absurd (h (λ e. absurd (cc)))
same_mark (list a) (list b) h = ap list (decided _ a b (Decides-eqb a b) (λ k. h (λ e. let same : a ≡ b = cc in k same)))
same_mark (list a) _ h = absurd (h (λ e. absurd (cc)))

-- ---- a union, level by level

abbrev HasUnion : Value → Value → Type 0
HasUnion a b = (w : Value) × IsTypedValue w × Unites w a b

alike : (a b : Value) → IsTypedValue a → out-Value a ≡ out-Value b → HasUnion a b
alike a b typed e =
    let same : b ≡ a = sym (roll-out-Value b) ∙ (ap roll-Value (sym e) ∙ roll-out-Value a) in
    (a, typed, λ path m. (λ h. inl h, λ s. elim s [ inl h ↦ h | inr h ↦ ap (λ x. flat x path) (sym same) ∙ h ]))

items_exist : (xs ys : List Value) → length xs ≡ length ys → ((i : ℕ) (x y : Value) → slice_get xs i ≡ Some x → slice_get ys i ≡ Some y → HasUnion x y)
    → (rs : List Value) × UnitesItems rs xs ys × IsTrue (all_items is_typed rs)
items_exist [] [] e h = ([], tt, refl)
items_exist [] (y ∷ ys) e h = absurd (omega arith)
items_exist (x ∷ xs) [] e h = absurd (omega arith)
items_exist (x ∷ xs) (y ∷ ys) e h =
    let first = h 0 x y refl refl in
    let rest = items_exist xs ys (omega arith) (λ i p q f g. h (suc i) p q f g) in
    (first.0 ∷ rest.0, (first.2, rest.1), and_true _ _ first.1 rest.2)

member_by : (o : Option Value) (x : Value) → IsTypedValue x → ((y : Value) → o ≡ Some y → HasUnion x y) → (r : Value) × UnitesMaybe (Some r) (Some x) o × IsTypedValue r
member_by None x typed h = (x, refl, typed)
member_by (Some y) x typed h = let u = h y refl in (u.0, u.2, u.1)

members_exist : (ns ms : List (Named Value)) → Distinct ms → ((n : List ℕ) (x : Value) → named n ms ≡ Some x → IsTypedValue x) → ((n : List ℕ) (x y : Value) → named n ms ≡ Some x → named n ns ≡ Some y → HasUnion x y)
    → (rs : List (Named Value)) × AllJoin ns rs ms × IsTrue (all_members is_typed rs)
members_exist ns [] s t h = ([], tt, refl)
members_exist ns (m ∷ ms) s t h =
    let first = member_by (named m.name ns) m.value (t m.name m.value (named_first m ms)) (λ y e. h m.name m.value y (named_first m ms) e) in
    let rest = members_exist ns ms s.1 (λ n x e. t n x (named_skip m ms n x s.0 e)) (λ n x y e f. h n x y (named_skip m ms n x s.0 e) f) in
    (record { name = m.name; value = first.0 } ∷ rest.0, ((refl, first.1), rest.1), and_true _ _ first.2 rest.2)

others_by : (b : Bool) (n : Named Value) (os : List (Named Value)) → IsTypedValue n.value → IsTrue (all_members is_typed os) → IsTrue (all_members is_typed (cond b os (n ∷ os)))
others_by true n os h g = g
others_by false n os h g = and_true _ _ h g

others_typed : (ms ns : List (Named Value)) → IsTrue (all_members is_typed ns) → IsTrue (all_members is_typed (others ms ns))
others_typed ms [] h = refl
others_typed ms (n ∷ ns) h = others_by (has_name n.name ms) n (others ms ns) (left_of (is_typed n.value) _ h) (others_typed ms ns (right_of (is_typed n.value) _ h))

append_typed : (ms ns : List (Named Value)) → IsTrue (all_members is_typed ms) → IsTrue (all_members is_typed ns) → IsTrue (all_members is_typed (ms ++ ns))
append_typed [] ns h g = g
append_typed (m ∷ ms) ns h g = and_true _ _ (left_of (is_typed m.value) _ h) (append_typed ms ns (right_of (is_typed m.value) _ h) g)

by_layer : (a b : Value) (y z : Layer) → out-Value a ≡ y → out-Value b ≡ z → IsTypedValue a → IsTypedValue b → mark_of y ≡ mark_of z
    → ((k : Key) (x w : Value) → below y k ≡ Some x → below z k ≡ Some w → HasUnion x w) → HasUnion a b
by_layer a b Value-F.Null Value-F.Null e f ta tb m one = alike a b ta (e ∙ sym f)
by_layer a b Value-F.Null _ e f ta tb m one = absurd (cc)
by_layer a b (Value-F.Bool x) (Value-F.Bool y) e f ta tb m one = let same : x ≡ y = cc in alike a b ta (e ∙ (ap Value-F.Bool same ∙ sym f))
by_layer a b (Value-F.Bool x) _ e f ta tb m one = absurd (cc)
by_layer a b (Value-F.Int x) (Value-F.Int y) e f ta tb m one = let same : x ≡ y = cc in alike a b ta (e ∙ (ap Value-F.Int same ∙ sym f))
by_layer a b (Value-F.Int x) _ e f ta tb m one = absurd (cc)
by_layer a b (Value-F.Text x) (Value-F.Text y) e f ta tb m one = let same : x ≡ y = cc in alike a b ta (e ∙ (ap Value-F.Text same ∙ sym f))
by_layer a b (Value-F.Text x) _ e f ta tb m one = absurd (cc)
by_layer a b (Value-F.List xs) (Value-F.List ys) e f ta tb m one =
    let lengths : length xs ≡ length ys = cc in
    let us = items_exist xs ys lengths (λ i x y p q. one (Index i) x y p q) in (
      v.List us.0,
      typed_List us.0 ∙ us.2,
      list_union (v.List us.0) a b us.0 xs refl (sym (roll-out-Value a) ∙ (ap roll-Value e ∙ rolls-List xs)) (ap mark_of e ∙ (m ∙ sym (ap mark_of f)))
          (subst (λ (zs : List Value). UnitesItems us.0 xs zs) (sym (ap items_of f)) us.1),
    )
by_layer a b (Value-F.List x) _ e f ta tb m one = absurd (cc)
by_layer a b (Value-F.Object ms) (Value-F.Object ns) e f ta tb m one =
    let first : a ≡ v.Object ms = sym (roll-out-Value a) ∙ (ap roll-Value e ∙ rolls-Object ms) in
    let second : b ≡ v.Object ns = sym (roll-out-Value b) ∙ (ap roll-Value f ∙ rolls-Object ns) in
    let ms_typed : IsTrue (apart ms && all_members is_typed ms) = sym (typed_Object ms) ∙ (ap is_typed (sym first) ∙ ta) in
    let ns_typed : IsTrue (apart ns && all_members is_typed ns) = sym (typed_Object ns) ∙ (ap is_typed (sym second) ∙ tb) in
    let js = members_exist ns ms (distinct_of ms (left_of (apart ms) _ ms_typed)) (λ n x h. typed_below_value a (Name n) x ta (ap (λ l. below l (Name n)) e ∙ h)) (λ n x y p q. one (Name n) x y p q) in
    let rs = js.0 in
    let names : IsTrue (apart (rs ++ others ms ns)) = joined_apart rs ms ns (λ k. join_names k ns rs ms js.1) (join_apart ns rs ms js.1 ∙ left_of (apart ms) _ ms_typed) (left_of (apart ns) _ ns_typed) in
    let values : IsTrue (all_members is_typed (rs ++ others ms ns)) = append_typed rs (others ms ns) js.2 (others_typed ms ns (right_of (apart ns) _ ns_typed)) in
    (v.Object (rs ++ others ms ns), typed_Object (rs ++ others ms ns) ∙ and_true _ _ names values, object_union (v.Object (rs ++ others ms ns)) a b rs ms ns refl first second js.1)
by_layer a b (Value-F.Object x) _ e f ta tb m one = absurd (cc)

abbrev HasUnions : Value → Type 0
HasUnions a = (b : Value) → IsTypedValue a → IsTypedValue b → (Conflict a b → ⊥) → HasUnion a b

union_step : (a : Value) → ((k : Key) (x : Value) → below (out-Value a) k ≡ Some x → HasUnions x) → HasUnions a
union_step a one b ta tb fits =
    by_layer a b (out-Value a) (out-Value b) refl refl ta tb (same_mark _ _ (λ h. fits (clash_here a b h)))
    (λ k x w e f. one k x e w (typed_below_value a k x ta e) (typed_below_value b k w tb f) (λ c. fits (clash_below a b x w k e f c)))

union_exists : (a b : Value) → IsTypedValue a → IsTypedValue b → (Conflict a b → ⊥) → HasUnion a b
union_exists a b = from_below HasUnions union_step a b

-- ---- at a path

items_changed : (f : Value → Value) (i : ℕ) (xs : List Value) → IsTrue (all_items (λ b. b) (map is_typed xs)) → ((x : Value) → slice_get xs i ≡ Some x → IsTypedValue (f x)) → IsTrue (all_items (λ b. b) (map is_typed (change_item i f xs)))
items_changed f i [] h g = refl
items_changed f zero (x ∷ xs) h g = and_true _ _ (g x refl) (right_of (is_typed x) _ h)
items_changed f (suc i) (x ∷ xs) h g = and_true _ _ (left_of (is_typed x) _ h) (items_changed f i xs (right_of (is_typed x) _ h) g)

changed_by : (b : Bool) (f : Value → Value) (n : List ℕ) (m : Named Value) (ms : List (Named Value)) → IsTypedValue m.value → IsTrue (all_members (λ b. b) (map (named_map is_typed) ms))
    → (((x : Value) → named n ms ≡ Some x → IsTypedValue (f x)) → IsTrue (all_members (λ b. b) (map (named_map is_typed) (change_named n f ms))))
    → ((x : Value) → cond b (Some m.value) (named n ms) ≡ Some x → IsTypedValue (f x))
    → IsTrue (all_members (λ b. b) (map (named_map is_typed) (cond b (record { name = m.name; value = f m.value } ∷ ms) (m ∷ change_named n f ms))))
changed_by true f n m ms h k rest g = and_true _ _ (g m.value refl) k
changed_by false f n m ms h k rest g = and_true _ _ h (rest g)

members_changed : (f : Value → Value) (n : List ℕ) (ms : List (Named Value)) → IsTrue (all_members (λ b. b) (map (named_map is_typed) ms)) → ((x : Value) → named n ms ≡ Some x → IsTypedValue (f x)) → IsTrue (all_members (λ b. b) (map (named_map is_typed) (change_named n f ms)))
members_changed f n [] h g = refl
members_changed f n (m ∷ ms) h g = changed_by (bytes_eq m.name n) f n m ms (left_of (is_typed m.value) _ h) (right_of (is_typed m.value) _ h) (members_changed f n ms (right_of (is_typed m.value) _ h)) g

changed_typed : (k : Key) (f : Value → Value) (y : Layer) → IsTrue (typed_step (map-Value Value Bool is_typed y)) → ((x : Value) → below y k ≡ Some x → IsTypedValue (f x)) → IsTrue (typed_step (map-Value Value Bool is_typed (change_below k f y)))
changed_typed (Index i) f (Value-F.List xs) h g = items_changed f i xs h g
changed_typed (Name n) f (Value-F.Object ms) h g =
    let names : apart (map (named_map is_typed) (change_named n f ms)) ≡ apart (map (named_map is_typed) ms) = apart-map is_typed (change_named n f ms) ∙ (apart_changed n f ms ∙ sym (apart-map is_typed ms)) in
    and_true _ _ (names ∙ left_of _ _ h) (members_changed f n ms (right_of (apart (map (named_map is_typed) ms)) _ h) g)
changed_typed (Index i) f _ h g = h
changed_typed (Name n) f _ h g = h

put_typed : (path : List Key) (u a : Value) → IsTypedValue a → IsTypedValue u → IsTypedValue (put_at path u a)
put_typed [] u a ta tu = tu
put_typed (k ∷ ks) u a ta tu =
    fold-roll-Value Bool typed_step (change_below k (put_at ks u) (out-Value a))
    ∙ changed_typed k (put_at ks u) (out-Value a) (sym (typed_out a) ∙ ta) (λ x is. put_typed ks u x (typed_below_value a k x ta is) tu)

found_by : (o : Option Value) (ks : List Key) (w : Value) → ((x : Value) → o ≡ Some x → find x ks ≡ Some w → IsTypedValue w) → option_and_then (λ x. find x ks) o ≡ Some w → IsTypedValue w
found_by None ks w h e = absurd (cc)
found_by (Some x) ks w h e = h x refl e

found_typed : (path : List Key) (a w : Value) → IsTypedValue a → find a path ≡ Some w → IsTypedValue w
found_typed [] a w ta e = let same : a ≡ w = cc in subst IsTypedValue same ta
found_typed (k ∷ ks) a w ta e = found_by (below (out-Value a) k) ks w (λ x is there. found_typed ks x w (typed_below_value a k x ta is) there) e

union_by : (o : Option Value) (a b : Value) (path : List Key) → find a path ≡ o → IsTypedValue a → IsTypedValue b → IsSome (option_map (λ w. mark_of (out-Value w)) o) → (Clashes (flat a) (moved path (flat b)) → ⊥)
    → (w : Value) × IsTypedValue w × IsUnion (flat w) (flat a) (moved path (flat b))
union_by None a b path e ta tb stands fits = absurd (cc)
union_by (Some c) a b path e ta tb stands fits =
    let u = union_exists c b (found_typed path a c ta e) tb (λ k. fits (clash_moved path a c b e k)) in
    (put_at path u.0 a, put_typed path u.0 a ta u.1, put_union path u.0 a c b e u.2)

-- where something stands at the path and nothing clashes, there is a union
pub union_exists_at : (a b : Value) (path : List Key) → IsTypedValue a → IsTypedValue b → IsSome (flat a path) → (Clashes (flat a) (moved path (flat b)) → ⊥)
    → (w : Value) × IsTypedValue w × IsUnion (flat w) (flat a) (moved path (flat b))
union_exists_at a b path = union_by (find a path) a b path refl

-- ---- a longer list

all_joined : (xs ys : List Value) → all_items is_typed xs ≡ true → AllByRecursion IsTypedValue ys → all_items is_typed (xs ++ ys) ≡ true
all_joined [] [] h k = refl
all_joined [] (y ∷ ys) h k = and_true _ _ k.0 (all_joined [] ys refl k.1)
all_joined (x ∷ xs) ys h k = and_true _ _ (left_of (is_typed x) _ h) (all_joined xs ys (right_of (is_typed x) _ h) k)

list_is : (l : Layer) (n : ℕ) → mark_of l ≡ list n → IsList l
list_is Value-F.Null n e = cc
list_is (Value-F.Bool b) n e = cc
list_is (Value-F.Int z) n e = cc
list_is (Value-F.Text t) n e = cc
list_is (Value-F.List items) n e = tt
list_is (Value-F.Object members) n e = cc

longer_by : (o : Option Value) (a : Value) (path : List Key) (ys : List Value) (n : ℕ) → find a path ≡ o → IsTypedValue a → AllByRecursion IsTypedValue ys → option_map (λ w. mark_of (out-Value w)) o ≡ Some (list n)
    → (w : Value) × IsTypedValue w × IsLonger (flat w) (flat a) path ys
longer_by None a path ys n e ta ty has = absurd (cc)
longer_by (Some c) a path ys n e ta ty has =
    let same : mark_of (out-Value c) ≡ list n = cc in
    let is = list_again c (list_is (out-Value c) n same) in
    let xs = items_of (out-Value c) in
    let there : find a path ≡ Some (v.List xs) = e ∙ ap Some is in
    let tc : all_items is_typed xs ≡ true = sym (typed_List xs) ∙ found_typed path a (v.List xs) ta there in
    (put_at path (v.List (xs ++ ys)) a, put_typed path (v.List (xs ++ ys)) a ta (typed_List (xs ++ ys) ∙ all_joined xs ys tc ty), longer path xs ys a there)

-- where a list stands at the path, there is a value in which it is longer by these items
pub longer_exists_at : (a : Value) (path : List Key) (ys : List Value) (n : ℕ) → IsTypedValue a → AllByRecursion IsTypedValue ys → flat a path ≡ Some (list n) → (w : Value) × IsTypedValue w × IsLonger (flat w) (flat a) path ys
longer_exists_at a path ys n = longer_by (find a path) a path ys n refl
