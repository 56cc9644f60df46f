-- The marks of a value are those of its JSON datum.
use Rattle.std.proofs.Common.{◌≡◌, ℕ, zero, suc, List, [], ◌∷◌, map, length, refl, sym, ◌∙◌, ap, subst, Bool, true, false, cond, is_eq, Option, Some, None, IsTrue, Ordering, Less, Equal, Greater}
use Rattle.std.specs.Prelude.{ℤ, pos, negsuc, ◌&&◌, ◌||◌, slice_get, option_map, option_and_then}
use Rattle.std.specs.Option.{option_or}
use Rattle.std.specs.Str.{bytes_eq}
use Rattle.std.specs.Ordering.{nat_cmp, match_ordering}
use Rattle.std.specs.Cmp.Lexicographic.{slice_cmp, nat_list_eq_equiv}
use Rattle.std.proofs.lemmas.Slice.Eq.{bytes_eq-Decides}
use Rattle.std.proofs.lemmas.Map.Text.{is_eq-slice_cmp}
use Rattle.serde_json.specs.Data.{Data, null, boolean, number, string, array, object, Items, no_items, item, Members, no_members, member, put}
use Rattle.serde_json.specs.Events.{items_len}
use Rattle.serde_json.specs.Find.{of_integer, get_item, get_member}
use Rattle.serde_json.specs.View.{items_of}
use Rattle.serde_json.proofs.Views.{get_member-put, get_member-put_other}
use Rattle.gql_tree.specs.declared.path.Key.{Key}
use Rattle.gql_tree.specs.declared.path.Key.TheVariants.{Name, Index}
use Rattle.gql_tree.specs.declared.fields.Named.{Named}
use Rattle.gql_tree.specs.declared.value.Value.{Value, out-Value}
use Rattle.gql_tree.specs.declared.value.Value.TheOpen.{Value-F}
use Rattle.gql_tree.specs.declared.value.Value.TheFolds.{map-Value, fold_out-Value}
use Rattle.gql_tree.specs.declared.value.Value.TheVariants.{outs-Null, outs-Bool, outs-Int, outs-Text, outs-List, outs-Object}
use Rattle.gql_tree.specs.Names.{named, has_name, apart}
use Rattle.gql_tree.specs.Flat.{Layer, Mark, mark_of, below, find, flat}
use Rattle.gql_tree.specs.Flat as mark
use Rattle.gql_tree.specs.Json.{put_all, data_step, data_of}
use Rattle.gql_tree.specs.FromJson.{integer_of, value_of, values_of, fields_of}
use Rattle.gql_tree.specs.Typed.{all_items, all_members, typed_step, is_typed}
use Rattle.gql_tree.specs.Same.{SameFlat}
use Rattle.gql_tree.proofs.Names.{either, both}
use Rattle.gql_tree.proofs.Json.{named_map, put_all-map}

-- ---- paths in a datum

abbrev pub mark_in : Data → Mark
mark_in null = mark.null
mark_in (boolean b) = mark.truth b
mark_in (number n) = mark.integer (integer_of n)
mark_in (string s) = mark.text s
mark_in (array ds) = mark.list (items_len ds)
mark_in (object ms) = mark.object

abbrev pub below_in : Data → Key → Option Data
below_in (array ds) (Index i) = get_item i ds
below_in (object ms) (Name n) = get_member n ms
below_in _ k = None

abbrev pub find_in : Data → List Key → Option Data
find_in d [] = Some d
find_in d (k ∷ ks) = option_and_then (λ e. find_in e ks) (below_in d k)

abbrev pub flat_in : Data → List Key → Option Mark
flat_in d path = option_map mark_in (find_in d path)

-- ---- the value of a datum

matched : {A : Type 0} (o : Ordering) (here other : A) → match_ordering o other here other ≡ cond (is_eq o) here other
matched Less here other = refl
matched Equal here other = refl
matched Greater here other = refl

-- a member by its name, by a test
get_member-test : (n k : List ℕ) (d : Data) (ms : Members) → get_member n (member k d ms) ≡ cond (bytes_eq k n) (Some d) (get_member n ms)
get_member-test n k d ms =
    matched (slice_cmp nat_cmp n k) (Some d) (get_member n ms) ∙ ap (λ b. cond b (Some d) (get_member n ms)) (is_eq-slice_cmp n k ∙ nat_list_eq_equiv.symm n k)

map_cond : {A B : Type 0} (f : A → B) (b : Bool) (x : A) (o : Option A) (p : Option B) → option_map f o ≡ p → cond b (Some (f x)) p ≡ option_map f (cond b (Some x) o)
map_cond f true x o p h = refl
map_cond f false x o p h = sym h

values_at : (ds : Items) (i : ℕ) → slice_get (values_of ds) i ≡ option_map value_of (get_item i ds)
values_at no_items i = refl
values_at (item d ds) zero = refl
values_at (item d ds) (suc i) = values_at ds i

fields_at : (ms : Members) (n : List ℕ) → named n (fields_of ms) ≡ option_map value_of (get_member n ms)
fields_at no_members n = refl
fields_at (member k d ms) n =
    map_cond value_of (bytes_eq k n) d (get_member n ms) (named n (fields_of ms)) (sym (fields_at ms n)) ∙ ap (option_map value_of) (sym (get_member-test n k d ms))

below_value : (d : Data) (k : Key) → below (out-Value (value_of d)) k ≡ option_map value_of (below_in d k)
below_value null (Index i) = ap (λ y. below y (Index i)) outs-Null
below_value null (Name n) = ap (λ y. below y (Name n)) outs-Null
below_value (boolean b) (Index i) = ap (λ y. below y (Index i)) (outs-Bool b)
below_value (boolean b) (Name n) = ap (λ y. below y (Name n)) (outs-Bool b)
below_value (number x) (Index i) = ap (λ y. below y (Index i)) (outs-Int (integer_of x))
below_value (number x) (Name n) = ap (λ y. below y (Name n)) (outs-Int (integer_of x))
below_value (string s) (Index i) = ap (λ y. below y (Index i)) (outs-Text s)
below_value (string s) (Name n) = ap (λ y. below y (Name n)) (outs-Text s)
below_value (array ds) (Index i) = ap (λ y. below y (Index i)) (outs-List (values_of ds)) ∙ values_at ds i
below_value (array ds) (Name n) = ap (λ y. below y (Name n)) (outs-List (values_of ds))
below_value (object ms) (Index i) = ap (λ y. below y (Index i)) (outs-Object (fields_of ms))
below_value (object ms) (Name n) = ap (λ y. below y (Name n)) (outs-Object (fields_of ms)) ∙ fields_at ms n

values_length : (ds : Items) → length (values_of ds) ≡ items_len ds
values_length no_items = refl
values_length (item d ds) = ap suc (values_length ds)

mark_value : (d : Data) → mark_of (out-Value (value_of d)) ≡ mark_in d
mark_value null = ap mark_of outs-Null
mark_value (boolean b) = ap mark_of (outs-Bool b)
mark_value (number x) = ap mark_of (outs-Int (integer_of x))
mark_value (string s) = ap mark_of (outs-Text s)
mark_value (array ds) = ap mark_of (outs-List (values_of ds)) ∙ ap mark.list (values_length ds)
mark_value (object ms) = ap mark_of (outs-Object (fields_of ms))

abbrev mark_at : Option Value → List Key → Option Mark
mark_at found path = option_map (λ w. mark_of (out-Value w)) (option_and_then (λ w. find w path) found)

abbrev mark_in_at : Option Data → List Key → Option Mark
mark_in_at found path = option_map mark_in (option_and_then (λ e. find_in e path) found)

value_maybe : (o : Option Data) (path : List Key) → ((d : Data) → flat (value_of d) path ≡ flat_in d path) → mark_at (option_map value_of o) path ≡ mark_in_at o path
value_maybe None path h = refl
value_maybe (Some d) path h = h d

-- the value of a datum has the marks of the datum
pub flat-value_of : (path : List Key) (d : Data) → flat (value_of d) path ≡ flat_in d path
flat-value_of [] d = ap Some (mark_value d)
flat-value_of (k ∷ path) d = ap (λ o. mark_at o path) (below_value d k) ∙ value_maybe (below_in d k) path (flat-value_of path)

-- ---- the datum of a value

none_by : (b : Bool) (x : Option Value) → b ≡ false → x ≡ None → cond b x None ≡ None
none_by b x e h = rw e refl

no_name : (n : List ℕ) (ms : List (Named Value)) → has_name n ms ≡ false → named n ms ≡ None
no_name n [] h = refl
no_name n (m ∷ ms) h = let p = either (bytes_eq m.name n) (has_name n ms) h in ap (λ b. cond b (Some m.value) (named n ms)) p.0 ∙ no_name n ms p.1

-- the datum found among members put in one after another
put_by : (b : Bool) (n : List ℕ) (m : Named Value) (ms : List (Named Value)) (found : Members) → bytes_eq m.name n ≡ b → has_name m.name ms ≡ false
    → option_or (option_map data_of (named n ms)) (get_member n (put m.name (data_of m.value) found)) ≡ option_or (option_map data_of (cond b (Some m.value) (named n ms))) (get_member n found)
put_by true n m ms found e gone =
    let same : m.name ≡ n = (bytes_eq-Decides m.name n).0 e in
    let none : named n ms ≡ None = subst (λ (k : List ℕ). named k ms ≡ None) same (no_name m.name ms gone) in
    let here : get_member n (put m.name (data_of m.value) found) ≡ Some (data_of m.value) = subst (λ (k : List ℕ). get_member k (put m.name (data_of m.value) found) ≡ Some (data_of m.value)) same (get_member-put m.name (data_of m.value) found) in
    rw (none, here) refl
put_by false n m ms found e gone =
    ap (option_or (option_map data_of (named n ms))) (get_member-put_other n m.name (data_of m.value) found (λ same. let t : bytes_eq m.name n ≡ true = (bytes_eq-Decides m.name n).1 (sym same) in absurd (cc)))

pub members_at : (n : List ℕ) (ms : List (Named Value)) (found : Members) → IsTrue (apart ms) → get_member n (put_all data_of found ms) ≡ option_or (option_map data_of (named n ms)) (get_member n found)
members_at n [] found h = refl
members_at n (m ∷ ms) found h =
    let p = both (has_name m.name ms) (apart ms) h in
    members_at n ms (put m.name (data_of m.value) found) p.1 ∙ put_by (bytes_eq m.name n) n m ms found refl p.0

pub or_none : {A : Type 0} (o : Option A) → option_or o None ≡ o
or_none None = refl
or_none (Some x) = refl

items_at : (xs : List Value) (i : ℕ) → get_item i (items_of (map data_of xs)) ≡ option_map data_of (slice_get xs i)
items_at [] i = refl
items_at (x ∷ xs) zero = refl
items_at (x ∷ xs) (suc i) = items_at xs i

has_map : {X Y : Type 0} (f : X → Y) (n : List ℕ) (ms : List (Named X)) → has_name n (map (named_map f) ms) ≡ has_name n ms
has_map f n [] = refl
has_map f n (m ∷ ms) = ap (λ b. bytes_eq m.name n || b) (has_map f n ms)

pub apart-map : {X Y : Type 0} (f : X → Y) (ms : List (Named X)) → apart (map (named_map f) ms) ≡ apart ms
apart-map f [] = refl
apart-map f (m ∷ ms) = rw (has_map f m.name ms, apart-map f ms) refl

-- one level of a typed value: its names are apart
abbrev pub layer_apart : Layer → Type 0
layer_apart (Value-F.Object ms) = IsTrue (apart ms)
layer_apart _ = Unit {0}

below_layer : (y : Layer) (k : Key) → layer_apart y → below_in (data_step (map-Value Value Data data_of y)) k ≡ option_map data_of (below y k)
below_layer Value-F.Null (Index i) h = refl
below_layer Value-F.Null (Name n) h = refl
below_layer (Value-F.Bool b) (Index i) h = refl
below_layer (Value-F.Bool b) (Name n) h = refl
below_layer (Value-F.Int z) (Index i) h = refl
below_layer (Value-F.Int z) (Name n) h = refl
below_layer (Value-F.Text t) (Index i) h = refl
below_layer (Value-F.Text t) (Name n) h = refl
below_layer (Value-F.List xs) (Index i) h = items_at xs i
below_layer (Value-F.List xs) (Name n) h = refl
below_layer (Value-F.Object ms) (Index i) h = refl
below_layer (Value-F.Object ms) (Name n) h = ap (get_member n) (put_all-map data_of no_members ms) ∙ (members_at n ms no_members h ∙ or_none (option_map data_of (named n ms)))

items_length : (xs : List Value) → items_len (items_of (map data_of xs)) ≡ length xs
items_length [] = refl
items_length (x ∷ xs) = ap suc (items_length xs)

integer_back : (z : ℤ) → integer_of (of_integer z) ≡ z
integer_back (pos n) = refl
integer_back (negsuc n) = refl

mark_layer : (y : Layer) → mark_in (data_step (map-Value Value Data data_of y)) ≡ mark_of y
mark_layer Value-F.Null = refl
mark_layer (Value-F.Bool b) = refl
mark_layer (Value-F.Int z) = ap mark.integer (integer_back z)
mark_layer (Value-F.Text t) = refl
mark_layer (Value-F.List xs) = ap mark.list (items_length xs)
mark_layer (Value-F.Object ms) = refl

pub data_out : (v : Value) → data_of v ≡ data_step (map-Value Value Data data_of (out-Value v))
data_out v = fold_out-Value Data data_step v

pub typed_out : (v : Value) → is_typed v ≡ typed_step (map-Value Value Bool is_typed (out-Value v))
typed_out v = fold_out-Value Bool typed_step v

-- ---- typed values

pub left_of : (a b : Bool) → IsTrue (a && b) → IsTrue a
left_of true b h = refl
left_of false b h = h

pub right_of : (a b : Bool) → IsTrue (a && b) → IsTrue b
right_of true b h = h
right_of false b h = absurd (cc)

apart_layer : (y : Layer) → IsTrue (typed_step (map-Value Value Bool is_typed y)) → layer_apart y
apart_layer Value-F.Null h = tt
apart_layer (Value-F.Bool b) h = tt
apart_layer (Value-F.Int z) h = tt
apart_layer (Value-F.Text t) h = tt
apart_layer (Value-F.List xs) h = tt
apart_layer (Value-F.Object ms) h = sym (apart-map is_typed ms) ∙ left_of _ _ h

typed_item : (xs : List Value) (i : ℕ) (w : Value) → IsTrue (all_items (λ b. b) (map is_typed xs)) → slice_get xs i ≡ Some w → IsTrue (is_typed w)
typed_item [] i w h is = absurd (cc)
typed_item (x ∷ xs) zero w h is = let same : x ≡ w = cc in subst (λ (z : Value). IsTrue (is_typed z)) same (left_of (is_typed x) _ h)
typed_item (x ∷ xs) (suc i) w h is = typed_item xs i w (right_of (is_typed x) _ h) is

typed_by : (b : Bool) (x w : Value) (o : Option Value) → IsTrue (is_typed x) → (o ≡ Some w → IsTrue (is_typed w)) → cond b (Some x) o ≡ Some w → IsTrue (is_typed w)
typed_by true x w o h later is = let same : x ≡ w = cc in subst (λ (z : Value). IsTrue (is_typed z)) same h
typed_by false x w o h later is = later is

typed_member : (ms : List (Named Value)) (n : List ℕ) (w : Value) → IsTrue (all_members (λ b. b) (map (named_map is_typed) ms)) → named n ms ≡ Some w → IsTrue (is_typed w)
typed_member [] n w h is = absurd (cc)
typed_member (m ∷ ms) n w h is = typed_by (bytes_eq m.name n) m.value w (named n ms) (left_of (is_typed m.value) _ h) (typed_member ms n w (right_of (is_typed m.value) _ h)) is

typed_below : (y : Layer) (k : Key) (w : Value) → IsTrue (typed_step (map-Value Value Bool is_typed y)) → below y k ≡ Some w → IsTrue (is_typed w)
typed_below (Value-F.List xs) (Index i) w h is = typed_item xs i w h is
typed_below (Value-F.Object ms) (Name n) w h is = typed_member ms n w (right_of (apart (map (named_map is_typed) ms)) _ h) is
typed_below _ (Index i) w h is = absurd (cc)
typed_below _ (Name n) w h is = absurd (cc)

pub apart_typed : (v : Value) → IsTrue (is_typed v) → layer_apart (out-Value v)
apart_typed v h = apart_layer (out-Value v) (sym (typed_out v) ∙ h)

pub typed_below_value : (v : Value) (k : Key) (w : Value) → IsTrue (is_typed v) → below (out-Value v) k ≡ Some w → IsTrue (is_typed w)
typed_below_value v k w h is = typed_below (out-Value v) k w (sym (typed_out v) ∙ h) is

data_maybe : (o : Option Value) (path : List Key) → ((w : Value) → o ≡ Some w → flat w path ≡ flat_in (data_of w) path) → mark_at o path ≡ mark_in_at (option_map data_of o) path
data_maybe None path h = refl
data_maybe (Some w) path h = h w refl

-- a value has the marks of its datum
pub flat-data_of : (path : List Key) (v : Value) → IsTrue (is_typed v) → flat v path ≡ flat_in (data_of v) path
flat-data_of [] v h = ap Some (sym (mark_layer (out-Value v)) ∙ ap mark_in (sym (data_out v)))
flat-data_of (k ∷ path) v h =
    let here : below_in (data_of v) k ≡ option_map data_of (below (out-Value v) k) = ap (λ d. below_in d k) (data_out v) ∙ below_layer (out-Value v) k (apart_typed v h) in
    data_maybe (below (out-Value v) k) path (λ w is. flat-data_of path w (typed_below_value v k w h is))
    ∙ ap (λ o. mark_in_at o path) (sym here)

-- ---- values with equal data

-- the value of a value's datum is the value up to the order of members
pub same-value_of : (v : Value) → IsTrue (is_typed v) → SameFlat v (value_of (data_of v))
same-value_of v h path = flat-data_of path v h ∙ sym (flat-value_of path (data_of v))

-- values with equal data are the same up to the order of members
pub same-data : (v w : Value) → IsTrue (is_typed v) → IsTrue (is_typed w) → data_of v ≡ data_of w → SameFlat v w
same-data v w h k e path = flat-data_of path v h ∙ (ap (λ d. flat_in d path) e ∙ sym (flat-data_of path w k))
