-- Values with the same marks have one JSON datum, and a forest has one response.
use Rattle.std.proofs.Common.{◌≡◌, ℕ, suc, List, [], ◌∷◌, map, refl, sym, ◌∙◌, ap, subst, cond, is_eq, Option, Some, None, IsTrue, Ordering, Less, Equal, Greater}
use Rattle.std.specs.Prelude.{T, slice_get, option_map}
use Rattle.std.specs.Ordering.{nat_cmp, match_ordering}
use Rattle.std.specs.Cmp.Lexicographic.{slice_cmp}
use Rattle.std.specs.FinMap.Entries as sorted
use Rattle.std.proofs.lemmas.Cmp.{nat_list_cmp_total}
use Rattle.std.proofs.lemmas.Slice.Eq.{bytes_eq-Decides}
use Rattle.std.proofs.lemmas.Map.Text.{is_eq-slice_cmp}
use Rattle.serde_json.specs.Data.{Data, boolean, number, string, array, object, Members, no_members, member, put}
use Rattle.serde_json.specs.Find.{of_integer, get_member}
use Rattle.serde_json.specs.View.{items_of}
use Rattle.gql_tree.specs.declared.path.Key.{Key}
use Rattle.gql_tree.specs.declared.path.Key.TheVariants.{Name, Index}
use Rattle.gql_tree.specs.declared.fields.Named.{Named}
use Rattle.gql_tree.specs.declared.value.Value.{Value, out-Value}
use Rattle.gql_tree.specs.declared.value.Value.TheOpen.{Value-F}
use Rattle.gql_tree.specs.declared.value.Value.TheFolds.{map-Value}
use Rattle.gql_tree.specs.declared.delivery.Fault.{Fault}
use Rattle.gql_tree.specs.declared.delivery.Failure.{Failure}
use Rattle.gql_tree.specs.Names.{named, apart}
use Rattle.gql_tree.specs.Flat.{Layer, Mark, mark_of, below, flat}
use Rattle.gql_tree.specs.Forest.{Forest}
use Rattle.gql_tree.specs.Json.{put_all, data_step, data_of}
use Rattle.gql_tree.specs.Merged.{IsMerged}
use Rattle.gql_tree.specs.Same.{SameFlat, SameMaybe}
use Rattle.gql_tree.specs.Typed.{is_typed}
use Rattle.gql_tree.proofs.Below.{from_below}
use Rattle.gql_tree.proofs.Json.{put_all-map}
use Rattle.gql_tree.proofs.Marks.{data_out, layer_apart, apart_typed, typed_below_value, members_at, or_none}
use Rattle.gql_tree.proofs.Same.{same_below}

-- ---- members in byte order of their names

abbrev texts : List ℕ → List ℕ → Ordering
texts = slice_cmp nat_cmp

abbrev pairs : Members → List (List ℕ × Data)
pairs no_members = []
pairs (member k d ms) = (k, d) ∷ pairs ms

abbrev members : List (List ℕ × Data) → Members
members [] = no_members
members (e ∷ es) = member e.0 e.1 (members es)

members-pairs : (ms : Members) → members (pairs ms) ≡ ms
members-pairs no_members = refl
members-pairs (member k d ms) = ap (member k d) (members-pairs ms)

pairs_by : (o : Ordering) (k l : List ℕ) (d e : Data) (ms : Members) → pairs (put k d ms) ≡ sorted.put texts k d (pairs ms)
    → pairs (match_ordering o (member k d (member l e ms)) (member l d ms) (member l e (put k d ms))) ≡ sorted.by_order o ((k, d) ∷ (l, e) ∷ pairs ms) ((l, d) ∷ pairs ms) ((l, e) ∷ sorted.put texts k d (pairs ms))
pairs_by Less k l d e ms h = refl
pairs_by Equal k l d e ms h = refl
pairs_by Greater k l d e ms h = ap (λ es. (l, e) ∷ es) h

pairs-put : (k : List ℕ) (d : Data) (ms : Members) → pairs (put k d ms) ≡ sorted.put texts k d (pairs ms)
pairs-put k d no_members = refl
pairs-put k d (member l e ms) = pairs_by (slice_cmp nat_cmp k l) k l d e ms (pairs-put k d ms)

found_by : (o : Ordering) (d : Data) (a b : Option Data) → a ≡ b → cond (is_eq o) (Some d) a ≡ match_ordering o b (Some d) b
found_by Less d a b h = h
found_by Equal d a b h = refl
found_by Greater d a b h = h

find-pairs : (n : List ℕ) (ms : Members) → sorted.find texts n (pairs ms) ≡ get_member n ms
find-pairs n no_members = refl
find-pairs n (member k d ms) = found_by (slice_cmp nat_cmp n k) d _ _ (find-pairs n ms)

put_all-sorted : (found : Members) (ms : List (Named Value)) → T (sorted.is_sorted texts (pairs found)) → T (sorted.is_sorted texts (pairs (put_all data_of found ms)))
put_all-sorted found [] h = h
put_all-sorted found (m ∷ ms) h =
    put_all-sorted (put m.name (data_of m.value) found) ms
    (subst (λ (es : List (List ℕ × Data)). T (sorted.is_sorted texts es)) (sym (pairs-put m.name (data_of m.value) found)) (sorted.is_sorted-put texts nat_list_cmp_total m.name (data_of m.value) (pairs found) h))

equal_names : (m n : List ℕ) → texts m n ≡ Equal → m ≡ n
equal_names m n e = (bytes_eq-Decides m n).0 (sym (is_eq-slice_cmp m n) ∙ ap is_eq e)

-- members in order are equal where each name has the same datum
same_members : (ms ns : Members) → T (sorted.is_sorted texts (pairs ms)) → T (sorted.is_sorted texts (pairs ns)) → ((n : List ℕ) → get_member n ms ≡ get_member n ns) → ms ≡ ns
same_members ms ns g h same =
    sym (members-pairs ms)
    ∙ (ap members (sorted.same_entries texts nat_list_cmp_total equal_names (pairs ms) (pairs ns) g h (λ n. find-pairs n ms ∙ (same n ∙ sym (find-pairs n ns))))
    ∙ members-pairs ns)

member_data : (ms : List (Named Value)) (n : List ℕ) → IsTrue (apart ms) → get_member n (put_all data_of no_members ms) ≡ option_map data_of (named n ms)
member_data ms n h = members_at n ms no_members h ∙ or_none (option_map data_of (named n ms))

-- ---- level by level

same_items : (xs ys : List Value) → ((i : ℕ) → option_map data_of (slice_get xs i) ≡ option_map data_of (slice_get ys i)) → map data_of xs ≡ map data_of ys
same_items [] [] h = refl
same_items [] (y ∷ ys) h = let e = h 0 in absurd (cc)
same_items (x ∷ xs) [] h = let e = h 0 in absurd (cc)
same_items (x ∷ xs) (y ∷ ys) h = let e : data_of x ≡ data_of y = (let g = h 0 in cc) in rw (e, same_items xs ys (λ i. h (suc i))) refl

one_layer : (a b : Layer) → layer_apart a → layer_apart b → mark_of a ≡ mark_of b → ((k : Key) → option_map data_of (below a k) ≡ option_map data_of (below b k)) → data_step (map-Value Value Data data_of a) ≡ data_step (map-Value Value Data data_of b)
one_layer Value-F.Null Value-F.Null g h e is = refl
one_layer Value-F.Null _ g h e is = absurd (cc)
one_layer (Value-F.Bool x) (Value-F.Bool y) g h e is = let same : x ≡ y = cc in ap boolean same
one_layer (Value-F.Bool x) _ g h e is = absurd (cc)
one_layer (Value-F.Int x) (Value-F.Int y) g h e is = let same : x ≡ y = cc in ap (λ z. number (of_integer z)) same
one_layer (Value-F.Int x) _ g h e is = absurd (cc)
one_layer (Value-F.Text x) (Value-F.Text y) g h e is = let same : x ≡ y = cc in ap string same
one_layer (Value-F.Text x) _ g h e is = absurd (cc)
one_layer (Value-F.List xs) (Value-F.List ys) g h e is = ap (λ ds. array (items_of ds)) (same_items xs ys (λ i. is (Index i)))
one_layer (Value-F.List x) _ g h e is = absurd (cc)
one_layer (Value-F.Object ms) (Value-F.Object ns) g h e is =
    ap object (put_all-map data_of no_members ms
    ∙ (same_members (put_all data_of no_members ms) (put_all data_of no_members ns) (put_all-sorted no_members ms tt) (put_all-sorted no_members ns tt) (λ n. member_data ms n g ∙ (is (Name n) ∙ sym (member_data ns n h)))
    ∙ sym (put_all-map data_of no_members ns)))
one_layer (Value-F.Object x) _ g h e is = absurd (cc)

abbrev OneDatum : Value → Type 0
OneDatum v = (w : Value) → IsTrue (is_typed v) → IsTrue (is_typed w) → SameFlat v w → data_of v ≡ data_of w

one_maybe : (o p : Option Value) → ((x : Value) → o ≡ Some x → OneDatum x) → ((x : Value) → o ≡ Some x → IsTrue (is_typed x)) → ((x : Value) → p ≡ Some x → IsTrue (is_typed x)) → SameMaybe o p → option_map data_of o ≡ option_map data_of p
one_maybe None None one g h same = refl
one_maybe None (Some w) one g h same = absurd same
one_maybe (Some v) None one g h same = absurd same
one_maybe (Some v) (Some w) one g h same = ap Some (one v refl w (g v refl) (h w refl) same)

some_one : {A : Type 0} (a b : A) → Some a ≡ Some b → a ≡ b
some_one a b e = cc

one_step : (v : Value) → ((k : Key) (x : Value) → below (out-Value v) k ≡ Some x → OneDatum x) → OneDatum v
one_step v one w g h same =
    data_out v
    ∙ (one_layer (out-Value v) (out-Value w) (apart_typed v g) (apart_typed w h) (some_one _ _ (same []))
    (λ k. one_maybe (below (out-Value v) k) (below (out-Value w) k) (one k) (λ x is. typed_below_value v k x g is) (λ x is. typed_below_value w k x h is) (same_below v w k same))
    ∙ sym (data_out w))

-- typed values that are the same up to the order of members have one datum
pub same_marks : (v w : Value) → IsTrue (is_typed v) → IsTrue (is_typed w) → SameFlat v w → data_of v ≡ data_of w
same_marks v w = from_below OneDatum one_step v w

-- ---- a forest's response

same_by : (o p : Option Mark) → ((m : Mark) → o ≡ Some m → p ≡ Some m) → ((m : Mark) → p ≡ Some m → o ≡ Some m) → o ≡ p
same_by None None g h = refl
same_by None (Some m) g h = h m refl
same_by (Some m) p g h = sym (g m refl)

-- what is merged is one value up to the order of members, with one list of errors and one of failures
pub one_response : (f : Forest) (v w : Value) (es fs : List Fault) (xs ys : List Failure) → IsMerged f v es xs → IsMerged f w fs ys → (data_of v ≡ data_of w) × (es ≡ fs) × (xs ≡ ys)
one_response f v w es fs xs ys a b = (
  same_marks v w a.typed b.typed (λ path. same_by (flat v path) (flat w path) (λ m e. (b.marks path m).1 ((a.marks path m).0 e)) (λ m e. (a.marks path m).1 ((b.marks path m).0 e))),
  a.errors ∙ sym b.errors,
  a.failures ∙ sym b.failures,
)
