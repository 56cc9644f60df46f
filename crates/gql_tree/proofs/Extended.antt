-- A longer list put in the place of a list.
use Rattle.std.proofs.Common.{◌≡◌, ℕ, zero, suc, ◌+◌, ◌<◌, ◌⊎◌, inl, inr, List, [], ◌∷◌, ◌++◌, length, refl, sym, ◌∙◌, ap, Some, None, Option, arith, length-append}
use Rattle.std.specs.Prelude.{slice_get, option_and_then, option_map}
use Rattle.gql_tree.specs.declared.path.Key.{Key}
use Rattle.gql_tree.specs.declared.path.Key.TheVariants.{Name, Index}
use Rattle.gql_tree.specs.declared.value.Value.{Value, out-Value, roll-Value, roll-out-Value}
use Rattle.gql_tree.specs.declared.value.Value.TheOpen.{Value-F}
use Rattle.gql_tree.specs.declared.value.Value.TheVariants.{outs-List}
use Rattle.gql_tree.specs.declared.value.Value.TheVariants as v
use Rattle.gql_tree.specs.Flat.{Layer, Mark, mark_of, list, items_of, below, find, flat}
use Rattle.gql_tree.specs.inner.Place.{put_at, IsList}
use Rattle.gql_tree.specs.Extended.{IsLonger, IsElsewhere, marks}
use Rattle.gql_tree.proofs.Moved.{Where, where_at, flat-append, flat-put_at}

append_nothing : {A : Type 0} (xs : List A) → xs ++ [] ≡ xs
append_nothing [] = refl
append_nothing (x ∷ xs) = ap (λ ys. x ∷ ys) (append_nothing xs)

get_behind : (xs ys : List Value) (i : ℕ) → slice_get (xs ++ ys) (length xs + i) ≡ slice_get ys i
get_behind [] ys i = let e : 0 + i ≡ i = omega arith in ap (slice_get ys) e
get_behind (x ∷ xs) ys i = let e : suc (length xs) + i ≡ suc (length xs + i) = omega arith in ap (slice_get (x ∷ (xs ++ ys))) e ∙ get_behind xs ys i

-- an index is one of the old items', or that of one behind them
abbrev Splits : ℕ → ℕ → Type 0
Splits n j = (j < n) ⊎ ((i : ℕ) × (j ≡ n + i))

split_more : (n j : ℕ) → Splits n j → Splits (suc n) (suc j)
split_more n j (inl h) = inl (omega arith)
split_more n j (inr p) = inr (p.0, omega (arith, p.1))

pub split_at : (n j : ℕ) → Splits n j
split_at zero j = inr (j, omega arith)
split_at (suc n) zero = inl (omega arith)
split_at (suc n) (suc j) = split_more n j (split_at n j)

get_before : (xs ys : List Value) (j : ℕ) → j < length xs → slice_get (xs ++ ys) j ≡ slice_get xs j
get_before [] ys j h = absurd (omega arith)
get_before (x ∷ xs) ys zero h = refl
get_before (x ∷ xs) ys (suc j) h = get_before xs ys j (omega arith)

abbrev at_path : List Key → Option Value → Option Mark
at_path path o = option_map (λ w. mark_of (out-Value w)) (option_and_then (λ w. find w path) o)

at_marks : (o : Option Value) (q : List Key) → at_path q o ≡ marks o q
at_marks None q = refl
at_marks (Some x) q = refl

-- what stands at a list
flat_List : (xs : List Value) (k : Key) (q : List Key) → flat (v.List xs) (k ∷ q) ≡ at_path q (below (Value-F.List xs) k)
flat_List xs k q = ap (λ l. at_path q (below l k)) (outs-List xs)

flat_top : (xs : List Value) → flat (v.List xs) [] ≡ Some (list (length xs))
flat_top xs = ap Some (ap mark_of (outs-List xs))

-- a key of a list that isn't behind its items sees the same in the longer list
old_key : (xs ys : List Value) (k : Key) (q : List Key) → ((i : ℕ) → k ≡ Index (length xs + i) → ⊥) → at_path q (below (Value-F.List (xs ++ ys)) k) ≡ at_path q (below (Value-F.List xs) k)
old_key xs ys (Name n) q h = refl
old_key xs ys (Index j) q h = elim (split_at (length xs) j) [ inl lt ↦ ap (at_path q) (get_before xs ys j lt) | inr p ↦ absurd (h p.0 (ap Index p.1)) ]

old_below : (xs ys : List Value) (q : List Key) → (q ≡ [] → ⊥) → ((i : ℕ) (r : List Key) → q ≡ Index (length xs + i) ∷ r → ⊥) → flat (v.List (xs ++ ys)) q ≡ flat (v.List xs) q
old_below xs ys [] h g = absurd (h refl)
old_below xs ys (k ∷ q) h g = flat_List (xs ++ ys) k q ∙ (old_key xs ys k q (λ i e. g i q (ap (λ z. z ∷ q) e)) ∙ sym (flat_List xs k q))

else_by : (path p : List Key) (xs ys : List Value) (o : Value) → find o path ≡ Some (v.List xs) → IsElsewhere path (length xs) p → Where path (v.List (xs ++ ys)) o p → flat (put_at path (v.List (xs ++ ys)) o) p ≡ flat o p
else_by path p xs ys o e h (inr w) = w.1
else_by path p xs ys o e h (inl w) =
    let q = w.0 in
    let u = v.List (xs ++ ys) in
    let below_top : q ≡ [] → ⊥ = λ f. h.0 (w.1 ∙ (ap (λ z. path ++ z) f ∙ append_nothing path)) in
    let before : (i : ℕ) (r : List Key) → q ≡ Index (length xs + i) ∷ r → ⊥ = λ i r f. h.1 i r (w.1 ∙ ap (λ z. path ++ z) f) in
    ap (flat (put_at path u o)) w.1 ∙ (flat-put_at path q u o (v.List xs) e ∙ (old_below xs ys q below_top before ∙ (sym (flat-append path q o (v.List xs) e) ∙ ap (flat o) (sym w.1))))

at_place : (path : List Key) (xs : List Value) (o w : Value) → w ≡ v.List xs → find o path ≡ Some w → flat o path ≡ Some (list (length xs))
at_place path xs o w f e = ap (option_map (λ x. mark_of (out-Value x))) e ∙ (ap (λ x. Some (mark_of (out-Value x))) f ∙ flat_top xs)

pub longer : (path : List Key) (xs ys : List Value) (o : Value) → find o path ≡ Some (v.List xs) → IsLonger (flat (put_at path (v.List (xs ++ ys)) o)) (flat o) path ys
longer path xs ys o e =
    let u = v.List (xs ++ ys) in
    record {
      first = length xs;
      was = at_place path xs o (v.List xs) refl e;
      longer = ap (flat (put_at path u o)) (sym (append_nothing path)) ∙ (flat-put_at path [] u o (v.List xs) e ∙ (flat_top (xs ++ ys) ∙ ap (λ n. Some (list n)) (length-append xs ys)));
      behind = λ i q. flat-put_at path (Index (length xs + i) ∷ q) u o (v.List xs) e ∙ (flat_List (xs ++ ys) (Index (length xs + i)) q ∙ (ap (at_path q) (get_behind xs ys i) ∙ at_marks (slice_get ys i) q));
      else_kept = λ p h. else_by path p xs ys o e h (where_at path p u o (v.List xs) e);
    }

list_layer : (l : Layer) → IsList l → l ≡ Value-F.List (items_of l)
list_layer Value-F.Null h = absurd h
list_layer (Value-F.Bool b) h = absurd h
list_layer (Value-F.Int n) h = absurd h
list_layer (Value-F.Text t) h = absurd h
list_layer (Value-F.List items) h = refl
list_layer (Value-F.Object members) h = absurd h

-- a list is that of its items
pub list_again : (w : Value) → IsList (out-Value w) → w ≡ v.List (items_of (out-Value w))
list_again w h = sym (roll-out-Value w) ∙ (ap roll-Value (list_layer (out-Value w) h ∙ sym (outs-List (items_of (out-Value w)))) ∙ roll-out-Value (v.List (items_of (out-Value w))))
