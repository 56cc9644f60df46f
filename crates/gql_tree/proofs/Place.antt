-- Change at a path, by positions.
use Rattle.std.proofs.Common.{◌≡◌, ℕ, zero, suc, ◌<◌, List, [], ◌∷◌, length, get_or, refl, ◌∙◌, ◌+◌, ap, Bool, true, false, cond, Some, None, Option, IsSome, arith}
use Rattle.std.specs.Prelude.{slice_set, option_and_then}
use Rattle.std.specs.List.{position_from}
use Rattle.std.specs.Str.{bytes_eq}
use Rattle.std.proofs.lemmas.Option.{slice_get-get_or}
use Rattle.gql_tree.specs.declared.path.Key.{Key}
use Rattle.gql_tree.specs.declared.value.Value.{Value}
use Rattle.gql_tree.specs.declared.fields.Named.{Named}
use Rattle.gql_tree.specs.Flat.{find}
use Rattle.gql_tree.specs.Names.{named}
use Rattle.gql_tree.specs.inner.Place.{change_item, change_named, find_item}

pub in_items : (ks : List Key) (i : ℕ) (vs : List Value) → IsSome (find_item ks i vs) → i < length vs
in_items ks i [] h = absurd (cc)
in_items ks zero (v ∷ vs) h = omega arith
in_items ks (suc i) (v ∷ vs) h = omega (arith, in_items ks i vs h)

pub find_item_at : (ks : List Key) (i : ℕ) (vs : List Value) (d : Value) → i < length vs → find_item ks i vs ≡ find (get_or vs i d) ks
find_item_at ks i vs d h = ap (option_and_then (λ w. find w ks)) (slice_get-get_or vs i d h)

pub change_item_set : (f : Value → Value) (i : ℕ) (vs : List Value) (d : Value) → i < length vs → change_item i f vs ≡ slice_set vs i (f (get_or vs i d))
change_item_set f i [] d h = absurd (omega arith)
change_item_set f zero (v ∷ vs) d h = refl
change_item_set f (suc i) (v ∷ vs) d h = ap (λ xs. v ∷ xs) (change_item_set f i vs d (omega arith))

abbrev pub with_value : (Named Value) → (Value → Value) → (Named Value)
with_value m f = record { name = m.name; value = f m.value }

-- ---- the first member of a name

module _ (n : List ℕ) where
  abbrev Has : Named Value → Bool
  Has m = bytes_eq m.name n

  -- it stands at this index, counted from k
  abbrev Stands : ℕ → List (Named Value) → ℕ → Named Value → (Value → Value) → Type 0
  Stands k ms at d f = (j : ℕ) × (at ≡ k + j) × (j < length ms) × (named n ms ≡ Some (get_or ms j d).value) × (change_named n f ms ≡ slice_set ms j (with_value (get_or ms j d) f))

  stands_by : (b : Bool) (m : Named Value) (ms : List (Named Value)) (k at : ℕ) (d : Named Value) (f : Value → Value) → (position_from Has (k + 1) ms ≡ Some at → Stands (k + 1) ms at d f) → cond b (Some k) (position_from Has (k + 1) ms) ≡ Some at → (j : ℕ) × (at ≡ k + j) × (j < suc (length ms)) × (cond b (Some m.value) (named n ms) ≡ Some (get_or (m ∷ ms) j d).value) × (cond b (with_value m f ∷ ms) (m ∷ change_named n f ms) ≡ slice_set (m ∷ ms) j (with_value (get_or (m ∷ ms) j d) f))
  stands_by true m ms k at d f h is = let same : k ≡ at = cc in (0, omega arith, omega arith, refl, refl)
  stands_by false m ms k at d f h is = let p = h is in (suc p.0, omega (arith, p.1), omega (arith, p.2), p.3, ap (λ xs. m ∷ xs) p.4)

  stands_from : (ms : List (Named Value)) (k at : ℕ) (d : Named Value) (f : Value → Value) → position_from Has k ms ≡ Some at → Stands k ms at d f
  stands_from [] k at d f is = absurd (cc)
  stands_from (m ∷ ms) k at d f is = stands_by (Has m) m ms k at d f (stands_from ms (k + 1) at d f) is

  pub found_at : (ms : List (Named Value)) (at : ℕ) (d : Named Value) (f : Value → Value) → position_from Has 0 ms ≡ Some at → (at < length ms) × (named n ms ≡ Some (get_or ms at d).value) × (change_named n f ms ≡ slice_set ms at (with_value (get_or ms at d) f))
  found_at ms at d f is =
      let p = stands_from ms 0 at d f is in
      let same : p.0 ≡ at = omega (arith, p.1) in
      (omega (arith, p.1, p.2), p.3 ∙ ap (λ j. Some (get_or ms j d).value) same, p.4 ∙ ap (λ j. slice_set ms j (with_value (get_or ms j d) f)) same)

  missing_by : (b : Bool) (m : Named Value) (ms : List (Named Value)) (k : ℕ) → (position_from Has (k + 1) ms ≡ None → named n ms ≡ None) → cond b (Some k) (position_from Has (k + 1) ms) ≡ None → cond b (Some m.value) (named n ms) ≡ None
  missing_by true m ms k h is = absurd (cc)
  missing_by false m ms k h is = h is

  pub none_found : (ms : List (Named Value)) (k : ℕ) → position_from Has k ms ≡ None → named n ms ≡ None
  none_found [] k is = refl
  none_found (m ∷ ms) k is = missing_by (Has m) m ms k (none_found ms (k + 1)) is

-- nothing stands below what isn't there
pub none_below : (ks : List Key) (o : Option Value) → o ≡ None → IsSome (option_and_then (λ w. find w ks) o) → ⊥
none_below ks None e h = absurd (cc)
none_below ks (Some v) e h = absurd (cc)
