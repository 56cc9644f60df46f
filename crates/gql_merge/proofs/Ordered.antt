-- A list in order is sorted and has the list's elements, and a sorted list that has them is the list in order.
use Rattle.std.proofs.Common.{◌≡◌, ℕ, zero, suc, ◌+◌, ◌<◌, List, [], ◌∷◌, refl, sym, subst, ◌∙◌, ap, Bool, true, false, cond, add-one, arith}
use Rattle.std.specs.List.{sum_by}
use Rattle.std.specs.List.Sorted.{IsPermutation, IsSorted}
use Rattle.std.specs.Ordering.{is_lt, is_eq, is_gt, match_ordering, ordering_reverse}
use Rattle.std.specs.declared.cmp.Ordering.{Ordering}
use Rattle.std.specs.declared.cmp.Ordering.TheVariants.{Less, Equal, Greater}
use Rattle.std.specs.Cmp.{IsTotalOrder}
use Rattle.std.proofs.lemmas.Cmp.{upto, tied_itself}
use Rattle.std.proofs.lemmas.List.Sorted.{sum_by-IsPermutation, IsPermutation-refl, IsPermutation-trans, IsPermutation-cons, IsPermutation-middle}
use Rattle.std.proofs.lemmas.List.Sums.{sum_by-cons}
use Rattle.gql_tree.specs.Ordered.{placed, ordered}
use Rattle.gql_merge.specs.Order.{Sorts}

-- equal elements are the same
abbrev pub IsExact : {X : Type 0} → (X → X → Ordering) → Type 0
IsExact {X} cmp = (x y : X) → cmp x y ≡ Equal → x ≡ y

module _ {X : Type 0} (cmp : X → X → Ordering) where
  -- none of a list's is less than this
  abbrev pub Least : X → List X → Type 0
  Least x [] = Unit {0}
  Least x (y ∷ ys) = (is_gt (cmp x y) ≡ false) × Least x ys

  abbrev pub Rises : List X → Type 0
  Rises [] = Unit {0}
  Rises (x ∷ xs) = Least x xs × Rises xs

  module _ (total : IsTotalOrder cmp) where
    -- ---- the ordered list rises

    least_from : (x y : X) (ys : List X) → is_gt (cmp x y) ≡ false → Least y ys → Least x ys
    least_from x y [] h k = tt
    least_from x y (z ∷ ys) h k = (upto total x y z h k.0, least_from x y ys h k.1)

    least_by : (o : Ordering) (x y z : X) (zs : List X) → is_gt (cmp x y) ≡ false → is_gt (cmp x z) ≡ false → Least x zs → Least x (placed cmp y zs) → Least x (match_ordering o (y ∷ z ∷ zs) (y ∷ z ∷ zs) (z ∷ placed cmp y zs))
    least_by Less x y z zs h g k rest = (h, (g, k))
    least_by Equal x y z zs h g k rest = (h, (g, k))
    least_by Greater x y z zs h g k rest = (g, rest)

    least_placed : (x y : X) (zs : List X) → is_gt (cmp x y) ≡ false → Least x zs → Least x (placed cmp y zs)
    least_placed x y [] h k = (h, tt)
    least_placed x y (z ∷ zs) h k = least_by (cmp y z) x y z zs h k.0 k.1 (least_placed x y zs h k.1)

    rises_by : (o : Ordering) (y z : X) (zs : List X) → cmp y z ≡ o → Rises (z ∷ zs) → Rises (placed cmp y zs) → Rises (match_ordering o (y ∷ z ∷ zs) (y ∷ z ∷ zs) (z ∷ placed cmp y zs))
    rises_by Less y z zs e h k = ((ap is_gt e, least_from y z zs (ap is_gt e) h.0), h)
    rises_by Equal y z zs e h k = ((ap is_gt e, least_from y z zs (ap is_gt e) h.0), h)
    rises_by Greater y z zs e h k = (least_placed z y zs (ap is_gt (total.antisymm z y ∙ ap ordering_reverse e)) h.0, k)

    rises_placed : (y : X) (zs : List X) → Rises zs → Rises (placed cmp y zs)
    rises_placed y [] h = (tt, tt)
    rises_placed y (z ∷ zs) h = rises_by (cmp y z) y z zs refl h (rises_placed y zs h.1)

    pub rises_ordered : (xs : List X) → Rises (ordered cmp xs)
    rises_ordered [] = tt
    rises_ordered (x ∷ xs) = rises_placed x (ordered cmp xs) (rises_ordered xs)

    module _ (exact : IsExact cmp) where
      -- one for the element itself
      abbrev one : X → X → ℕ
      one x y = cond (is_eq (cmp x y)) 1 0

      abbrev times : X → List X → ℕ
      times x = sum_by (one x)

      abbrev SameTimes : List X → List X → Type 0
      SameTimes xs ys = (x : X) → times x xs ≡ times x ys

      -- ---- what stands first

      not_less : (o p : Ordering) → o ≡ ordering_reverse p → is_lt p ≡ false → is_gt o ≡ false
      not_less o Less e h = absurd (cc)
      not_less o Equal e h = ap is_gt e
      not_less o Greater e h = ap is_gt e

      not_greater : (o p : Ordering) → o ≡ ordering_reverse p → is_gt p ≡ false → is_lt o ≡ false
      not_greater o Less e h = ap is_lt e
      not_greater o Equal e h = ap is_lt e
      not_greater o Greater e h = absurd (cc)

      rises_of : (xs : List X) → IsSorted cmp xs → Rises xs
      rises_of [] h = tt
      rises_of (x ∷ []) h = (tt, tt)
      rises_of (x ∷ y ∷ ys) h =
          let first : is_gt (cmp x y) ≡ false = not_less _ _ (total.antisymm x y) (h 0 x (omega arith) (omega arith)) in
          let rest = rises_of (y ∷ ys) (λ k d lo hi. simp add-one (simp add-one at (h (k + 1) d (omega arith) (omega arith)))) in
          ((first, least_from x y ys first rest.0), rest)

      itself : (x : X) → one x x ≡ 1
      itself x = ap (λ o. cond (is_eq o) 1 0) (tied_itself total x)

      found_by : (b : Bool) (x y z : X) (zs : List X) → is_eq (cmp y z) ≡ b → is_gt (cmp x z) ≡ false → (0 < times y zs → is_gt (cmp x y) ≡ false) → 0 < times y (z ∷ zs) → is_gt (cmp x y) ≡ false
      found_by true x y z zs e h rest many = subst (λ (w : X). is_gt (cmp x w) ≡ false) (sym (exact y z (equal (cmp y z) e))) h where
        equal : (o : Ordering) → is_eq o ≡ true → o ≡ Equal
        equal Less f = absurd (cc)
        equal Equal f = refl
        equal Greater f = absurd (cc)
      found_by false x y z zs e h rest many =
          let none : one y z ≡ 0 = ap (λ b. cond b 1 0) e in
          let more = sum_by-cons (one y) z zs in
          rest (omega arith)

      -- the least is at most what is there
      found : (x y : X) (zs : List X) → Least x zs → 0 < times y zs → is_gt (cmp x y) ≡ false
      found x y [] h many = absurd (omega arith)
      found x y (z ∷ zs) h many = found_by (is_eq (cmp y z)) x y z zs refl h.0 (found x y zs h.1) many

      at_most : (x y : X) (zs : List X) → Least x zs → 0 < times y (x ∷ zs) → is_gt (cmp x y) ≡ false
      at_most x y zs h = found x y (x ∷ zs) (ap is_gt (tied_itself total x), h)

      both_ways : (o p : Ordering) → o ≡ ordering_reverse p → is_gt o ≡ false → is_gt p ≡ false → o ≡ Equal
      both_ways o Less e h k = let f : is_gt o ≡ true = ap is_gt e in absurd (cc)
      both_ways o Equal e h k = e
      both_ways o Greater e h k = absurd (cc)

      here : (x : X) (xs : List X) → 0 < times x (x ∷ xs)
      here x xs = let a = sum_by-cons (one x) x xs in let b = itself x in omega arith

      first_same : (x y : X) (xs ys : List X) → Least x xs → Least y ys → SameTimes (x ∷ xs) (y ∷ ys) → x ≡ y
      first_same x y xs ys h k same =
          let a : 0 < times y (x ∷ xs) = let n = here y ys in let e = same y in omega arith in
          let b : 0 < times x (y ∷ ys) = let n = here x xs in let e = same x in omega arith in
          exact x y (both_ways _ _ (total.antisymm x y) (at_most x y xs h a) (at_most y x ys k b))

      rest_same : (x y : X) (xs ys : List X) → x ≡ y → SameTimes (x ∷ xs) (y ∷ ys) → SameTimes xs ys
      rest_same x y xs ys e same z =
          let a = sum_by-cons (one z) x xs in
          let b = sum_by-cons (one z) y ys in
          let c : one z x ≡ one z y = ap (one z) e in
          let d = same z in
          omega arith

      -- rising lists of the same elements are equal
      one_list : (xs ys : List X) → Rises xs → Rises ys → SameTimes xs ys → xs ≡ ys
      one_list [] [] h k same = refl
      one_list [] (y ∷ ys) h k same = absurd (let a = here y ys in let b : times y [] ≡ times y (y ∷ ys) = same y in omega arith)
      one_list (x ∷ xs) [] h k same = absurd (let a = here x xs in let b : times x (x ∷ xs) ≡ times x [] = same x in omega arith)
      one_list (x ∷ xs) (y ∷ ys) h k same =
          let e = first_same x y xs ys h.0 k.0 same in
          λ i. e i ∷ one_list xs ys h.1 k.1 (rest_same x y xs ys e same) i

      sorted_of : (xs : List X) → Rises xs → IsSorted cmp xs
      sorted_of [] h k d lo hi = absurd (omega arith)
      sorted_of (x ∷ []) h k d lo hi = absurd (omega arith)
      sorted_of (x ∷ y ∷ ys) h zero d lo hi = not_greater _ _ (total.antisymm y x) h.0.0
      sorted_of (x ∷ y ∷ ys) h (suc k) d lo hi = simp add-one (simp add-one at (sorted_of (y ∷ ys) h.1 k d (omega arith) (omega arith)))

      placed_by : (o : Ordering) (x y : X) (ys : List X) → IsPermutation (x ∷ ys) (placed cmp x ys) → IsPermutation (x ∷ y ∷ ys) (match_ordering o (x ∷ y ∷ ys) (x ∷ y ∷ ys) (y ∷ placed cmp x ys))
      placed_by Less x y ys h = IsPermutation-refl (x ∷ y ∷ ys)
      placed_by Equal x y ys h = IsPermutation-refl (x ∷ y ∷ ys)
      placed_by Greater x y ys h = IsPermutation-trans _ _ _ (IsPermutation-middle (x ∷ []) y ys) (IsPermutation-cons y (x ∷ ys) (placed cmp x ys) h)

      permutes-placed : (x : X) (ys : List X) → IsPermutation (x ∷ ys) (placed cmp x ys)
      permutes-placed x [] = IsPermutation-refl (x ∷ [])
      permutes-placed x (y ∷ ys) = placed_by (cmp x y) x y ys (permutes-placed x ys)

      permutes-ordered : (xs : List X) → IsPermutation xs (ordered cmp xs)
      permutes-ordered [] = IsPermutation-refl []
      permutes-ordered (x ∷ xs) = IsPermutation-trans _ _ _ (IsPermutation-cons x xs (ordered cmp xs) (permutes-ordered xs)) (permutes-placed x (ordered cmp xs))

      pub ordered-sorts : (xs : List X) → Sorts cmp xs (ordered cmp xs)
      ordered-sorts xs = (permutes-ordered xs, sorted_of (ordered cmp xs) (rises_ordered xs))

      -- ---- it has the same elements

      times_by : (o : Ordering) (x y z : X) (zs : List X) → times x (placed cmp y zs) ≡ one x y + times x zs → times x (match_ordering o (y ∷ z ∷ zs) (y ∷ z ∷ zs) (z ∷ placed cmp y zs)) ≡ one x y + times x (z ∷ zs)
      times_by Less x y z zs h = sum_by-cons (one x) y (z ∷ zs)
      times_by Equal x y z zs h = sum_by-cons (one x) y (z ∷ zs)
      times_by Greater x y z zs h = let a = sum_by-cons (one x) z (placed cmp y zs) in let b = sum_by-cons (one x) z zs in omega arith

      times_placed : (x y : X) (zs : List X) → times x (placed cmp y zs) ≡ one x y + times x zs
      times_placed x y [] = sum_by-cons (one x) y []
      times_placed x y (z ∷ zs) = times_by (cmp y z) x y z zs (times_placed x y zs)

      times_ordered : (x : X) (xs : List X) → times x (ordered cmp xs) ≡ times x xs
      times_ordered x [] = refl
      times_ordered x (y ∷ xs) = let a = times_placed x y (ordered cmp xs) in let b = sum_by-cons (one x) y xs in let c = times_ordered x xs in omega arith

      pub sorts-ordered : (xs ys : List X) → Sorts cmp xs ys → ys ≡ ordered cmp xs
      sorts-ordered xs ys h = one_list ys (ordered cmp xs) (rises_of ys h.1) (rises_ordered xs) (λ x. sum_by-IsPermutation (one x) xs ys h.0 ∙ sym (times_ordered x xs))
