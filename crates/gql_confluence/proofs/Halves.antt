-- Lists in order, of which one half goes before the other.
use Rattle.std.proofs.Common.{◌≡◌, ◌⊎◌, inl, inr, ℕ, ◌≤◌, ◌<◌, List, [], ◌∷◌, ◌++◌, map, refl, sym, ◌∙◌, ap, Bool, true, false, cond, Some, None, arith}
use Rattle.std.specs.Prelude.{nat_le, nat_lt, ◌==◌, not, filter}
use Rattle.std.proofs.lemmas.Bool.Decides.{nat_tests}
use Rattle.std.specs.declared.cmp.Ordering.{Ordering}
use Rattle.std.specs.declared.cmp.Ordering.TheVariants.{Less, Equal, Greater}
use Rattle.std.specs.Ordering.{match_ordering}
use Rattle.gql_tree.specs.Ordered.{placed, ordered}
use Rattle.gql_tree.specs.Times.{Time, has_time}
use Rattle.gql_tree.specs.Payloads.{noted, noted_all}
use Rattle.gql_confluence.proofs.Parts.{In}
use Rattle.gql_confluence.proofs.Lists.{not_is, in_filter}
use Rattle.gql_confluence.proofs.Sorted.{in_ordered}
use Rattle.gql_confluence.proofs.Moments.{upto}

-- ---- filters

module _ {X : Type 0} where
  pub filter_none : (p : X → Bool) (xs : List X) → ((x : X) → In x xs → p x ≡ false) → filter p xs ≡ []
  filter_none p [] h = refl
  filter_none p (x ∷ xs) h = λ i. cond (h x (inl refl) i) (x ∷ filter_none p xs (λ y k. h y (inr k)) i) (filter_none p xs (λ y k. h y (inr k)) i)

  -- a filter behind one that lets through more
  pub filter_twice : (p q : X → Bool) → ((x : X) → p x ≡ true → q x ≡ true) → (xs : List X) → filter p (filter q xs) ≡ filter p xs
  filter_twice p q h [] = refl
  filter_twice p q h (x ∷ xs) = by (q x) (p x) refl refl (filter_twice p q h xs) where
    by : (b d : Bool) → q x ≡ b → p x ≡ d → filter p (filter q xs) ≡ filter p xs → filter p (cond b (x ∷ filter q xs) (filter q xs)) ≡ cond d (x ∷ filter p xs) (filter p xs)
    by true true e f rec = ap (λ b. cond b (x ∷ filter p (filter q xs)) (filter p (filter q xs))) f ∙ ap (λ (l : List X). x ∷ l) rec
    by true false e f rec = ap (λ b. cond b (x ∷ filter p (filter q xs)) (filter p (filter q xs))) f ∙ rec
    by false true e f rec = let g : q x ≡ true = h x f in absurd (cc)
    by false false e f rec = rec

  pub filter_mapped : {Y : Type 0} (g : Y → X) (p : X → Bool) (q : Y → Bool) → ((y : Y) → p (g y) ≡ q y) → (ys : List Y) → filter p (map g ys) ≡ map g (filter q ys)
  filter_mapped g p q h [] = refl
  filter_mapped g p q h (y ∷ ys) = (λ i. cond (h y i) (g y ∷ filter_mapped g p q h ys i) (filter_mapped g p q h ys i)) ∙ by (q y) where
    by : (b : Bool) → cond b (g y ∷ map g (filter q ys)) (map g (filter q ys)) ≡ map g (cond b (y ∷ filter q ys) (filter q ys))
    by true = refl
    by false = refl

-- ---- ordered lists

module _ {X : Type 0} (cmp : X → X → Ordering) where
  -- mapped by what keeps the order
  placed_mapped : {Y : Type 0} (less : Y → Y → Ordering) (g : Y → X) (x : Y) (zs : List Y) → ((z : Y) → In z zs → cmp (g x) (g z) ≡ less x z) → placed cmp (g x) (map g zs) ≡ map g (placed less x zs)
  placed_mapped less g x [] h = refl
  placed_mapped less g x (z ∷ zs) h =
      (λ i. match_ordering (h z (inl refl) i) (g x ∷ g z ∷ map g zs) (g x ∷ g z ∷ map g zs) (g z ∷ placed_mapped less g x zs (λ y k. h y (inr k)) i)) ∙ by (less x z)
    where
      by : (o : Ordering) → match_ordering o (g x ∷ g z ∷ map g zs) (g x ∷ g z ∷ map g zs) (g z ∷ map g (placed less x zs)) ≡ map g (match_ordering o (x ∷ z ∷ zs) (x ∷ z ∷ zs) (z ∷ placed less x zs))
      by Less = refl
      by Equal = refl
      by Greater = refl

  pub ordered_mapped : {Y : Type 0} (less : Y → Y → Ordering) (g : Y → X) (xs : List Y) → ((x y : Y) → In x xs → In y xs → cmp (g x) (g y) ≡ less x y) → ordered cmp (map g xs) ≡ map g (ordered less xs)
  ordered_mapped less g [] h = refl
  ordered_mapped less g (x ∷ xs) h =
      ap (placed cmp (g x)) (ordered_mapped less g xs (λ y z i j. h y z (inr i) (inr j)))
      ∙ placed_mapped less g x (ordered less xs) (λ z i. h x z (inl refl) (inr (in_ordered less z xs i)))

  placed_early : (x : X) (fs bs : List X) → ((y : X) → In y bs → cmp x y ≡ Less) → placed cmp x (fs ++ bs) ≡ placed cmp x fs ++ bs
  placed_early x [] [] h = refl
  placed_early x [] (b ∷ bs) h = ap (λ o. match_ordering o (x ∷ b ∷ bs) (x ∷ b ∷ bs) (b ∷ placed cmp x bs)) (h b (inl refl))
  placed_early x (f ∷ fs) bs h = by (cmp x f) (placed_early x fs bs h) where
    by : (o : Ordering) → placed cmp x (fs ++ bs) ≡ placed cmp x fs ++ bs
        → match_ordering o (x ∷ f ∷ (fs ++ bs)) (x ∷ f ∷ (fs ++ bs)) (f ∷ placed cmp x (fs ++ bs)) ≡ match_ordering o (x ∷ f ∷ fs) (x ∷ f ∷ fs) (f ∷ placed cmp x fs) ++ bs
    by Less rec = refl
    by Equal rec = refl
    by Greater rec = ap (λ (l : List X). f ∷ l) rec

  placed_late : (x : X) (fs bs : List X) → ((y : X) → In y fs → cmp x y ≡ Greater) → placed cmp x (fs ++ bs) ≡ fs ++ placed cmp x bs
  placed_late x [] bs h = refl
  placed_late x (f ∷ fs) bs h = λ i. match_ordering (h f (inl refl) i) (x ∷ f ∷ (fs ++ bs)) (x ∷ f ∷ (fs ++ bs)) (f ∷ placed_late x fs bs (λ y k. h y (inr k)) i)

  -- what is before all others stands in front of them
  pub ordered_halves : (p : X → Bool) (xs : List X) → ((x y : X) → In x xs → In y xs → p x ≡ true → p y ≡ false → (cmp x y ≡ Less) × (cmp y x ≡ Greater))
      → ordered cmp xs ≡ ordered cmp (filter p xs) ++ ordered cmp (filter (λ x. not (p x)) xs)
  ordered_halves p [] h = refl
  ordered_halves p (x ∷ xs) h = ap (placed cmp x) (ordered_halves p xs (λ y z i j. h y z (inr i) (inr j))) ∙ by (p x) refl where
    front : List X
    front = ordered cmp (filter p xs)

    back : List X
    back = ordered cmp (filter (λ y. not (p y)) xs)

    by : (b : Bool) → p x ≡ b → placed cmp x (ordered cmp (filter p xs) ++ ordered cmp (filter (λ y. not (p y)) xs)) ≡ ordered cmp (cond b (x ∷ filter p xs) (filter p xs)) ++ ordered cmp (cond (not b) (x ∷ filter (λ y. not (p y)) xs) (filter (λ y. not (p y)) xs))
    by true e = placed_early x (ordered cmp (filter p xs)) (ordered cmp (filter (λ y. not (p y)) xs)) (λ y i.
        let m = in_filter (λ z. not (p z)) y xs (in_ordered cmp y (filter (λ z. not (p z)) xs) i) in
        (h x y (inl refl) (inr m.0) e (not_is (p y) m.1)).0)
    by false e = placed_late x (ordered cmp (filter p xs)) (ordered cmp (filter (λ y. not (p y)) xs)) (λ y i.
        let m = in_filter p y xs (in_ordered cmp y (filter p xs) i) in
        (h y x (inr m.0) (inl refl) m.1 e).1)

-- ---- noted times

-- a noted time is one of the times
in_noted_by : (b c : Bool) (a t u : ℕ) (us : List ℕ) → In a (cond b (t ∷ u ∷ us) (cond c (u ∷ us) (u ∷ noted t us))) → (In a (noted t us) → (a ≡ t) ⊎ In a us) → (a ≡ t) ⊎ In a (u ∷ us)
in_noted_by true c a t u us i rec = i
in_noted_by false true a t u us i rec = inr i
in_noted_by false false a t u us (inl e) rec = inr (inl e)
in_noted_by false false a t u us (inr i) rec = elim (rec i) as (λ w. (a ≡ t) ⊎ In a (u ∷ us)) [ inl e ↦ inl e | inr k ↦ inr (inr k) ]

in_noted : (a t : ℕ) (us : List ℕ) → In a (noted t us) → (a ≡ t) ⊎ In a us
in_noted a t [] i = i
in_noted a t (u ∷ us) i = in_noted_by (nat_lt t u) (t == u) a t u us i (in_noted a t us)

pub noted_in : (a : ℕ) (ts : List Time) → In a (noted_all ts) → In (Some a) ts
noted_in a [] i = absurd i
noted_in a (None ∷ ts) i = inr (noted_in a ts i)
noted_in a (Some t ∷ ts) i = by (t == 0) i (noted_in a ts) where
  by : (b : Bool) → In a (cond b (noted_all ts) (noted t (noted_all ts))) → (In a (noted_all ts) → In (Some a) ts) → In (Some a) (Some t ∷ ts)
  by true j rec = inr (rec j)
  by false j rec = elim (in_noted a t (noted_all ts) j) as (λ w. In (Some a) (Some t ∷ ts)) [ inl e ↦ inl (ap Some e) | inr k ↦ inr (rec k) ]

-- none is noted of those that aren't there
pub noted_there : (ts : List Time) → noted_all (filter has_time ts) ≡ noted_all ts
noted_there [] = refl
noted_there (None ∷ ts) = noted_there ts
noted_there (Some t ∷ ts) = λ i. cond (t == 0) (noted_there ts i) (noted t (noted_there ts i))

noted_early : (n t : ℕ) (fs bs : List ℕ) → t ≤ n → ((a : ℕ) → In a bs → n < a) → noted t (fs ++ bs) ≡ noted t fs ++ bs
noted_early n t [] [] le h = refl
noted_early n t [] (b ∷ bs) le h = ap (λ d. cond d (t ∷ b ∷ bs) (cond (t == b) (b ∷ bs) (b ∷ noted t bs))) less where
  less : nat_lt t b ≡ true
  less = let g : n < b = h b (inl refl) in grind (arith, nat_tests, g, le)
noted_early n t (f ∷ fs) bs le h = by (nat_lt t f) (t == f) (noted_early n t fs bs le h) where
  by : (b c : Bool) → noted t (fs ++ bs) ≡ noted t fs ++ bs
      → cond b (t ∷ f ∷ (fs ++ bs)) (cond c (f ∷ (fs ++ bs)) (f ∷ noted t (fs ++ bs))) ≡ cond b (t ∷ f ∷ fs) (cond c (f ∷ fs) (f ∷ noted t fs)) ++ bs
  by true c rec = refl
  by false true rec = refl
  by false false rec = ap (λ (l : List ℕ). f ∷ l) rec

noted_late : (n t : ℕ) (fs bs : List ℕ) → n < t → ((a : ℕ) → In a fs → a ≤ n) → noted t (fs ++ bs) ≡ fs ++ noted t bs
noted_late n t [] bs lt h = refl
noted_late n t (f ∷ fs) bs lt h = λ i. cond (not_less i) (t ∷ f ∷ (fs ++ bs)) (cond (differ i) (f ∷ (fs ++ bs)) (f ∷ noted_late n t fs bs lt (λ a k. h a (inr k)) i)) where
  not_less : nat_lt t f ≡ false
  not_less = let g : f ≤ n = h f (inl refl) in grind (arith, nat_tests, g, lt)

  differ : (t == f) ≡ false
  differ = let g : f ≤ n = h f (inl refl) in grind (arith, nat_tests, g, lt)

module _ (n : ℕ) where
  pub early_in : (a : ℕ) (ts : List Time) → In a (noted_all (filter (upto n) ts)) → a ≤ n
  early_in a ts i = le (in_filter (upto n) (Some a) ts (noted_in a (filter (upto n) ts) i)).1 where
    le : nat_le a n ≡ true → a ≤ n
    le e = grind (arith, nat_tests)

  pub late_in : (a : ℕ) (ts : List Time) → In a (noted_all (filter (λ t. not (upto n t)) ts)) → n < a
  late_in a ts i = lt (in_filter (λ t. not (upto n t)) (Some a) ts (noted_in a (filter (λ t. not (upto n t)) ts) i)).1 where
    by : (b : Bool) → nat_le a n ≡ b → not b ≡ true → n < a
    by true e f = absurd (cc)
    by false e f = grind (arith, nat_tests)

    lt : not (nat_le a n) ≡ true → n < a
    lt e = by (nat_le a n) refl e

  -- those up to an event, and then the others
  pub noted_halves : (ts : List Time) → noted_all ts ≡ noted_all (filter (upto n) ts) ++ noted_all (filter (λ t. not (upto n t)) ts)
  noted_halves [] = refl
  noted_halves (None ∷ ts) = noted_halves ts
  noted_halves (Some t ∷ ts) = (λ i. cond (t == 0) (noted_halves ts i) (noted t (noted_halves ts i))) ∙ by (nat_le t n) (t == 0) refl refl where
    by : (b z : Bool) → nat_le t n ≡ b → (t == 0) ≡ z
        → cond z (noted_all (filter (upto n) ts) ++ noted_all (filter (λ u. not (upto n u)) ts)) (noted t (noted_all (filter (upto n) ts) ++ noted_all (filter (λ u. not (upto n u)) ts)))
        ≡ noted_all (cond b (Some t ∷ filter (upto n) ts) (filter (upto n) ts)) ++ noted_all (cond (not b) (Some t ∷ filter (λ u. not (upto n u)) ts) (filter (λ u. not (upto n u)) ts))
    by true true e f = λ i. cond (sym f i) (noted_all (filter (upto n) ts)) (noted t (noted_all (filter (upto n) ts))) ++ noted_all (filter (λ u. not (upto n u)) ts)
    by true false e f =
        noted_early n t (noted_all (filter (upto n) ts)) (noted_all (filter (λ u. not (upto n u)) ts)) (grind (arith, nat_tests)) (λ a i. late_in a ts i)
        ∙ (λ i. cond (sym f i) (noted_all (filter (upto n) ts)) (noted t (noted_all (filter (upto n) ts))) ++ noted_all (filter (λ u. not (upto n u)) ts))
    by false true e f = λ i. noted_all (filter (upto n) ts) ++ cond (sym f i) (noted_all (filter (λ u. not (upto n u)) ts)) (noted t (noted_all (filter (λ u. not (upto n u)) ts)))
    by false false e f =
        noted_late n t (noted_all (filter (upto n) ts)) (noted_all (filter (λ u. not (upto n u)) ts)) (grind (arith, nat_tests)) (λ a i. early_in a ts i)
        ∙ (λ i. noted_all (filter (upto n) ts) ++ cond (sym f i) (noted_all (filter (λ u. not (upto n u)) ts)) (noted t (noted_all (filter (λ u. not (upto n u)) ts))))
