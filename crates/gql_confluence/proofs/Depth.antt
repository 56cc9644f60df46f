-- A chain of parents that ends has no more steps than there are fragments.
use Rattle.std.proofs.Common.{◌≡◌, inl, inr, ℕ, zero, suc, ◌<◌, ◌≤◌, List, [], ◌∷◌, length, refl, sym, ◌∙◌, ap, Bool, true, false, cond, Option, Some, None, arith}
use Rattle.std.specs.Prelude.{filter}
use Rattle.gql_tree.specs.declared.delivery.Frag.{Frag}
use Rattle.gql_tree.specs.declared.delivery.FragId.{FragId}
use Rattle.gql_tree.specs.Fate.{parent_of}
use Rattle.gql_tree.specs.WellFormed.{comes_to_an_end}
use Rattle.gql_confluence.proofs.Parts.{In}
use Rattle.gql_confluence.proofs.Lists.{length_filter}

module _ {X : Type 0} (p q : X → Bool) (wider : (x : X) → p x ≡ true → q x ≡ true) where
  wider_by : (b d : Bool) (x : X) (l r : List X) → (b ≡ true → d ≡ true) → length l ≤ length r → length (cond b (x ∷ l) l) ≤ length (cond d (x ∷ r) r)
  wider_by true true x l r h le = omega arith
  wider_by true false x l r h le = let e = h refl in absurd (cc)
  wider_by false true x l r h le = omega arith
  wider_by false false x l r h le = le

  as_many : (xs : List X) → length (filter p xs) ≤ length (filter q xs)
  as_many [] = omega arith
  as_many (x ∷ xs) = wider_by (p x) (q x) x (filter p xs) (filter q xs) (wider x) (as_many xs)

  more_by : (b d : Bool) (x : X) (l r : List X) → (b ≡ true → d ≡ true) → length l < length r → length (cond b (x ∷ l) l) < length (cond d (x ∷ r) r)
  more_by true true x l r h lt = omega arith
  more_by true false x l r h lt = let e = h refl in absurd (cc)
  more_by false true x l r h lt = omega arith
  more_by false false x l r h lt = lt

  first_by : (b d : Bool) (x : X) (l r : List X) → b ≡ false → d ≡ true → length l ≤ length r → length (cond b (x ∷ l) l) < length (cond d (x ∷ r) r)
  first_by true d x l r e f le = absurd (cc)
  first_by false true x l r e f le = omega arith
  first_by false false x l r e f le = absurd (cc)

  -- more pass the wider test, where one passes it alone
  more_pass : (xs : List X) (x : X) → In x xs → p x ≡ false → q x ≡ true → length (filter p xs) < length (filter q xs)
  more_pass [] x i e f = absurd i
  more_pass (y ∷ xs) x (inl g) e f = first_by (p y) (q y) y (filter p xs) (filter q xs) (ap p (sym g) ∙ e) (ap q (sym g) ∙ f) (as_many xs)
  more_pass (y ∷ xs) x (inr i) e f = more_by (p y) (q y) y (filter p xs) (filter q xs) (wider y) (more_pass xs x i e f)

fewer_by : {X : Type 0} (b : Bool) (x : X) (l r : List X) → length l < length r → length (cond b (x ∷ l) l) < length (x ∷ r)
fewer_by true x l r lt = omega arith
fewer_by false x l r lt = omega arith

-- fewer pass than there are, where one doesn't
fewer_pass : {X : Type 0} (p : X → Bool) (xs : List X) (x : X) → In x xs → p x ≡ false → length (filter p xs) < length xs
fewer_pass p [] x i e = absurd i
fewer_pass p (y ∷ xs) x (inl g) e = first (p y) (ap p (sym g) ∙ e) (length_filter p xs) where
  first : (b : Bool) → b ≡ false → length (filter p xs) ≤ length xs → length (cond b (y ∷ filter p xs) (filter p xs)) < length (y ∷ xs)
  first true f le = absurd (cc)
  first false f le = omega arith
fewer_pass p (y ∷ xs) x (inr i) e = fewer_by (p y) y (filter p xs) xs (fewer_pass p xs x i e)

module _ (fs : List Frag) where
  abbrev IsOne : FragId → Type 0
  IsOne id = (x : Frag) × In x fs × (x.id ≡ id)

  abbrev ends : ℕ → Frag → Bool
  ends n x = comes_to_an_end n fs (Some x.id)

  pub one_more : (n : ℕ) (o : Option FragId) → comes_to_an_end n fs o ≡ true → comes_to_an_end (suc n) fs o ≡ true
  one_more zero None e = refl
  one_more zero (Some id) e = absurd (cc)
  one_more (suc n) None e = refl
  one_more (suc n) (Some id) e = one_more n (parent_of fs id) e

  one_less : (n : ℕ) (o : Option FragId) → comes_to_an_end (suc n) fs o ≡ false → comes_to_an_end n fs o ≡ false
  one_less n o e = by (comes_to_an_end n fs o) refl where
    by : (b : Bool) → comes_to_an_end n fs o ≡ b → comes_to_an_end n fs o ≡ false
    by false f = f
    by true f = let g = one_more n o f in absurd (cc)

  module _ (parents : (id q : FragId) → parent_of fs id ≡ Some q → IsOne q) where
    abbrev IsExact : ℕ → Type 0
    IsExact n = (x : Frag) × In x fs × (ends n x ≡ false) × (ends (suc n) x ≡ true)

    -- a chain that ends, and not after so many steps, has a fragment from which it ends after one step more
    exact : (m n : ℕ) (o : Option FragId) → ((q : FragId) → o ≡ Some q → IsOne q) → comes_to_an_end m fs o ≡ true → comes_to_an_end n fs o ≡ false → IsExact n
    exact m zero None is e f = absurd (cc)
    exact m (suc n) None is e f = absurd (cc)
    exact zero n (Some q) is e f = absurd (cc)
    exact (suc m) n (Some q) is e f = by (comes_to_an_end (suc n) fs (Some q)) refl (λ g. exact m n (parent_of fs q) (λ w h. parents q w h) e g) where
      by : (b : Bool) → comes_to_an_end (suc n) fs (Some q) ≡ b → (comes_to_an_end n fs (parent_of fs q) ≡ false → IsExact n) → IsExact n
      by false g rec = rec g
      by true g rec = let x = is q refl in (x.0, x.1, ap (λ (w : FragId). comes_to_an_end n fs (Some w)) x.2 ∙ f, ap (λ (w : FragId). comes_to_an_end (suc n) fs (Some w)) x.2 ∙ g)

    many : (m n : ℕ) (o : Option FragId) → ((q : FragId) → o ≡ Some q → IsOne q) → comes_to_an_end m fs o ≡ true → comes_to_an_end n fs o ≡ false → n ≤ length (filter (ends n) fs)
    many m zero o is e f = omega arith
    many m (suc n) o is e f =
        let r = many m n o is e (one_less n o f) in
        let x = exact m n o is e (one_less n o f) in
        let s : length (filter (ends n) fs) < length (filter (ends (suc n)) fs) = more_pass (ends n) (ends (suc n)) (λ y g. one_more n (Some y.id) g) fs x.0 x.1 x.2 x.3 in
        omega arith

    pub ends_soon : (m : ℕ) (o : Option FragId) → ((q : FragId) → o ≡ Some q → IsOne q) → comes_to_an_end m fs o ≡ true → comes_to_an_end (length fs) fs o ≡ true
    ends_soon m o is e = by (comes_to_an_end (length fs) fs o) refl where
      by : (b : Bool) → comes_to_an_end (length fs) fs o ≡ b → comes_to_an_end (length fs) fs o ≡ true
      by true f = f
      by false f =
          let r = many m (length fs) o is e f in
          let x = exact m (length fs) o is e f in
          let s = fewer_pass (ends (length fs)) fs x.0 x.1 x.2 in
          absurd (omega arith)
