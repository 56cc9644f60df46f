-- Steps one after another.
use Rattle.std.proofs.Common.{◌≡◌, ℕ, zero, suc, ◌+◌, ◌<◌, inl, inr, List, [], ◌∷◌, length, drop, get_or, add-one, refl, sym, subst, ap, arith, Result}
use Rattle.std.specs.Prelude.{Ok, Err}
use Rattle.gql_merge.specs.Steps.{Then, Each}

module _ {S R X : Type 0} (step : X → S → Result S R → Type 0) where
  each_cons : (x : X) (xs : List X) (s m : S) (r : Result S R) → step x s (Ok m) → Each step xs m r → Each step (x ∷ xs) s r
  each_cons x xs s m (Ok t) h k = (m, h, k)
  each_cons x xs s m (Err e) h k = inr (m, h, k)

  drop_at : (xs : List X) (i : ℕ) (x : X) → x ≡ get_or xs i x → i < length xs → drop i xs ≡ x ∷ drop (suc i) xs
  drop_at [] i x e lt = absurd (omega arith)
  drop_at (y ∷ xs) zero x e lt = ap (λ z. z ∷ xs) (sym e)
  drop_at (y ∷ xs) (suc i) x e lt = drop_at xs i x e (omega arith)

  -- one more step of a list's
  pub each_more : (xs : List X) (i : ℕ) (x : X) (s m : S) (r : Result S R) → x ≡ get_or xs i x → i < length xs → step x s (Ok m) → Each step (drop (i + 1) xs) m r → Each step (drop i xs) s r
  each_more xs i x s m r e lt h k =
      let rest : Each step (drop (suc i) xs) m r = rw add-one at k in
      subst (λ (ys : List X). Each step ys s r) (sym (drop_at xs i x e lt)) (each_cons x (drop (suc i) xs) s m r h rest)

  -- a list's steps end with the refusal of one
  pub each_refused : (xs : List X) (i : ℕ) (x : X) (s : S) (e : R) → x ≡ get_or xs i x → i < length xs → step x s (Err e) → Each step (drop i xs) s (Err e)
  each_refused xs i x s e is lt h = subst (λ (ys : List X). Each step ys s (Err e)) (sym (drop_at xs i x is lt)) (inl h)

  drop_all : (xs : List X) (i : ℕ) → length xs ≡ i → drop i xs ≡ []
  drop_all [] zero h = refl
  drop_all [] (suc i) h = refl
  drop_all (x ∷ xs) zero h = absurd (omega arith)
  drop_all (x ∷ xs) (suc i) h = drop_all xs i (omega arith)

  pub each_done : (xs : List X) (i : ℕ) (s : S) → length xs ≡ i → Each step (drop i xs) s (Ok s)
  each_done xs i s h = subst (λ (ys : List X). Each step ys s (Ok s)) (sym (drop_all xs i h)) refl

module _ {S R : Type 0} (a b : S → Result S R → Type 0) where
  -- the first step isn't refused, and leads to a state of which this holds
  pub then_led : (s : S) (P : S → Type 0) (G : Type 0) (r : Result S R) → ((m : S) → a s (Ok m) → P m) → ((e : R) → a s (Err e) → ⊥) → ((m : S) → P m → b m r → G) → Then a b s r → G
  then_led s P G (Ok t) leads never next h = next h.0 (leads h.0 h.1) h.2
  then_led s P G (Err e) leads never next (inl h) = absurd (never e h)
  then_led s P G (Err e) leads never next (inr h) = next h.0 (leads h.0 h.1) h.2

  -- the first step leads to this state alone
  pub then_sure : (s m : S) (r : Result S R) → ((q : Result S R) → a s q → q ≡ Ok m) → Then a b s r → b m r
  then_sure s m r sure h = then_led s (λ k. k ≡ m) (b m r) r (λ k g. let e = sure (Ok k) g in cc) (λ e g. let f = sure (Err e) g in absurd (cc)) (λ k e g. subst (λ (x : S). b x r) e g) h
