-- What is reached along edges, in steps and without counting them.
use Rattle.std.proofs.Common.{◌≡◌, refl, sym, ◌∙◌, ap, ℕ, zero, suc, ◌+◌, ◌-◌, ◌≤◌, ◌==◌, Bool, true, false, not, cond, ⊎_elim, List, [], ◌∷◌, ◌++◌, flat_map, length, arith, eqb-true, eq-eqb}
use Rattle.std.specs.List.{filter, AllByRecursion as Each}
use Rattle.std.proofs.lemmas.Bool.{or_cases, or_left, or_right, true≢false}
use Rattle.std.proofs.lemmas.List.Folds.{list_any-append}
use Rattle.gql_model.specs.Lists.{firsts}
use Rattle.gql_schema.proofs.Each.{each_append, each_filter, each_flat}
use Rattle.gql_schema.specs.Graph.{has, is_reached, next_in, within}

-- ---- numbers in a list

abbrev pub In : ℕ → List ℕ → Type 0
In k ks = has ks k ≡ true

pub in_head : (k : ℕ) (ks : List ℕ) → In k (k ∷ ks)
in_head k ks = or_left (k == k) (has ks k) (eq-eqb k k refl)

pub in_left : (k : ℕ) (xs ys : List ℕ) → In k xs → In k (xs ++ ys)
in_left k xs ys h = list_any-append (λ x. k == x) xs ys ∙ or_left (has xs k) (has ys k) h

pub in_right : (k : ℕ) (xs ys : List ℕ) → In k ys → In k (xs ++ ys)
in_right k xs ys h = list_any-append (λ x. k == x) xs ys ∙ or_right (has xs k) (has ys k) h

-- what holds of each holds of one
pub at_in : (P : ℕ → Type 0) (k : ℕ) (xs : List ℕ) → Each P xs → In k xs → P k
at_in P k [] hs h = absurd (true≢false (sym h))
at_in P k (x ∷ xs) hs h = ⊎_elim (λ e. by (eqb-true k x e)) (λ e. at_in P k xs hs.1 e) (or_cases (k == x) (has xs k) h)
  where
    by : k ≡ x → P k
    by e = rw e hs.0

-- what holds of one that stands there holds of each
pub each_in : (P : ℕ → Type 0) (xs : List ℕ) → ((k : ℕ) → In k xs → P k) → Each P xs
each_in P [] f = tt
each_in P (x ∷ xs) f = (f x (in_head x xs), each_in P xs (λ k h. f k (or_right (k == x) (has xs k) h)))

in_filter_by : (b : Bool) (k x : ℕ) (keeps : ℕ → Bool) (xs : List ℕ) → keeps x ≡ b → keeps k ≡ true → In k (x ∷ xs) → (In k xs → In k (filter keeps xs)) → In k (cond b (x ∷ filter keeps xs) (filter keeps xs))
in_filter_by true k x keeps xs t e h f = ⊎_elim (λ s. or_left (k == x) (has (filter keeps xs) k) s) (λ s. or_right (k == x) (has (filter keeps xs) k) (f s)) (or_cases (k == x) (has xs k) h)
in_filter_by false k x keeps xs t e h f = ⊎_elim (λ s. absurd (true≢false (sym e ∙ ap keeps (eqb-true k x s) ∙ t))) f (or_cases (k == x) (has xs k) h)

in_filter : (k : ℕ) (keeps : ℕ → Bool) (xs : List ℕ) → keeps k ≡ true → In k xs → In k (filter keeps xs)
in_filter k keeps [] e h = h
in_filter k keeps (x ∷ xs) e h = in_filter_by (keeps x) k x keeps xs refl e h (in_filter k keeps xs e)

abbrev same : ℕ → ℕ → Bool
same a b = a == b

in_firsts_by : (b : Bool) (k x : ℕ) (xs : List ℕ) → (x == k) ≡ b → In k (firsts same xs) → In k (firsts same (x ∷ xs))
in_firsts_by true k x xs e h = or_left (k == x) (has (filter (λ y. not (x == y)) (firsts same xs)) k) (eq-eqb k x (sym (eqb-true x k e)))
in_firsts_by false k x xs e h = or_right (k == x) (has (filter (λ y. not (x == y)) (firsts same xs)) k) (in_filter k (λ y. not (x == y)) (firsts same xs) (ap not e) h)

pub in_firsts : (k : ℕ) (xs : List ℕ) → In k xs → In k (firsts same xs)
in_firsts k [] h = h
in_firsts k (x ∷ xs) h = ⊎_elim (λ e. or_left (k == x) (has (filter (λ y. not (x == y)) (firsts same xs)) k) e) (λ e. in_firsts_by (x == k) k x xs refl (in_firsts k xs e)) (or_cases (k == x) (has xs k) h)

pub in_flat : (next : ℕ → List ℕ) (k x : ℕ) (xs : List ℕ) → In x xs → In k (next x) → In k (flat_map next xs)
in_flat next k x [] h t = absurd (true≢false (sym h))
in_flat next k x (y ∷ ys) h t = ⊎_elim (λ e. in_left k (next y) (flat_map next ys) (ap (λ z. has (next z) k) (sym (eqb-true x y e)) ∙ t)) (λ e. in_right k (next y) (flat_map next ys) (in_flat next k x ys e t)) (or_cases (x == y) (has ys x) h)

pub each_firsts : (P : ℕ → Type 0) (xs : List ℕ) → Each P xs → Each P (firsts same xs)
each_firsts P [] h = tt
each_firsts P (x ∷ xs) h = (h.0, each_filter P (λ y. not (x == y)) (firsts same xs) (each_firsts P xs h.1))

module _ (graph : List (List ℕ)) where
  abbrev once : List ℕ → List ℕ
  once xs = firsts same (xs ++ flat_map (next_in graph) xs)

  -- ---- what is closed under steps has all that is reached

  pub reached_closed : (n : ℕ) (P : ℕ → Type 0) (closed : (k : ℕ) → P k → Each P (next_in graph k)) (xs : List ℕ) → Each P xs → Each P (within graph n xs)
  reached_closed zero P closed xs h = h
  reached_closed (suc n) P closed xs h = reached_closed n P closed (once xs) (each_firsts P (xs ++ flat_map (next_in graph) xs) (each_append P xs (flat_map (next_in graph) xs) h (each_flat P P (next_in graph) closed xs h)))

  -- ---- a step more

  pub reached_more : (n k : ℕ) (xs : List ℕ) → In k (within graph n xs) → In k (within graph (suc n) xs)
  reached_more zero k xs h = in_firsts k (xs ++ flat_map (next_in graph) xs) (in_left k xs (flat_map (next_in graph) xs) h)
  reached_more (suc n) k xs h = reached_more n k (once xs) h

  pub reached_step : (n k x : ℕ) (xs : List ℕ) → In x (within graph n xs) → In k (next_in graph x) → In k (within graph (suc n) xs)
  reached_step zero k x xs h t = in_firsts k (xs ++ flat_map (next_in graph) xs) (in_right k xs (flat_map (next_in graph) xs) (in_flat (next_in graph) k x xs h t))
  reached_step (suc n) k x xs h t = reached_step n k x (once xs) h t

  reached_later : (d n k : ℕ) (xs : List ℕ) → In k (within graph n xs) → In k (within graph (d + n) xs)
  reached_later zero n k xs h = let e : zero + n ≡ n = omega arith in rw e h
  reached_later (suc d) n k xs h = let e : suc d + n ≡ suc (d + n) = omega arith in rw e (reached_more (d + n) k xs (reached_later d n k xs h))

  pub reached_upto : (n m k : ℕ) (xs : List ℕ) → n ≤ m → In k (within graph n xs) → In k (within graph m xs)
  reached_upto n m k xs le h = ap (λ (x : ℕ). has (within graph x xs) k) (let e : m ≡ (m - n) + n = omega arith in e) ∙ reached_later (m - n) n k xs h

  pub reached_none : (n : ℕ) → within graph n [] ≡ []
  reached_none zero = refl
  reached_none (suc n) = reached_none n

pub reached_from_none : (graph : List (List ℕ)) (start : List ℕ) (k : ℕ) → (length start == 0) ≡ true → false ≡ is_reached graph start k
reached_from_none graph [] k none = ap (λ ks. has ks k) (sym (reached_none graph (length graph)))
reached_from_none graph (x ∷ xs) k none = let e : suc (length xs) ≡ 0 = eqb-true (suc (length xs)) 0 none in absurd (omega (arith, e))
