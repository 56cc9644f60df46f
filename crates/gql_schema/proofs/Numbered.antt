-- Edges between things that are numbered, and the same edges between their numbers.
use Rattle.std.proofs.Common.{◌≡◌, refl, ◌∙◌, ap, ℕ, zero, suc, ◌==◌, Bool, true, false, not, cond, ◌||◌, List, [], ◌∷◌, ◌++◌, map, flat_map, arith}
use Rattle.std.specs.List.{list_any, filter, AllByRecursion as Each}
use Rattle.std.proofs.lemmas.Bool.Decides.{nat_tests}
use Rattle.std.proofs.lemmas.List.{map-append}
use Rattle.gql_model.specs.Lists.{firsts}
use Rattle.gql_model.specs.rules.Reached.{reached}
use Rattle.gql_schema.proofs.Each.{each_append, each_filter, each_flat}
use Rattle.gql_schema.specs.Graph.{has}

eq_turned : (a b : ℕ) → (a == b) ≡ (b == a)
eq_turned a b = grind (arith, nat_tests)

abbrev eq : ℕ → ℕ → Bool
eq a b = a == b

map_cond : {A B : Type 0} (f : A → B) (b : Bool) (y : A) (ys : List A) → map f (cond b (y ∷ ys) ys) ≡ cond b (f y ∷ map f ys) (map f ys)
map_cond f true y ys = refl
map_cond f false y ys = refl

-- things are the same where their numbers are
module _ {A : Type 0} (same : A → A → Bool) (number : A → ℕ) (Is : A → Type 0) (exact : (a b : A) → Is a → Is b → same a b ≡ (number a == number b)) where
  filter-numbered : (ys : List A) (x : A) → Is x → Each Is ys → map number (filter (λ y. not (same x y)) ys) ≡ filter (λ k. not (number x == k)) (map number ys)
  filter-numbered [] x h hs = refl
  filter-numbered (y ∷ ys) x h hs =
      let kept = filter (λ y. not (same x y)) ys in
      map_cond number (not (same x y)) y kept
      ∙ ap (λ b. cond (not b) (number y ∷ map number kept) (map number kept)) (exact x y h hs.0)
      ∙ ap (λ ks. cond (not (number x == number y)) (number y ∷ ks) ks) (filter-numbered ys x h hs.1)

  each_firsts : (xs : List A) → Each Is xs → Each Is (firsts same xs)
  each_firsts [] h = tt
  each_firsts (x ∷ xs) h = (h.0, each_filter Is (λ y. not (same x y)) (firsts same xs) (each_firsts xs h.1))

  firsts-numbered : (xs : List A) → Each Is xs → map number (firsts same xs) ≡ firsts eq (map number xs)
  firsts-numbered [] h = refl
  firsts-numbered (x ∷ xs) h = ap (λ ks. number x ∷ ks) (filter-numbered (firsts same xs) x h.0 (each_firsts xs h.1) ∙ ap (filter (λ k. not (number x == k))) (firsts-numbered xs h.1))

  pub any-numbered : (xs : List A) (x : A) → Is x → Each Is xs → list_any (same x) xs ≡ has (map number xs) (number x)
  any-numbered [] x h hs = refl
  any-numbered (y ∷ ys) x h hs = ap (λ b. b || list_any (same x) ys) (exact x y h hs.0) ∙ ap (λ b. (number x == number y) || b) (any-numbered ys x h hs.1)

  pub any_turned-numbered : (xs : List A) (x : A) → Is x → Each Is xs → list_any (λ y. same y x) xs ≡ has (map number xs) (number x)
  any_turned-numbered [] x h hs = refl
  any_turned-numbered (y ∷ ys) x h hs = ap (λ b. b || list_any (λ z. same z x) ys) (exact y x hs.0 h ∙ eq_turned (number y) (number x)) ∙ ap (λ b. (number x == number y) || b) (any_turned-numbered ys x h hs.1)

  module _ (next : A → List A) (leads : (x : A) → Is x → Each Is (next x)) (step : ℕ → List ℕ) (agree : (x : A) → Is x → map number (next x) ≡ step (number x)) where
    flat-numbered : (xs : List A) → Each Is xs → map number (flat_map next xs) ≡ flat_map step (map number xs)
    flat-numbered [] h = refl
    flat-numbered (x ∷ xs) h =
        map-append number (next x) (flat_map next xs)
        ∙ ap (λ ks. ks ++ map number (flat_map next xs)) (agree x h.0)
        ∙ ap (λ ks. step (number x) ++ ks) (flat-numbered xs h.1)

    abbrev once : List A → List A
    once xs = firsts same (xs ++ flat_map next xs)

    each_both : (xs : List A) → Each Is xs → Each Is (xs ++ flat_map next xs)
    each_both xs h = each_append Is xs (flat_map next xs) h (each_flat Is Is next leads xs h)

    each_once : (xs : List A) → Each Is xs → Each Is (once xs)
    each_once xs h = each_firsts (xs ++ flat_map next xs) (each_both xs h)

    once-numbered : (xs : List A) → Each Is xs → map number (once xs) ≡ firsts eq (map number xs ++ flat_map step (map number xs))
    once-numbered xs h =
        firsts-numbered (xs ++ flat_map next xs) (each_both xs h)
        ∙ ap (firsts eq) (map-append number xs (flat_map next xs) ∙ ap (λ ks. map number xs ++ ks) (flat-numbered xs h))

    pub reached-numbered : (n : ℕ) (xs : List A) → Each Is xs → map number (reached same next n xs) ≡ reached eq step n (map number xs)
    reached-numbered zero xs h = refl
    reached-numbered (suc n) xs h = reached-numbered n (once xs) (each_once xs h) ∙ ap (reached eq step n) (once-numbered xs h)

    pub each_reached : (n : ℕ) (xs : List A) → Each Is xs → Each Is (reached same next n xs)
    each_reached zero xs h = h
    each_reached (suc n) xs h = each_reached n (once xs) (each_once xs h)
