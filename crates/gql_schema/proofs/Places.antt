-- Places in lists of names.
use Rattle.std.proofs.Common.{◌≡◌, refl, sym, ◌∙◌, ℕ, zero, suc, ◌+◌, ◌≤◌, Bool, true, false, not, cond, List, [], ◌∷◌, map, length, Some, None, arith, ltb, ltb-false}
use Rattle.std.specs.List.{position, position_or_len}
use Rattle.std.specs.Str.{bytes_eq}
use Rattle.gql_model.specs.SaidSchema.{place_in}
use Rattle.gql_schema.specs.declared.defined.Defined.{Defined}
use Rattle.gql_schema.specs.Seen.{defined}

module _ {A : Type 0} (test : A → Bool) where
  pub position_Some : (xs : List A) (k : ℕ) → position test xs ≡ Some k → position_or_len test xs ≡ k
  position_Some xs k = by (ltb (position_or_len test xs) (length xs))
    where
      by : (b : Bool) → cond b (Some (position_or_len test xs)) None ≡ Some k → position_or_len test xs ≡ k
      by true e = cc
      by false e = absurd cc

  within_by : (b : Bool) (n m : ℕ) → n ≤ m → cond (not b) (1 + n) 0 ≤ suc m
  within_by true n m le = omega arith
  within_by false n m le = omega (arith, le)

  place_within : (xs : List A) → position_or_len test xs ≤ length xs
  place_within [] = omega arith
  place_within (x ∷ xs) = within_by (test x) (position_or_len test xs) (length xs) (place_within xs)

  pub position_None : (xs : List A) → position test xs ≡ None → position_or_len test xs ≡ length xs
  position_None xs = by (ltb (position_or_len test xs) (length xs)) refl
    where
      by : (b : Bool) → ltb (position_or_len test xs) (length xs) ≡ b → cond b (Some (position_or_len test xs)) None ≡ None → position_or_len test xs ≡ length xs
      by true t e = absurd cc
      by false t e = let le : length xs ≤ position_or_len test xs = ltb-false (position_or_len test xs) (length xs) t in let within = place_within xs in omega (arith, le, within)

counted : (b : Bool) (n m : ℕ) → n ≡ m → cond b zero (suc n) ≡ cond (not b) (1 + m) 0
counted true n m e = refl
counted false n m e = let s : suc n ≡ 1 + m = omega (arith, e) in s

place_is : (ts : List Defined) (name : List ℕ) → place_in (map (λ d. d.name.name) (map defined ts)) name ≡ position_or_len (λ of. bytes_eq of.name.now.name name) ts
place_is [] name = refl
place_is (t ∷ ts) name = counted (bytes_eq t.name.now.name name) (place_in (map (λ d. d.name.name) (map defined ts)) name) (position_or_len (λ of. bytes_eq of.name.now.name name) ts) (place_is ts name)

pub defined_at : (ts : List Defined) (name : List ℕ) (k : ℕ) → position (λ of. bytes_eq of.name.now.name name) ts ≡ Some k → k ≡ place_in (map (λ d. d.name.name) (map defined ts)) name
defined_at ts name k e = sym (place_is ts name ∙ position_Some (λ (of : Defined). bytes_eq of.name.now.name name) ts k e)

pub defined_nowhere : (ts : List Defined) (name : List ℕ) → position (λ of. bytes_eq of.name.now.name name) ts ≡ None → length ts ≡ place_in (map (λ d. d.name.name) (map defined ts)) name
defined_nowhere ts name e = sym (place_is ts name ∙ position_None (λ (of : Defined). bytes_eq of.name.now.name name) ts e)
