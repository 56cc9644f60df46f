-- The place of the first item that passes a test.
use Rattle.std.proofs.Common.{◌≡◌, refl, sym, ◌∙◌, ap, ℕ, zero, suc, ◌+◌, Bool, true, false, cond, ◌||◌, List, [], ◌∷◌, take, length, Option, Some, None, true≢false, arith}
use Rattle.std.specs.Prelude.{nat_lt, option_map}
use Rattle.std.specs.List.{list_any, position, position_or_len}
use Rattle.std.proofs.lemmas.Bool.Decides.{nat_tests}
use Rattle.gql_schema.specs.Seen.{stands_before}

some_later_by : (n : ℕ) (a b : Bool) → a ≡ b → cond a (Some (1 + n)) None ≡ option_map suc (cond b (Some n) None)
some_later_by n true b e = rw (← e) (ap Some (omega arith))
some_later_by n false b e = rw (← e) refl

some_later : (n m : ℕ) → cond (nat_lt (1 + n) (suc m)) (Some (1 + n)) None ≡ option_map suc (cond (nat_lt n m) (Some n) None)
some_later n m = some_later_by n (nat_lt (1 + n) (suc m)) (nat_lt n m) (grind (arith, nat_tests))

first_within : (b : Bool) → b ≡ true → cond {A = Option ℕ} b (Some 0) None ≡ Some 0
first_within true e = refl
first_within false e = absurd (true≢false (sym e))

position-cons_by : {A : Type 0} (p : A → Bool) (x : A) (xs : List A) (b : Bool) → p x ≡ b → position p (x ∷ xs) ≡ cond b (Some 0) (option_map suc (position p xs))
position-cons_by p x xs true e = rw e (first_within (nat_lt 0 (suc (length xs))) (grind (arith, nat_tests)))
position-cons_by p x xs false e = rw e (some_later (position_or_len p xs) (length xs))

pub position-cons : {A : Type 0} (p : A → Bool) (x : A) (xs : List A) → position p (x ∷ xs) ≡ cond (p x) (Some 0) (option_map suc (position p xs))
position-cons p x xs = position-cons_by p x xs (p x) refl

none_before : (o : Option ℕ) → false ≡ stands_before zero o
none_before None = refl
none_before (Some k) = grind (arith, nat_tests)

before_later : (i : ℕ) (o : Option ℕ) → stands_before i o ≡ stands_before (suc i) (option_map suc o)
before_later i None = refl
before_later i (Some k) = grind (arith, nat_tests)

any_taken_by : (b : Bool) (i : ℕ) (o : Option ℕ) (rest : Bool) → rest ≡ stands_before i o → (b || rest) ≡ stands_before (suc i) (cond b (Some 0) (option_map suc o))
any_taken_by true i o rest e = grind (arith, nat_tests)
any_taken_by false i o rest e = e ∙ before_later i o

-- whether one of so many first items passes
pub any_taken : {A : Type 0} (p : A → Bool) (xs : List A) (i : ℕ) → list_any p (take i xs) ≡ stands_before i (position p xs)
any_taken p [] zero = refl
any_taken p [] (suc i) = refl
any_taken p (x ∷ xs) zero = none_before (position p (x ∷ xs))
any_taken p (x ∷ xs) (suc i) = any_taken_by (p x) i (position p xs) (list_any p (take i xs)) (any_taken p xs i) ∙ ap (stands_before (suc i)) (sym (position-cons p x xs))
