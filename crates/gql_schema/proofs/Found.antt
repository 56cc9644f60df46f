-- Things that are found by their names, and their places.
use Rattle.std.proofs.Common.{◌≡◌, refl, sym, ◌∙◌, ap, ℕ, zero, suc, ◌<◌, ◌==◌, Bool, true, false, cond, List, [], ◌∷◌, map, length, get_or, Option, Some, None, arith}
use Rattle.std.specs.List.{find}
use Rattle.std.specs.Prelude.{is_some}
use Rattle.std.specs.Str.{bytes_eq}
use Rattle.std.proofs.lemmas.Bool.{true≢false}
use Rattle.std.proofs.lemmas.Bool.Decides.{nat_tests, same_from_decides, Decides-like}
use Rattle.std.proofs.lemmas.Slice.Eq.{bytes_eq-Decides}
use Rattle.gql_model.specs.SaidSchema.{place_in}

-- ---- names

pub bytes_same : (a b : List ℕ) → bytes_eq a b ≡ true → a ≡ b
bytes_same a b = (bytes_eq-Decides a b).0

pub bytes_itself : (a : List ℕ) → bytes_eq a a ≡ true
bytes_itself a = (bytes_eq-Decides a a).1 refl

pub bytes_turned : (a b : List ℕ) → bytes_eq a b ≡ bytes_eq b a
bytes_turned a b = same_from_decides (bytes_eq a b) (bytes_eq b a) (bytes_eq-Decides a b) (Decides-like (bytes_eq b a) sym sym (bytes_eq-Decides b a))

-- ---- places of names

exact_by : (p q : Bool) (n a b : List ℕ) (x y m : ℕ) → bytes_eq n a ≡ p → bytes_eq n b ≡ q → cond p zero (suc x) < suc m → cond q zero (suc y) < suc m → (x < m → y < m → bytes_eq a b ≡ (x == y)) → bytes_eq a b ≡ (cond p zero (suc x) == cond q zero (suc y))
exact_by true true n a b x y m e f h k rest = ap (λ z. bytes_eq z b) (sym (bytes_same n a e)) ∙ f
exact_by true false n a b x y m e f h k rest = ap (λ z. bytes_eq z b) (sym (bytes_same n a e)) ∙ f ∙ grind (arith, nat_tests)
exact_by false true n a b x y m e f h k rest = bytes_turned a b ∙ ap (λ z. bytes_eq z a) (sym (bytes_same n b f)) ∙ e ∙ grind (arith, nat_tests)
exact_by false false n a b x y m e f h k rest = rest (omega (arith, h)) (omega (arith, k)) ∙ grind (arith, nat_tests)

-- names that stand there are the same where their places are
pub place_exact : (ns : List (List ℕ)) (a b : List ℕ) → place_in ns a < length ns → place_in ns b < length ns → bytes_eq a b ≡ (place_in ns a == place_in ns b)
place_exact [] a b h k = absurd (omega (arith, h))
place_exact (n ∷ ns) a b h k = exact_by (bytes_eq n a) (bytes_eq n b) n a b (place_in ns a) (place_in ns b) (length ns) refl refl h k (place_exact ns a b)

-- ---- what is found

abbrev pub found_or : {A B : Type 0} → (A → B) → B → Option A → B
found_or f e None = e
found_or f e (Some x) = f x

module _ {A : Type 0} (name : A → List ℕ) (n : List ℕ) where
  abbrev sought : List A → Option A
  sought xs = find (λ x. bytes_eq (name x) n) xs

  place_found_by : (b : Bool) (x : A) (o : Option A) (p m : ℕ) → is_some (cond b (Some x) o) ≡ true → (is_some o ≡ true → p < m) → cond b zero (suc p) < suc m
  place_found_by true x o p m e f = omega arith
  place_found_by false x o p m e f = let h = f e in omega (arith, h)

  pub place_found : (xs : List A) → is_some (sought xs) ≡ true → place_in (map name xs) n < length xs
  place_found [] e = absurd (true≢false (sym e))
  place_found (x ∷ xs) e = place_found_by (bytes_eq (name x) n) x (sought xs) (place_in (map name xs) n) (length xs) e (place_found xs)

  at_found_by : {B : Type 0} (f : A → B) (e : B) (b : Bool) (x : A) (xs : List A) (o : Option A) (p : ℕ) → get_or (map f xs) p e ≡ found_or f e o → get_or (f x ∷ map f xs) (cond b zero (suc p)) e ≡ found_or f e (cond b (Some x) o)
  at_found_by f e true x xs o p h = refl
  at_found_by f e false x xs o p h = h

  pub at_found : {B : Type 0} (f : A → B) (e : B) (xs : List A) → get_or (map f xs) (place_in (map name xs) n) e ≡ found_or f e (sought xs)
  at_found f e [] = refl
  at_found f e (x ∷ xs) = at_found_by f e (bytes_eq (name x) n) x xs (sought xs) (place_in (map name xs) n) (at_found f e xs)
