-- Choices by a test, and lists that are cut in two ways.
use Rattle.std.proofs.Common.{◌≡◌, ℕ, zero, suc, ◌<◌, ◌≤◌, Bool, true, false, if◌then◌else◌, List, [], ◌∷◌, ◌++◌, length, get_or, take, refl, sym, ap₂, arith}
use Rattle.std.specs.List.{AllByRecursion as Each}

pub by_test : {A : Type 0} (P : A → Type 0) (t : Bool) (x y : A) → ((t ≡ true) → P x) → ((t ≡ false) → P y) → P (if t then x else y)
by_test P true x y f g = f refl
by_test P false x y f g = g refl

pub from_test : {A R : Type 0} (P : A → Type 0) (t : Bool) (x y : A) → P (if t then x else y) → ((t ≡ true) → P x → R) → ((t ≡ false) → P y → R) → R
from_test P true x y p f g = f refl p
from_test P false x y p f g = g refl p

-- what one list has in front, cut off the front of the other
pub cut : (c a b d : List ℕ) → a ++ b ≡ c ++ d → length c ≤ length a → (e : List ℕ) × (a ≡ c ++ e) × (d ≡ e ++ b)
cut [] a b d p l = (a, refl, sym p)
cut (x ∷ c) [] b d p l = absurd (omega arith)
cut (x ∷ c) (y ∷ a) b d p l =
    let tails : a ++ b ≡ c ++ d = cc in
    let r = cut c a b d tails (omega arith) in
    let heads : y ≡ x = cc in
    (r.0, ap₂ (λ h t. h ∷ t) heads r.1, r.2)

-- no byte is CR
abbrev pub NoCr : List ℕ → Type 0
NoCr = Each (λ b. b ≡ 13 → ⊥)

pub NoCr-take : (n : ℕ) (xs : List ℕ) → NoCr xs → NoCr (take n xs)
NoCr-take zero xs h = tt
NoCr-take (suc n) [] h = tt
NoCr-take (suc n) (x ∷ xs) h = (h.0, NoCr-take n xs h.1)

pub NoCr-at : (xs : List ℕ) (i : ℕ) → NoCr xs → i < length xs → get_or xs i 0 ≡ 13 → ⊥
NoCr-at [] i h l = absurd (omega arith)
NoCr-at (x ∷ xs) zero h l = h.0
NoCr-at (x ∷ xs) (suc i) h l = NoCr-at xs i h.1 (omega arith)

pub nil-append : {A : Type 0} (a b : List A) → a ++ b ≡ a → b ≡ []
nil-append [] b p = p
nil-append (x ∷ a) b p = nil-append a b cc
