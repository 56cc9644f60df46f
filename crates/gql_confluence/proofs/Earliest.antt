-- The times of what is done, and the earliest of several times.
use Rattle.std.proofs.Common.{◌≡◌, ◌⊎◌, inl, inr, ℕ, ◌≤◌, List, [], ◌∷◌, refl, sym, subst, ◌∙◌, ap, Bool, true, false, Some, None, arith}
use Rattle.std.specs.Prelude.{nat_le, min, ◌&&◌}
use Rattle.std.proofs.lemmas.Bool.Decides.{nat_tests}
use Rattle.gql_tree.specs.Times.{Time, earliest, earliest_of}
use Rattle.gql_tree.specs.Course.{Awaited}
use Rattle.gql_tree.specs.Lawful.{is_not_after, is_done_in_time}
use Rattle.gql_confluence.proofs.Parts.{In}
use Rattle.gql_confluence.proofs.Lists.{and_left}
use Rattle.gql_confluence.proofs.Soundness.{IsTimed}

timed_by : (n d : Time) → (is_not_after (Some 1) d && is_not_after n d) ≡ true → (x y : ℕ) × (n ≡ Some x) × (d ≡ Some y) × (x ≤ y) × (1 ≤ y)
timed_by None None h = absurd (cc)
timed_by (Some x) None h = absurd (cc)
timed_by None (Some y) h = let p = and_left (nat_le 1 y) false h in let q = p.1 in absurd (cc)
timed_by (Some x) (Some y) h = let p = and_left (nat_le 1 y) (nat_le x y) h in let a = p.0 in let b = p.1 in (x, y, refl, refl, grind (arith, nat_tests), grind (arith, nat_tests))

pub timed_of : (a : Awaited) → is_done_in_time a ≡ true → IsTimed a
timed_of a h = let t = timed_by a.announced a.done h in record { opening = t.0; closing = t.1; announced = t.2; done = t.3; forward = t.4; late = t.5 }

-- the earliest of times is one of them
pub record IsEarliest (ts : List Time) : Type 0 where
  pub time : ℕ
  pub is : earliest_of ts ≡ Some time
  pub among : In (Some time) ts
  pub least : (b : ℕ) → In (Some b) ts → time ≤ b

pub some_same : (a b : ℕ) → Some a ≡ Some b → a ≡ b
some_same a b e = cc

min_by : (a b : ℕ) → (min a b ≡ a) ⊎ (min a b ≡ b)
min_by a b = by (nat_le a b) refl where
  by : (c : Bool) → nat_le a b ≡ c → (min a b ≡ a) ⊎ (min a b ≡ b)
  by true e = inl (let l : a ≤ b = grind (arith, nat_tests) in omega arith)
  by false e = inr (let l : b ≤ a = grind (arith, nat_tests) in omega arith)

earliest_two : (a : ℕ) (t : Time) (ts : List Time) → t ≡ Some a → IsEarliest ts → IsEarliest (t ∷ ts)
earliest_two a t ts e h = record {
  time = min a h.time;
  is = (λ i. earliest (e i) (h.is i));
  among = by (min_by a h.time);
  least = λ b i. least_by b i;
} where
  by : (min a h.time ≡ a) ⊎ (min a h.time ≡ h.time) → In (Some (min a h.time)) (t ∷ ts)
  by (inl f) = inl (ap Some f ∙ sym e)
  by (inr f) = inr (subst (λ (x : ℕ). In (Some x) ts) (sym f) h.among)

  least_by : (b : ℕ) → In (Some b) (t ∷ ts) → min a h.time ≤ b
  least_by b (inl f) = let g : b ≡ a = some_same b a (f ∙ e) in omega arith
  least_by b (inr i) = let g = h.least b i in omega arith

earliest_one : (a : ℕ) (t : Time) → t ≡ Some a → IsEarliest (t ∷ [])
earliest_one a t e = record { time = a; is = ap (λ x. earliest x None) e; among = inl (sym e); least = by } where
  by : (b : ℕ) → In (Some b) (t ∷ []) → a ≤ b
  by b (inl f) = let g : b ≡ a = some_same b a (f ∙ e) in omega arith
  by b (inr i) = absurd i

earliest_more : (t : Time) (ts : List Time) → ((u : Time) → In u (t ∷ ts) → (a : ℕ) × (u ≡ Some a)) → IsEarliest (t ∷ ts)
earliest_more t [] h = let a = h t (inl refl) in earliest_one a.0 t a.1
earliest_more t (u ∷ ts) h = let a = h t (inl refl) in earliest_two a.0 t (u ∷ ts) a.1 (earliest_more u ts (λ w i. h w (inr i)))

pub earliest_in : (u : Time) (ts : List Time) → In u ts → ((t : Time) → In t ts → (a : ℕ) × (t ≡ Some a)) → IsEarliest ts
earliest_in u [] i h = absurd i
earliest_in u (t ∷ ts) i h = earliest_more t ts h
