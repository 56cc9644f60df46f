-- Numbers that are listed once, and the marks of those.
use Rattle.std.proofs.Common.{◌≡◌, ◌≢◌, refl, sym, ◌∙◌, ap, ℕ, ◌+◌, ◌<◌, ◌≤◌, ◌==◌, Bool, true, false, cond, ◌||◌, ⊎_elim, List, [], ◌∷◌, ◌++◌, length, get_or, arith, eq-eqb, ne_eqb}
use Rattle.std.specs.List.{count_by}
use Rattle.std.specs.Prelude.{set}
use Rattle.std.proofs.lemmas.Bool.{cases_eq, or_left, or_right}
use Rattle.std.proofs.lemmas.List.{get_or-set_same, get_or-set_other, length-set, length_push}
use Rattle.std.proofs.lemmas.List.Folds.{list_any-append}
use Rattle.std.proofs.lemmas.List.Sums.{sum_by-set, count_by-le-length}
use Rattle.gql_schema.proofs.Each.{each_append, each_weaker}
use Rattle.gql_schema.specs.Graph.{has, AreMarked}

-- no more are listed than there are marks
pub few_marked : (ks : List ℕ) (marks : List Bool) → AreMarked ks marks → length ks ≤ length marks
few_marked ks marks w = omega (arith, w.counted, count_by-le-length (λ b. b) marks)

or_none : (a : Bool) → (a || false) ≡ a
or_none true = refl
or_none false = refl

abbrev one_if : Bool → ℕ
one_if b = cond b 1 0

module _ (ks : List ℕ) (marks : List Bool) (m : ℕ) (w : AreMarked ks marks) (lt : m < length marks) (new : has ks m ≡ false) where
  abbrev more : List ℕ
  more = ks ++ m ∷ []

  in_more : (k : ℕ) → has more k ≡ (has ks k || ((k == m) || false))
  in_more k = list_any-append (λ x. k == x) ks (m ∷ [])

  marked_same : (k : ℕ) → k ≡ m → get_or (set marks m true) k false ≡ has more k
  marked_same k e =
      ap (λ j. get_or (set marks m true) j false) e
      ∙ get_or-set_same marks m true false lt
      ∙ sym (in_more k ∙ or_right (has ks k) ((k == m) || false) (or_left (k == m) false (eq-eqb k m e)))

  marked_other : (k : ℕ) → k ≢ m → k < length marks → get_or (set marks m true) k false ≡ has more k
  marked_other k ne within =
      get_or-set_other marks m k true false ne
      ∙ w.told k within
      ∙ sym (in_more k ∙ ap (λ b. has ks k || (b || false)) (ne_eqb k m ne) ∙ or_none (has ks k))

  marked_more : (k : ℕ) → k < length (set marks m true) → get_or (set marks m true) k false ≡ has more k
  marked_more k within = ⊎_elim (marked_same k) (λ ne. marked_other k ne (omega (arith, within, length-set marks m true))) (cases_eq k m)

  counted_more : count_by (λ b. b) (set marks m true) ≡ length more
  counted_more =
      let none : one_if (get_or marks m false) ≡ one_if false = ap one_if (w.told m lt ∙ new) in
      let after : count_by (λ b. b) (set marks m true) + one_if (get_or marks m false) ≡ count_by (λ b. b) marks + one_if true = sum_by-set one_if marks m true false lt in
      omega (arith, none, after, w.counted, length_push ks m)

  pub one_marked : AreMarked (ks ++ m ∷ []) (set marks m true)
  one_marked = record {
    told = marked_more;
    within = each_weaker (λ k. k < length marks) (λ k. k < length (set marks m true)) (λ k h. omega (arith, h, length-set marks m true)) (ks ++ m ∷ []) (each_append (λ k. k < length marks) ks (m ∷ []) w.within (lt, tt));
    counted = counted_more;
  }
