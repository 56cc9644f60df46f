-- The marks of delivered parts: of one, and of one with another that is united at its place.
use Rattle.std.proofs.Common.{◌≡◌, ◌↔◌, ◌⊎◌, inl, inr, zero, suc, List, [], ◌∷◌, ◌++◌, refl, sym, ◌∙◌, ap, Some, arith}
use Rattle.std.specs.Prelude.{Contains}
use Rattle.gql_tree.specs.declared.path.Key.{Key}
use Rattle.gql_tree.specs.declared.value.Value.{Value}
use Rattle.gql_tree.specs.declared.delivery.Failure.{Failure}
use Rattle.gql_tree.specs.declared.delivery.Fault.{Fault}
use Rattle.gql_tree.specs.Flat.{Mark, flat}
use Rattle.gql_tree.specs.Same.{SameFlat}
use Rattle.gql_tree.specs.Union.{Marks, IsUnion, moved}
use Rattle.gql_tree.specs.Merged.{Part, Delivery, HasMark}
use Rattle.gql_tree.proofs.Moved.{moved-append, moved_behind}

-- ---- elements of short lists

module _ {X : Type 0} where
  pub one_contained : (a x : X) → Contains (a ∷ []) x → a ≡ x
  one_contained a x (zero, lt, e) = e
  one_contained a x (suc k, lt, e) = absurd (omega arith)

  pub two_contained : (a b x : X) → Contains (a ∷ b ∷ []) x → (a ≡ x) ⊎ (b ≡ x)
  two_contained a b x (zero, lt, e) = inl e
  two_contained a b x (suc zero, lt, e) = inr e
  two_contained a b x (suc (suc k), lt, e) = absurd (omega arith)

-- ---- the marks

-- a part has the mark at its place
abbrev MarkOf : Part → List Key → Mark → Type 0
MarkOf x path m = (rest : List Key) × (raw : Mark) × (path ≡ x.at ++ rest) × (flat x.value rest ≡ Some raw) × (m ≡ raw)

-- a map has the marks of the part at its place
mark_at : (p x : Part) (a : Marks) (path : List Key) (m : Mark) → ((rest : List Key) → flat p.value rest ≡ a (p.at ++ rest)) → p ≡ x → MarkOf x path m → a path ≡ Some m
mark_at p x a path m same e h =
    let raw : a (p.at ++ h.0) ≡ Some h.1 = sym (same h.0) ∙ (ap (λ (z : Part). flat z.value h.0) e ∙ h.3) in
    ap a (h.2 ∙ ap (λ (z : Part). z.at ++ h.0) (sym e)) ∙ (raw ∙ ap Some (sym h.4))

module _ (v x : Value) (same : SameFlat v x) (faults : List Fault) where
  abbrev first : Part
  first = record { at = []; value = v; errors = faults }

  pub marks_alone : (failures : List Failure) (path : List Key) (m : Mark) → (flat x path ≡ Some m) ↔ HasMark (record { parts = first ∷ []; lists = []; failures = failures }) path m
  marks_alone failures path m = (
    λ h. (first, (0, omega arith, refl), path, m, refl, same path ∙ h, refl),
    λ h. mark_at first h.0 (flat x) path m same (one_contained first h.0 h.1) (h.2, h.3, h.4, h.5, h.6),
  )

  -- the second part's marks are moved to its place
  module _ (w y z : Value) (at : List Key) (union : IsUnion (flat w) (flat x) (moved at (flat z))) (also : SameFlat y z) (errors : List Fault) where
    abbrev second : Part
    second = record { at = at; value = y; errors = errors }

    abbrev delivered : List Failure → Delivery
    delivered failures = record { parts = first ∷ second ∷ []; lists = []; failures = failures }

    there : (failures : List Failure) (path : List Key) (m : Mark) → (flat x path ≡ Some m) ⊎ (moved at (flat z) path ≡ Some m) → HasMark (delivered failures) path m
    there failures path m (inl h) = (first, (0, omega arith, refl), path, m, refl, same path ∙ h, refl)
    there failures path m (inr h) = let p = moved_behind at path (flat z) m h in (second, (1, omega arith, refl), p.0, m, p.1, also p.0 ∙ p.2, refl)

    back : (p : Part) (path : List Key) (m : Mark) → (first ≡ p) ⊎ (second ≡ p) → MarkOf p path m → (flat x path ≡ Some m) ⊎ (moved at (flat z) path ≡ Some m)
    back p path m (inl e) h = inl (mark_at first p (flat x) path m same e h)
    back p path m (inr e) h = inr (mark_at second p (moved at (flat z)) path m (λ rest. also rest ∙ sym (moved-append at (flat z) rest)) e h)

    pub marks_united : (failures : List Failure) (path : List Key) (m : Mark) → (flat w path ≡ Some m) ↔ HasMark (delivered failures) path m
    marks_united failures path m = (
      λ h. there failures path m ((union path m).0 h),
      λ h. (union path m).1 (back h.0 path m (two_contained first second h.0 h.1) (h.2, h.3, h.4, h.5, h.6)),
    )
