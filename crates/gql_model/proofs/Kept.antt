-- The errors that are kept: what is left out of a list before it is put in order, or behind.
use Rattle.std.proofs.Common.{◌≡◌, refl, sym, ap, ◌∙◌, Bool, true, false, cond, List, [], ◌∷◌, Ordering, Less, Equal, Greater}
use Rattle.std.specs.Prelude.{filter, is_some, Option, Some, None}
use Rattle.std.specs.List.{AllByRecursion as Each}
use Rattle.std.specs.Ordering.{match_ordering, ordering_reverse, is_gt}
use Rattle.std.specs.Cmp.{IsTotalOrder}
use Rattle.std.proofs.lemmas.Cmp.{upto}
use Rattle.std.proofs.lemmas.List.Elements.{filter_agree}
use Rattle.gql_tree.specs.declared.Path.{Path}
use Rattle.gql_tree.specs.declared.Value.{Value}
use Rattle.gql_tree.specs.declared.Fault.{Fault}
use Rattle.gql_tree.specs.Same.{SameFlat}
use Rattle.gql_tree.specs.Order.{fault_cmp}
use Rattle.gql_tree.specs.Ordered.{placed, ordered}
use Rattle.gql_model.specs.Plain.{has_place, kept}

module _ {A : Type 0} (R : A → A → Ordering) (o : IsTotalOrder R) where
  -- the second doesn't come before the first
  abbrev Upto : A → A → Type 0
  Upto x y = is_gt (R x y) ≡ false

  abbrev Ascends : List A → Type 0
  Ascends [] = Unit {0}
  Ascends (x ∷ xs) = Each (Upto x) xs × Ascends xs

  turned : (x y : A) → R x y ≡ Greater → Upto y x
  turned x y e = ap is_gt (o.antisymm y x ∙ ap ordering_reverse e)

  all_upto : (x y : A) (ys : List A) → Upto x y → Each (Upto y) ys → Each (Upto x) ys
  all_upto x y [] h k = tt
  all_upto x y (z ∷ zs) h k = (upto o x y z h k.0, all_upto x y zs h k.1)

  -- ---- one more

  each_by : (P : A → Type 0) (a : Ordering) (x y : A) (ys : List A) → P x → P y → Each P ys → Each P (placed R x ys) → Each P (match_ordering a (x ∷ y ∷ ys) (x ∷ y ∷ ys) (y ∷ placed R x ys))
  each_by P Less x y ys h k r s = (h, (k, r))
  each_by P Equal x y ys h k r s = (h, (k, r))
  each_by P Greater x y ys h k r s = (k, s)

  each_placed : (P : A → Type 0) (x : A) (ys : List A) → P x → Each P ys → Each P (placed R x ys)
  each_placed P x [] h k = (h, tt)
  each_placed P x (y ∷ ys) h k = each_by P (R x y) x y ys h k.0 k.1 (each_placed P x ys h k.1)

  ascends_by : (a : Ordering) (x y : A) (ys : List A) → R x y ≡ a → Each (Upto y) ys → Ascends ys → Ascends (placed R x ys) → Ascends (match_ordering a (x ∷ y ∷ ys) (x ∷ y ∷ ys) (y ∷ placed R x ys))
  ascends_by Less x y ys e h k s = ((ap is_gt e, all_upto x y ys (ap is_gt e) h), (h, k))
  ascends_by Equal x y ys e h k s = ((ap is_gt e, all_upto x y ys (ap is_gt e) h), (h, k))
  ascends_by Greater x y ys e h k s = (each_placed (Upto y) x ys (turned x y e) h, s)

  placed-ascends : (x : A) (ys : List A) → Ascends ys → Ascends (placed R x ys)
  placed-ascends x [] h = (tt, tt)
  placed-ascends x (y ∷ ys) h = ascends_by (R x y) x y ys refl h.0 h.1 (placed-ascends x ys h.1)

  ordered-ascends : (xs : List A) → Ascends (ordered R xs)
  ordered-ascends [] = tt
  ordered-ascends (x ∷ xs) = placed-ascends x (ordered R xs) (ordered-ascends xs)

  -- ---- a list in order stays as it is

  first_by : (a : Ordering) (x y : A) (ys : List A) → is_gt a ≡ false → match_ordering a (x ∷ y ∷ ys) (x ∷ y ∷ ys) (y ∷ placed R x ys) ≡ x ∷ y ∷ ys
  first_by Less x y ys h = refl
  first_by Equal x y ys h = refl
  first_by Greater x y ys h = absurd (cc)

  placed-first : (x : A) (ys : List A) → Each (Upto x) ys → placed R x ys ≡ x ∷ ys
  placed-first x [] h = refl
  placed-first x (y ∷ ys) h = first_by (R x y) x y ys h.0

  ordered-same : (xs : List A) → Ascends xs → ordered R xs ≡ xs
  ordered-same [] h = refl
  ordered-same (x ∷ xs) h = ap (placed R x) (ordered-same xs h.1) ∙ placed-first x xs h.0

  -- ---- some are left out

  module _ (keeps : A → Bool) where
    each_cond : (P : A → Type 0) (b : Bool) (y : A) (ys : List A) → P y → Each P ys → Each P (cond b (y ∷ ys) ys)
    each_cond P true y ys h k = (h, k)
    each_cond P false y ys h k = k

    each_filter : (P : A → Type 0) (ys : List A) → Each P ys → Each P (filter keeps ys)
    each_filter P [] h = tt
    each_filter P (y ∷ ys) h = each_cond P (keeps y) y (filter keeps ys) h.0 (each_filter P ys h.1)

    swapped : (b c : Bool) (x y : A) (ys : List A) → R x y ≡ Greater → cond c (y ∷ cond b (placed R x ys) ys) (cond b (placed R x ys) ys) ≡ cond b (placed R x (cond c (y ∷ ys) ys)) (cond c (y ∷ ys) ys)
    swapped true true x y ys e = sym (ap (λ a. match_ordering a (x ∷ y ∷ ys) (x ∷ y ∷ ys) (y ∷ placed R x ys)) e)
    swapped true false x y ys e = refl
    swapped false true x y ys e = refl
    swapped false false x y ys e = refl

    abbrev Moves : A → List A → List A → Type 0
    Moves x ys zs = filter keeps zs ≡ cond (keeps x) (placed R x (filter keeps ys)) (filter keeps ys)

    in_front : (x y : A) (ys : List A) → Upto x y → Each (Upto y) ys → Moves x (y ∷ ys) (x ∷ y ∷ ys)
    in_front x y ys h k =
        let each : Each (Upto x) (filter keeps (y ∷ ys)) = each_filter (Upto x) (y ∷ ys) (h, all_upto x y ys h k) in
        ap (λ zs. cond (keeps x) zs (filter keeps (y ∷ ys))) (sym (placed-first x (filter keeps (y ∷ ys)) each))

    moves_by : (a : Ordering) (x y : A) (ys : List A) → R x y ≡ a → Each (Upto y) ys → Moves x ys (placed R x ys) → Moves x (y ∷ ys) (match_ordering a (x ∷ y ∷ ys) (x ∷ y ∷ ys) (y ∷ placed R x ys))
    moves_by Less x y ys e h k = in_front x y ys (ap is_gt e) h
    moves_by Equal x y ys e h k = in_front x y ys (ap is_gt e) h
    moves_by Greater x y ys e h k = ap (λ zs. cond (keeps y) (y ∷ zs) zs) k ∙ swapped (keeps x) (keeps y) x y (filter keeps ys) e

    filter-placed : (x : A) (ys : List A) → Ascends ys → Moves x ys (placed R x ys)
    filter-placed x [] h = refl
    filter-placed x (y ∷ ys) h = moves_by (R x y) x y ys refl h.0 (filter-placed x ys h.1)

    ordered-cond : (b : Bool) (x : A) (ys : List A) → cond b (placed R x (ordered R ys)) (ordered R ys) ≡ ordered R (cond b (x ∷ ys) ys)
    ordered-cond true x ys = refl
    ordered-cond false x ys = refl

    filter-ordered : (xs : List A) → filter keeps (ordered R xs) ≡ ordered R (filter keeps xs)
    filter-ordered [] = refl
    filter-ordered (x ∷ xs) =
        filter-placed x (ordered R xs) (ordered-ascends xs)
        ∙ (ap (λ zs. cond (keeps x) (placed R x zs) zs) (filter-ordered xs)
        ∙ ordered-cond (keeps x) x (filter keeps xs))

    ordered-filter : (xs : List A) → ordered R (filter keeps (ordered R xs)) ≡ ordered R (filter keeps xs)
    ordered-filter xs = ap (ordered R) (filter-ordered xs) ∙ ordered-same (ordered R (filter keeps xs)) (ordered-ascends (filter keeps xs))

-- ---- errors

pub kept-ordered : IsTotalOrder fault_cmp → (value : Value) (fs : List Fault) → kept value (ordered fault_cmp fs) ≡ kept value fs
kept-ordered total value fs = ordered-filter fault_cmp total (λ (f : Fault). has_place value f.path) fs

-- the same values keep the same errors
has_place-same : (value w : Value) (o : Option Path) → SameFlat value w → has_place value o ≡ has_place w o
has_place-same value w None same = refl
has_place-same value w (Some path) same = ap is_some (same path.keys)

pub kept-same : (value w : Value) (fs : List Fault) → SameFlat value w → kept value fs ≡ kept w fs
kept-same value w fs same = ap (ordered fault_cmp) (filter_agree (λ (f : Fault). has_place value f.path) (λ f. has_place w f.path) (λ f. has_place-same value w f.path same) fs)
