-- The first place of a list of places that is put together of others.
use Rattle.std.proofs.Common.{◌≡◌, refl, sym, ◌∙◌, ap, ℕ, ◌+◌, ◌<◌, ◌≤◌, List, [], ◌∷◌, ◌++◌, map, flat_map, drop, length, get_or, true≢false, Option, Some, None}
use Rattle.std.specs.Prelude.{is_some, Result, Ok, Err, IfOk}
use Rattle.std.specs.Option.{option_or}
use Rattle.std.proofs.lemmas.List.{drop_more, drop_all}
use Rattle.std.proofs.lemmas.List.Concat.{flat_map-append}
use Rattle.gql_tree.specs.declared.NoMemory.{NoMemory}
use Rattle.gql_tree.specs.declared.Spot.{Spot}
use Rattle.std.proofs.lemmas.List.Folds.{flat_map-map}
use Rattle.gql_model.specs.rules.TypeParts as parts
use Rattle.gql_schema.specs.declared.defined.Defined.{Defined}
use Rattle.gql_schema.specs.Seen.{defined}
use Rattle.gql_schema.specs.FirstPlace.{first_place}

-- ---- parts one behind the other

pub first_place-append : (a b : List Spot) → first_place (a ++ b) ≡ option_or (first_place a) (first_place b)
first_place-append [] b = refl
first_place-append (s ∷ a) b = refl

pub or_assoc : {A : Type 0} (a b c : Option A) → option_or (option_or a b) c ≡ option_or a (option_or b c)
or_assoc None b c = refl
or_assoc (Some x) b c = refl

-- ---- item by item

pub first_none : (a b : List Spot) → first_place a ≡ None → first_place (a ++ b) ≡ first_place b
first_none [] b e = refl
first_none (s ∷ a) b e = absurd (true≢false (ap is_some e))

pub first_some : (a b : List Spot) (s : Spot) → first_place a ≡ Some s → first_place (a ++ b) ≡ Some s
first_some [] b s e = absurd (true≢false (sym (ap is_some e)))
first_some (t ∷ a) b s e = e

module _ {A : Type 0} (P : A → List Spot) (xs : List A) (i : ℕ) (a : A) (at : a ≡ get_or xs i a) (lt : i < length xs) where
  parted : flat_map P (drop i xs) ≡ P a ++ flat_map P (drop (i + 1) xs)
  parted = ap (flat_map P) (drop_more xs i a lt ∙ ap (λ x. x ∷ drop (i + 1) xs) (sym at))

  pub further : first_place (P a) ≡ None → first_place (flat_map P (drop i xs)) ≡ first_place (flat_map P (drop (i + 1) xs))
  further e = ap first_place parted ∙ first_none (P a) (flat_map P (drop (i + 1) xs)) e

  pub found : (s : Spot) → first_place (P a) ≡ Some s → first_place (flat_map P (drop i xs)) ≡ Some s
  found s e = ap first_place parted ∙ first_some (P a) (flat_map P (drop (i + 1) xs)) s e

pub all_passed : {A : Type 0} (P : A → List Spot) (xs : List A) (i : ℕ) → length xs ≤ i → first_place (flat_map P (drop i xs)) ≡ None
all_passed P xs i le = ap (λ ys. first_place (flat_map P ys)) (drop_all i xs le)

-- ---- lists of places

pub flat_map-flat_map : {A B C : Type 0} (f : B → List C) (g : A → List B) (xs : List A) → flat_map f (flat_map g xs) ≡ flat_map (λ x. flat_map f (g x)) xs
flat_map-flat_map f g [] = refl
flat_map-flat_map f g (x ∷ xs) = flat_map-append f (g x) (flat_map g xs) ∙ ap (λ ys. flat_map f (g x) ++ ys) (flat_map-flat_map f g xs)

-- ---- type by type

pub typewise : (P : parts.Defined → List Spot) (ts : List Defined) → first_place (flat_map (λ of. P (defined of)) ts) ≡ first_place (flat_map P (map defined ts))
typewise P ts = ap first_place (sym (flat_map-map P defined ts))

pub typewise_ok : (P : parts.Defined → List Spot) (us ts : List Defined) → us ≡ ts → (r : Result (Option Spot) NoMemory) → IfOk r (λ found. found ≡ first_place (flat_map (λ of. P (defined of)) us)) → IfOk r (λ found. found ≡ first_place (flat_map P (map defined ts)))
typewise_ok P us ts same (Ok found) h = h ∙ ap (λ xs. first_place (flat_map (λ of. P (defined of)) xs)) same ∙ typewise P ts
typewise_ok P us ts same (Err e) h = tt

-- ---- answers with room for want of memory

pub ok_is : {A : Type 0} {a b : A} (r : Result A NoMemory) → a ≡ b → IfOk r (λ found. found ≡ a) → IfOk r (λ found. found ≡ b)
ok_is (Ok found) e h = h ∙ e
ok_is (Err x) e h = tt
