-- Names that stand once keep the fields of an object apart.
use Rattle.std.proofs.Common.{◌≡◌, refl, sym, ◌∙◌, ap, ℕ, zero, suc, ◌<◌, Bool, true, false, List, [], ◌∷◌, ◌++◌, map, length, get_or, take, arith}
use Rattle.std.proofs.lemmas.List.{append-nil}
use Rattle.gql_tree.specs.declared.Spot.{Spot}
use Rattle.gql_model.specs.rules.Places.{place_if, stands_in, in_turn, repeats}
use Rattle.gql_model.specs.declared.type_syntax.NameAt.{NameAt}
use Rattle.gql_model.specs.declared.type_syntax.InputSyntax.{InputSyntax}
use Rattle.gql_model.specs.rules.TypeParts.{Input, input_of, named_input}
use Rattle.gql_schema.proofs.InTurn.{in_turn-map}

pub first_empty : {A : Type 0} (xs ys : List A) → xs ++ ys ≡ [] → xs ≡ []
first_empty [] ys e = refl
first_empty (x ∷ xs) ys e = absurd (cc)

pub second_empty : {A : Type 0} (xs ys : List A) → xs ++ ys ≡ [] → ys ≡ []
second_empty [] ys e = e
second_empty (x ∷ xs) ys e = absurd (cc)

not_at_fault : (b : Bool) (spot : Spot) → place_if b spot ≡ [] → b ≡ false
not_at_fault true spot e = absurd (cc)
not_at_fault false spot e = refl

moved : {A : Type 0} (xs : List A) (y : A) (zs : List A) → (xs ++ y ∷ []) ++ zs ≡ xs ++ y ∷ zs
moved [] y zs = refl
moved (x ∷ xs) y zs = ap (λ ys. x ∷ ys) (moved xs y zs)

abbrev input_name : InputSyntax → List ℕ
input_name i = i.name.name

abbrev input_places : Bool → InputSyntax → List Spot
input_places again i = place_if again i.name.spot

pub stands_before : (before : List (List ℕ)) (is : List InputSyntax) (k : ℕ) (x : InputSyntax) → x ≡ get_or is k x → k < length is → in_turn input_name input_places before is ≡ [] → stands_in x.name.name (before ++ map input_name (take k is)) ≡ false
stands_before before [] k x at lt e = absurd (omega (arith, lt))
stands_before before (y ∷ ys) zero x at lt e =
    ap (stands_in x.name.name) (append-nil before)
    ∙ ap (λ z. stands_in z.name.name before) at
    ∙ not_at_fault (stands_in y.name.name before) y.name.spot (first_empty (place_if (stands_in y.name.name before) y.name.spot) (in_turn input_name input_places (before ++ y.name.name ∷ []) ys) e)
stands_before before (y ∷ ys) (suc k) x at lt e =
    ap (stands_in x.name.name) (sym (moved before y.name.name (map input_name (take k ys))))
    ∙ stands_before (before ++ y.name.name ∷ []) ys k x at (omega (arith, lt)) (second_empty (place_if (stands_in y.name.name before) y.name.spot) (in_turn input_name input_places (before ++ y.name.name ∷ []) ys) e)

pub inputs_apart : (is : List InputSyntax) → repeats (map named_input (map input_of is)) ≡ [] → in_turn input_name input_places [] is ≡ []
inputs_apart is e =
    sym (in_turn-map (λ (n : NameAt). n.name) (λ again n. place_if again n.spot) named_input [] (map input_of is)
    ∙ in_turn-map (λ (i : Input). i.name.name) (λ again (i : Input). place_if again i.name.spot) input_of [] is) ∙ e
