-- Going through a list in which names may not stand twice.
use Rattle.std.proofs.Common.{◌≡◌, refl, sym, ◌∙◌, ap, ℕ, ◌+◌, ◌<◌, ◌≤◌, Bool, false, ◌||◌, Option, List, [], ◌∷◌, ◌++◌, map, take, drop, length, get_or, Some, None}
use Rattle.std.specs.List.{list_any}
use Rattle.std.specs.Str.{bytes_eq}
use Rattle.std.proofs.lemmas.List.{append_assoc, drop_more, drop_all, take_more, take-map, map_push}
use Rattle.std.proofs.lemmas.List.Folds.{list_any-append}
use Rattle.gql_tree.specs.declared.Spot.{Spot}
use Rattle.gql_model.specs.rules.Places.{stands_in, in_turn}
use Rattle.std.specs.List.{position}
use Rattle.gql_model.specs.rules.TypeParts as parts
use Rattle.gql_model.specs.rules.TypeParts.{built_in}
use Rattle.gql_model.specs.rules.types.DistinctTypes.{repeated_types}
use Rattle.gql_model.specs.rules.Places.{place_if}
use Rattle.gql_model.specs.declared.type_syntax.NameAt.{NameAt}
use Rattle.gql_schema.specs.declared.defined.Defined.{Defined}
use Rattle.gql_schema.specs.declared.rules.in_turn.Turn.{Turn}
use Rattle.gql_schema.specs.Seen.{defined, stands_before}
use Rattle.gql_schema.specs.FirstPlace.{first_place}
use Rattle.gql_schema.proofs.Positions.{any_taken}
use Rattle.gql_schema.proofs.Walking.{first_none, first_some}

pub stands_in-map : {A : Type 0} (name : A → List ℕ) (n : List ℕ) (xs : List A) → stands_in n (map name xs) ≡ list_any (λ x. bytes_eq (name x) n) xs
stands_in-map name n [] = refl
stands_in-map name n (x ∷ xs) = ap (λ b. bytes_eq (name x) n || b) (stands_in-map name n xs)

pub in_turn-map : {A B : Type 0} (name : B → List ℕ) (P : Bool → B → List Spot) (g : A → B) (before : List (List ℕ)) (xs : List A) → in_turn name P before (map g xs) ≡ in_turn (λ x. name (g x)) (λ b x. P b (g x)) before xs
in_turn-map name P g before [] = refl
in_turn-map name P g before (x ∷ xs) = ap (λ ps. P (stands_in (name (g x)) before) (g x) ++ ps) (in_turn-map name P g (before ++ name (g x) ∷ []) xs)

module _ {A : Type 0} (name : A → List ℕ) (P : Bool → A → List Spot) (xs : List A) (i : ℕ) where
  pub all_in_turn : length xs ≤ i → first_place (in_turn name P (map name (take i xs)) (drop i xs)) ≡ None
  all_in_turn le = ap (λ ys. first_place (in_turn name P (map name (take i xs)) ys)) (drop_all i xs le)

  module _ (a : A) (at : a ≡ get_or xs i a) (lt : i < length xs) (again : Bool) (is : again ≡ list_any (λ x. bytes_eq (name x) (name a)) (take i xs)) where
    grown : map name (take i xs) ++ name a ∷ [] ≡ map name (take (i + 1) xs)
    grown = sym (ap (map name) (take_more xs i a lt ∙ ap (λ x. take i xs ++ x ∷ []) (sym at)) ∙ map_push name (take i xs) a)

    parted : in_turn name P (map name (take i xs)) (drop i xs) ≡ P again a ++ in_turn name P (map name (take (i + 1) xs)) (drop (i + 1) xs)
    parted =
        ap (in_turn name P (map name (take i xs))) (drop_more xs i a lt ∙ ap (λ x. x ∷ drop (i + 1) xs) (sym at))
        ∙ ap (λ b. P b a ++ in_turn name P (map name (take i xs) ++ name a ∷ []) (drop (i + 1) xs)) (stands_in-map name (name a) (take i xs) ∙ sym is)
        ∙ ap (λ names. P again a ++ in_turn name P names (drop (i + 1) xs)) grown

    pub further_in_turn : first_place (P again a) ≡ None → first_place (in_turn name P (map name (take i xs)) (drop i xs)) ≡ first_place (in_turn name P (map name (take (i + 1) xs)) (drop (i + 1) xs))
    further_in_turn e = ap first_place parted ∙ first_none (P again a) (in_turn name P (map name (take (i + 1) xs)) (drop (i + 1) xs)) e

    pub found_in_turn : (s : Spot) → first_place (P again a) ≡ Some s → first_place (in_turn name P (map name (take i xs)) (drop i xs)) ≡ Some s
    found_in_turn s e = ap first_place parted ∙ first_some (P again a) (in_turn name P (map name (take (i + 1) xs)) (drop (i + 1) xs)) s e

-- ---- behind other names

module _ {A : Type 0} (name : A → List ℕ) (P : Bool → A → List Spot) (before : List (List ℕ)) (xs : List A) (i : ℕ) where
  pub all_behind : length xs ≤ i → first_place (in_turn name P (before ++ map name (take i xs)) (drop i xs)) ≡ None
  all_behind le = ap (λ ys. first_place (in_turn name P (before ++ map name (take i xs)) ys)) (drop_all i xs le)

  module _ (a : A) (at : a ≡ get_or xs i a) (lt : i < length xs) (again : Bool) (is : again ≡ stands_in (name a) (before ++ map name (take i xs))) where
    grown_behind : (before ++ map name (take i xs)) ++ name a ∷ [] ≡ before ++ map name (take (i + 1) xs)
    grown_behind =
        append_assoc before (map name (take i xs)) (name a ∷ [])
        ∙ ap (λ names. before ++ names) (sym (ap (map name) (take_more xs i a lt ∙ ap (λ x. take i xs ++ x ∷ []) (sym at)) ∙ map_push name (take i xs) a))

    parted_behind : in_turn name P (before ++ map name (take i xs)) (drop i xs) ≡ P again a ++ in_turn name P (before ++ map name (take (i + 1) xs)) (drop (i + 1) xs)
    parted_behind =
        ap (in_turn name P (before ++ map name (take i xs))) (drop_more xs i a lt ∙ ap (λ x. x ∷ drop (i + 1) xs) (sym at))
        ∙ ap (λ b. P b a ++ in_turn name P ((before ++ map name (take i xs)) ++ name a ∷ []) (drop (i + 1) xs)) (sym is)
        ∙ ap (λ names. P again a ++ in_turn name P names (drop (i + 1) xs)) grown_behind

    pub further_behind : first_place (P again a) ≡ None → first_place (in_turn name P (before ++ map name (take i xs)) (drop i xs)) ≡ first_place (in_turn name P (before ++ map name (take (i + 1) xs)) (drop (i + 1) xs))
    further_behind e = ap first_place parted_behind ∙ first_none (P again a) (in_turn name P (before ++ map name (take (i + 1) xs)) (drop (i + 1) xs)) e

    pub found_behind : (s : Spot) → first_place (P again a) ≡ Some s → first_place (in_turn name P (before ++ map name (take i xs)) (drop i xs)) ≡ Some s
    found_behind s e = ap first_place parted_behind ∙ first_some (P again a) (in_turn name P (before ++ map name (take (i + 1) xs)) (drop (i + 1) xs)) s e

-- ---- names of types

abbrev type_name : Defined → List ℕ
type_name of = of.name.now.name

pub stands_before_type : (ts : List Defined) (n : List ℕ) (i : ℕ) (o : Option ℕ) → o ≡ position (λ of. bytes_eq of.name.now.name n) ts → stands_in n built_in ≡ false → stands_before i o ≡ stands_in n (built_in ++ map type_name (take i ts))
stands_before_type ts n i o is other =
    ap (stands_before i) is
    ∙ sym (any_taken (λ of. bytes_eq of.name.now.name n) ts i)
    ∙ sym (stands_in-map type_name n (take i ts))
    ∙ sym (list_any-append (λ m. bytes_eq m n) built_in (map type_name (take i ts)) ∙ ap (λ b. b || stands_in n (map type_name (take i ts))) other)

pub repeated_types-begin : (ts : List Defined) → repeated_types (map defined ts) ≡ in_turn type_name (λ again of. place_if again of.name.now.spot) built_in ts
repeated_types-begin ts =
    in_turn-map (λ (n : NameAt). n.name) (λ again (n : NameAt). place_if again n.spot) (λ (d : parts.Defined). d.name) built_in (map defined ts)
    ∙ in_turn-map (λ (d : parts.Defined). d.name.name) (λ again (d : parts.Defined). place_if again d.name.spot) defined built_in ts

-- ---- names that are in order

abbrev turn_name : Turn → List ℕ
turn_name turn = turn.name.now

pub stands_before_turn : {A : Type 0} (name : A → List ℕ) (xs : List A) (ts : List Turn) (n : List ℕ) (i : ℕ) (o : Option ℕ) → map turn_name ts ≡ map name xs → o ≡ position (λ turn. bytes_eq (turn_name turn) n) ts → stands_before i o ≡ list_any (λ x. bytes_eq (name x) n) (take i xs)
stands_before_turn name xs ts n i o same is =
    ap (stands_before i) is
    ∙ sym (any_taken (λ turn. bytes_eq (turn_name turn) n) ts i)
    ∙ sym (stands_in-map turn_name n (take i ts))
    ∙ ap (stands_in n) (sym (take-map turn_name i ts) ∙ ap (take i) same ∙ take-map name i xs)
    ∙ stands_in-map name n (take i xs)
