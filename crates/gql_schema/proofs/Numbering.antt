-- The numbers of input fields.
use Rattle.std.proofs.Common.{◌≡◌, refl, sym, ◌∙◌, ap, ℕ, zero, suc, ◌+◌, ◌<◌, ◌==◌, Bool, true, false, cond, ◌&&◌, List, [], ◌∷◌, ◌++◌, map, length, get_or, Option, Some, None, arith}
use Rattle.std.specs.Prelude.{is_some}
use Rattle.std.specs.Str.{bytes_eq}
use Rattle.std.proofs.lemmas.Bool.{true≢false}
use Rattle.std.proofs.lemmas.Bool.Decides.{nat_tests}
use Rattle.std.proofs.lemmas.List.{length-map, length-append, map-append, get_or_append_left, get_or-append-add}
use Rattle.gql_model.specs.rules.TypeParts.{Input, Defined, input_named, inputs_of, type_named}
use Rattle.gql_schema.specs.InputGraphs.{type_place, field_place, all_inputs, firsts_from, field_number}
use Rattle.gql_schema.proofs.Found.{bytes_same, bytes_turned, found_or, place_exact, place_found, at_found}

abbrev pub Place : Type 0
Place = List ℕ × List ℕ

abbrev input_name : Input → List ℕ
input_name i = i.name.name

abbrev inputs_in : Option Defined → List Input
inputs_in o = elim o as (λ x. List Input) [ None ↦ [] | Some d ↦ d.inputs ]

-- the input field of these names, if there is one
abbrev pub sought : List Defined → Place → Option Input
sought us x = input_named (inputs_of us x.0) x.1

abbrev pub IsField : List Defined → Place → Type 0
IsField us x = is_some (sought us x) ≡ true

inputs_cond : (b : Bool) (d : Defined) (o : Option Defined) → inputs_in (cond b (Some d) o) ≡ cond b d.inputs (inputs_in o)
inputs_cond true d o = refl
inputs_cond false d o = refl

inputs_of-cons : (d : Defined) (ds : List Defined) (name : List ℕ) → inputs_of (d ∷ ds) name ≡ cond (bytes_eq d.name.name name) d.inputs (inputs_of ds name)
inputs_of-cons d ds name = inputs_cond (bytes_eq d.name.name name) d (type_named ds name)

-- ---- by the numbers of first fields

first_by : (b : Bool) (n l k p q : ℕ) (rest : List ℕ) (is js : List Input) (f : List ℕ) → get_or rest k 0 + field_place js f ≡ (n + l) + q → get_or (n ∷ rest) (cond b zero (suc k)) 0 + field_place (cond b is js) f ≡ n + cond b (field_place is f) (l + q)
first_by true n l k p q rest is js f h = refl
first_by false n l k p q rest is js f h = h ∙ omega arith

pub first_and_place : (us : List Defined) (n : ℕ) (x : Place) → get_or (firsts_from n us) (type_place us x.0) 0 + field_place (inputs_of us x.0) x.1 ≡ n + field_number us x
first_and_place [] n x = refl
first_and_place (d ∷ ds) n x =
    ap (λ is. get_or (firsts_from n (d ∷ ds)) (type_place (d ∷ ds) x.0) 0 + field_place is x.1) (inputs_of-cons d ds x.0)
    ∙ first_by (bytes_eq d.name.name x.0) n (length d.inputs) (type_place ds x.0) 0 (field_number ds x) (firsts_from (n + length d.inputs) ds) d.inputs (inputs_of ds x.0) x.1 (first_and_place ds (n + length d.inputs) x)

pub length-firsts_from : (us : List Defined) (n : ℕ) → length (firsts_from n us) ≡ suc (length us)
length-firsts_from [] n = refl
length-firsts_from (d ∷ ds) n = ap suc (length-firsts_from ds (n + length d.inputs))

-- ---- numbers of fields

some_by : (b : Bool) (is js : List Input) (f : List ℕ) → is_some (input_named (cond b is js) f) ≡ is_some (cond b (input_named is f) (input_named js f))
some_by true is js f = refl
some_by false is js f = refl

-- whether a field stands in the first type or in a later one
pub field-cons : (d : Defined) (ds : List Defined) (x : Place) → sought (d ∷ ds) x ≡ cond (bytes_eq d.name.name x.0) (input_named d.inputs x.1) (sought ds x)
field-cons d ds x = ap (λ is. input_named is x.1) (inputs_of-cons d ds x.0) ∙ by (bytes_eq d.name.name x.0)
  where
    by : (b : Bool) → input_named (cond b d.inputs (inputs_of ds x.0)) x.1 ≡ cond b (input_named d.inputs x.1) (sought ds x)
    by true = refl
    by false = refl

field_place_found : (is : List Input) (f : List ℕ) → is_some (input_named is f) ≡ true → field_place is f < length is
field_place_found is f e = place_found input_name f is e

number_within_by : (b : Bool) (p l q m : ℕ) (o s : Option Input) → (is_some o ≡ true → p < l) → (is_some s ≡ true → q < m) → is_some (cond b o s) ≡ true → cond b p (l + q) < l + m
number_within_by true p l q m o s f g e = let h = f e in omega (arith, h)
number_within_by false p l q m o s f g e = let h = g e in omega (arith, h)

pub number_within : (us : List Defined) (x : Place) → IsField us x → field_number us x < length (all_inputs us)
number_within [] x e = absurd (true≢false (sym e))
number_within (d ∷ ds) x e =
    let h = number_within_by (bytes_eq d.name.name x.0) (field_place d.inputs x.1) (length d.inputs) (field_number ds x) (length (all_inputs ds)) (input_named d.inputs x.1) (sought ds x) (field_place_found d.inputs x.1) (number_within ds x) (sym (ap is_some (field-cons d ds x)) ∙ e) in
    omega (arith, h, length-append d.inputs (all_inputs ds))

at_number_by : {B : Type 0} (row : Input → B) (e : B) (b : Bool) (is : List Input) (rest : List Input) (f : List ℕ) (n : ℕ) (s : Option Input) → (is_some (input_named is f) ≡ true → field_place is f < length is) → (is_some s ≡ true → get_or (map row rest) n e ≡ found_or row e s) → is_some (cond b (input_named is f) s) ≡ true → get_or (map row (is ++ rest)) (cond b (field_place is f) (length is + n)) e ≡ found_or row e (cond b (input_named is f) s)
at_number_by row e true is rest f n s g h t =
    ap (λ xs. get_or xs (field_place is f) e) (map-append row is rest)
    ∙ get_or_append_left (map row is) (map row rest) e (field_place is f) (let lt = g t in omega (arith, lt, length-map is row))
    ∙ at_found input_name f row e is
at_number_by row e false is rest f n s g h t =
    ap (λ xs. get_or xs (length is + n) e) (map-append row is rest)
    ∙ ap (λ l. get_or (map row is ++ map row rest) (l + n) e) (sym (length-map is row))
    ∙ get_or-append-add (map row is) (map row rest) n e
    ∙ h t

-- what stands at a field's number
pub at_number : {B : Type 0} (us : List Defined) (row : Input → B) (e : B) (x : Place) → IsField us x → get_or (map row (all_inputs us)) (field_number us x) e ≡ found_or row e (sought us x)
at_number [] row e x h = absurd (true≢false (sym h))
at_number (d ∷ ds) row e x h =
    at_number_by row e (bytes_eq d.name.name x.0) d.inputs (all_inputs ds) x.1 (field_number ds x) (sought ds x) (field_place_found d.inputs x.1) (at_number ds row e x) (sym (ap is_some (field-cons d ds x)) ∙ h)
    ∙ ap (found_or row e) (sym (field-cons d ds x))

-- ---- fields are the same where their numbers are

module _ (d : Defined) (a b : Place) (x y : ℕ) (s t : Option Input) where
  abbrev number_of : Bool → Place → ℕ → ℕ
  number_of p c n = cond p (field_place d.inputs c.1) (length d.inputs + n)

  exact_by : (p q : Bool) → bytes_eq d.name.name a.0 ≡ p → bytes_eq d.name.name b.0 ≡ q → is_some (cond p (input_named d.inputs a.1) s) ≡ true → is_some (cond q (input_named d.inputs b.1) t) ≡ true → (is_some s ≡ true → is_some t ≡ true → (bytes_eq a.0 b.0 && bytes_eq a.1 b.1) ≡ (x == y)) → (bytes_eq a.0 b.0 && bytes_eq a.1 b.1) ≡ (number_of p a x == number_of q b y)
  exact_by true true e f h k rest =
      let within = length-map d.inputs input_name in
      let first = field_place_found d.inputs a.1 h in
      let second = field_place_found d.inputs b.1 k in
      ap (λ c. c && bytes_eq a.1 b.1) (ap (λ n. bytes_eq n b.0) (sym (bytes_same d.name.name a.0 e)) ∙ f)
      ∙ place_exact (map input_name d.inputs) a.1 b.1 (omega (arith, within, first)) (omega (arith, within, second))
  exact_by true false e f h k rest =
      let first : field_place d.inputs a.1 < length d.inputs = field_place_found d.inputs a.1 h in
      ap (λ c. c && bytes_eq a.1 b.1) (ap (λ n. bytes_eq n b.0) (sym (bytes_same d.name.name a.0 e)) ∙ f)
      ∙ grind (arith, nat_tests, first)
  exact_by false true e f h k rest =
      let second : field_place d.inputs b.1 < length d.inputs = field_place_found d.inputs b.1 k in
      ap (λ c. c && bytes_eq a.1 b.1) (bytes_turned a.0 b.0 ∙ ap (λ n. bytes_eq n a.0) (sym (bytes_same d.name.name b.0 f)) ∙ e)
      ∙ grind (arith, nat_tests, second)
  exact_by false false e f h k rest = rest h k ∙ grind (arith, nat_tests)

pub number_exact : (us : List Defined) (a b : Place) → IsField us a → IsField us b → (bytes_eq a.0 b.0 && bytes_eq a.1 b.1) ≡ (field_number us a == field_number us b)
number_exact [] a b h k = absurd (true≢false (sym h))
number_exact (d ∷ ds) a b h k = exact_by d a b (field_number ds a) (field_number ds b) (sought ds a) (sought ds b) (bytes_eq d.name.name a.0) (bytes_eq d.name.name b.0) refl refl (sym (ap is_some (field-cons d ds a)) ∙ h) (sym (ap is_some (field-cons d ds b)) ∙ k) (number_exact ds a b)
