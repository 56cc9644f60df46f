-- Rows of numbers that grow by what literals need.
use Rattle.std.proofs.Common.{◌≡◌, refl, sym, ◌∙◌, ap, ℕ, ◌≤◌, not, ◌&&◌, is_some, List, [], ◌++◌, map, filter, drop, length, Option, Some, None}
use Rattle.std.specs.Prelude.{Result, Ok, Err, OnOk}
use Rattle.gql_tree.specs.declared.NoMemory.{NoMemory}
use Rattle.std.proofs.lemmas.List.{map-append, append-nil, append_assoc, drop_all}
use Rattle.gql_model.specs.rules.Places.{stands_in}
use Rattle.gql_model.specs.rules.References.{Reference, to, list as list_of, non_null, innermost}
use Rattle.gql_model.specs.rules.TypeParts as parts
use Rattle.gql_model.specs.rules.TypeParts.{input_of}
use Rattle.gql_model.specs.rules.types.InputCycles.{at_items, at_object}
use Rattle.gql_schema.specs.Seen.{item_of}
use Rattle.gql_schema.proofs.Numbering.{Place}

-- ---- rows

module _ {A : Type 0} (number : A → ℕ) where
  pub pushed : (row : List ℕ) (whole now rest : List A) → whole ≡ now ++ rest → row ++ map number whole ≡ (row ++ map number now) ++ map number rest
  pushed row whole now rest e = ap (λ xs. row ++ map number xs) e ∙ ap (λ ys. row ++ ys) (map-append number now rest) ∙ sym (append_assoc row (map number now) (map number rest))

  pub nothing_pushed : (row : List ℕ) (xs : List A) → xs ≡ [] → row ≡ row ++ map number xs
  nothing_pushed row xs e = sym (ap (λ ys. row ++ map number ys) e ∙ append-nil row)

-- ---- types

pub at_items-item : (ts : List parts.Defined) (places : Reference → List Place) (r : Reference) → at_items ts places r ≡ elim (item_of r) as (λ x. List Place) [ None ↦ [] | Some s ↦ places s ]
at_items-item ts places (to name _) = refl
at_items-item ts places (list_of r) = refl
at_items-item ts places (non_null r) = at_items-item ts places r

pub at_object-innermost : (ts : List parts.Defined) (places : List ℕ → List Place) (r : Reference) → at_object ts places r ≡ places (innermost r).name
at_object-innermost ts places (to name spot) = refl
at_object-innermost ts places (list_of r) = at_object-innermost ts places r
at_object-innermost ts places (non_null r) = at_object-innermost ts places r

-- ---- fields that are left out

-- of these fields of a type of this name those with defaults that aren't given
abbrev pub left_out_of : List ℕ → List (List ℕ) → List parts.Input → List Place
left_out_of name given is = map (λ i. (name, i.name.name)) (filter (λ i. is_some i.default && not (stands_in i.name.name given)) is)

-- ---- item by item

pub ended : {A B : Type 0} (f : List A → B) (xs : List A) (i : ℕ) → length xs ≤ i → f (drop i xs) ≡ f []
ended f xs i le = ap f (drop_all i xs le)

-- ---- lists and objects

pub at_items_some : (ts : List parts.Defined) (places : Reference → List Place) (r s : Reference) → Some s ≡ item_of r → places s ≡ at_items ts places r
at_items_some ts places r s e = ap (λ (o : Option Reference). elim o as (λ x. List Place) [ None ↦ [] | Some s ↦ places s ]) e ∙ sym (at_items-item ts places r)

pub at_items_none : (ts : List parts.Defined) (places : Reference → List Place) (r : Reference) → None ≡ item_of r → [] ≡ at_items ts places r
at_items_none ts places r e = ap (λ (o : Option Reference). elim o as (λ x. List Place) [ None ↦ [] | Some s ↦ places s ]) e ∙ sym (at_items-item ts places r)

-- ---- answers with room for want of memory

pub on_ok_as : {A : Type 0} (r : Result A NoMemory) (x a b : List ℕ) → a ≡ b → OnOk r (x ≡ a) → OnOk r (x ≡ b)
on_ok_as (Ok done) x a b e h = h ∙ e
on_ok_as (Err why) x a b e h = tt
