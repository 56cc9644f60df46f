-- What input objects always hold, by their numbers.
use Rattle.std.proofs.Common.{◌≡◌, refl, sym, ◌∙◌, ap, ℕ, ◌<◌, ◌≤◌, ◌==◌, Bool, true, false, cond, List, [], ◌∷◌, ◌++◌, map, flat_map, length, Option, Some, None, arith}
use Rattle.std.specs.List.{list_any, AllByRecursion as Each}
use Rattle.std.specs.Prelude.{is_some}
use Rattle.std.specs.Str.{bytes_eq}
use Rattle.std.proofs.lemmas.Bool.{or_from, false_from_ne_true}
use Rattle.std.proofs.lemmas.List.{length-map, map-append, append-nil}
use Rattle.std.proofs.lemmas.List.Concat.{flat_map-append}
use Rattle.gql_model.specs.rules.References.{Reference, to, list, non_null}
use Rattle.gql_model.specs.rules.Reached.{reached}
use Rattle.gql_model.specs.rules.TypeParts.{Input, Defined, has_kind, is_input, inputs_of, type_named}
use Rattle.gql_model.specs.rules.types.InputCycles.{always_held, held_by, holds_itself}
use Rattle.gql_schema.proofs.Each.{each_always, each_flat, each_map}
use Rattle.gql_schema.specs.Graph.{has, next_in, within, is_reached, IsGraph}
use Rattle.gql_schema.specs.InputGraphs.{type_place, held_row, held_graph}
use Rattle.gql_schema.proofs.Found.{bytes_same, found_or, place_exact, place_found, at_found}
use Rattle.gql_schema.proofs.Reach.{reached_none}
use Rattle.gql_schema.proofs.Numbered.{any_turned-numbered, reached-numbered, each_reached}

abbrev pub type_name : Defined → List ℕ
type_name d = d.name.name

kind_some : (o : Option Defined) → elim o as (λ x. Bool) [ None ↦ false | Some d ↦ is_input d.kind ] ≡ true → is_some o ≡ true
kind_some None e = e
kind_some (Some d) e = refl

module _ (ts : List Defined) where
  abbrev pub IsType : List ℕ → Type 0
  IsType name = type_place ts name < length ts

  exact : (a b : List ℕ) → IsType a → IsType b → bytes_eq a b ≡ (type_place ts a == type_place ts b)
  exact a b h k = place_exact (map type_name ts) a b (omega (arith, length-map ts type_name, h)) (omega (arith, length-map ts type_name, k))

  -- ---- edges

  held_if : (b : Bool) (name : List ℕ) → has_kind ts is_input name ≡ b → Each IsType (cond b (name ∷ []) [])
  held_if true name e = (place_found type_name name ts (kind_some (type_named ts name) e), tt)
  held_if false name e = tt

  pub each_held : (r : Reference) → Each IsType (always_held ts r)
  each_held (to name spot) = tt
  each_held (list r) = tt
  each_held (non_null (to name spot)) = held_if (has_kind ts is_input name) name refl
  each_held (non_null (list r)) = tt
  each_held (non_null (non_null r)) = tt

  each_held_by : (is : List Input) → Each IsType (flat_map (λ i. always_held ts i.type) is)
  each_held_by is = each_flat IsType (λ i. Unit {0}) (λ i. always_held ts i.type) (λ i u. each_held i.type) is (each_always (λ i. Unit {0}) (λ i. tt) is)

  row_found : (o : Option Defined) → held_row ts (elim o as (λ x. List Input) [ None ↦ [] | Some d ↦ d.inputs ]) ≡ found_or (λ d. held_row ts d.inputs) [] o
  row_found None = refl
  row_found (Some d) = refl

  agree : (name : List ℕ) → map (type_place ts) (held_by ts name) ≡ next_in (held_graph ts) (type_place ts name)
  agree name = row_found (type_named ts name) ∙ sym (at_found type_name name (λ d. held_row ts d.inputs) [] ts)

  pub held_count : length (held_graph ts) ≡ length ts
  held_count = length-map ts (λ d. held_row ts d.inputs)

  pub places_within : (names : List (List ℕ)) → Each IsType names → Each (λ k. k < length (held_graph ts)) (map (type_place ts) names)
  places_within names h = each_map (λ k. k < length (held_graph ts)) IsType (type_place ts) (λ n lt. omega (arith, lt, held_count)) names h

  pub held_graph_is : IsGraph (held_graph ts)
  held_graph_is = each_map (Each (λ k. k < length (held_graph ts))) (λ d. Unit {0}) (λ d. held_row ts d.inputs) (λ d u. places_within (flat_map (λ i. always_held ts i.type) d.inputs) (each_held_by d.inputs)) ts (each_always (λ d. Unit {0}) (λ d. tt) ts)

  -- ---- whether an input object holds itself

  pub held_itself : (name : List ℕ) (i : Input) → IsType name → is_reached (held_graph ts) (map (type_place ts) (always_held ts i.type)) (type_place ts name) ≡ holds_itself ts name i
  held_itself name i h =
      let start = always_held ts i.type in
      let starts : Each IsType start = each_held i.type in
      let leads = λ (n : List ℕ) (t : IsType n). each_held_by (inputs_of ts n) in
      sym (any_turned-numbered bytes_eq (type_place ts) IsType exact (reached bytes_eq (held_by ts) (length ts) start) name h (each_reached bytes_eq (type_place ts) IsType exact (held_by ts) leads (next_in (held_graph ts)) (λ n t. agree n) (length ts) start starts)
      ∙ ap (λ ks. has ks (type_place ts name)) (reached-numbered bytes_eq (type_place ts) IsType exact (held_by ts) leads (next_in (held_graph ts)) (λ n t. agree n) (length ts) start starts)
      ∙ ap (λ n. has (within (held_graph ts) n (map (type_place ts) start)) (type_place ts name)) (sym held_count))

  -- another name's input object isn't there
  none_named : (name : List ℕ) → length ts ≤ type_place ts name → (xs : List (List ℕ)) → Each IsType xs → list_any (λ other. bytes_eq other name) xs ≡ false
  none_named name far [] h = refl
  none_named name far (x ∷ xs) h = or_from (bytes_eq x name) (list_any (λ other. bytes_eq other name) xs) (false_from_ne_true (bytes_eq x name) (λ e. let same : type_place ts x ≡ type_place ts name = ap (type_place ts) (bytes_same x name e) in omega (arith, same, far, h.0))) (none_named name far xs h.1)

  pub not_held : (name : List ℕ) (i : Input) → length ts ≤ type_place ts name → false ≡ holds_itself ts name i
  not_held name i far =
      let start = always_held ts i.type in
      sym (none_named name far (reached bytes_eq (held_by ts) (length ts) start) (each_reached bytes_eq (type_place ts) IsType exact (held_by ts) (λ n t. each_held_by (inputs_of ts n)) (next_in (held_graph ts)) (λ n t. agree n) (length ts) start (each_held i.type)))

  pub nothing_held : (name : List ℕ) (i : Input) → IsType name → [] ≡ map (type_place ts) (always_held ts i.type) → false ≡ holds_itself ts name i
  nothing_held name i h e =
      ap (λ ks. has ks (type_place ts name)) (sym (reached_none (held_graph ts) (length (held_graph ts))))
      ∙ ap (λ ks. is_reached (held_graph ts) ks (type_place ts name)) e
      ∙ held_itself name i h

  -- ---- item by item

  pub held_row-push : (is : List Input) (i : Input) → held_row ts (is ++ i ∷ []) ≡ held_row ts is ++ map (type_place ts) (always_held ts i.type)
  held_row-push is i =
      ap (map (type_place ts)) (flat_map-append (λ (j : Input). always_held ts j.type) is (i ∷ []) ∙ ap (λ ns. flat_map (λ (j : Input). always_held ts j.type) is ++ ns) (append-nil (always_held ts i.type)))
      ∙ map-append (type_place ts) (flat_map (λ (j : Input). always_held ts j.type) is) (always_held ts i.type)
