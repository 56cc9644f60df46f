-- The defaults that defaults need, by the numbers of input fields.
use Rattle.std.proofs.Common.{◌≡◌, refl, sym, ◌∙◌, ap, ℕ, zero, suc, ◌<◌, Bool, true, false, not, cond, ◌&&◌, List, [], ◌∷◌, ◌++◌, map, length, get_or, subst, Option, Some, None, arith}
use Rattle.std.specs.List.{list_any, filter, AllByRecursion as Each}
use Rattle.std.specs.Prelude.{is_some}
use Rattle.std.specs.Str.{bytes_eq}
use Rattle.std.proofs.lemmas.Bool.{true≢false}
use Rattle.std.proofs.lemmas.List.{length-map}
use Rattle.std.proofs.lemmas.List.Elements.{All-from_recursion}
use Rattle.gql_model.specs.rules.Places.{stands_in}
use Rattle.gql_model.specs.rules.Literals.{Written, variable, number, text, truth, null, enum, list, object, Items, no_items, item, Members, no_members, member, given_names}
use Rattle.gql_model.specs.rules.References.{Reference, to, list as list_of, non_null}
use Rattle.gql_model.specs.rules.Reached.{reached}
use Rattle.gql_model.specs.rules.TypeParts.{Input, Defined, input_named, inputs_of}
use Rattle.gql_model.specs.rules.types.InputCycles.{same_place, left_out, at_object, at_items, at_member, needs, item_needs, member_needs, needed_by_input, needed_by, input_field_count, needs_itself}
use Rattle.gql_schema.specs.Graph.{has, next_in, within, is_reached, IsGraph}
use Rattle.gql_schema.specs.InputGraphs.{all_inputs, field_number, needs_row, needs_graph}
use Rattle.gql_schema.proofs.Each.{each_append, each_always, each_filter, each_map, each_weaker}
use Rattle.gql_schema.proofs.Found.{bytes_itself, found_or}
use Rattle.gql_schema.proofs.Numbered.{any-numbered, reached-numbered, each_reached}
use Rattle.gql_schema.proofs.Numbering.{Place, IsField, sought, number_exact, number_within, at_number}

-- ---- fields that are found by their own names

abbrev IsNamed : List Input → Input → Type 0
IsNamed is i = is_some (input_named is i.name.name) ≡ true

named_later : (b : Bool) (j : Input) (o : Option Input) → is_some o ≡ true → is_some (cond b (Some j) o) ≡ true
named_later true j o e = refl
named_later false j o e = e

named_here : (b : Bool) (j : Input) (o : Option Input) → b ≡ true → is_some (cond b (Some j) o) ≡ true
named_here true j o e = refl
named_here false j o e = absurd (true≢false (sym e))

each_named : (is : List Input) → Each (IsNamed is) is
each_named [] = tt
each_named (j ∷ js) = (named_here (bytes_eq j.name.name j.name.name) j (input_named js j.name.name) (bytes_itself j.name.name), each_weaker (IsNamed js) (IsNamed (j ∷ js)) (λ i e. named_later (bytes_eq j.name.name i.name.name) j (input_named js i.name.name) e) js (each_named js))

module _ (ts : List Defined) where
  abbrev Is : Place → Type 0
  Is = IsField ts

  -- ---- edges lead to fields

  each_left_out : (name : List ℕ) (given : List (List ℕ)) → Each Is (left_out ts name given)
  each_left_out name given =
      let keeps = λ (i : Input). is_some i.default && not (stands_in i.name.name given) in
      each_map Is (IsNamed (inputs_of ts name)) (λ i. (name, i.name.name)) (λ i e. e) (filter keeps (inputs_of ts name)) (each_filter (IsNamed (inputs_of ts name)) keeps (inputs_of ts name) (each_named (inputs_of ts name)))

  each_at_object : (places : List ℕ → List Place) → ((name : List ℕ) → Each Is (places name)) → (r : Reference) → Each Is (at_object ts places r)
  each_at_object places h (to name spot) = h name
  each_at_object places h (list_of r) = each_at_object places h r
  each_at_object places h (non_null r) = each_at_object places h r

  each_at_items : (places : Reference → List Place) → ((r : Reference) → Each Is (places r)) → (r : Reference) → Each Is (at_items ts places r)
  each_at_items places h (to name spot) = tt
  each_at_items places h (list_of r) = h r
  each_at_items places h (non_null r) = each_at_items places h r

  each_at_member : (places : Reference → List Place) → ((r : Reference) → Each Is (places r)) → (o : Option Input) → Each Is (at_member ts places o)
  each_at_member places h None = tt
  each_at_member places h (Some i) = h i.type

  mutual
    each_needs : (w : Written) (r : Reference) → Each Is (needs ts w r)
    each_needs (variable name spot) r = tt
    each_needs (number digits spot) r = tt
    each_needs (text t spot) r = tt
    each_needs (truth b spot) r = tt
    each_needs (null spot) r = tt
    each_needs (enum name spot) r = tt
    each_needs (list items spot) r = each_at_items (item_needs ts items) (each_item_needs items) r
    each_needs (object members spot) r = each_at_object (λ name. left_out ts name (given_names members) ++ member_needs ts members (inputs_of ts name)) (λ name. each_append Is (left_out ts name (given_names members)) (member_needs ts members (inputs_of ts name)) (each_left_out name (given_names members)) (each_member_needs members (inputs_of ts name))) r

    each_item_needs : (ws : Items) (r : Reference) → Each Is (item_needs ts ws r)
    each_item_needs no_items r = tt
    each_item_needs (item w ws) r = each_append Is (needs ts w r) (item_needs ts ws r) (each_needs w r) (each_item_needs ws r)

    each_member_needs : (ms : Members) (is : List Input) → Each Is (member_needs ts ms is)
    each_member_needs no_members is = tt
    each_member_needs (member name spot w ms) is = each_append Is (at_member ts (needs ts w) (input_named is name)) (member_needs ts ms is) (each_at_member (needs ts w) (each_needs w) (input_named is name)) (each_member_needs ms is)

  each_default : (o : Option Written) (r : Reference) → Each Is (elim o as (λ x. List Place) [ None ↦ [] | Some w ↦ needs ts w r ])
  each_default None r = tt
  each_default (Some w) r = each_needs w r

  pub each_needed : (o : Option Input) → Each Is (needed_by_input ts o)
  each_needed None = tt
  each_needed (Some i) = each_default i.default i.type

  leads : (x : Place) → Is x → Each Is (needed_by ts x)
  leads x h = each_needed (sought ts x)

  -- ---- edges between numbers

  row_found : (o : Option Input) → map (field_number ts) (needed_by_input ts o) ≡ found_or (needs_row ts) [] o
  row_found None = refl
  row_found (Some i) = refl

  pub needs_agree : (x : Place) → Is x → map (field_number ts) (needed_by ts x) ≡ next_in (needs_graph ts) (field_number ts x)
  needs_agree x h = row_found (sought ts x) ∙ sym (at_number ts (needs_row ts) [] x h)

  pub needs_count : length (needs_graph ts) ≡ length (all_inputs ts)
  needs_count = length-map (all_inputs ts) (needs_row ts)

  pub number_in_graph : (x : Place) → Is x → field_number ts x < length (needs_graph ts)
  number_in_graph x h = omega (arith, number_within ts x h, needs_count)

  pub needs_graph_is : IsGraph (needs_graph ts)
  needs_graph_is = each_map (Each (λ k. k < length (needs_graph ts))) (λ i. Unit {0}) (needs_row ts) (λ i u. each_map (λ k. k < length (needs_graph ts)) Is (field_number ts) (λ x h. number_in_graph x h) (needed_by_input ts (Some i)) (each_needed (Some i))) (all_inputs ts) (each_always (λ i. Unit {0}) (λ i. tt) (all_inputs ts))

  -- ---- whether a default needs itself

  pub needed_itself : (name : List ℕ) (i : Input) → Is (name, i.name.name) → is_reached (needs_graph ts) (next_in (needs_graph ts) (field_number ts (name, i.name.name))) (field_number ts (name, i.name.name)) ≡ needs_itself ts name i
  needed_itself name i h =
      let x : Place = (name, i.name.name) in
      let own = field_number ts x in
      let start = needed_by ts x in
      let starts : Each Is start = leads x h in
      let count = input_field_count ts in
      sym (any-numbered (same_place ts) (field_number ts) Is (number_exact ts) (reached (same_place ts) (needed_by ts) count start) x h (each_reached (same_place ts) (field_number ts) Is (number_exact ts) (needed_by ts) leads (next_in (needs_graph ts)) needs_agree count start starts)
      ∙ ap (λ ks. has ks own) (reached-numbered (same_place ts) (field_number ts) Is (number_exact ts) (needed_by ts) leads (next_in (needs_graph ts)) needs_agree count start starts)
      ∙ ap (λ ks. has (within (needs_graph ts) count ks) own) (needs_agree x h)
      ∙ ap (λ n. has (within (needs_graph ts) n (next_in (needs_graph ts) own)) own) (sym needs_count))

  reached_nothing : (n : ℕ) → reached (same_place ts) (needed_by ts) n [] ≡ []
  reached_nothing zero = refl
  reached_nothing (suc n) = reached_nothing n

  pub nothing_needed : (name : List ℕ) (i : Input) → sought ts (name, i.name.name) ≡ None → false ≡ needs_itself ts name i
  nothing_needed name i e =
      let x : Place = (name, i.name.name) in
      let count = input_field_count ts in
      sym (ap (λ o. list_any (same_place ts x) (reached (same_place ts) (needed_by ts) count (needed_by_input ts o))) e
      ∙ ap (λ xs. list_any (same_place ts x) xs) (reached_nothing count))

-- a row of a graph leads to nodes
pub row_is : (graph : List (List ℕ)) (k : ℕ) (row : List ℕ) → row ≡ get_or graph k row → k < length graph → IsGraph graph → Each (λ n. n < length graph) row
row_is graph k row stands lt is = subst (λ (ks : List ℕ). Each (λ n. n < length graph) ks) (sym stands) (All-from_recursion (Each (λ n. n < length graph)) graph is k row lt)

-- a field that is found by its own name
pub own_found : (ts : List Defined) (of n : List ℕ) (i : Input) (is : List Input) (o : Option Input) → o ≡ input_named is n → is ≡ inputs_of ts of → n ≡ i.name.name → o ≡ sought ts (of, i.name.name)
own_found ts of n i is o e f g = e ∙ ap (λ js. input_named js n) f ∙ ap (input_named (inputs_of ts of)) g

pub own_within : (ts : List Defined) (x : Place) (graph : List (List ℕ)) (own : ℕ) → IsField ts x → own ≡ field_number ts x → graph ≡ needs_graph ts → own < length graph
own_within ts x graph own h is all = omega (arith, number_in_graph ts x h, is, ap length all)
