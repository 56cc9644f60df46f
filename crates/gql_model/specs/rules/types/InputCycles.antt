-- No input object reaches itself by Non-Null fields that aren't lists (Circular References, section 3.10 of the standard of
-- October 2021), and no input field's default needs itself, directly or through other defaults (the same section of the working
-- draft). A default needs the default of each input field that an object literal inside it leaves out. At fault is the name of an
-- input field on a cycle.
use Rattle.std.specs.Prelude.{ℕ, Bool, not, cond, ◌&&◌, ◌||◌, is_some, List, [], ◌∷◌, ◌++◌, map, filter, flat_map, length, Option, Some, None}
use Rattle.std.specs.Str.{bytes_eq}
use Rattle.gql_tree.specs.declared.Spot.{Spot}
use Rattle.gql_model.specs.rules.Places.{place_if, stands_in}
use Rattle.gql_model.specs.rules.Literals.{Written, list, object, Items, no_items, item, Members, no_members, member, given_names}
use Rattle.gql_model.specs.rules.References.{Reference, to, list as list_of, non_null}
use Rattle.gql_model.specs.rules.TypeParts.{Input, Defined, is_input, input_named, has_kind, inputs_of}
use Rattle.gql_model.specs.rules.Reached.{reached, is_on_cycle}

module _ (ts : List Defined) where
  -- ---- Non-Null fields that aren't lists

  -- the input object that a value of a type always holds
  abbrev pub always_held : Reference → List (List ℕ)
  always_held (non_null (to name _)) = cond (has_kind ts is_input name) (name ∷ []) []
  always_held _ = []

  abbrev pub held_by : List ℕ → List (List ℕ)
  held_by name = flat_map (λ i. always_held i.type) (inputs_of ts name)

  -- whether the input object that the field always holds holds the field's own: within as many steps as there are types
  abbrev pub holds_itself : List ℕ → Input → Bool
  holds_itself name i = stands_in name (reached bytes_eq held_by (length ts) (always_held i.type))

  -- ---- defaults

  -- an input field, by the names of its input object and of its own
  abbrev pub Place : Type 0
  Place = List ℕ × List ℕ

  abbrev pub same_place : Place → Place → Bool
  same_place a b = bytes_eq a.0 b.0 && bytes_eq a.1 b.1

  -- the fields with defaults of an input object that aren't among the names given
  abbrev pub left_out : List ℕ → List (List ℕ) → List Place
  left_out name given = map (λ i. (name, i.name.name)) (filter (λ i. is_some i.default && not (stands_in i.name.name given)) (inputs_of ts name))

  abbrev pub at_object : (List ℕ → List Place) → Reference → List Place
  at_object places (to name _) = places name
  at_object places (list_of r) = at_object places r
  at_object places (non_null r) = at_object places r

  abbrev pub at_items : (Reference → List Place) → Reference → List Place
  at_items places (to name _) = []
  at_items places (list_of r) = places r
  at_items places (non_null r) = at_items places r

  abbrev pub at_member : (Reference → List Place) → Option Input → List Place
  at_member places None = []
  at_member places (Some i) = places i.type

  abbrev mutual
    -- the input fields whose defaults a literal needs at a type
    pub needs : Written → Reference → List Place
    needs (list items spot) r = at_items (item_needs items) r
    needs (object members spot) r = at_object (λ name. left_out name (given_names members) ++ member_needs members (inputs_of ts name)) r
    needs _ r = []

    pub item_needs : Items → Reference → List Place
    item_needs no_items r = []
    item_needs (item w ws) r = needs w r ++ item_needs ws r

    pub member_needs : Members → List Input → List Place
    member_needs no_members is = []
    member_needs (member name spot w ms) is = at_member (needs w) (input_named is name) ++ member_needs ms is

  abbrev pub needed_by_input : Option Input → List Place
  needed_by_input None = []
  needed_by_input (Some i) = elim i.default [ None ↦ [] | Some w ↦ needs w i.type ]

  abbrev pub needed_by : Place → List Place
  needed_by x = needed_by_input (input_named (inputs_of ts x.0) x.1)

  -- how many input fields there are: no chain of defaults is longer
  abbrev pub input_field_count : ℕ
  input_field_count = length (flat_map (λ d. d.inputs) ts)

  abbrev pub needs_itself : List ℕ → Input → Bool
  needs_itself name i = is_on_cycle same_place needed_by input_field_count (name, i.name.name)

  -- ---- both

  abbrev pub cycles_at : Defined → Input → List Spot
  cycles_at d i = place_if (holds_itself d.name.name i || needs_itself d.name.name i) i.name.spot

  abbrev pub input_cycles : List Spot
  input_cycles = flat_map (λ d. flat_map (cycles_at d) d.inputs) ts
