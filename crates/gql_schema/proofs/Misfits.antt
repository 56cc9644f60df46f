-- Literals that don't fit, kind by kind.
use Rattle.std.proofs.Common.{◌≡◌, refl, sym, ◌∙◌, ap, ℕ, ◌*◌, ◌+◌, ◌-◌, ◌<◌, ◌≤◌, Bool, true, false, not, nat_le, cond, List, [], ◌∷◌, ◌++◌, map, flat_map, take, drop, length, get_or, Option, Some, None, arith}
use Rattle.std.specs.Prelude.{codes}
use Rattle.std.specs.List.{list_any}
use Rattle.std.specs.Option.{option_or}
use Rattle.std.specs.Str.{bytes_eq}
use Rattle.std.proofs.lemmas.Bool.Decides.{nat_tests}
use Rattle.std.proofs.lemmas.List.{at_drop_more}
use Rattle.gql_tree.specs.declared.Spot.{Spot}
use Rattle.gql_model.specs.declared.syntax.Literal.{Literal}
use Rattle.gql_model.specs.declared.syntax.Literal.TheFolds.{fold_out-Argument}
use Rattle.gql_model.specs.declared.syntax.Literal.TheVariants as literal
use Rattle.gql_model.specs.declared.syntax.Argument.{Argument, out-Argument}
use Rattle.gql_model.specs.declared.syntax.TypeRef.{TypeRef}
use Rattle.gql_model.specs.declared.type_syntax.InputSyntax.{InputSyntax}
use Rattle.gql_model.specs.rules.Places.{in_turn, stands_in, place_if}
use Rattle.gql_model.specs.rules.Literals.{Written, variable, number, text, truth, null, enum, list, object, Given, items_of, members_of, written, given, given_names, literal_level, argument_level}
use Rattle.gql_model.specs.rules.References.{Reference, to, list as list_of, non_null, reference, innermost, is_non_null}
use Rattle.gql_model.specs.rules.TypeParts as parts
use Rattle.gql_model.specs.rules.TypeParts.{input_of, input_named, is_input, has_kind, inputs_of, values_of}
use Rattle.gql_model.specs.rules.Fitting.{digits_from, at_named, at_null, at_list, misfits, number_misfits, text_misfits, object_places, lacks_required, item_misfits, member_misfits, member_places}
use Rattle.gql_schema.specs.Seen.{item_of, input_object}
use Rattle.gql_schema.specs.FirstPlace.{first_place}
use Rattle.gql_schema.proofs.InTurn.{stands_in-map}
use Rattle.gql_schema.proofs.Walking.{first_place-append}
use Rattle.gql_schema.proofs.Writings.{written_Variable, written_Int, written_Text, written_Bool, written_Null, written_Enum, written_List, written_Object}

-- ---- reading

given-out : (m : Argument) → record { name = (out-Argument m).name; value = written (out-Argument m).value; spot = (out-Argument m).spot } ≡ given m
given-out m = sym (fold_out-Argument Written Given literal_level argument_level m)

pub given_name : (m : Argument) → (out-Argument m).name ≡ (given m).name
given_name m = ap (λ (g : Given). g.name) (given-out m)

pub given_value : (m : Argument) → written (out-Argument m).value ≡ (given m).value
given_value m = ap (λ (g : Given). g.value) (given-out m)

pub given_spot : (m : Argument) → (out-Argument m).spot ≡ (given m).spot
given_spot m = ap (λ (g : Given). g.spot) (given-out m)

-- ---- types

pub at_named-innermost : (places : List ℕ → List Spot) (r : Reference) → at_named places r ≡ places (innermost r).name
at_named-innermost places (to name spot) = refl
at_named-innermost places (list_of r) = at_named-innermost places r
at_named-innermost places (non_null r) = at_named-innermost places r

pub at_list-item : (places : Reference → List Spot) (spot : Spot) (r : Reference) → at_list places spot r ≡ elim (item_of r) as (λ x. List Spot) [ None ↦ spot ∷ [] | Some s ↦ places s ]
at_list-item places spot (to name _) = refl
at_list-item places spot (list_of r) = refl
at_list-item places spot (non_null r) = at_list-item places spot r

at_null-non_null : (spot : Spot) (r : Reference) → place_if (is_non_null r) spot ≡ at_null spot r
at_null-non_null spot (to name _) = refl
at_null-non_null spot (list_of r) = refl
at_null-non_null spot (non_null r) = refl

-- ---- items and members

abbrev pub name_at : Argument → List ℕ
name_at m = (given m).name

pub given_before : (ms : List Argument) (i : ℕ) (m : Argument) (n : List ℕ) (again : Bool) → again ≡ stands_in n (map name_at (take i ms)) → n ≡ (out-Argument m).name → again ≡ list_any (λ x. bytes_eq (name_at x) (name_at m)) (take i ms)
given_before ms i m n again e name =
    e
    ∙ stands_in-map name_at n (take i ms)
    ∙ ap (λ n. list_any (λ x. bytes_eq (name_at x) n) (take i ms)) (name ∙ given_name m)

pub given_names-map : (ms : List Argument) → given_names (members_of (map given ms)) ≡ map name_at ms
given_names-map [] = refl
given_names-map (m ∷ ms) = ap (λ names. name_at m ∷ names) (given_names-map ms)

module _ (ts : List parts.Defined) where
  abbrev pub item_places : TypeRef → Literal → List Spot
  item_places of l = misfits ts (written l) (reference of)

  abbrev pub given_places : List parts.Input → Bool → Given → List Spot
  given_places is again g = member_places ts g.spot again (misfits ts g.value) (input_named is g.name)

  abbrev pub misfits_at : List InputSyntax → Bool → Argument → List Spot
  misfits_at is again m = given_places (map input_of is) again (given m)

  pub items_walked : (of : TypeRef) (ls : List Literal) → item_misfits ts (items_of (map written ls)) (reference of) ≡ flat_map (item_places of) ls
  items_walked of [] = refl
  items_walked of (l ∷ ls) = ap (λ ps. item_places of l ++ ps) (items_walked of ls)

  pub members_walked : (is : List InputSyntax) (before : List (List ℕ)) (ms : List Argument) → member_misfits ts (members_of (map given ms)) before (map input_of is) ≡ in_turn name_at (misfits_at is) before ms
  members_walked is before [] = refl
  members_walked is before (m ∷ ms) = ap (λ ps. misfits_at is (stands_in (name_at m) before) m ++ ps) (members_walked is (before ++ name_at m ∷ []) ms)

-- ---- numbers

pub digits_grow : (n : ℕ) (ds : List ℕ) → n ≤ digits_from n ds
digits_grow n [] = omega arith
digits_grow n (d ∷ ds) = let h = digits_grow (n * 10 + (d - 48)) ds in omega arith

pub digits_more : (n i : ℕ) (ds : List ℕ) → i < length ds → digits_from n (drop i ds) ≡ digits_from (n * 10 + (get_or ds i 0 - 48)) (drop (i + 1) ds)
digits_more n i ds lt = at_drop_more (digits_from n) ds i 0 lt

pub too_great : (n m most : ℕ) → most < n → n ≤ m → false ≡ nat_le m most
too_great n m most gt le = grind (arith, nat_tests)

-- ---- kind by kind

module _ (ts : List parts.Defined) (r : Reference) (x : Literal) where
  by_kind : (w : Written) → written x ≡ w → first_place (misfits ts w r) ≡ first_place (misfits ts (written x) r)
  by_kind w e = ap (λ v. first_place (misfits ts v r)) (sym e)

  at : (places : List ℕ → List Spot) → first_place (places (innermost r).name) ≡ first_place (at_named places r)
  at places = ap first_place (sym (at_named-innermost places r))

  pub misfit_Variable : (name : List ℕ) (spot : Spot) → x ≡ literal.Variable name spot → None ≡ first_place (misfits ts (written x) r)
  misfit_Variable name spot is = by_kind (variable name spot) (ap written is ∙ written_Variable name spot)

  pub misfit_Int : (digits : List ℕ) (spot : Spot) → x ≡ literal.Int digits spot → first_place (place_if (number_misfits [] digits (innermost r).name) spot) ≡ first_place (misfits ts (written x) r)
  misfit_Int digits spot is = at (λ name. place_if (number_misfits ts digits name) spot) ∙ by_kind (number digits spot) (ap written is ∙ written_Int digits spot)

  pub misfit_Text : (t : List ℕ) (spot : Spot) → x ≡ literal.Text t spot → first_place (place_if (text_misfits [] (innermost r).name) spot) ≡ first_place (misfits ts (written x) r)
  misfit_Text t spot is = at (λ name. place_if (text_misfits ts name) spot) ∙ by_kind (text t spot) (ap written is ∙ written_Text t spot)

  pub misfit_Bool : (b : Bool) (spot : Spot) → x ≡ literal.Bool b spot → first_place (place_if (not (bytes_eq (innermost r).name (codes "Boolean"))) spot) ≡ first_place (misfits ts (written x) r)
  misfit_Bool b spot is = at (λ name. place_if (not (bytes_eq name (codes "Boolean"))) spot) ∙ by_kind (truth b spot) (ap written is ∙ written_Bool b spot)

  pub misfit_Null : (spot : Spot) → x ≡ literal.Null spot → first_place (place_if (is_non_null r) spot) ≡ first_place (misfits ts (written x) r)
  misfit_Null spot is = ap first_place (at_null-non_null spot r) ∙ by_kind (null spot) (ap written is ∙ written_Null spot)

  pub misfit_Enum : (value : List ℕ) (spot : Spot) → x ≡ literal.Enum value spot → first_place (place_if (not (stands_in value (values_of ts (innermost r).name))) spot) ≡ first_place (misfits ts (written x) r)
  misfit_Enum value spot is = at (λ name. place_if (not (stands_in value (values_of ts name))) spot) ∙ by_kind (enum value spot) (ap written is ∙ written_Enum value spot)

  pub misfit_List : (items : List Literal) (spot : Spot) → x ≡ literal.List items spot → first_place (at_list (item_misfits ts (items_of (map written items))) spot r) ≡ first_place (misfits ts (written x) r)
  misfit_List items spot is = by_kind (list (items_of (map written items)) spot) (ap written is ∙ written_List items spot)

  pub misfit_Object : (members : List Argument) (spot : Spot) → x ≡ literal.Object members spot → first_place (object_places ts spot (given_names (members_of (map given members))) (member_misfits ts (members_of (map given members)) []) (innermost r).name) ≡ first_place (misfits ts (written x) r)
  misfit_Object members spot is = at (object_places ts spot (given_names (members_of (map given members))) (member_misfits ts (members_of (map given members)) [])) ∙ by_kind (object (members_of (map given members)) spot) (ap written is ∙ written_Object members spot)

-- ---- lists and objects

pub list_some : (places : Reference → List Spot) (spot : Spot) (r s : Reference) → Some s ≡ item_of r → places s ≡ at_list places spot r
list_some places spot r s e = ap (λ (o : Option Reference). elim o as (λ x. List Spot) [ None ↦ spot ∷ [] | Some s ↦ places s ]) e ∙ sym (at_list-item places spot r)

pub list_none : (places : Reference → List Spot) (spot : Spot) (r : Reference) → None ≡ item_of r → spot ∷ [] ≡ at_list places spot r
list_none places spot r e = ap (λ (o : Option Reference). elim o as (λ x. List Spot) [ None ↦ spot ∷ [] | Some s ↦ places s ]) e ∙ sym (at_list-item places spot r)

module _ (ts : List parts.Defined) (spot : Spot) (names : List (List ℕ)) (inside : List parts.Input → List Spot) (name : List ℕ) where
  abbrev object_at : Option (List parts.Input) → List Spot
  object_at None = spot ∷ []
  object_at (Some is) = place_if (lacks_required is names) spot ++ inside is

  object_by : (b : Bool) → object_at (cond b (Some (inputs_of ts name)) None) ≡ cond b (place_if (lacks_required (inputs_of ts name) names) spot ++ inside (inputs_of ts name)) (spot ∷ [])
  object_by true = refl
  object_by false = refl

  pub object_some : (is : List parts.Input) → Some is ≡ input_object ts name → option_or (first_place (place_if (lacks_required is names) spot)) (first_place (inside is)) ≡ first_place (object_places ts spot names inside name)
  object_some is e = sym (first_place-append (place_if (lacks_required is names) spot) (inside is)) ∙ ap (λ o. first_place (object_at o)) e ∙ ap first_place (object_by (has_kind ts is_input name))

  pub object_none : None ≡ input_object ts name → Some spot ≡ first_place (object_places ts spot names inside name)
  object_none e = ap (λ o. first_place (object_at o)) e ∙ ap first_place (object_by (has_kind ts is_input name))

-- ---- a field of an object

module _ (ts : List parts.Defined) (spot : Spot) (value : Reference → List Spot) (again : Bool) (found : Option parts.Input) where
  pub member_again : again ≡ true → Some spot ≡ first_place (member_places ts spot again value found)
  member_again e = ap (λ b. first_place (member_places ts spot b value found)) (sym e)

  pub member_unknown : again ≡ false → None ≡ found → Some spot ≡ first_place (member_places ts spot again value found)
  member_unknown e none = ap (λ o. first_place (member_places ts spot false value o)) none ∙ ap (λ b. first_place (member_places ts spot b value found)) (sym e)

  pub member_known : again ≡ false → (i : parts.Input) → Some i ≡ found → first_place (value i.type) ≡ first_place (member_places ts spot again value found)
  member_known e i some = ap (λ o. first_place (member_places ts spot false value o)) some ∙ ap (λ b. first_place (member_places ts spot b value found)) (sym e)
