-- What a literal gives at a type, kind by kind.
use Rattle.std.proofs.Common.{◌≡◌, refl, sym, ◌∙◌, ap, ℕ, zero, suc, ◌+◌, ◌-◌, ◌<◌, Bool, false, List, [], ◌∷◌, ◌++◌, map, filter_map, take, length, get_or, Option, Some, None, arith}
use Rattle.std.specs.Option.{option_map, option_to_list}
use Rattle.std.specs.Prelude.{Result, Ok, Err, IfOk}
use Rattle.std.proofs.lemmas.List.{take_more, map_push}
use Rattle.std.proofs.lemmas.List.Elements.{filter_map-append}
use Rattle.std.proofs.lemmas.Simd.{map-map}
use Rattle.gql_tree.specs.declared.Spot.{Spot}
use Rattle.gql_tree.specs.declared.Value.{Value}
use Rattle.gql_tree.specs.declared.Value.TheVariants as v
use Rattle.gql_tree.specs.declared.Named.{Named}
use Rattle.gql_tree.specs.Names.{has_name}
use Rattle.gql_model.specs.declared.syntax.Literal.{Literal}
use Rattle.gql_model.specs.declared.syntax.Literal.TheVariants as literal
use Rattle.gql_model.specs.declared.syntax.Argument.{Argument}
use Rattle.gql_model.specs.declared.type_syntax.InputSyntax.{InputSyntax}
use Rattle.gql_model.specs.Coercing.{number_at, value_at, list_at, object_at, member_of, default_within}
use Rattle.gql_model.specs.Lists.{keyed}
use Rattle.gql_model.specs.rules.Literals.{Written, written}
use Rattle.gql_model.specs.rules.Places.{repeats, stands_in}
use Rattle.gql_model.specs.rules.References.{Reference, to, list as list_of, non_null, innermost}
use Rattle.gql_model.specs.rules.TypeParts as parts
use Rattle.gql_model.specs.rules.TypeParts.{input_of, inputs_of, named_input}
use Rattle.gql_schema.specs.Seen.{item_of}
use Rattle.gql_schema.specs.Coerced.{named_value, name_and_value, coerced_at, given_at, field_at}
use Rattle.gql_schema.proofs.Apart.{stands_before, inputs_apart}
use Rattle.gql_schema.proofs.Coerced.{value_at_innermost, list_coerced, given_coerced, member_given, member_default, no_field}
use Rattle.gql_schema.proofs.Definitions.{one}
use Rattle.gql_schema.proofs.Writings.{written_Variable, written_Int, written_Text, written_Bool, written_Null, written_Enum, written_List, written_Object}

-- what a call gives, where it is said otherwise
pub ok_same : {X E : Type 0} (r : Result X E) (a b : X) → a ≡ b → IfOk r (λ x. x ≡ a) → IfOk r (λ x. x ≡ b)
ok_same (Ok x) a b e h = h ∙ e
ok_same (Err y) a b e h = tt

-- a list at a type, by the type of the items
pub list_some : (r s : Reference) (gives : Reference → List Value) → item_of r ≡ Some s → v.List (gives s) ≡ list_at gives r
list_some (to name spot) s gives e = absurd (cc)
list_some (list_of r) s gives e = let same : r ≡ s = cc in ap (λ x. v.List (gives x)) (sym same)
list_some (non_null r) s gives e = list_some r s gives e

pub list_none : (r : Reference) (gives : Reference → List Value) → item_of r ≡ None → v.Null ≡ list_at gives r
list_none (to name spot) gives e = refl
list_none (list_of r) gives e = absurd (cc)
list_none (non_null r) gives e = list_none r gives e

module _ (ts : List parts.Defined) (chain : ℕ) where
  module _ (l : Literal) (r : Reference) where
    abbrev here : Value
    here = coerced_at ts chain (written l) r

    read_as : (w : Written) → written l ≡ w → coerced_at ts chain w r ≡ here
    read_as w e = ap (λ x. coerced_at ts chain x r) (sym e)

    pub coerced_Variable : (name : List ℕ) (spot : Spot) → l ≡ literal.Variable name spot → v.Null ≡ here
    coerced_Variable name spot is = read_as _ (ap written is ∙ written_Variable name spot)

    pub coerced_Null : (spot : Spot) → l ≡ literal.Null spot → v.Null ≡ here
    coerced_Null spot is = read_as _ (ap written is ∙ written_Null spot)

    pub coerced_Int : (digits : List ℕ) (spot : Spot) → l ≡ literal.Int digits spot → value_at (number_at digits) r ≡ here
    coerced_Int digits spot is = read_as _ (ap written is ∙ written_Int digits spot)

    pub coerced_Text : (t : List ℕ) (spot : Spot) → l ≡ literal.Text t spot → value_at (λ _. v.Text t) r ≡ here
    coerced_Text t spot is = read_as _ (ap written is ∙ written_Text t spot)

    pub coerced_Bool : (b : Bool) (spot : Spot) → l ≡ literal.Bool b spot → value_at (λ _. v.Bool b) r ≡ here
    coerced_Bool b spot is = read_as _ (ap written is ∙ written_Bool b spot)

    pub coerced_Enum : (name : List ℕ) (spot : Spot) → l ≡ literal.Enum name spot → value_at (λ _. v.Text name) r ≡ here
    coerced_Enum name spot is = read_as _ (ap written is ∙ written_Enum name spot)

    pub coerced_List : (items : List Literal) (spot : Spot) → l ≡ literal.List items spot → list_at (λ s. map (λ w. coerced_at ts chain w s) (map written items)) r ≡ here
    coerced_List items spot is = sym (list_coerced ts (default_within ts chain) (map written items) r) ∙ read_as _ (ap written is ∙ written_List items spot)

    pub coerced_Object : (members : List Argument) (spot : Spot) (given : List Argument) (fields : List (Named Value)) (inputs : List parts.Input) → l ≡ literal.Object members spot → given ≡ members → inputs ≡ inputs_of ts (innermost r).name → fields ≡ filter_map (field_at ts chain given) inputs → value_at (λ _. v.Object fields) r ≡ here
    coerced_Object members spot given fields inputs is same at made =
        ap (λ x. value_at (λ _. v.Object x) r) (made ∙ ap (λ ms. filter_map (field_at ts chain ms) inputs) same ∙ ap (filter_map (field_at ts chain members)) at)
        ∙ value_at_innermost (object_at ts (default_within ts chain) (given_at ts chain members)) r
        ∙ read_as _ (ap written is ∙ written_Object members spot)

  -- ---- a field of an object

  module _ (members : List Argument) (i : parts.Input) (o : Option Written) (said : o ≡ keyed i.name.name (map name_and_value members)) where
    abbrev default : parts.Input → Option Value
    default = default_within ts chain

    given_under : keyed i.name.name (given_at ts chain members) ≡ option_map (coerced_at ts chain) o
    given_under = given_coerced ts default members i.name.name ∙ ap (option_map (coerced_at ts chain)) (sym said)

    pub field_given : (w : Written) (value : Value) → o ≡ Some w → value ≡ coerced_at ts chain w i.type → Some (named_value i.name.name value) ≡ field_at ts chain members i
    field_given w value e is =
        ap (λ x. Some (named_value i.name.name x)) is
        ∙ member_given ts default i w o (default i) e
        ∙ ap (λ x. member_of i x (default i)) (sym given_under)

    pub field_default : (value : Option Value) → o ≡ None → value ≡ default i → option_map (named_value i.name.name) value ≡ field_at ts chain members i
    field_default value e is =
        ap (option_map (named_value i.name.name)) is
        ∙ member_default ts default i o (default i) e
        ∙ ap (λ x. member_of i x (default i)) (sym given_under)

  -- ---- the fields of an object so far

  field_named : (members : List Argument) (i : parts.Input) (e : Named Value) → field_at ts chain members i ≡ Some e → e.name ≡ i.name.name
  field_named members i e = by (keyed i.name.name (given_at ts chain members)) (default_within ts chain i)
    where
      by : (o : Option (Reference → Value)) (d : Option Value) → member_of i o d ≡ Some e → e.name ≡ i.name.name
      by (Some gives) d is = let same : record { name = i.name.name; value = gives i.type } ≡ e = cc in ap (λ (x : Named Value). x.name) (sym same)
      by None (Some value) is = let same : record { name = i.name.name; value = value } ≡ e = cc in ap (λ (x : Named Value). x.name) (sym same)
      by None None is = absurd (cc)

  module _ (members : List Argument) (is : List InputSyntax) (k : ℕ) (x : InputSyntax) (at : x ≡ get_or is k x) (lt : k < length is) (fields : List (Named Value)) (so_far : fields ≡ filter_map (field_at ts chain members) (map input_of (take k is))) where
    -- a further field has another name
    pub not_yet : repeats (map named_input (map input_of is)) ≡ [] → has_name x.name.name fields ≡ false
    not_yet apart =
        ap (has_name x.name.name) so_far
        ∙ no_field (field_at ts chain members) x.name.name (map input_of (take k is)) (field_named members)
        (ap (stands_in x.name.name) (map-map (λ (i : parts.Input). i.name.name) input_of (take k is))
        ∙ stands_before [] is k x at lt (inputs_apart is apart))

    pub one_more_field : (after : List (Named Value)) (value : Option Value) → after ≡ fields ++ option_to_list (option_map (named_value x.name.name) value) → option_map (named_value x.name.name) value ≡ field_at ts chain members (input_of x) → after ≡ filter_map (field_at ts chain members) (map input_of (take (k + 1) is))
    one_more_field after value grown given =
        let f = field_at ts chain members in
        grown
        ∙ ap (λ o. fields ++ option_to_list o) given
        ∙ ap (λ xs. xs ++ option_to_list (f (input_of x))) so_far
        ∙ ap (λ xs. filter_map f (map input_of (take k is)) ++ xs) (sym (one (f (input_of x))))
        ∙ sym (ap (filter_map f) (ap (map input_of) (take_more is k x lt ∙ ap (λ y. take k is ++ y ∷ []) (sym at)) ∙ map_push input_of (take k is) x) ∙ filter_map-append f (map input_of (take k is)) (input_of x ∷ []))

-- ---- defaults

pub default_more : (n : ℕ) (ts : List parts.Defined) (i : parts.Input) → (n ≡ 0 → ⊥) → option_map (λ w. coerced_at ts (n - 1) w i.type) i.default ≡ default_within ts n i
default_more zero ts i some = absurd (some refl)
default_more (suc n) ts i some = let e : suc n - 1 ≡ n = omega arith in rw e refl
