-- What literals give, part by part.
use Rattle.std.proofs.Common.{◌≡◌, refl, sym, ◌∙◌, ap, ℕ, Bool, true, false, cond, ◌||◌, List, [], ◌∷◌, map, filter_map, Option, Some, None}
use Rattle.std.specs.List.{cons_option}
use Rattle.std.specs.Option.{option_map}
use Rattle.std.specs.Str.{bytes_eq}
use Rattle.gql_tree.specs.declared.Value.{Value}
use Rattle.gql_tree.specs.declared.Value.TheVariants as v
use Rattle.gql_tree.specs.declared.Named.{Named}
use Rattle.gql_tree.specs.Names.{has_name}
use Rattle.gql_model.specs.Coercing.{value_at, list_at, member_of, coerced, coerced_items, coerced_members}
use Rattle.gql_model.specs.Lists.{keyed}
use Rattle.gql_model.specs.rules.Places.{stands_in}
use Rattle.gql_model.specs.rules.Literals.{Written, items_of, members_of, given}
use Rattle.gql_model.specs.rules.References.{Reference, to, list, non_null, innermost}
use Rattle.gql_model.specs.rules.TypeParts.{Input, Defined}
use Rattle.gql_model.specs.declared.syntax.Argument.{Argument}
use Rattle.gql_schema.specs.Coerced.{named_value, name_and_value}

-- what isn't a list goes by the type's innermost name
pub value_at_innermost : (gives : List ℕ → Value) (r : Reference) → value_at (λ _. gives (innermost r).name) r ≡ value_at gives r
value_at_innermost gives (to name spot) = refl
value_at_innermost gives (list r) = ap (λ value. v.List (value ∷ [])) (value_at_innermost gives r)
value_at_innermost gives (non_null r) = value_at_innermost gives r

module _ (ts : List Defined) (default : Input → Option Value) where
  pub items_coerced : (ws : List Written) (r : Reference) → coerced_items ts default (items_of ws) r ≡ map (λ w. coerced ts default w r) ws
  items_coerced [] r = refl
  items_coerced (w ∷ ws) r = ap (λ values. coerced ts default w r ∷ values) (items_coerced ws r)

  pub list_coerced : (ws : List Written) (r : Reference) → list_at (coerced_items ts default (items_of ws)) r ≡ list_at (λ s. map (λ w. coerced ts default w s) ws) r
  list_coerced ws (to name spot) = refl
  list_coerced ws (list r) = ap v.List (items_coerced ws r)
  list_coerced ws (non_null r) = list_coerced ws r

  keyed_by : (b : Bool) (w : Written) (o : Option (Reference → Value)) (p : Option Written) → o ≡ option_map (coerced ts default) p → cond b (Some (coerced ts default w)) o ≡ option_map (coerced ts default) (cond b (Some w) p)
  keyed_by true w o p e = refl
  keyed_by false w o p e = e

  -- what is given under a name
  pub given_coerced : (as' : List Argument) (name : List ℕ) → keyed name (coerced_members ts default (members_of (map given as'))) ≡ option_map (coerced ts default) (keyed name (map name_and_value as'))
  given_coerced [] name = refl
  given_coerced (a ∷ as') name = keyed_by (bytes_eq (given a).name name) (given a).value (keyed name (coerced_members ts default (members_of (map given as')))) (keyed name (map name_and_value as')) (given_coerced as' name)

  pub member_given : (i : Input) (w : Written) (o : Option Written) (d : Option Value) → o ≡ Some w → option_map (named_value i.name.name) (Some (coerced ts default w i.type)) ≡ member_of i (option_map (coerced ts default) o) d
  member_given i w o d e = ap (λ x. member_of i (option_map (coerced ts default) x) d) (sym e)

  pub member_default : (i : Input) (o : Option Written) (d : Option Value) → o ≡ None → option_map (named_value i.name.name) d ≡ member_of i (option_map (coerced ts default) o) d
  member_default i o d e = ap (λ x. member_of i (option_map (coerced ts default) x) d) (sym e)

-- ---- names of the fields so far

-- of no field that comes later
either : (a b : Bool) → a || b ≡ false → (a ≡ false) × (b ≡ false)
either true b h = absurd (cc)
either false b h = (refl, h)

-- where each field has its input's name, a name that isn't one of the inputs' is none of theirs
pub no_field : (f : Input → Option (Named Value)) (n : List ℕ) (is : List Input) → ((i : Input) (e : Named Value) → f i ≡ Some e → e.name ≡ i.name.name) → stands_in n (map (λ i. i.name.name) is) ≡ false → has_name n (filter_map f is) ≡ false
no_field f n [] own out = refl
no_field f n (i ∷ is) own out =
    let h = either (bytes_eq i.name.name n) (stands_in n (map (λ i. i.name.name) is)) out in
    by (f i) (own i) h.0 (no_field f n is own h.1)
  where
    by : (o : Option (Named Value)) → ((e : Named Value) → o ≡ Some e → e.name ≡ i.name.name) → bytes_eq i.name.name n ≡ false → has_name n (filter_map f is) ≡ false → has_name n (cons_option o (filter_map f is)) ≡ false
    by None own other rest = rest
    by (Some e) own other rest = ap (λ b. b || has_name n (filter_map f is)) (ap (λ name. bytes_eq name n) (own e refl) ∙ other) ∙ rest
