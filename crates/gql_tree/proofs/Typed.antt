-- What the type of a value keeps, kind by kind, and that no number of its JSON is bad.
use Rattle.std.proofs.Common.{◌≡◌, ◌<◌, List, [], ◌∷◌, map, refl, sym, ◌∙◌, ap, subst, Bool, true, false, IsTrue, suc, ◌+◌, length, get_or, drop, arith}
use Rattle.std.proofs.Math.Seq.{drop-cons}
use Rattle.std.specs.Prelude.{ℕ, ℤ, pos, negsuc, ◌&&◌, not}
use Rattle.serde_json.specs.Data.{Data, number, Members, no_members, put}
use Rattle.serde_json.specs.Find.{of_integer}
use Rattle.serde_json.specs.View.{items_of}
use Rattle.gql_tree.specs.declared.fields.Named.{Named}
use Rattle.gql_tree.specs.declared.value.Value.{Value, roll-Value}
use Rattle.gql_tree.specs.declared.value.Value.TheOpen.{Value-F}
use Rattle.gql_tree.specs.declared.value.Value.TheFolds.{map-Value, fold-roll-Value, ind-Value}
use Rattle.gql_tree.specs.declared.value.Value.TheVariants.{rolls-Null, rolls-Int, rolls-Text, rolls-List, rolls-Object}
use Rattle.gql_tree.specs.declared.value.Value.TheVariants as Value
use Rattle.gql_tree.specs.Names.{apart}
use Rattle.gql_tree.specs.Json.{put_all, data_step, data_of}
use Rattle.gql_tree.specs.FromJson.{has_bad_number, items_have_bad_number, members_have_bad_number}
use Rattle.gql_tree.specs.Typed.{fits, all_items, all_members, typed_step, is_typed}
use Rattle.gql_tree.proofs.Json.{named_map, or_false, put_without}
use Rattle.gql_tree.proofs.Marks.{apart-map, left_of, right_of}

-- ---- kind by kind

pub typed_Null : is_typed Value.Null ≡ true
typed_Null = ap is_typed (sym rolls-Null) ∙ fold-roll-Value Bool typed_step Value-F.Null

pub typed_Int : (z : ℤ) → is_typed (Value.Int z) ≡ fits z
typed_Int z = ap is_typed (sym (rolls-Int z)) ∙ fold-roll-Value Bool typed_step (Value-F.Int z)

pub typed_Text : (t : List ℕ) → is_typed (Value.Text t) ≡ true
typed_Text t = ap is_typed (sym (rolls-Text t)) ∙ fold-roll-Value Bool typed_step (Value-F.Text t)

items-map : (xs : List Value) → all_items (λ b. b) (map is_typed xs) ≡ all_items is_typed xs
items-map [] = refl
items-map (x ∷ xs) = ap (λ b. is_typed x && b) (items-map xs)

members-map : (ms : List (Named Value)) → all_members (λ b. b) (map (named_map is_typed) ms) ≡ all_members is_typed ms
members-map [] = refl
members-map (m ∷ ms) = ap (λ b. is_typed m.value && b) (members-map ms)

pub typed_List : (xs : List Value) → is_typed (Value.List xs) ≡ all_items is_typed xs
typed_List xs = ap is_typed (sym (rolls-List xs)) ∙ (fold-roll-Value Bool typed_step (Value-F.List xs) ∙ items-map xs)

pub typed_Object : (ms : List (Named Value)) → is_typed (Value.Object ms) ≡ (apart ms && all_members is_typed ms)
typed_Object ms = ap is_typed (sym (rolls-Object ms)) ∙ (fold-roll-Value Bool typed_step (Value-F.Object ms) ∙ rw (apart-map is_typed ms, members-map ms) refl)

pub and_true : (a b : Bool) → IsTrue a → IsTrue b → IsTrue (a && b)
and_true a b h k = rw (h, k) refl

-- the next member and those after it
pub all_members-drop : {X : Type 0} (f : X → Bool) (ms : List (Named X)) (i : ℕ) (m : Named X) → m ≡ get_or ms i m → i < length ms → IsTrue (f m.value) → IsTrue (all_members f (drop (i + 1) ms)) → IsTrue (all_members f (drop i ms))
all_members-drop f ms i m here within h later =
    let head : IsTrue (f (get_or ms i m).value) = ap (λ x. f x.value) (sym here) ∙ h in
    let tail : IsTrue (all_members f (drop (suc i) ms)) = ap (λ j. all_members f (drop j ms)) (let e : suc i ≡ i + 1 = omega arith in e) ∙ later in
    ap (all_members f) (drop-cons ms i m within) ∙ and_true _ _ head tail

-- ---- no bad number

put_whole : (k : List ℕ) (d : Data) (ms : Members) → has_bad_number d ≡ false → members_have_bad_number ms ≡ false → members_have_bad_number (put k d ms) ≡ false
put_whole = put_without has_bad_number members_have_bad_number (λ k d ms. refl)

abbrev Whole : Value → Type 0
Whole x = IsTrue (is_typed x) → has_bad_number (data_of x) ≡ false

abbrev WholeValue : Type 0
WholeValue = (x : Value) × Whole x

abbrev value_in : WholeValue → Value
value_in e = e.0

items_whole : (xs : List WholeValue) → IsTrue (all_items (λ b. b) (map is_typed (map value_in xs))) → items_have_bad_number (items_of (map data_of (map value_in xs))) ≡ false
items_whole [] h = refl
items_whole (x ∷ xs) h = or_false _ _ (x.1 (left_of (is_typed x.0) _ h)) (items_whole xs (right_of (is_typed x.0) _ h))

members_whole : (ms : List (Named WholeValue)) (found : Members) → IsTrue (all_members (λ b. b) (map (named_map is_typed) (map (named_map value_in) ms))) → members_have_bad_number found ≡ false → members_have_bad_number (put_all (λ d. d) found (map (named_map data_of) (map (named_map value_in) ms))) ≡ false
members_whole [] found h k = k
members_whole (m ∷ ms) found h k = members_whole ms (put m.name (data_of m.value.0) found) (right_of (is_typed m.value.0) _ h) (put_whole m.name (data_of m.value.0) found (m.value.1 (left_of (is_typed m.value.0) _ h)) k)

int_whole : (z : ℤ) → IsTrue (fits z) → has_bad_number (number (of_integer z)) ≡ false
int_whole (pos n) h = ap not h
int_whole (negsuc n) h = refl

step_whole : (y : Value-F WholeValue) → IsTrue (typed_step (map-Value Value Bool is_typed (map-Value WholeValue Value value_in y))) → has_bad_number (data_step (map-Value Value Data data_of (map-Value WholeValue Value value_in y))) ≡ false
step_whole Value-F.Null h = refl
step_whole (Value-F.Bool b) h = refl
step_whole (Value-F.Int z) h = int_whole z h
step_whole (Value-F.Text t) h = refl
step_whole (Value-F.List xs) h = items_whole xs h
step_whole (Value-F.Object ms) h = members_whole ms no_members (right_of (apart (map (named_map is_typed) (map (named_map value_in) ms))) _ h) refl

roll_whole : (y : Value-F WholeValue) → Whole (roll-Value (map-Value WholeValue Value value_in y))
roll_whole y h =
    ap has_bad_number (fold-roll-Value Data data_step (map-Value WholeValue Value value_in y))
    ∙ step_whole y (sym (fold-roll-Value Bool typed_step (map-Value WholeValue Value value_in y)) ∙ h)

-- no number in the JSON of a value is bad
pub no_bad_number : (x : Value) → IsTrue (is_typed x) → has_bad_number (data_of x) ≡ false
no_bad_number = ind-Value Whole (λ x y is. subst (λ (z : Value-F Value). Whole (roll-Value z)) is (roll_whole y))
