-- The equations of the JSON datum of a value, and that it has no float.
use Rattle.std.proofs.Common.{◌≡◌, ℕ, List, [], ◌∷◌, ◌++◌, ◌+◌, ◌<◌, map, take, length, get_or, refl, sym, ◌∙◌, ap, subst, Bool, true, false, ◌||◌}
use Rattle.std.specs.Prelude.{ℤ, pos, negsuc}
use Rattle.std.proofs.lemmas.List.{take_more}
use Rattle.std.specs.declared.cmp.Ordering.{Ordering}
use Rattle.std.specs.declared.cmp.Ordering.TheVariants.{Less, Equal, Greater}
use Rattle.std.specs.Ordering.{nat_cmp, match_ordering}
use Rattle.std.specs.Cmp.Lexicographic.{slice_cmp}
use Rattle.serde_json.specs.Data.{Data, null, number, string, array, object, Members, no_members, member, put}
use Rattle.serde_json.specs.Find.{of_integer}
use Rattle.serde_json.specs.View.{items_of}
use Rattle.serde_json.specs.Written.{has_float, items_have_float, members_have_float}
use Rattle.gql_tree.specs.declared.fields.Named.{Named}
use Rattle.gql_tree.specs.declared.value.Value.{Value, roll-Value}
use Rattle.gql_tree.specs.declared.value.Value.TheOpen.{Value-F}
use Rattle.gql_tree.specs.declared.value.Value.TheFolds.{map-Value, fold-roll-Value, ind-Value}
use Rattle.gql_tree.specs.declared.value.Value.TheVariants.{rolls-Null, rolls-Int, rolls-Text, rolls-List, rolls-Object}
use Rattle.gql_tree.specs.declared.value.Value.TheVariants as Value
use Rattle.gql_tree.specs.Json.{put_all, data_step, data_of}

-- a member whose value is put through a function
abbrev pub named_map : {X Y : Type 0} → (X → Y) → Named X → Named Y
named_map f m = record { name = m.name; value = f m.value }

-- ---- the equations

pub data_Null : data_of Value.Null ≡ null
data_Null = ap data_of (sym rolls-Null) ∙ fold-roll-Value Data data_step Value-F.Null

pub data_Int : (n : ℤ) → data_of (Value.Int n) ≡ number (of_integer n)
data_Int n = ap data_of (sym (rolls-Int n)) ∙ fold-roll-Value Data data_step (Value-F.Int n)

pub data_Text : (t : List ℕ) → data_of (Value.Text t) ≡ string t
data_Text t = ap data_of (sym (rolls-Text t)) ∙ fold-roll-Value Data data_step (Value-F.Text t)

pub data_List : (xs : List Value) → data_of (Value.List xs) ≡ array (items_of (map data_of xs))
data_List xs = ap data_of (sym (rolls-List xs)) ∙ fold-roll-Value Data data_step (Value-F.List xs)

-- data that are put in are those of the values
pub put_all-map : {X : Type 0} (f : X → Data) (found : Members) (ms : List (Named X)) → put_all (λ d. d) found (map (named_map f) ms) ≡ put_all f found ms
put_all-map f found [] = refl
put_all-map f found (m ∷ ms) = put_all-map f (put m.name (f m.value) found) ms

pub data_Object : (ms : List (Named Value)) → data_of (Value.Object ms) ≡ object (put_all data_of no_members ms)
data_Object ms = ap data_of (sym (rolls-Object ms)) ∙ (fold-roll-Value Data data_step (Value-F.Object ms) ∙ ap object (put_all-map data_of no_members ms))

-- ---- a loop over members

-- a last member is put in last
pub put_all-push : {X : Type 0} (f : X → Data) (found : Members) (ms : List (Named X)) (m : Named X) → put_all f found (ms ++ m ∷ []) ≡ put m.name (f m.value) (put_all f found ms)
put_all-push f found [] m = refl
put_all-push f found (x ∷ ms) m = put_all-push f (put x.name (f x.value) found) ms m

-- the next member of a list is put in last
pub put_all-take : {X : Type 0} (f : X → Data) (ms : List (Named X)) (i : ℕ) (m : Named X) → m ≡ get_or ms i m → i < length ms → put_all f no_members (take (i + 1) ms) ≡ put m.name (f m.value) (put_all f no_members (take i ms))
put_all-take f ms i m here within =
    ap (put_all f no_members) (take_more ms i m within ∙ ap (λ x. take i ms ++ x ∷ []) (sym here)) ∙ put_all-push f no_members (take i ms) m

-- ---- no float

pub or_false : (a b : Bool) → a ≡ false → b ≡ false → a || b ≡ false
or_false a b e f = rw (e, f) refl

first_of : (a b : Bool) → a || b ≡ false → a ≡ false
first_of true b h = h
first_of false b h = refl

second_of : (a b : Bool) → a || b ≡ false → b ≡ false
second_of true b h = absurd (cc)
second_of false b h = h

-- whether one of the members has something is whether the first has it, or a later one
abbrev pub GoesBy : (Data → Bool) → (Members → Bool) → Type 0
GoesBy f g = (k : List ℕ) (d : Data) (ms : Members) → g (member k d ms) ≡ (f d || g ms)

put_by : (f : Data → Bool) (g : Members → Bool) → GoesBy f g → (o : Ordering) (k l : List ℕ) (d e : Data) (ms : Members) → f d ≡ false → f e ≡ false → g ms ≡ false → g (put k d ms) ≡ false → g (match_ordering o (member k d (member l e ms)) (member l d ms) (member l e (put k d ms))) ≡ false
put_by f g step Less k l d e ms hd he hm hp = step k d (member l e ms) ∙ or_false _ _ hd (step l e ms ∙ or_false _ _ he hm)
put_by f g step Equal k l d e ms hd he hm hp = step l d ms ∙ or_false _ _ hd hm
put_by f g step Greater k l d e ms hd he hm hp = step l e (put k d ms) ∙ or_false _ _ he hp

-- what no member has is not there after another is put in that hasn't it
pub put_without : (f : Data → Bool) (g : Members → Bool) → GoesBy f g → (k : List ℕ) (d : Data) (ms : Members) → f d ≡ false → g ms ≡ false → g (put k d ms) ≡ false
put_without f g step k d no_members hd hm = step k d no_members ∙ or_false _ _ hd hm
put_without f g step k d (member l e ms) hd hm =
    let h = sym (step l e ms) ∙ hm in
    let hs = second_of (f e) (g ms) h in
    put_by f g step (slice_cmp nat_cmp k l) k l d e ms hd (first_of (f e) (g ms) h) hs (put_without f g step k d ms hd hs)

put_plain : (k : List ℕ) (d : Data) (ms : Members) → has_float d ≡ false → members_have_float ms ≡ false → members_have_float (put k d ms) ≡ false
put_plain = put_without has_float members_have_float (λ k d ms. refl)

abbrev Plain : Value → Type 0
Plain x = has_float (data_of x) ≡ false

abbrev PlainValue : Type 0
PlainValue = (x : Value) × Plain x

items_plain : (xs : List PlainValue) → items_have_float (items_of (map data_of (map (λ e. e.0) xs))) ≡ false
items_plain [] = refl
items_plain (x ∷ xs) = or_false _ _ x.1 (items_plain xs)

members_plain : (ms : List (Named PlainValue)) (found : Members) → members_have_float found ≡ false → members_have_float (put_all (λ d. d) found (map (named_map data_of) (map (named_map (λ e. e.0)) ms))) ≡ false
members_plain [] found h = h
members_plain (m ∷ ms) found h = members_plain ms (put m.name (data_of m.value.0) found) (put_plain m.name (data_of m.value.0) found m.value.1 h)

int_plain : (n : ℤ) → has_float (number (of_integer n)) ≡ false
int_plain (pos n) = refl
int_plain (negsuc n) = refl

step_plain : (y : Value-F PlainValue) → has_float (data_step (map-Value Value Data data_of (map-Value PlainValue Value (λ e. e.0) y))) ≡ false
step_plain Value-F.Null = refl
step_plain (Value-F.Bool b) = refl
step_plain (Value-F.Int n) = int_plain n
step_plain (Value-F.Text t) = refl
step_plain (Value-F.List xs) = items_plain xs
step_plain (Value-F.Object ms) = members_plain ms no_members refl

roll_plain : (y : Value-F PlainValue) → Plain (roll-Value (map-Value PlainValue Value (λ e. e.0) y))
roll_plain y = ap has_float (fold-roll-Value Data data_step (map-Value PlainValue Value (λ e. e.0) y)) ∙ step_plain y

pub no_float : (x : Value) → has_float (data_of x) ≡ false
no_float = ind-Value Plain (λ x y is. subst (λ (z : Value-F Value). Plain (roll-Value z)) is (roll_plain y))
