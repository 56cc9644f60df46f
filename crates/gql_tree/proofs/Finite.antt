-- A value has a mark at finitely many paths: those of its parts, one key longer, and the empty one.
use Rattle.std.proofs.Common.{◌≡◌, ℕ, zero, suc, ◌+◌, ◌<◌, List, [], ◌∷◌, ◌++◌, map, length, get_or, refl, ap, subst, Bool, true, false, cond, Some, Option, IsSome, arith}
use Rattle.std.specs.Prelude.{Contains, slice_get, option_and_then, option_map}
use Rattle.std.specs.Str.{bytes_eq}
use Rattle.std.proofs.lemmas.Slice.Eq.{bytes_eq-Decides}
use Rattle.std.proofs.lemmas.List.Elements.{Contains-append_left, Contains-append_right}
use Rattle.gql_tree.specs.declared.path.Key.{Key}
use Rattle.gql_tree.specs.declared.path.Key.TheVariants.{Name, Index}
use Rattle.gql_tree.specs.declared.fields.Named.{Named}
use Rattle.gql_tree.specs.declared.value.Value.{Value, out-Value, roll-Value, out-roll-Value}
use Rattle.gql_tree.specs.declared.value.Value.TheOpen.{Value-F}
use Rattle.gql_tree.specs.declared.value.Value.TheFolds.{map-Value, ind-Value}
use Rattle.gql_tree.specs.Names.{named}
use Rattle.gql_tree.specs.Flat.{Layer, Mark, mark_of, below, find, flat}
use Rattle.gql_tree.specs.Finite.{IsFinite}
use Rattle.gql_tree.proofs.Json.{named_map}

abbrev FiniteValue : Type 0
FiniteValue = (x : Value) × IsFinite x

abbrev value_in : FiniteValue → Value
value_in e = e.0

abbrev mark_at : Option Value → List Key → Option Mark
mark_at found path = option_map (λ w. mark_of (out-Value w)) (option_and_then (λ w. find w path) found)

-- ---- the paths of the parts, one key longer

abbrev item_paths : ℕ → List FiniteValue → List (List Key)
item_paths n [] = []
item_paths n (x ∷ xs) = map (λ path. Index n ∷ path) x.1.0 ++ item_paths (suc n) xs

abbrev member_paths : List (Named FiniteValue) → List (List Key)
member_paths [] = []
member_paths (m ∷ ms) = map (λ path. Name m.name ∷ path) m.value.1.0 ++ member_paths ms

abbrev paths_below : Value-F FiniteValue → List (List Key)
paths_below (Value-F.List xs) = item_paths 0 xs
paths_below (Value-F.Object ms) = member_paths ms
paths_below _ = []

-- ---- each path below is one of them

contains_map : {X Y : Type 0} (f : X → Y) (xs : List X) (x : X) (i : ℕ) → i < length xs → get_or xs i x ≡ x → Contains (map f xs) (f x)
contains_map f [] x i within here = absurd (omega arith)
contains_map f (y ∷ ys) x zero within here = (0, omega arith, ap f here)
contains_map f (y ∷ ys) x (suc i) within here = let c = contains_map f ys x i (omega arith) here in (suc c.0, omega (arith, c.1), c.2)

longer : (k : Key) (paths : List (List Key)) (path : List Key) → Contains paths path → Contains (map (λ p. k ∷ p) paths) (k ∷ path)
longer k paths path c = contains_map (λ p. k ∷ p) paths path c.0 c.1 c.2

contains_items : (n i : ℕ) (xs : List FiniteValue) (path : List Key) (k : ℕ) → k ≡ n + i → IsSome (mark_at (slice_get (map value_in xs) i) path) → Contains (item_paths n xs) (Index k ∷ path)
contains_items n i [] path k e is = absurd (cc)
contains_items n zero (x ∷ xs) path k e is =
    let same : n ≡ k = omega arith in
    Contains-append_left _ _ _ (subst (λ (j : ℕ). Contains (map (λ p. Index n ∷ p) x.1.0) (Index j ∷ path)) same (longer (Index n) x.1.0 path (x.1.1 path is)))
contains_items n (suc i) (x ∷ xs) path k e is = Contains-append_right _ _ _ (contains_items (suc n) i xs path k (omega arith) is)

contains_members_by : (b : Bool) (m : Named FiniteValue) (ms : List (Named FiniteValue)) (n : List ℕ) (path : List Key) → (b ≡ true → m.name ≡ n) → (IsSome (mark_at (named n (map (named_map value_in) ms)) path) → Contains (member_paths ms) (Name n ∷ path)) → IsSome (mark_at (cond b (Some m.value.0) (named n (map (named_map value_in) ms))) path) → Contains (member_paths (m ∷ ms)) (Name n ∷ path)
contains_members_by true m ms n path same later is =
    Contains-append_left _ _ _ (subst (λ (l : List ℕ). Contains (map (λ p. Name m.name ∷ p) m.value.1.0) (Name l ∷ path)) (same refl) (longer (Name m.name) m.value.1.0 path (m.value.1.1 path is)))
contains_members_by false m ms n path same later is = Contains-append_right _ _ _ (later is)

contains_members : (ms : List (Named FiniteValue)) (n : List ℕ) (path : List Key) → IsSome (mark_at (named n (map (named_map value_in) ms)) path) → Contains (member_paths ms) (Name n ∷ path)
contains_members [] n path is = absurd (cc)
contains_members (m ∷ ms) n path is = contains_members_by (bytes_eq m.name n) m ms n path (bytes_eq-Decides m.name n).0 (contains_members ms n path) is

contains_below : (y : Value-F FiniteValue) (k : Key) (path : List Key) → IsSome (mark_at (below (map-Value FiniteValue Value value_in y) k) path) → Contains (paths_below y) (k ∷ path)
contains_below (Value-F.List xs) (Index i) path is = contains_items 0 i xs path i (omega arith) is
contains_below (Value-F.Object ms) (Name n) path is = contains_members ms n path is
contains_below _ (Index i) path is = absurd (cc)
contains_below _ (Name n) path is = absurd (cc)

contains_paths : (y : Value-F FiniteValue) (path : List Key) → IsSome (flat (roll-Value (map-Value FiniteValue Value value_in y)) path) → Contains ([] ∷ paths_below y) path
contains_paths y [] is = (0, omega arith, refl)
contains_paths y (k ∷ path) is = Contains-append_right ([] ∷ []) _ _ (contains_below y k path (subst (λ (z : Layer). IsSome (mark_at (below z k) path)) (out-roll-Value (map-Value FiniteValue Value value_in y)) is))

pub flat_finite : (v : Value) → IsFinite v
flat_finite = ind-Value IsFinite (λ x y is. subst (λ (z : Layer). IsFinite (roll-Value z)) is ([] ∷ paths_below y, contains_paths y))
