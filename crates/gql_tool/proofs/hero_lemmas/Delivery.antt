-- What a client has in the end of one delivered part, or of two.
use Rattle.std.proofs.Common.{◌≡◌, ◌↔◌, refl, sym, List, [], ◌∷◌, ◌++◌, Option, Some, None, Ordering, Less, Equal, Greater}
use Rattle.std.specs.Ordering.{match_ordering}
use Rattle.gql_tree.specs.declared.Key.{Key}
use Rattle.gql_tree.specs.declared.Fault.{Fault}
use Rattle.gql_tree.specs.declared.Failure.{Failure}
use Rattle.gql_tree.specs.declared.Value.{Value}
use Rattle.gql_tree.specs.declared.Value.TheVariants as v
use Rattle.gql_tree.specs.Flat.{Mark, flat}
use Rattle.gql_tree.specs.Same.{SameFlat}
use Rattle.gql_tree.specs.Order.{failure_cmp}
use Rattle.gql_tree.specs.Ordered.{placed, ordered}
use Rattle.gql_tree.specs.Merged.{Part, Delivery, HasMark}
use Rattle.gql_tool.proofs.hero_lemmas.PartMarks.{marks_alone, marks_united}
use Rattle.gql_tool.specs.hero.Hero.{hero_path, hero_object}
use Rattle.gql_tool.proofs.hero_lemmas.Flat.{Members, NamesApart}
use Rattle.gql_tool.proofs.hero_lemmas.Union.{hero_union}

-- ---- two values with the same marks

same_option : (a b : Option Mark) → ((m : Mark) → (a ≡ Some m) ↔ (b ≡ Some m)) → a ≡ b
same_option None None h = refl
same_option None (Some n) h = (h n).1 refl
same_option (Some m) b h = sym ((h m).0 refl)

-- parts that are delivered, with no lists
abbrev pub of_parts : List Part → List Failure → Delivery
of_parts xs fs = record { parts = xs; lists = []; failures = fs }

abbrev pub Marks : Value → Delivery → Type 0
Marks value d = (path : List Key) (m : Mark) → (flat value path ≡ Some m) ↔ HasMark d path m

same_marks : (value w : Value) (d : Delivery) → Marks value d → Marks w d → SameFlat value w
same_marks value w d first second path = same_option (flat value path) (flat w path) (λ m. (λ has. (second path m).1 ((first path m).0 has), λ has. (first path m).1 ((second path m).0 has)))

pub one_same : (value w : Value) (es : List Fault) (fs : List Failure) → Marks value (of_parts (record { at = []; value = w; errors = es } ∷ []) fs) → SameFlat value w
one_same value w es fs marks = same_marks value w (of_parts (record { at = []; value = w; errors = es } ∷ []) fs) marks (marks_alone w w (λ path. refl) es fs)

-- the second part is put into the hero
pub two_same : (value : Value) (ms ns : Members) (es gs : List Fault) (fs : List Failure) → NamesApart ms ns → Marks value (of_parts (record { at = []; value = hero_object (v.Object ms); errors = es } ∷ record { at = hero_path; value = v.Object ns; errors = gs } ∷ []) fs) → SameFlat value (hero_object (v.Object (ms ++ ns)))
two_same value ms ns es gs fs apart marks =
    let first = hero_object (v.Object ms) in
    let both = hero_object (v.Object (ms ++ ns)) in
    same_marks value both (of_parts (record { at = []; value = hero_object (v.Object ms); errors = es } ∷ record { at = hero_path; value = v.Object ns; errors = gs } ∷ []) fs) marks (marks_united first first (λ path. refl) es both (v.Object ns) (v.Object ns) hero_path (hero_union ms ns apart) (λ path. refl) gs fs)

-- ---- failures

pub some_ordered : (x : Failure) (xs : List Failure) → [] ≡ ordered failure_cmp (x ∷ xs) → ⊥
some_ordered x xs h = by_list (ordered failure_cmp xs) h
  where
    by_order : (a : Ordering) (y : Failure) (ys zs : List Failure) → [] ≡ match_ordering a (x ∷ y ∷ ys) (x ∷ y ∷ ys) (y ∷ zs) → ⊥
    by_order Less y ys zs h = absurd (cc)
    by_order Equal y ys zs h = absurd (cc)
    by_order Greater y ys zs h = absurd (cc)

    by_list : (ys : List Failure) → [] ≡ placed failure_cmp x ys → ⊥
    by_list [] h = absurd (cc)
    by_list (y ∷ ys) h = by_order (failure_cmp x y) y ys (placed failure_cmp x ys) h
