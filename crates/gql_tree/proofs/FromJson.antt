-- The values of the members of a JSON object.
use Rattle.std.proofs.Common.{◌≡◌, List, [], ◌∷◌, ◌++◌, Less, string_bytes, string_cmp, false, is_eq, refl, sym, ◌∙◌, ap}
use Rattle.std.specs.List.{AllByRecursion}
use Rattle.std.specs.List.Sorted.{IsStrictlySortedBy}
use Rattle.std.specs.Map.{keys_of}
use Rattle.std.proofs.lemmas.Map.Text.{is_eq-slice_cmp}
use Rattle.serde_json.specs.View.{view, members_view}
use Rattle.serde_json.proofs.Views.{Entry}
use Rattle.gql_tree.specs.Names.{has_name}
use Rattle.gql_tree.specs.FromJson.{value_of, fields_of}
use Rattle.gql_tree.proofs.Names.{from_neither}

below_middle : (first : Entry) (es : List Entry) (e : Entry) (more : List Entry) → AllByRecursion (λ y. string_cmp first.0 y ≡ Less) (keys_of (es ++ e ∷ more)) → string_cmp first.0 e.0 ≡ Less
below_middle first [] e more h = h.0
below_middle first (x ∷ es) e more h = below_middle first es e more h.1

-- a name in ascending order is none of those before it
pub has_name-before : (done : List Entry) (e : Entry) (more : List Entry) → IsStrictlySortedBy string_cmp (keys_of (done ++ e ∷ more)) → has_name (string_bytes e.0) (fields_of (members_view done)) ≡ false
unfolding IsStrictlySortedBy
has_name-before [] e more h = refl
has_name-before (first ∷ done) e more h =
    from_neither _ _ (sym (is_eq-slice_cmp (string_bytes first.0) (string_bytes e.0)) ∙ ap is_eq (below_middle first done e more h.0)) (has_name-before done e more h.1)

-- a last member is the last field
pub fields_of-push : (done : List Entry) (e : Entry) → fields_of (members_view (done ++ e ∷ [])) ≡ fields_of (members_view done) ++ record { name = string_bytes e.0; value = value_of (view e.1) } ∷ []
fields_of-push [] e = refl
fields_of-push (first ∷ done) e = ap (λ fs. record { name = string_bytes first.0; value = value_of (view first.1) } ∷ fs) (fields_of-push done e)
