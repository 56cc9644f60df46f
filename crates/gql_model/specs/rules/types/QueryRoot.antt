-- The query root exists and is an object type (section 3.3.1 of the standard): the one that `schema` names, or without a
-- `schema` definition the type `Query`. At fault are the name in `schema`, or its word where it names none; and the name in
-- the type's definition, or the beginning of the text where there is none.
use Rattle.std.specs.Prelude.{Bool, true, false, not, cond, List, [], ◌∷◌, Option, Some, None, codes}
use Rattle.gql_tree.specs.declared.Spot.{Spot}
use Rattle.gql_model.specs.declared.syntax.OperationKind.{OperationKind}
use Rattle.gql_model.specs.declared.syntax.OperationKind.TheVariants as operation
use Rattle.gql_model.specs.declared.type_syntax.RootSyntax.{RootSyntax}
use Rattle.gql_model.specs.rules.Places.{place_if}
use Rattle.gql_model.specs.rules.TypeParts.{Roots, Defined, is_object, type_named, has_kind}

abbrev pub is_query : OperationKind → Bool
is_query operation.Query = true
is_query _ = false

abbrev pub beginning : Spot
beginning = record { line = 1; column = 1 }

module _ (ts : List Defined) where
  abbrev pub misnamed_query : Spot → List RootSyntax → List Spot
  misnamed_query word [] = word ∷ []
  misnamed_query word (r ∷ rs) = cond (is_query r.kind) (place_if (not (has_kind ts is_object r.name.name)) r.name.spot) (misnamed_query word rs)

  abbrev pub missing_query : Option Defined → List Spot
  missing_query None = beginning ∷ []
  missing_query (Some d) = place_if (not (is_object d.kind)) d.name.spot

  abbrev pub faulty_query : List Roots → List Spot
  faulty_query [] = missing_query (type_named ts (codes "Query"))
  faulty_query (s ∷ ss) = misnamed_query s.word s.roots
