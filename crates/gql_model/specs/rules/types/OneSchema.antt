-- There is at most one `schema` definition, and it names each kind of operation at most once (sections 3.3 and 3.3.1 of the
-- standard). At fault are the word of a further definition, and the word of a kind that repeats an earlier one.
use Rattle.std.specs.Prelude.{ℕ, Bool, true, false, List, [], ◌∷◌, ◌++◌, codes}
use Rattle.gql_tree.specs.declared.Spot.{Spot}
use Rattle.gql_model.specs.declared.syntax.OperationKind.{OperationKind}
use Rattle.gql_model.specs.declared.syntax.OperationKind.TheVariants as operation
use Rattle.gql_model.specs.declared.type_syntax.RootSyntax.{RootSyntax}
use Rattle.gql_model.specs.rules.Places.{place_if, in_turn}
use Rattle.gql_model.specs.rules.TypeParts.{Roots}

-- the word of a kind
abbrev pub word_of : OperationKind → List ℕ
word_of operation.Query = codes "query"
word_of operation.Mutation = codes "mutation"
word_of operation.Subscription = codes "subscription"

abbrev pub repeated_kinds : List RootSyntax → List Spot
repeated_kinds roots = in_turn (λ r. word_of r.kind) (λ again r. place_if again r.kind_spot) [] roots

-- by whether a `schema` definition stands before
abbrev pub repeated_schemas_after : Bool → List Roots → List Spot
repeated_schemas_after before [] = []
repeated_schemas_after before (s ∷ ss) = place_if before s.word ++ (repeated_kinds s.roots ++ repeated_schemas_after true ss)

abbrev pub repeated_schemas : List Roots → List Spot
repeated_schemas = repeated_schemas_after false
