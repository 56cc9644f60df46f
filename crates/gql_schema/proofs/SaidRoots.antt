-- The roots that a `schema` definition names, or the usual names.
use Rattle.std.proofs.Common.{◌≡◌, refl, ◌∙◌, ap, ℕ, true, false, not, cond, is_some, List, [], ◌∷◌, ◌++◌, map, codes, Option, Some, None}
use Rattle.std.specs.Option.{option_map}
use Rattle.std.specs.Str.{bytes_eq}
use Rattle.gql_tree.specs.declared.Spot.{Spot}
use Rattle.gql_model.specs.declared.syntax.OperationKind.{OperationKind}
use Rattle.gql_model.specs.declared.syntax.OperationKind.TheVariants as operation
use Rattle.gql_model.specs.declared.type_syntax.RootSyntax.{RootSyntax}
use Rattle.gql_model.specs.SaidSchema.{SeenType, SeenSchema, number_of, root_named, said_root, said_type, said_schema, scalar}
use Rattle.gql_model.specs.rules.Places.{place_if}
use Rattle.gql_model.specs.rules.TypeParts as parts
use Rattle.gql_model.specs.rules.TypeParts.{Definition, built_in, is_object, has_kind, schemas, type_named, types}
use Rattle.gql_model.specs.rules.types.OneSchema.{word_of}
use Rattle.gql_model.specs.rules.types.QueryRoot.{is_query, misnamed_query, missing_query, faulty_query}

-- ---- the usual names

pub usual_there : (o : Option parts.Defined) (n : ℕ) → is_some o ≡ true → Some n ≡ cond (is_some o) (Some n) None
usual_there o n e = rw e refl

pub usual_missing : (o : Option parts.Defined) (n : ℕ) → is_some o ≡ false → None ≡ cond (is_some o) (Some n) None
usual_missing o n e = rw e refl

-- ---- a query root, where the rule on it is kept

named_by : (k : OperationKind) (places rest : List Spot) (n : ℕ) (o : Option ℕ) → (rest ≡ [] → is_some o ≡ true) → cond (is_query k) places rest ≡ [] → is_some (cond (bytes_eq (word_of k) (codes "query")) (Some n) o) ≡ true
named_by operation.Query places rest n o later kept = refl
named_by operation.Mutation places rest n o later kept = later kept
named_by operation.Subscription places rest n o later kept = later kept

query_named : (rs : List RootSyntax) (ts : List parts.Defined) (word : Spot) → misnamed_query ts word rs ≡ [] → is_some (root_named ts (codes "query") rs) ≡ true
query_named [] ts word kept = absurd (cc)
query_named (r ∷ rs) ts word kept = named_by r.kind (place_if (not (has_kind ts is_object r.name.name)) r.name.spot) (misnamed_query ts word rs) (number_of ts r.name.name) (root_named ts (codes "query") rs) (query_named rs ts word) kept

query_defined : (o : Option parts.Defined) (ts : List parts.Defined) → missing_query ts o ≡ [] → is_some o ≡ true
query_defined None ts kept = absurd (cc)
query_defined (Some d) ts kept = refl

pub query_said : (ss : List parts.Roots) (ts : List parts.Defined) → faulty_query ts ss ≡ [] → is_some (said_root ts ss (codes "query") (codes "Query")) ≡ true
query_said [] ts kept = ap (λ b. is_some (cond b (Some (number_of ts (codes "Query"))) None)) (query_defined (type_named ts (codes "Query")) ts kept)
query_said (s ∷ ss) ts kept = query_named s.roots ts s.word kept

-- ---- the whole

abbrev said_with : List parts.Defined → List Definition → ℕ → SeenSchema
said_with ts ds query = record {
  types = map scalar built_in ++ map (said_type ts) ts;
  query = query;
  mutation = said_root ts (schemas ds) (codes "mutation") (codes "Mutation");
  subscription = said_root ts (schemas ds) (codes "subscription") (codes "Subscription");
}

abbrev of_parts : List SeenType → ℕ → Option ℕ → Option ℕ → SeenSchema
of_parts all query mutation subscription = record { types = all; query = query; mutation = mutation; subscription = subscription }

pub wholly_said : (ts : List parts.Defined) (ds : List Definition) (all : List SeenType) (query : ℕ) (mutation subscription : Option ℕ) → ts ≡ types ds → all ≡ map scalar built_in ++ map (said_type ts) ts → Some query ≡ said_root ts (schemas ds) (codes "query") (codes "Query") → mutation ≡ said_root ts (schemas ds) (codes "mutation") (codes "Mutation") → subscription ≡ said_root ts (schemas ds) (codes "subscription") (codes "Subscription") → Some (of_parts all query mutation subscription) ≡ said_schema ds
wholly_said ts ds all query mutation subscription t a q m s =
    ap (λ x. Some (of_parts x query mutation subscription)) a
    ∙ ap (λ x. Some (of_parts (map scalar built_in ++ map (said_type ts) ts) query x subscription)) m
    ∙ ap (λ x. Some (of_parts (map scalar built_in ++ map (said_type ts) ts) query (said_root ts (schemas ds) (codes "mutation") (codes "Mutation")) x)) s
    ∙ ap (option_map (said_with ts ds)) q
    ∙ ap (λ us. option_map (said_with us ds) (said_root us (schemas ds) (codes "query") (codes "Query"))) t
