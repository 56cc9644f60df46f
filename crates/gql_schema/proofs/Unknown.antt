-- Names that don't exist, definition by definition.
use Rattle.std.proofs.Common.{◌≡◌, refl, ◌∙◌, ap, List, [], ◌∷◌, ◌++◌, flat_map, filter_map, not, Option, Some, None}
use Rattle.std.specs.List.{cons_option}
use Rattle.std.specs.Option.{option_and_then}
use Rattle.gql_tree.specs.declared.Spot.{Spot}
use Rattle.gql_model.specs.declared.type_syntax.TypeSyntax.{TypeSyntax}
use Rattle.gql_model.specs.declared.type_syntax.TypeSyntax.TheVariants as syntax
use Rattle.gql_model.specs.rules.Places.{stands_in, faults}
use Rattle.gql_model.specs.rules.TypeParts as parts
use Rattle.gql_model.specs.rules.TypeParts.{Definition, schema, type, type_in, definition_of}
use Rattle.gql_model.specs.rules.types.KnownTypes.{used_by}
use Rattle.gql_schema.specs.Seen.{existing_among, unknown_used}

type_is : (o : Option Definition) (d : parts.Defined) → Some d ≡ option_and_then type_in o → o ≡ Some (type d)
type_is None d e = absurd (cc)
type_is (Some (schema s)) d e = absurd (cc)
type_is (Some (type t)) d e = cc

module _ (ts : List parts.Defined) where
  abbrev unknown_by : Definition → List Spot
  unknown_by d = faults (λ n. not (stands_in n.name (existing_among ts))) (used_by d)

  -- a definition of a type
  pub unknown_in_type : (o : Option Definition) (d : parts.Defined) → Some d ≡ option_and_then type_in o → unknown_used ts o ≡ unknown_by (type d)
  unknown_in_type o d e = ap (unknown_used ts) (type_is o d e)

  -- one of neither a type nor a schema
  pub unknown_in_none : (x : TypeSyntax) → ((roots : _) (spot : Spot) → x ≡ syntax.Schema roots spot → ⊥) → None ≡ option_and_then type_in (definition_of x) → unknown_used ts (definition_of x) ≡ []
  unknown_in_none (syntax.Schema roots spot) other e = absurd (other roots spot refl)
  unknown_in_none (syntax.Scalar n) other e = absurd (cc)
  unknown_in_none (syntax.Object n is fs) other e = absurd (cc)
  unknown_in_none (syntax.Interface n is fs) other e = absurd (cc)
  unknown_in_none (syntax.Union n ms) other e = absurd (cc)
  unknown_in_none (syntax.Enum n vs) other e = absurd (cc)
  unknown_in_none (syntax.Input n is) other e = absurd (cc)
  unknown_in_none (syntax.Directive n is ls) other e = refl

  one_more : (o : Option Definition) (ds : List Definition) → unknown_used ts o ++ flat_map unknown_by ds ≡ flat_map unknown_by (cons_option o ds)
  one_more None ds = refl
  one_more (Some d) ds = refl

  pub unknown_walked : (xs : List TypeSyntax) → flat_map (λ x. unknown_used ts (definition_of x)) xs ≡ flat_map unknown_by (filter_map definition_of xs)
  unknown_walked [] = refl
  unknown_walked (x ∷ xs) = ap (λ ps. unknown_used ts (definition_of x) ++ ps) (unknown_walked xs) ∙ one_more (definition_of x) (filter_map definition_of xs)
