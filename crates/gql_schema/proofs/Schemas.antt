-- Going through `schema` definitions.
use Rattle.std.proofs.Common.{◌≡◌, refl, sym, ◌∙◌, ap, ℕ, ◌+◌, ◌<◌, Bool, true, List, [], ◌∷◌, ◌++◌, filter_map, drop, length, get_or, Option, Some, None}
use Rattle.std.specs.List.{cons_option}
use Rattle.std.specs.Option.{option_and_then}
use Rattle.std.proofs.lemmas.List.{append_assoc, drop_more}
use Rattle.gql_tree.specs.declared.Spot.{Spot}
use Rattle.gql_model.specs.declared.type_syntax.TypeSyntax.{TypeSyntax}
use Rattle.gql_model.specs.rules.Places.{place_if}
use Rattle.gql_model.specs.rules.TypeParts as parts
use Rattle.gql_model.specs.rules.TypeParts.{Definition, schema, type, definition_of, schema_in, schemas}
use Rattle.gql_model.specs.rules.types.OneSchema.{repeated_kinds, repeated_schemas_after}
use Rattle.gql_schema.specs.declared.roots.Roots.{Roots}
use Rattle.gql_schema.specs.Seen.{said_roots, first_of}
use Rattle.gql_schema.specs.FirstPlace.{first_place}
use Rattle.gql_schema.proofs.Walking.{first_none, first_some}

-- the `schema` definitions from a place on
abbrev pub left : List TypeSyntax → ℕ → List parts.Roots
left xs i = schemas (filter_map definition_of (drop i xs))

-- of no definition none stands first
pub no_first : {A : Type 0} (xs : List A) → None ≡ first_of xs → xs ≡ []
no_first [] e = refl
no_first (x ∷ xs) e = absurd (cc)

one_more : (o : Option Definition) (ds : List Definition) → schemas (cons_option o ds) ≡ cons_option (option_and_then schema_in o) (schemas ds)
one_more None ds = refl
one_more (Some (schema s)) ds = refl
one_more (Some (type d)) ds = refl

module _ (xs : List TypeSyntax) (i : ℕ) (x : TypeSyntax) (at : x ≡ get_or xs i x) (lt : i < length xs) where
  parted : left xs i ≡ cons_option (option_and_then schema_in (definition_of x)) (left xs (i + 1))
  parted = ap (λ ys. schemas (filter_map definition_of ys)) (drop_more xs i x lt ∙ ap (λ y. y ∷ drop (i + 1) xs) (sym at)) ∙ one_more (definition_of x) (filter_map definition_of (drop (i + 1) xs))

  pub passed_by : None ≡ option_and_then schema_in (definition_of x) → left xs i ≡ left xs (i + 1)
  passed_by said = parted ∙ ap (λ o. cons_option o (left xs (i + 1))) (sym said)

  module _ (s : Roots) (said : Some (said_roots s) ≡ option_and_then schema_in (definition_of x)) where
    pub met : left xs i ≡ said_roots s ∷ left xs (i + 1)
    met = parted ∙ ap (λ o. cons_option o (left xs (i + 1))) (sym said)

    module _ (b : Bool) where
      abbrev here : List Spot
      here = place_if b s.word ++ repeated_kinds s.roots.now

      together : repeated_schemas_after b (left xs i) ≡ here ++ repeated_schemas_after true (left xs (i + 1))
      together = ap (repeated_schemas_after b) met ∙ sym (append_assoc (place_if b s.word) (repeated_kinds s.roots.now) (repeated_schemas_after true (left xs (i + 1))))

      pub schema_kept : first_place here ≡ None → first_place (repeated_schemas_after b (left xs i)) ≡ first_place (repeated_schemas_after true (left xs (i + 1)))
      schema_kept e = ap first_place together ∙ first_none here (repeated_schemas_after true (left xs (i + 1))) e

      pub schema_broken : (spot : Spot) → first_place here ≡ Some spot → first_place (repeated_schemas_after b (left xs i)) ≡ Some spot
      schema_broken spot e = ap first_place together ∙ first_some here (repeated_schemas_after true (left xs (i + 1))) spot e
