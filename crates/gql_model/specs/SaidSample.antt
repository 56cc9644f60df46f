-- The schemas that worked texts of type definitions say.
use Rattle.std.specs.Prelude.{ℕ, pos, negsuc, List, [], ◌∷◌, Option, Some, None, codes}
use Rattle.gql_tree.specs.declared.Value.{Value}
use Rattle.gql_tree.specs.declared.Value.TheVariants as v
use Rattle.gql_tree.specs.declared.fields.Named.{Named}
use Rattle.gql_model.specs.declared.schema.TypeKind.{TypeKind}
use Rattle.gql_model.specs.declared.schema.TypeKind.TheVariants as kind
use Rattle.gql_model.specs.declared.syntax.OperationKind.TheVariants as operation
use Rattle.gql_model.specs.UsedType as used
use Rattle.gql_model.specs.UsedType.{UsedType}
use Rattle.gql_model.specs.rules.Literals as literal
use Rattle.gql_model.specs.rules.Literals.{items_of, members_of}
use Rattle.gql_model.specs.rules.References.{list, non_null}
use Rattle.gql_model.specs.rules.TypeParts.{Definition}
use Rattle.gql_model.specs.SchemaSample.{place, at, named, input, field, given, root, schema_definition, object, union, enum, input_object}
use Rattle.gql_model.specs.SaidSchema.{SeenInput, SeenField, SeenType, SeenSchema, scalar}

abbrev pub entry : List ℕ → Value → Named Value
entry name value = record { name = name; value = value }

abbrev pub taken : List ℕ → UsedType → Option Value → SeenInput
taken name type default = record { name = name; type = type; default = default }

abbrev pub offered : List ℕ → List SeenInput → UsedType → SeenField
offered name arguments type = record { name = name; arguments = arguments; type = type }

abbrev pub seen : List ℕ → TypeKind → List SeenField → List SeenInput → List ℕ → List ℕ → List (List ℕ) → SeenType
seen name k fields inputs interfaces members values = record { name = name; kind = k; fields = fields; inputs = inputs; interfaces = interfaces; members = members; values = values }

-- the schema that `pets` says
abbrev pub pets_schema : SeenSchema
pets_schema = record {
  types =
      scalar (codes "Int")
      ∷ scalar (codes "String")
      ∷ scalar (codes "Boolean")
      ∷ scalar (codes "ID")
      ∷ seen (codes "Query") kind.Object (offered (codes "pet") [] (used.named 5) ∷ []) [] [] (4 ∷ []) []
      ∷ seen (codes "Pet") kind.Interface (offered (codes "name") [] (used.named 1) ∷ []) [] [] (6 ∷ []) []
      ∷ seen (codes "Dog") kind.Object (offered (codes "name") [] (used.non_null (used.named 1)) ∷ []) [] (5 ∷ []) (6 ∷ []) []
      ∷ [];
  query = 4;
  mutation = None;
  subscription = None;
}

-- input In { x: Int = -1 y: [Int] = 2 z: Other = {} } input Other { a: ID = 7 b: In = { z: null y: null } e: E = A } enum E { A } union U = Root schema { query: Root } type Root { f(i: [In!] = {}): U }
abbrev pub defaults : List Definition
defaults =
    input_object (at 7 (codes "In")) (
    input 12 (codes "x") (named 15 (codes "Int")) (Some (literal.number (codes "-1") (place 21)))
    ∷ input 24 (codes "y") (list (named 28 (codes "Int"))) (Some (literal.number (codes "2") (place 35)))
    ∷ input 37 (codes "z") (named 40 (codes "Other")) (Some (literal.object (members_of []) (place 48)))
    ∷ [])
    ∷ input_object (at 59 (codes "Other")) (
    input 67 (codes "a") (named 70 (codes "ID")) (Some (literal.number (codes "7") (place 75)))
    ∷ input 77 (codes "b") (named 80 (codes "In")) (Some (literal.object (members_of (given 87 (codes "z") (literal.null (place 90)) ∷ given 95 (codes "y") (literal.null (place 98)) ∷ [])) (place 85)))
    ∷ input 105 (codes "e") (named 108 (codes "E")) (Some (literal.enum (codes "A") (place 112)))
    ∷ [])
    ∷ enum (at 121 (codes "E")) (at 125 (codes "A") ∷ [])
    ∷ union (at 135 (codes "U")) (at 139 (codes "Root") ∷ [])
    ∷ schema_definition (root operation.Query 153 (at 160 (codes "Root")) ∷ []) (place 144)
    ∷ object (at 172 (codes "Root")) [] (
    field 179 (codes "f") (input 181 (codes "i") (list (non_null (named 185 (codes "In")))) (Some (literal.object (members_of []) (place 192))) ∷ []) (named 197 (codes "U"))
    ∷ [])
    ∷ []

-- the schema that `defaults` says
abbrev pub defaults_schema : SeenSchema
defaults_schema = record {
  types =
      scalar (codes "Int")
      ∷ scalar (codes "String")
      ∷ scalar (codes "Boolean")
      ∷ scalar (codes "ID")
      ∷ seen (codes "In") kind.Input [] (taken (codes "x") (used.named 0) (Some (v.Int (negsuc 0))) ∷ taken (codes "y") (used.list (used.named 0)) (Some (v.List ((v.Int (pos 2)) ∷ []))) ∷ taken (codes "z") (used.named 5) (Some (v.Object (entry (codes "a") (v.Text (codes "7")) ∷ entry (codes "b") (v.Object (entry (codes "x") (v.Int (negsuc 0)) ∷ entry (codes "y") v.Null ∷ entry (codes "z") v.Null ∷ [])) ∷ entry (codes "e") (v.Text (codes "A")) ∷ []))) ∷ []) [] [] []
      ∷ seen (codes "Other") kind.Input [] (taken (codes "a") (used.named 3) (Some (v.Text (codes "7"))) ∷ taken (codes "b") (used.named 4) (Some (v.Object (entry (codes "x") (v.Int (negsuc 0)) ∷ entry (codes "y") v.Null ∷ entry (codes "z") v.Null ∷ []))) ∷ taken (codes "e") (used.named 6) (Some (v.Text (codes "A"))) ∷ []) [] [] []
      ∷ seen (codes "E") kind.Enum [] [] [] [] ((codes "A") ∷ [])
      ∷ seen (codes "U") kind.Union [] [] [] (8 ∷ []) []
      ∷ seen (codes "Root") kind.Object (offered (codes "f") (taken (codes "i") (used.list (used.non_null (used.named 4))) (Some (v.List ((v.Object (entry (codes "x") (v.Int (negsuc 0)) ∷ entry (codes "y") (v.List ((v.Int (pos 2)) ∷ [])) ∷ entry (codes "z") (v.Object (entry (codes "a") (v.Text (codes "7")) ∷ entry (codes "b") (v.Object (entry (codes "x") (v.Int (negsuc 0)) ∷ entry (codes "y") v.Null ∷ entry (codes "z") v.Null ∷ [])) ∷ entry (codes "e") (v.Text (codes "A")) ∷ [])) ∷ [])) ∷ []))) ∷ []) (used.named 7) ∷ []) [] [] (8 ∷ []) []
      ∷ [];
  query = 8;
  mutation = None;
  subscription = None;
}
