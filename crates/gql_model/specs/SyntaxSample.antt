-- A text of type definitions as the parser gives it, for a worked example of what is read.
use Rattle.std.specs.Prelude.{ℕ, true, List, [], ◌∷◌, Option, Some, codes}
use Rattle.gql_model.specs.declared.syntax.TypeRef.{TypeRef}
use Rattle.gql_model.specs.declared.syntax.TypeRef.TheVariants as type
use Rattle.gql_model.specs.declared.syntax.Argument.{Argument, roll-Argument}
use Rattle.gql_model.specs.declared.syntax.Literal.{Literal}
use Rattle.gql_model.specs.declared.syntax.Literal.TheVariants as literal
use Rattle.gql_model.specs.declared.type_syntax.InputSyntax.{InputSyntax}
use Rattle.gql_model.specs.declared.type_syntax.FieldSyntax.{FieldSyntax}
use Rattle.gql_model.specs.declared.type_syntax.TypeSyntax.{TypeSyntax}
use Rattle.gql_model.specs.declared.type_syntax.TypeSyntax.TheVariants as syntax
use Rattle.gql_model.specs.declared.type_syntax.TypeDocument.{TypeDocument}
use Rattle.gql_model.specs.SchemaSample.{place, at}

abbrev pub argument : ℕ → List ℕ → Literal → Argument
argument column name value = roll-Argument (record { name = name; value = value; spot = place column })

abbrev pub input : ℕ → List ℕ → TypeRef → Option Literal → InputSyntax
input column name kind default = record { name = at column name; kind = kind; default = default }

abbrev pub field : ℕ → List ℕ → TypeRef → FieldSyntax
field column name kind = record { name = at column name; arguments = []; kind = kind }

-- input In { s: String = "t" b: Boolean = true e: E = A x: [In!] = [{ x: 1 } null] } enum E { A } type Query { a: Int }
abbrev pub wrong_default_syntax : List TypeSyntax
wrong_default_syntax =
    syntax.Input (at 7 (codes "In")) (
    input 12 (codes "s") (type.Named (codes "String") (place 15)) (Some (literal.Text (codes "t") (place 24)))
    ∷ input 28 (codes "b") (type.Named (codes "Boolean") (place 31)) (Some (literal.Bool true (place 41)))
    ∷ input 46 (codes "e") (type.Named (codes "E") (place 49)) (Some (literal.Enum (codes "A") (place 53)))
    ∷ input 55 (codes "x") (type.List (type.NonNull (type.Named (codes "In") (place 59)))) (Some (literal.List ((literal.Object (argument 69 (codes "x") (literal.Int (codes "1") (place 72)) ∷ []) (place 67)) ∷ (literal.Null (place 76)) ∷ []) (place 66)))
    ∷ [])
    ∷ syntax.Enum (at 89 (codes "E")) (at 93 (codes "A") ∷ [])
    ∷ syntax.Object (at 102 (codes "Query")) [] (field 110 (codes "a") (type.Named (codes "Int") (place 113)) ∷ [])
    ∷ []

abbrev pub wrong_default : TypeDocument
wrong_default = record { definitions = wrong_default_syntax }
