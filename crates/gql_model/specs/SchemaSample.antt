-- Texts of type definitions as plain data, for worked examples. Each text is one line, so a place is its column.
use Rattle.std.specs.Prelude.{ℕ, ◌+◌, true, false, List, [], ◌∷◌, Option, Some, None, codes}
use Rattle.gql_tree.specs.declared.Spot.{Spot}
use Rattle.gql_model.specs.declared.schema.TypeKind.TheVariants as kind
use Rattle.gql_model.specs.declared.syntax.OperationKind.{OperationKind}
use Rattle.gql_model.specs.declared.syntax.OperationKind.TheVariants as operation
use Rattle.gql_model.specs.declared.type_syntax.NameAt.{NameAt}
use Rattle.gql_model.specs.declared.type_syntax.RootSyntax.{RootSyntax}
use Rattle.gql_model.specs.rules.Literals as literal
use Rattle.gql_model.specs.rules.Literals.{Written, Given, items_of, members_of}
use Rattle.gql_model.specs.rules.References.{Reference, to, list, non_null}
use Rattle.gql_model.specs.rules.TypeParts.{Input, Field, Definition, schema, type, bare}

-- ---- short forms, with the column before each name

abbrev pub place : ℕ → Spot
place column = record { line = 1; column = column }

abbrev pub at : ℕ → List ℕ → NameAt
at column name = record { name = name; spot = place column }

abbrev pub named : ℕ → List ℕ → Reference
named column name = to name (place column)

abbrev pub input : ℕ → List ℕ → Reference → Option Written → Input
input column name reference default = record { name = at column name; type = reference; default = default }

abbrev pub field : ℕ → List ℕ → List Input → Reference → Field
field column name arguments reference = record { name = at column name; arguments = arguments; type = reference }

abbrev pub given : ℕ → List ℕ → Written → Given
given column name value = record { name = name; value = value; spot = place column }

abbrev pub root : OperationKind → ℕ → NameAt → RootSyntax
root kind column name = record { kind = kind; kind_spot = place column; name = name }

abbrev pub schema_definition : List RootSyntax → Spot → Definition
schema_definition roots word = schema (record { roots = roots; word = word })

abbrev pub object : NameAt → List NameAt → List Field → Definition
object name implements fields = type (record (bare name kind.Object) { implements = implements; fields = fields })

abbrev pub interface : NameAt → List NameAt → List Field → Definition
interface name implements fields = type (record (bare name kind.Interface) { implements = implements; fields = fields })

abbrev pub union : NameAt → List NameAt → Definition
union name members = type (record (bare name kind.Union) { members = members })

abbrev pub enum : NameAt → List NameAt → Definition
enum name values = type (record (bare name kind.Enum) { values = values })

abbrev pub input_object : NameAt → List Input → Definition
input_object name inputs = type (record (bare name kind.Input) { inputs = inputs })

-- type Query { a: Int }, from a column on
abbrev pub query : ℕ → Definition
query column = object (at (column + 5) (codes "Query")) [] (field (column + 13) (codes "a") [] (named (column + 16) (codes "Int")) ∷ [])

-- ---- kept by all rules

-- type Query { hero: Person crew: [Person!] cast: [Person] none: [Person] } type Person { id: ID! name: String! age: Int boom: String! nick(upper: Boolean = false): String friends: [Person!]! rival: Person }
abbrev pub persons : List Definition
persons =
    object (at 6 (codes "Query")) [] (
    field 14 (codes "hero") [] (named 20 (codes "Person"))
    ∷ field 27 (codes "crew") [] (list (non_null (named 34 (codes "Person"))))
    ∷ field 43 (codes "cast") [] (list (named 50 (codes "Person")))
    ∷ field 58 (codes "none") [] (list (named 65 (codes "Person")))
    ∷ [])
    ∷ object (at 80 (codes "Person")) [] (
    field 89 (codes "id") [] (non_null (named 93 (codes "ID")))
    ∷ field 97 (codes "name") [] (non_null (named 103 (codes "String")))
    ∷ field 111 (codes "age") [] (named 116 (codes "Int"))
    ∷ field 120 (codes "boom") [] (non_null (named 126 (codes "String")))
    ∷ field 134 (codes "nick") (input 139 (codes "upper") (named 146 (codes "Boolean")) (Some (literal.truth false (place 156))) ∷ []) (named 164 (codes "String"))
    ∷ field 171 (codes "friends") [] (non_null (list (non_null (named 181 (codes "Person")))))
    ∷ field 191 (codes "rival") [] (named 198 (codes "Person"))
    ∷ [])
    ∷ []

-- type Query { pet: Pet } interface Pet { name: String } type Dog implements Pet { name: String! }
abbrev pub pets : List Definition
pets =
    object (at 6 (codes "Query")) [] (field 14 (codes "pet") [] (named 19 (codes "Pet")) ∷ [])
    ∷ interface (at 35 (codes "Pet")) [] (field 41 (codes "name") [] (named 47 (codes "String")) ∷ [])
    ∷ object (at 61 (codes "Dog")) (at 76 (codes "Pet") ∷ []) (field 82 (codes "name") [] (non_null (named 88 (codes "String"))) ∷ [])
    ∷ []

-- type Query { f(a: [Int!], b: In): String } input In { x: Int! y: Boolean = true }
abbrev pub arguments : List Definition
arguments =
    object (at 6 (codes "Query")) [] (
    field 14 (codes "f") (input 16 (codes "a") (list (non_null (named 20 (codes "Int")))) None ∷ input 27 (codes "b") (named 30 (codes "In")) None ∷ []) (named 35 (codes "String"))
    ∷ [])
    ∷ input_object (at 50 (codes "In")) (
    input 55 (codes "x") (non_null (named 58 (codes "Int"))) None
    ∷ input 63 (codes "y") (named 66 (codes "Boolean")) (Some (literal.truth true (place 76)))
    ∷ [])
    ∷ []

-- ---- each breaks a rule, and none before it

-- scalar Int type Query { a: Int }
abbrev pub repeated_type : List Definition
repeated_type = type (bare (at 8 (codes "Int")) kind.Scalar) ∷ query 12 ∷ []

-- enum E { A __B } type Query { a: Int }
abbrev pub reserved_name : List Definition
reserved_name = enum (at 6 (codes "E")) (at 10 (codes "A") ∷ at 12 (codes "__B") ∷ []) ∷ query 18 ∷ []

-- scalar Date type Query { a: Int }
abbrev pub scalar_definition : List Definition
scalar_definition = type (bare (at 8 (codes "Date")) kind.Scalar) ∷ query 13 ∷ []

-- type Query { a: Foo }
abbrev pub unknown_type : List Definition
unknown_type = object (at 6 (codes "Query")) [] (field 14 (codes "a") [] (named 17 (codes "Foo")) ∷ []) ∷ []

-- schema { query: Query query: Query } type Query { a: Int }
abbrev pub repeated_root : List Definition
repeated_root =
    schema_definition (root operation.Query 10 (at 17 (codes "Query")) ∷ root operation.Query 23 (at 30 (codes "Query")) ∷ []) (place 1)
    ∷ query 38
    ∷ []

-- schema { mutation: Query } type Query { a: Int }
abbrev pub no_query_in_schema : List Definition
no_query_in_schema = schema_definition (root operation.Mutation 10 (at 20 (codes "Query")) ∷ []) (place 1) ∷ query 28 ∷ []

-- type Person { a: Int }
abbrev pub no_query : List Definition
no_query = object (at 6 (codes "Person")) [] (field 15 (codes "a") [] (named 18 (codes "Int")) ∷ []) ∷ []

-- schema { mutation: Query query: Query } type Query { a: Int }
abbrev pub roots_alike : List Definition
roots_alike =
    schema_definition (root operation.Mutation 10 (at 20 (codes "Query")) ∷ root operation.Query 26 (at 33 (codes "Query")) ∷ []) (place 1)
    ∷ query 41
    ∷ []

-- union Pet type Query { a: Int }
abbrev pub no_member : List Definition
no_member = union (at 7 (codes "Pet")) [] ∷ query 11 ∷ []

-- type Query { a(x: Int, x: Int): Int a: Int }
abbrev pub repeated_argument : List Definition
repeated_argument =
    object (at 6 (codes "Query")) [] (
    field 14 (codes "a") (input 16 (codes "x") (named 19 (codes "Int")) None ∷ input 24 (codes "x") (named 27 (codes "Int")) None ∷ []) (named 33 (codes "Int"))
    ∷ field 37 (codes "a") [] (named 40 (codes "Int"))
    ∷ [])
    ∷ []

-- input In { x: Int } type Query { a: [In] }
abbrev pub input_as_output : List Definition
input_as_output =
    input_object (at 7 (codes "In")) (input 12 (codes "x") (named 15 (codes "Int")) None ∷ [])
    ∷ object (at 26 (codes "Query")) [] (field 34 (codes "a") [] (list (named 38 (codes "In"))) ∷ [])
    ∷ []

-- type Query { a(x: [Query!]): Int }
abbrev pub output_as_input : List Definition
output_as_input =
    object (at 6 (codes "Query")) [] (
    field 14 (codes "a") (input 16 (codes "x") (list (non_null (named 20 (codes "Query")))) None ∷ []) (named 30 (codes "Int"))
    ∷ [])
    ∷ []

-- union U = Query | Query type Query { a: Int }
abbrev pub repeated_member : List Definition
repeated_member = union (at 7 (codes "U")) (at 11 (codes "Query") ∷ at 19 (codes "Query") ∷ []) ∷ query 25 ∷ []

-- type Dog implements Query { a: Int } type Query { a: Int }
abbrev pub no_interface : List Definition
no_interface =
    object (at 6 (codes "Dog")) (at 21 (codes "Query") ∷ []) (field 29 (codes "a") [] (named 32 (codes "Int")) ∷ [])
    ∷ query 38
    ∷ []

-- interface I implements I { a: Int } type Query { a: Int }
abbrev pub implements_itself : List Definition
implements_itself =
    interface (at 11 (codes "I")) (at 24 (codes "I") ∷ []) (field 28 (codes "a") [] (named 31 (codes "Int")) ∷ [])
    ∷ query 37
    ∷ []

-- interface I { a: Int! } type Query implements I { a: Int }
abbrev pub no_subtype : List Definition
no_subtype =
    interface (at 11 (codes "I")) [] (field 15 (codes "a") [] (non_null (named 18 (codes "Int"))) ∷ [])
    ∷ object (at 30 (codes "Query")) (at 47 (codes "I") ∷ []) (field 51 (codes "a") [] (named 54 (codes "Int")) ∷ [])
    ∷ []

-- interface I { a: Int } type Query implements I { a(x: Int!): Int }
abbrev pub required_argument : List Definition
required_argument =
    interface (at 11 (codes "I")) [] (field 15 (codes "a") [] (named 18 (codes "Int")) ∷ [])
    ∷ object (at 29 (codes "Query")) (at 46 (codes "I") ∷ []) (
    field 50 (codes "a") (input 52 (codes "x") (non_null (named 55 (codes "Int"))) None ∷ []) (named 62 (codes "Int"))
    ∷ [])
    ∷ []

-- input In { x: Int! y: Int } type Query { a(b: In = { y: 1 }): Int }
abbrev pub lacks_required : List Definition
lacks_required =
    input_object (at 7 (codes "In")) (
    input 12 (codes "x") (non_null (named 15 (codes "Int"))) None
    ∷ input 20 (codes "y") (named 23 (codes "Int")) None
    ∷ [])
    ∷ object (at 34 (codes "Query")) [] (
    field 42 (codes "a") (input 44 (codes "b") (named 47 (codes "In")) (Some (literal.object (members_of (given 54 (codes "y") (literal.number (codes "1") (place 57)) ∷ [])) (place 52))) ∷ []) (named 63 (codes "Int"))
    ∷ [])
    ∷ []

-- input In { x: Int! y: Int } type Query { a(b: [In] = [{ x: 1 y: true }]): Int }
abbrev pub innermost_literal : List Definition
innermost_literal =
    input_object (at 7 (codes "In")) (
    input 12 (codes "x") (non_null (named 15 (codes "Int"))) None
    ∷ input 20 (codes "y") (named 23 (codes "Int")) None
    ∷ [])
    ∷ object (at 34 (codes "Query")) [] (
    field 42 (codes "a") (input 44 (codes "b") (list (named 48 (codes "In"))) (Some (literal.list (items_of ((literal.object (members_of (given 57 (codes "x") (literal.number (codes "1") (place 60)) ∷ given 62 (codes "y") (literal.truth true (place 65)) ∷ [])) (place 55)) ∷ [])) (place 54))) ∷ []) (named 75 (codes "Int"))
    ∷ [])
    ∷ []

-- input In { x: In! } type Query { a: Int }
abbrev pub holds_itself : List Definition
holds_itself =
    input_object (at 7 (codes "In")) (input 12 (codes "x") (non_null (named 15 (codes "In"))) None ∷ [])
    ∷ query 21
    ∷ []

-- input In { x: In = {} } type Query { a: Int }
abbrev pub default_needs_itself : List Definition
default_needs_itself =
    input_object (at 7 (codes "In")) (
    input 12 (codes "x") (named 15 (codes "In")) (Some (literal.object (members_of []) (place 20)))
    ∷ [])
    ∷ query 25
    ∷ []
