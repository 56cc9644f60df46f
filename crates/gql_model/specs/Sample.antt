-- A small service with its tables, and operations over it, for worked examples.
use Rattle.std.specs.Prelude.{ℕ, pos, List, [], ◌∷◌, Option, Some, None, codes}
use Rattle.gql_tree.specs.declared.Row.{Row}
use Rattle.gql_model.specs.declared.operation.Node.{Node}
use Rattle.gql_model.specs.declared.operation.NodeKind.TheVariants.{Field, Fragment}
use Rattle.gql_model.specs.UsedType.{UsedType, named, list, non_null}
use Rattle.gql_model.specs.World.{World, Cell, null, integer, text, ref, error, items, none, more}
use Rattle.gql_model.specs.Tables.{Tables, Kind, world, by_name}

-- ---- type Query { hero: Person crew: [Person!] cast: [Person] none: [Person] }
-- ---- type Person { id: ID! name: String! age: Int boom: String! }

abbrev pub scalar : UsedType
scalar = named 2

abbrev pub kinds : List Kind
kinds =
    record { name = codes "Query"; fields = (codes "hero", named 1) ∷ (codes "crew", list (non_null (named 1))) ∷ (codes "cast", list (named 1)) ∷ (codes "none", list (named 1)) ∷ []; possible = 0 ∷ [] }
    ∷ record { name = codes "Person"; fields = (codes "id", non_null scalar) ∷ (codes "name", non_null scalar) ∷ (codes "age", scalar) ∷ (codes "boom", non_null scalar) ∷ []; possible = 1 ∷ [] }
    ∷ []

abbrev pub query : Row
query = record { kind = 0; number = 0 }

abbrev pub person : ℕ → Row
person n = record { kind = 1; number = n }

abbrev pub persons : Cell
persons = items (more (ref (person 0)) (more (ref (person 1)) (more (ref (person 2)) none)))

abbrev pub tables : Tables
tables = record {
  root = query;
  rows =
      (record { id = codes "q"; cells = (codes "hero", ref (person 0)) ∷ (codes "crew", persons) ∷ (codes "cast", persons) ∷ (codes "none", items none) ∷ [] } ∷ [])
      ∷ (record { id = codes "1"; cells = (codes "id", text (codes "1")) ∷ (codes "name", text (codes "Luke")) ∷ (codes "age", integer (pos 20)) ∷ (codes "boom", error (codes "bang")) ∷ [] }
      ∷ record { id = codes "2"; cells = (codes "id", text (codes "2")) ∷ (codes "name", text (codes "Leia")) ∷ (codes "boom", error (codes "bang")) ∷ [] }
      ∷ record { id = codes "3"; cells = (codes "id", text (codes "3")) ∷ (codes "name", null) ∷ (codes "boom", error (codes "bang")) ∷ [] } ∷ [])
      ∷ [];
}

abbrev pub service : World
service = world kinds tables by_name

-- ---- operations, with each node's column

abbrev pub operation : List ℕ → Node
operation children = record { kind = Fragment None None; parent = 0; children = children; spot = record { line = 1; column = 1 } }

abbrev pub field : List ℕ → ℕ → List ℕ → ℕ → Node
field name parent children column = record { kind = Field name name [] None; parent = parent; children = children; spot = record { line = 1; column = column } }

abbrev pub streamed : List ℕ → ℕ → ℕ → List ℕ → ℕ → Node
streamed name initial parent children column = record { kind = Field name name [] (Some (record { label = None; initial = initial })); parent = parent; children = children; spot = record { line = 1; column = column } }

abbrev pub deferred : Option (List ℕ) → ℕ → List ℕ → ℕ → Node
deferred label parent children column = record { kind = Fragment None (Some (record { label = label })); parent = parent; children = children; spot = record { line = 1; column = column } }

-- { hero { id } }
abbrev pub one_field : List Node
one_field = operation (1 ∷ []) ∷ field (codes "hero") 0 (2 ∷ []) 3 ∷ field (codes "id") 1 [] 10 ∷ []

-- { hero { id ... @defer(label:"D") { name } } }
abbrev pub one_deferred : List Node
one_deferred = operation (1 ∷ []) ∷ field (codes "hero") 0 (2 ∷ 3 ∷ []) 3 ∷ field (codes "id") 1 [] 10
    ∷ deferred (Some (codes "D")) 1 (4 ∷ []) 13 ∷ field (codes "name") 3 [] 37 ∷ []

-- { hero { id boom ... @defer { name } } }
abbrev pub bubbling : List Node
bubbling = operation (1 ∷ []) ∷ field (codes "hero") 0 (2 ∷ 3 ∷ 4 ∷ []) 3 ∷ field (codes "id") 1 [] 10 ∷ field (codes "boom") 1 [] 13
    ∷ deferred None 1 (5 ∷ []) 18 ∷ field (codes "name") 4 [] 31 ∷ []

-- { crew { name } }
abbrev pub null_item : List Node
null_item = operation (1 ∷ []) ∷ field (codes "crew") 0 (2 ∷ []) 3 ∷ field (codes "name") 1 [] 10 ∷ []

-- { hero { id ... @defer(label:"A"){ name boom } ... @defer(label:"B"){ name age } } }
abbrev pub shared : List Node
shared = operation (1 ∷ []) ∷ field (codes "hero") 0 (2 ∷ 3 ∷ 6 ∷ []) 3 ∷ field (codes "id") 1 [] 10
    ∷ deferred (Some (codes "A")) 1 (4 ∷ 5 ∷ []) 13 ∷ field (codes "name") 3 [] 36 ∷ field (codes "boom") 3 [] 41
    ∷ deferred (Some (codes "B")) 1 (7 ∷ 8 ∷ []) 48 ∷ field (codes "name") 6 [] 71 ∷ field (codes "age") 6 [] 76 ∷ []

-- { crew @stream(initialCount:1) { name } }
abbrev pub stream : List Node
stream = operation (1 ∷ []) ∷ streamed (codes "crew") 1 0 (2 ∷ []) 3 ∷ field (codes "name") 1 [] 34 ∷ []

-- { hero { __typename } }
abbrev pub type_names : List Node
type_names = operation (1 ∷ []) ∷ field (codes "hero") 0 (2 ∷ []) 3 ∷ field (codes "__typename") 1 [] 10 ∷ []

-- { hero { id ... @defer(label:"D") { boom } } }
abbrev pub failing : List Node
failing = operation (1 ∷ []) ∷ field (codes "hero") 0 (2 ∷ 3 ∷ []) 3 ∷ field (codes "id") 1 [] 10
    ∷ deferred (Some (codes "D")) 1 (4 ∷ []) 13 ∷ field (codes "boom") 3 [] 37 ∷ []
