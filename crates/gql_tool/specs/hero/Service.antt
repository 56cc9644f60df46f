-- The service of heroes: its schema's types, and what they and its tables say to execution.
use Rattle.std.specs.Prelude.{ℕ, List, [], ◌∷◌, codes}
use Rattle.gql_model.specs.UsedType.{UsedType, named, list, non_null}
use Rattle.gql_model.specs.World.{World}
use Rattle.gql_model.specs.Tables.{Kind, world, by_name}
use Rattle.gql_tree.specs.declared.Row.{Row}
use Rattle.gql_tool.specs.declared.hero.tables.HeroTables.{HeroTables}
use Rattle.gql_tool.specs.hero.HeroTables.{tables_of}

-- the built-in scalars stand behind the two object types
abbrev pub int : UsedType
int = named 2

abbrev pub string : UsedType
string = named 3

abbrev pub id_type : UsedType
id_type = named 5

abbrev pub scalar : List ℕ → Kind
scalar name = record { name = name; fields = []; possible = [] }

abbrev pub kinds : List Kind
kinds =
    record { name = codes "Query"; fields = (codes "hero", named 1) ∷ (codes "crew", list (non_null (named 1))) ∷ (codes "cast", list (named 1)) ∷ (codes "none", list (named 1)) ∷ []; possible = 0 ∷ [] }
    ∷ record { name = codes "Person"; fields = (codes "id", non_null id_type) ∷ (codes "name", non_null string) ∷ (codes "age", int) ∷ (codes "boom", non_null string) ∷ (codes "nick", string) ∷ (codes "friends", non_null (list (non_null (named 1)))) ∷ (codes "rival", named 1) ∷ []; possible = 1 ∷ [] }
    ∷ scalar (codes "Int") ∷ scalar (codes "String") ∷ scalar (codes "Boolean") ∷ scalar (codes "ID") ∷ []

-- none of the accepted documents' fields takes arguments
abbrev pub service : HeroTables → World
service t = world kinds (tables_of t) by_name

-- the row of the query root
abbrev pub query : Row
query = record { kind = 0; number = 0 }
