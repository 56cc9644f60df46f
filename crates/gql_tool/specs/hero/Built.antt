-- Which requests this build executes, and the regions that they have.
use Rattle.std.specs.Prelude.{ℕ, ◌&&◌, List, Option, None, option_map, option_and_then, bytes_eq, codes, if◌then◌else◌}
use Rattle.gql_tree.specs.Forest.{Forest}
use Rattle.gql_model.specs.Operations.{forest}
use Rattle.gql_model.specs.declared.syntax.Document.{Document}
use Rattle.gql_tool.specs.declared.hero.shape.HeroDocument.{HeroDocument}
use Rattle.gql_tool.specs.declared.hero.tables.HeroTables.{HeroTables}
use Rattle.gql_tool.specs.declared.hero.request.HeroRequest.{HeroRequest}
use Rattle.gql_tool.specs.hero.Shape.{hero_of}
use Rattle.gql_tool.specs.hero.HeroTables.{tables_in}
use Rattle.gql_tool.specs.hero.Operation.{nodes_of}
use Rattle.gql_tool.specs.hero.Service.{service, query}

-- the one schema that is built, byte for byte
abbrev pub schema_text : List ℕ
schema_text = codes "type Query { hero: Person crew: [Person!] cast: [Person] none: [Person] }\ntype Person { id: ID! name: String! age: Int boom: String!\n  nick(upper: Boolean = false): String friends: [Person!]! rival: Person }\n"

-- no variables
abbrev pub no_variables : List ℕ
no_variables = codes "-"

abbrev pub request_with : HeroTables → HeroDocument → HeroRequest
request_with t d = record { tables = t; document = d }

-- the tables and the query of the hero, where this build executes the request
abbrev pub built : (vars schema tables : List ℕ) (document : Document) → Option HeroRequest
built vars schema tables document =
    if bytes_eq vars no_variables && bytes_eq schema schema_text
    then option_and_then (λ t. option_map (request_with t) (hero_of document)) (tables_in tables)
    else None

-- the regions of the operation over the tables
abbrev pub regions : HeroTables → HeroDocument → Forest
regions t d = forest (service t) (nodes_of d) query

abbrev pub regions_of : HeroRequest → Forest
regions_of request = regions request.tables request.document

-- the regions of a request, where this build executes it
abbrev pub forest_of : (vars schema tables : List ℕ) (document : Document) → Option Forest
forest_of vars schema tables document = option_map regions_of (built vars schema tables document)
