-- The tables that are accepted: a list `Query` of one row, and a list `Person` of rows, as in
--
--     {"Query": [{"@id": "q", "hero": {"ref": "1"}}],
--      "Person": [{"@id": "1", "id": "1", "name": "Luke", "age": 20, "boom": {"error": "bang"}}]}
use Rattle.std.specs.Prelude.{ℕ, suc, ℤ, pos, negsuc, ◌^◌, ◌==◌, ◌&&◌, not, nat_lt, if◌then◌else◌, Bool, true, false, List, [], ◌∷◌, map, length, Option, Some, None, is_some, option_map, option_and_then, codes}
use Rattle.std.specs.List.{list_any}
use Rattle.std.specs.Option.{option_or}
use Rattle.std.specs.Str.{bytes_eq, is_utf8}
use Rattle.serde_json.specs.Data.{Data, object, Items, no_items, item}
use Rattle.serde_json.specs.Events.{members_len}
use Rattle.serde_json.specs.Find.{get, as_null, as_str, as_number, as_i64, as_array}
use Rattle.serde_json.specs.Read.{read}
use Rattle.gql_model.specs.World.{Cell, null, integer, text, ref, error}
use Rattle.gql_model.specs.Tables.{Tables, TableRow}
use Rattle.gql_tool.specs.declared.hero.tables.LeafCell.{LeafCell}
use Rattle.gql_tool.specs.declared.hero.tables.LeafCell.TheVariants as leaf
use Rattle.gql_tool.specs.declared.hero.tables.HeroCell.{HeroCell}
use Rattle.gql_tool.specs.declared.hero.tables.HeroCell.TheVariants as hero
use Rattle.gql_tool.specs.declared.hero.tables.Person.{Person}
use Rattle.gql_tool.specs.declared.hero.tables.HeroTables.{HeroTables}

-- ---- JSON

-- the JSON that bytes are: they are UTF-8, and of equal names in an object the last counts
abbrev pub json_in : List ℕ → Option Data
json_in bytes = if is_utf8 bytes then read bytes else None

-- an object's member of this name, if it is a text
abbrev pub text_at : List ℕ → Data → Option (List ℕ)
text_at name d = option_and_then as_str (get name d)

-- an object's member of this name, if it is a list
abbrev pub list_at : List ℕ → Data → Option Items
list_at name d = option_and_then as_array (get name d)

-- an object of exactly one member
abbrev pub is_single : Data → Bool
is_single (object members) = members_len members == 1
is_single _ = false

-- an object's only member, if it has this name and is a text
abbrev pub only_text : List ℕ → Data → Option (List ℕ)
only_text name d = if is_single d then text_at name d else None

-- ---- cells

-- {"error": MESSAGE}
abbrev pub error_in : Data → Option (List ℕ)
error_in d = only_text (codes "error") d

abbrev pub is_null : Data → Bool
is_null d = is_some (as_null d)

-- what each cell of a person may be
abbrev pub null_or_error : Data → Option LeafCell
null_or_error d = if is_null d then Some leaf.Null else option_map leaf.Error (error_in d)

abbrev pub plain_text : Data → Option LeafCell
plain_text d = option_map leaf.Text (as_str d)

-- 32 signed bits
abbrev pub is_int32 : ℤ → Bool
is_int32 (pos n) = nat_lt n (2 ^ 31)
is_int32 (negsuc n) = nat_lt n (2 ^ 31)

abbrev pub int32 : ℤ → Option LeafCell
int32 n = if is_int32 n then Some (leaf.Int n) else None

-- an integer of 32 signed bits
abbrev pub plain_int : Data → Option LeafCell
plain_int d = option_and_then int32 (option_and_then as_i64 (as_number d))

-- a cell that isn't there is null
abbrev pub cell_by : (Data → Option LeafCell) → Option Data → Option LeafCell
cell_by plain None = Some leaf.Null
cell_by plain (Some d) = option_or (null_or_error d) (plain d)

abbrev pub text_cell : List ℕ → Data → Option LeafCell
text_cell name row = cell_by plain_text (get name row)

abbrev pub int_cell : List ℕ → Data → Option LeafCell
int_cell name row = cell_by plain_int (get name row)

-- ---- persons

-- a person of an id and cells, if each of them is accepted
abbrev pub person_by : Option (List ℕ) → Option LeafCell → Option LeafCell → Option LeafCell → Option LeafCell → Option Person
person_by (Some row_id) (Some id) (Some name) (Some age) (Some boom) = Some (record { row_id = row_id; id = id; name = name; age = age; boom = boom })
person_by _ _ _ _ _ = None

abbrev pub person_in : Data → Option Person
person_in row = person_by (text_at (codes "@id") row) (text_cell (codes "id") row) (text_cell (codes "name") row) (int_cell (codes "age") row) (text_cell (codes "boom") row)

-- the persons of a list of rows, if each row is one
abbrev pub persons_in : Items → Option (List Person)
persons_in no_items = Some []
persons_in (item row rows) = option_and_then (λ person. option_map (λ more. person ∷ more) (persons_in rows)) (person_in row)

abbrev pub row_ids : List Person → List (List ℕ)
row_ids persons = map (λ person. person.row_id) persons

-- ---- ids

abbrev pub stands_in : List ℕ → List (List ℕ) → Bool
stands_in id ids = list_any (λ other. bytes_eq id other) ids

-- no id stands twice
abbrev pub all_distinct : List (List ℕ) → Bool
all_distinct [] = true
all_distinct (id ∷ ids) = not (stands_in id ids) && all_distinct ids

-- which of the ids this is, from 0
abbrev pub number_of : List ℕ → List (List ℕ) → Option ℕ
number_of id [] = None
number_of id (other ∷ ids) = if bytes_eq id other then Some 0 else option_map suc (number_of id ids)

-- ---- the hero

-- {"ref": ID} of a row that is there
abbrev pub ref_in : List (List ℕ) → Data → Option HeroCell
ref_in ids d = option_map hero.Ref (option_and_then (λ id. number_of id ids) (only_text (codes "ref") d))

-- null, an error or a reference; a cell that isn't there is null
abbrev pub hero_by : List (List ℕ) → Option Data → Option HeroCell
hero_by ids None = Some hero.Null
hero_by ids (Some d) = if is_null d then Some hero.Null else option_or (option_map hero.Error (error_in d)) (ref_in ids d)

-- the hero of a query row among rows of these ids
abbrev pub hero_cell : List (List ℕ) → Data → Option HeroCell
hero_cell ids row = hero_by ids (get (codes "hero") row)

-- ---- tables

-- a list's row, if there is one alone
abbrev pub only_row : Items → Option Data
only_row (item row no_items) = Some row
only_row _ = None

-- fewer than 2 ^ 32 persons, and no id twice among them and the query row
abbrev pub fits_together : List ℕ → List (List ℕ) → Bool
fits_together query_id ids = nat_lt (length ids) (2 ^ 32) && all_distinct (query_id ∷ ids)

-- the hero of a query row with this id among rows of these ids
abbrev pub hero_among : List ℕ → List (List ℕ) → Data → Option HeroCell
hero_among query_id ids query = if fits_together query_id ids then hero_cell ids query else None

abbrev pub tables_by : Data → Option (List ℕ) → Option (List Person) → Option HeroTables
tables_by query (Some query_id) (Some persons) = option_map (λ hero. record { query_id = query_id; hero = hero; persons = persons }) (hero_among query_id (row_ids persons) query)
tables_by query _ _ = None

-- the tables that a JSON holds
abbrev pub tables_held : Data → Option HeroTables
tables_held file = option_and_then (λ query. tables_by query (text_at (codes "@id") query) (option_and_then persons_in (list_at (codes "Person") file))) (option_and_then only_row (list_at (codes "Query") file))

-- the tables that bytes are
abbrev pub tables_in : List ℕ → Option HeroTables
tables_in bytes = option_and_then tables_held (json_in bytes)

-- ---- what they say to execution

abbrev pub leaf_cell : LeafCell → Cell
leaf_cell leaf.Null = null
leaf_cell (leaf.Int n) = integer n
leaf_cell (leaf.Text t) = text t
leaf_cell (leaf.Error m) = error m

abbrev pub hero_row : HeroCell → Cell
hero_row hero.Null = null
hero_row (hero.Error m) = error m
hero_row (hero.Ref n) = ref (record { kind = 1; number = n })

abbrev pub person_row : Person → TableRow
person_row person = record { id = person.row_id; cells = (codes "id", leaf_cell person.id) ∷ (codes "name", leaf_cell person.name) ∷ (codes "age", leaf_cell person.age) ∷ (codes "boom", leaf_cell person.boom) ∷ [] }

-- type 0 is `Query` and type 1 `Person`
abbrev pub tables_of : HeroTables → Tables
tables_of t = record {
  rows = (record { id = t.query_id; cells = (codes "hero", hero_row t.hero) ∷ [] } ∷ []) ∷ map person_row t.persons ∷ [];
  root = record { kind = 0; number = 0 };
}
