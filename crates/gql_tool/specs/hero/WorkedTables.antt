-- Texts of tables, for worked examples.
use Rattle.std.specs.Prelude.{ℕ, List, [], ◌∷◌, ◌++◌, map, flat_map, codes}
use Rattle.gql_model.specs.World.{Cell}
use Rattle.gql_model.specs.Tables.{Tables, cell_of}
use Rattle.gql_model.specs.Sample.{query, person}

-- the rows of the sample service, with the hero's cell
abbrev pub with_hero : List ℕ → List ℕ
with_hero hero =
    codes "{\"Query\":[{\"@id\":\"q\",\"hero\":" ++ (hero ++ codes "}],\"Person\":[{\"@id\":\"1\",\"id\":\"1\",\"name\":\"Luke\",\"age\":20,\"boom\":{\"error\":\"bang\"}},{\"@id\":\"2\",\"id\":\"2\",\"name\":\"Leia\",\"boom\":{\"error\":\"bang\"}},{\"@id\":\"3\",\"id\":\"3\",\"name\":null,\"boom\":{\"error\":\"bang\"}}]}")

-- one person with the id `1`, and a cell of hers
abbrev pub with_cell : List ℕ → List ℕ
with_cell cell = codes "{\"Query\":[{\"@id\":\"q\"}],\"Person\":[{\"@id\":\"1\"," ++ (cell ++ codes "}]}")

-- what tables say of each field that a document may ask for
abbrev pub said : Tables → List Cell
said t = cell_of t query (codes "hero") ∷ flat_map (λ n. map (cell_of t (person n)) (codes "id" ∷ codes "name" ∷ codes "age" ∷ codes "boom" ∷ [])) (0 ∷ 1 ∷ 2 ∷ [])
