-- A leaf of the hero by the general definitions.
use Rattle.std.proofs.Common.{◌≡◌, refl, ap, ◌∙◌, ℕ, List, [], ◌∷◌, ◌++◌, Option, Some, None}
use Rattle.std.specs.Prelude.{slice_get, option_map}
use Rattle.std.proofs.lemmas.Option.{slice_get-map}
use Rattle.gql_tree.specs.declared.Key.{Key}
use Rattle.gql_tree.specs.declared.Key.TheVariants.{Name as Named_key}
use Rattle.gql_tree.specs.declared.Spot.{Spot}
use Rattle.gql_tree.specs.declared.Row.{Row}
use Rattle.gql_tree.specs.declared.Detail.{Detail}
use Rattle.gql_model.specs.declared.Node.{Node}
use Rattle.gql_model.specs.World.{Cell}
use Rattle.gql_model.specs.Tables.{row_of, TableRow, cell_of}
use Rattle.gql_model.specs.Complete.{Part, Found, complete}
use Rattle.gql_model.specs.Objects.{executed_at, node_of, field_part, stream_at}
use Rattle.gql_tool.specs.declared.hero.shape.LeafName.{LeafName}
use Rattle.gql_tool.specs.declared.hero.shape.LeafName.TheVariants.{Id, Name, Age, Boom}
use Rattle.gql_tool.specs.declared.hero.shape.Leaf.{Leaf}
use Rattle.gql_tool.specs.declared.hero.tables.LeafCell.{LeafCell}
use Rattle.gql_tool.specs.declared.hero.tables.LeafCell.TheVariants.{Null, Int, Text, Error}
use Rattle.gql_tool.specs.declared.hero.tables.Person.{Person}
use Rattle.gql_tool.specs.declared.hero.tables.HeroTables.{HeroTables}
use Rattle.gql_tool.specs.hero.HeroTables.{leaf_cell, person_row, tables_of}
use Rattle.gql_tool.specs.hero.Service.{service}
use Rattle.gql_tool.specs.hero.Operation.{name_of, leaf_node}
use Rattle.gql_tool.specs.hero.Hero.{hero_path, is_required, cell_under, cell_part, leaf_part}

abbrev person : ℕ → Row
person n = record { kind = 1; number = n }

-- the row of a person
row_of-person : (t : HeroTables) (n : ℕ) (p : Person) → slice_get t.persons n ≡ Some p → row_of (tables_of t) (person n) ≡ Some (person_row p)
row_of-person t n p is = slice_get-map person_row t.persons n ∙ ap (option_map person_row) is

-- the cell of a leaf in the row of a person
abbrev in_row : List ℕ → Option TableRow → Cell
in_row key None = Rattle.gql_model.specs.World.null
in_row key (Some row) = elim (Rattle.gql_model.specs.Lists.keyed key row.cells) [ None ↦ Rattle.gql_model.specs.World.null | Some c ↦ c ]

cell-in_row : (p : Person) (name : LeafName) → in_row (name_of name) (Some (person_row p)) ≡ leaf_cell (cell_under p name)
cell-in_row p Id = refl
cell-in_row p Name = refl
cell-in_row p Age = refl
cell-in_row p Boom = refl

cell_of-in_row : (t : HeroTables) (n : ℕ) (key : List ℕ) → cell_of (tables_of t) (person n) key ≡ in_row key (row_of (tables_of t) (person n))
cell_of-in_row t n key = by_row (row_of (tables_of t) (person n))
  where
    by_row : (o : Option TableRow) → elim o [ None ↦ Rattle.gql_model.specs.World.null | Some row ↦ elim (Rattle.gql_model.specs.Lists.keyed key row.cells) [ None ↦ Rattle.gql_model.specs.World.null | Some c ↦ c ] ] ≡ in_row key o
    by_row None = refl
    by_row (Some row) = refl

cell-resolved : (t : HeroTables) (n : ℕ) (name : LeafName) → (service t).cell (person n) (name_of name) [] ≡ cell_of (tables_of t) (person n) (name_of name)
cell-resolved t n Id = refl
cell-resolved t n Name = refl
cell-resolved t n Age = refl
cell-resolved t n Boom = refl

cell-person : (t : HeroTables) (n : ℕ) (p : Person) (name : LeafName) → slice_get t.persons n ≡ Some p → (service t).cell (person n) (name_of name) [] ≡ leaf_cell (cell_under p name)
cell-person t n p name is = cell-resolved t n name ∙ (cell_of-in_row t n (name_of name) ∙ (ap (in_row (name_of name)) (row_of-person t n p is) ∙ cell-in_row p name))

-- completing a leaf's cell
complete-leaf : (t : HeroTables) (spot : Spot) (object : Row → List Key → Part) (streams : ℕ → ℕ → List Key → Found) (name : LeafName) (c : LeafCell) (path : List Key) → complete spot object streams ((service t).field_type 1 (name_of name)) None (leaf_cell c) path ≡ cell_part (is_required name) spot path c
complete-leaf t spot object streams Id Null path = refl
complete-leaf t spot object streams Id (Int n) path = refl
complete-leaf t spot object streams Id (Text s) path = refl
complete-leaf t spot object streams Id (Error m) path = refl
complete-leaf t spot object streams Name Null path = refl
complete-leaf t spot object streams Name (Int n) path = refl
complete-leaf t spot object streams Name (Text s) path = refl
complete-leaf t spot object streams Name (Error m) path = refl
complete-leaf t spot object streams Age Null path = refl
complete-leaf t spot object streams Age (Int n) path = refl
complete-leaf t spot object streams Age (Text s) path = refl
complete-leaf t spot object streams Age (Error m) path = refl
complete-leaf t spot object streams Boom Null path = refl
complete-leaf t spot object streams Boom (Int n) path = refl
complete-leaf t spot object streams Boom (Text s) path = refl
complete-leaf t spot object streams Boom (Error m) path = refl

-- a leaf's field by the leaf's node
pub field_part-leaf : (t : HeroTables) (nodes : List Node) (object : Row → List Key → Part) (n : ℕ) (p : Person) (parent : ℕ) (leaf : Leaf) (d : Detail) → slice_get t.persons n ≡ Some p → d.key ≡ name_of leaf.name → node_of nodes d ≡ Some (leaf_node parent leaf) → field_part (service t) nodes object (person n) hero_path d ≡ leaf_part p leaf
field_part-leaf t nodes object n p parent leaf d is key node =
    ap (executed_at (service t) nodes object (person n) hero_path d) node
    ∙ (ap (λ (c : Cell). complete leaf.spot object (stream_at (person n) d None) ((service t).field_type 1 (name_of leaf.name)) None c (hero_path ++ Named_key d.key ∷ [])) (cell-person t n p leaf.name is)
    ∙ (complete-leaf t leaf.spot object (stream_at (person n) d None) leaf.name (cell_under p leaf.name) (hero_path ++ Named_key d.key ∷ [])
    ∙ ap (λ (k : List ℕ). cell_part (is_required leaf.name) leaf.spot (hero_path ++ Named_key k ∷ []) (cell_under p leaf.name)) key))
