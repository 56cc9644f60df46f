-- What tables keep beside a schema.
use Rattle.std.specs.Prelude.{◌≡◌, ◌≢◌, ◌⊎◌, ℕ, ℤ, pos, negsuc, ◌<◌, ◌^◌, List, [], ◌∷◌, ◌++◌, map, flat_map, length, unwrap_or, Some, slice_get, Contains, All, AllPairs, codes}
use Rattle.gql_tree.specs.declared.Row.{Row}
use Rattle.gql_model.specs.declared.schema.Schema.{Schema}
use Rattle.gql_model.specs.declared.schema.TypeDef.{TypeDef}
use Rattle.gql_model.specs.declared.schema.FieldDef.{FieldDef}
use Rattle.gql_model.specs.declared.schema.InputDef.{InputDef}
use Rattle.gql_model.specs.declared.schema.TypeKind.TheVariants.{Scalar, Object, Enum}
use Rattle.gql_model.specs.UsedType.{UsedType, named, list, non_null, used_type_of}
use Rattle.gql_model.specs.World.{Cell, Cells, null, truth, integer, text, ref, error, items, none, more, cells_of}
use Rattle.gql_model.specs.Tables.{Tables, TableRow, row_of}

-- ---- a cell of a type

-- a whole number of 32 signed bits (section 3.5.1 of the standard)
abbrev pub IsInt32 : ℤ → Type 0
IsInt32 (pos n) = n < 2 ^ 31
IsInt32 (negsuc n) = n < 2 ^ 31

abbrev pub IsBuiltIn : TypeDef → List ℕ → Type 0
IsBuiltIn d name = (d.kind ≡ Scalar) × (d.name ≡ name)

-- a scalar or an enum value by its result kind; an ID's is a text
abbrev pub FitsLeaf : TypeDef → Cell → Type 0
FitsLeaf d (truth b) = IsBuiltIn d (codes "Boolean")
FitsLeaf d (integer n) = IsBuiltIn d (codes "Int") × IsInt32 n
FitsLeaf d (text t) = IsBuiltIn d (codes "String") ⊎ (IsBuiltIn d (codes "ID") ⊎ ((d.kind ≡ Enum) × Contains d.values t))
FitsLeaf d _ = ⊥

-- a row that is there, of an object type that a value of this type may have
abbrev pub FitsObject : Tables → TypeDef → Row → Type 0
FitsObject t d r = Contains d.members (record { number = r.kind }) × ((row : TableRow) × (row_of t r ≡ Some row))

module _ (s : Schema) (t : Tables) where
  abbrev pub FitsNamed : ℕ → Cell → Type 0
  FitsNamed n null = Unit {0}
  FitsNamed n (error m) = Unit {0}
  FitsNamed n (ref r) = (d : TypeDef) × (slice_get s.types n ≡ Some d) × FitsObject t d r
  FitsNamed n c = (d : TypeDef) × (slice_get s.types n ≡ Some d) × FitsLeaf d c

  abbrev mutual
    -- a list has fewer than 2 ^ 32 items
    pub FitsList : (Cell → Type 0) → Cell → Type 0
    FitsList fits null = Unit {0}
    FitsList fits (error m) = Unit {0}
    FitsList fits (items cs) = (length (cells_of cs) < 2 ^ 32) × FitsAll fits cs
    FitsList fits _ = ⊥

    pub FitsAll : (Cell → Type 0) → Cells → Type 0
    FitsAll fits none = Unit {0}
    FitsAll fits (more c cs) = fits c × FitsAll fits cs

  -- null and an error fit every type; Non-Nulls are left aside
  abbrev pub Fits : UsedType → Cell → Type 0
  Fits (named n) c = FitsNamed n c
  Fits (list inner) c = FitsList (Fits inner) c
  Fits (non_null inner) c = Fits inner c

-- ---- tables

-- a field without arguments has its name as key, one with arguments `NAME(..)`
abbrev pub IsKey : List ℕ → List InputDef → List ℕ → Type 0
IsKey name [] key = key ≡ name
IsKey name (a ∷ as') key = (inner : List ℕ) × (key ≡ name ++ (codes "(" ++ (inner ++ codes ")")))

abbrev pub FitsField : Schema → Tables → List ℕ → Cell → FieldDef → Type 0
FitsField s t key c f = IsKey f.name f.arguments key × Fits s t (used_type_of f.kind) c

-- a cell of a row of this type: it fits a field that has its key
abbrev pub FitsRow : Schema → Tables → ℕ → List ℕ × Cell → Type 0
FitsRow s t k cell = (d : TypeDef) × (f : FieldDef) × (slice_get s.types k ≡ Some d) × Contains d.fields f × FitsField s t cell.0 cell.1 f

abbrev pub rows_of : Tables → ℕ → List TableRow
rows_of t k = unwrap_or (slice_get t.rows k) []

abbrev pub row_ids : Tables → List (List ℕ)
row_ids t = flat_map (λ rs. map (λ r. r.id) rs) t.rows

pub record Lawful (s : Schema) (t : Tables) : Type 0 where
  -- a table for each type, shorter than 2 ^ 32 rows, and rows of object types alone
  pub tables : length t.rows ≡ length s.types
  pub short : (k : ℕ) → length (rows_of t k) < 2 ^ 32
  pub objects : (k : ℕ) (d : TypeDef) → slice_get s.types k ≡ Some d → d.kind ≢ Object → rows_of t k ≡ []
  -- the query root's one row
  pub root : t.root ≡ record { kind = s.query.number; number = 0 }
  pub one_root : length (rows_of t s.query.number) ≡ 1
  -- no id twice in all tables, and no key twice in a row
  pub ids : AllPairs (λ a b. a ≢ b) (row_ids t)
  pub keys : (r : Row) (row : TableRow) → row_of t r ≡ Some row → AllPairs (λ a b. a ≢ b) (map (λ c. c.0) row.cells)
  pub cells : (r : Row) (row : TableRow) → row_of t r ≡ Some row → All (FitsRow s t r.kind) row.cells
