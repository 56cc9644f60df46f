-- Tables as contracts see them, and what they and a schema say to execution.
use Rattle.std.specs.Prelude.{ℕ, Bool, false, cond, ◌==◌, List, [], ◌++◌, map, slice_get, Option, Some, None, codes}
use Rattle.std.specs.List.{list_any}
use Rattle.std.specs.Str.{bytes_eq}
use Rattle.gql_tree.specs.declared.Row.{Row}
use Rattle.gql_model.specs.declared.syntax.Argument.{Argument}
use Rattle.gql_model.specs.declared.schema.Schema.{Schema}
use Rattle.gql_model.specs.declared.schema.TypeDef.{TypeDef}
use Rattle.gql_model.specs.Lists.{keyed}
use Rattle.gql_model.specs.UsedType.{UsedType, named, non_null, used_type_of}
use Rattle.gql_model.specs.World.{World, Cell, null, text, error}

-- a row: its id, and its cells by their keys
pub record TableRow : Type 0 where
  pub id : List ℕ
  pub cells : List (List ℕ × Cell)

-- the rows of each type, by the type's number; and the row of the query root
pub record Tables : Type 0 where
  pub rows : List (List TableRow)
  pub root : Row

abbrev pub row_of : Tables → Row → Option TableRow
row_of t r = elim (slice_get t.rows r.kind) [ None ↦ None | Some rs ↦ slice_get rs r.number ]

-- the member of the row, or null where it is missing
abbrev pub cell_of : Tables → Row → List ℕ → Cell
cell_of t r key = elim (row_of t r) [ None ↦ null | Some row ↦ elim (keyed key row.cells) [ None ↦ null | Some c ↦ c ] ]

-- ---- what execution asks of a type

-- its name, its fields with their types, and the object types that a value of it may have
pub record Kind : Type 0 where
  pub name : List ℕ
  pub fields : List (List ℕ × UsedType)
  pub possible : List ℕ

abbrev pub kind_of : TypeDef → Kind
kind_of d = record { name = d.name; fields = map (λ f. (f.name, used_type_of f.kind)) d.fields; possible = map (λ m. m.number) d.members }

-- a field that every object type has (section 4.1 of the standard)
abbrev pub typename : List ℕ
typename = codes "__typename"

-- the type that a field is declared with
abbrev pub declared_type : List Kind → ℕ → List ℕ → UsedType
declared_type ks k name = elim (slice_get ks k) [ None ↦ named 0 | Some kind ↦ elim (keyed name kind.fields) [ None ↦ named 0 | Some s ↦ s ] ]

-- the type of a field, `__typename` among them
abbrev pub field_type_in : List Kind → ℕ → List ℕ → UsedType
field_type_in ks k name = cond (bytes_eq name typename) (non_null (named 0)) (declared_type ks k name)

abbrev pub name_in : List Kind → ℕ → List ℕ
name_in ks k = elim (slice_get ks k) [ None ↦ [] | Some kind ↦ kind.name ]

abbrev pub fits_in : List Kind → ℕ → ℕ → Bool
fits_in ks of k = elim (slice_get ks of) [ None ↦ false | Some kind ↦ list_any (λ p. p == k) kind.possible ]

-- ---- arguments

-- what coercing a field's arguments gives: the key of its cell, or the name of an argument that is refused
pub data Coerced : Type 0 where
  key : List ℕ → Coerced
  refused : List ℕ → Coerced

-- how the arguments of a field of an object type are coerced
abbrev pub Coercion : Type 0
Coercion = ℕ → List ℕ → List Argument → Coerced

abbrev pub argument_message : List ℕ → List ℕ
argument_message n = codes "Argument " ++ (n ++ codes " is null")

-- a refused argument is an error of its field
abbrev pub coerced_cell : Tables → Row → Coerced → Cell
coerced_cell t row (key k) = cell_of t row k
coerced_cell t row (refused n) = error (argument_message n)

abbrev pub resolved : List Kind → Tables → Coercion → Row → List ℕ → List Argument → Cell
resolved ks t coerce row name args = cond (bytes_eq name typename) (text (name_in ks row.kind)) (coerced_cell t row (coerce row.kind name args))

abbrev pub world : List Kind → Tables → Coercion → World
world ks t coerce = record { field_type = field_type_in ks; cell = resolved ks t coerce; fits = fits_in ks }

-- What a schema and tables say to execution. No contract names it yet: the reader of any schema will.
abbrev pub world_of : Schema → Tables → Coercion → World
world_of s t coerce = world (map kind_of s.types) t coerce

-- where no field takes arguments, each field's cell has the field's name as key
abbrev pub by_name : Coercion
by_name k name args = key name
