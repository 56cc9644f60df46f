-- What execution asks of a schema and of tables.
use Rattle.std.specs.Prelude.{ℕ, ℤ, Bool, List, [], ◌∷◌}
use Rattle.gql_tree.specs.declared.Row.{Row}
use Rattle.gql_model.specs.declared.syntax.Argument.{Argument}
use Rattle.gql_model.specs.UsedType.{UsedType}

-- what a resolver answers: a scalar or an enum value, a row for an object, a list, null, or an error
mutual
  pub data Cell : Type 0 where
    null : Cell
    truth : Bool → Cell
    integer : ℤ → Cell
    text : List ℕ → Cell
    ref : Row → Cell
    error : List ℕ → Cell
    items : Cells → Cell

  pub data Cells : Type 0 where
    none : Cells
    more : Cell → Cells → Cells

abbrev pub cells_of : Cells → List Cell
cells_of none = []
cells_of (more c cs) = c ∷ cells_of cs

pub record World : Type 0 where
  -- the type of a field of an object type
  pub field_type : ℕ → List ℕ → UsedType
  -- ResolveFieldValue, section 6.4.2: what a field of a row with its arguments resolves to
  pub cell : Row → List ℕ → List Argument → Cell
  -- DoesFragmentTypeApply, section 6.3.2: whether the second, an object type, is one of the first
  pub fits : ℕ → ℕ → Bool
