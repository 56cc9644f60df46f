-- A type in use, as plain data.
use Rattle.std.specs.Prelude.{ℕ}
use Rattle.gql_model.specs.declared.schema.TypeUse.{TypeUse}
use Rattle.gql_model.specs.declared.schema.TypeUse.TheOpen.{TypeUse-F}
use Rattle.gql_model.specs.declared.schema.TypeUse.TheFolds.{fold-TypeUse}

-- a named type by its number, or a list or the non-null of one
pub data UsedType : Type 0 where
  named : ℕ → UsedType
  list : UsedType → UsedType
  non_null : UsedType → UsedType

-- one level, in which the type below is plain data already
abbrev pub used_type_step : TypeUse-F UsedType → UsedType
used_type_step (TypeUse-F.Named t) = named t.number
used_type_step (TypeUse-F.List s) = list s
used_type_step (TypeUse-F.NonNull s) = non_null s

-- the plain data of a type in use
abbrev pub used_type_of : TypeUse → UsedType
used_type_of = fold-TypeUse UsedType used_type_step
