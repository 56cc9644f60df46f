-- Type references (section 2.11 of the standard) as plain data.
use Rattle.std.specs.Prelude.{ℕ, Bool, true, false, List}
use Rattle.std.specs.Str.{bytes_eq}
use Rattle.gql_tree.specs.declared.Spot.{Spot}
use Rattle.gql_model.specs.declared.syntax.TypeRef.{TypeRef}
use Rattle.gql_model.specs.declared.syntax.TypeRef.TheOpen.{TypeRef-F}
use Rattle.gql_model.specs.declared.syntax.TypeRef.TheFolds.{fold-TypeRef}
use Rattle.gql_model.specs.declared.type_syntax.NameAt.{NameAt}

-- a named type with its place, or a list or the Non-Null of one
pub data Reference : Type 0 where
  to : List ℕ → Spot → Reference
  list : Reference → Reference
  non_null : Reference → Reference

abbrev pub reference_level : TypeRef-F Reference → Reference
reference_level (TypeRef-F.Named name spot) = to name spot
reference_level (TypeRef-F.List r) = list r
reference_level (TypeRef-F.NonNull r) = non_null r

abbrev pub reference : TypeRef → Reference
reference = fold-TypeRef Reference reference_level

-- the named type that it is built on
abbrev pub innermost : Reference → NameAt
innermost (to name spot) = record { name = name; spot = spot }
innermost (list r) = innermost r
innermost (non_null r) = innermost r

abbrev pub is_non_null : Reference → Bool
is_non_null (non_null r) = true
is_non_null _ = false

-- whether they are the same type, wherever they stand
abbrev pub same_type : Reference → Reference → Bool
same_type (to a _) (to b _) = bytes_eq a b
same_type (list r) (list s) = same_type r s
same_type (non_null r) (non_null s) = same_type r s
same_type _ _ = false
