-- What a schema's lists hold, by name and by number.
use Rattle.std.specs.Prelude.{ℕ, ◌<◌, List, length, Option, option_map, option_and_then}
use Rattle.std.specs.List.{position, find, slice_get}
use Rattle.std.specs.Str.{bytes_eq}
use Rattle.gql_model.specs.declared.schema.Schema.{Schema}
use Rattle.gql_model.specs.declared.schema.TypeDef.{TypeDef}
use Rattle.gql_model.specs.declared.schema.TypeNo.{TypeNo}
use Rattle.gql_model.specs.declared.schema.FieldDef.{FieldDef}
use Rattle.gql_model.specs.declared.schema.InputDef.{InputDef}

-- the schema has a type of this number
abbrev pub IsNumberOf : Schema → TypeNo → Type 0
IsNumberOf schema of = of.number < length schema.types

abbrev pub type_at : Schema → TypeNo → Option TypeDef
type_at schema of = slice_get schema.types of.number

-- the number of the first type of a name
abbrev pub type_no : Schema → List ℕ → Option TypeNo
type_no schema name = option_map (λ place. record { number = place }) (position (λ definition. bytes_eq definition.name name) schema.types)

-- the object types that a value of the type may have
abbrev pub possible : Schema → TypeNo → Option (List TypeNo)
possible schema of = option_map (λ definition. definition.members) (type_at schema of)

-- the first field of a name
abbrev pub field : Schema → TypeNo → List ℕ → Option FieldDef
field schema of name = option_and_then (λ definition. find (λ field. bytes_eq field.name name) definition.fields) (type_at schema of)

-- the first input field of a name
abbrev pub input : Schema → TypeNo → List ℕ → Option InputDef
input schema of name = option_and_then (λ definition. find (λ input. bytes_eq input.name name) definition.inputs) (type_at schema of)
