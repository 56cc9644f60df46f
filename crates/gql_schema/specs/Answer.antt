-- What a text is to the reader of schemas: a schema, or the reason why it says none.
use Rattle.std.specs.Prelude.{◌≡◌, ℕ, List, Some, None, Result, Ok, Err}
use Rattle.gql_doc.specs.Answer.{IsTypes, TypesAnswers}
use Rattle.gql_doc.specs.declared.refusal.ParseRefusal.{ParseRefusal}
use Rattle.gql_doc.specs.declared.refusal.ParseRefusal.TheVariants as parse
use Rattle.gql_model.specs.declared.schema.Schema.{Schema}
use Rattle.gql_model.specs.declared.type_syntax.TypeDocument.{TypeDocument}
use Rattle.gql_model.specs.SaidSchema.{SeenSchema, seen_schema, said_schema}
use Rattle.gql_model.specs.rules.SchemaRules.{first_broken_rule}
use Rattle.gql_model.specs.rules.TypeParts.{definitions}
use Rattle.gql_schema.specs.declared.refusal.SchemaRefusal.{SchemaRefusal}
use Rattle.gql_schema.specs.declared.refusal.SchemaRefusal.TheVariants as refusal

-- definitions that keep the rules, and the schema that they say
abbrev pub Says : TypeDocument → Schema → Type 0
Says d schema = (first_broken_rule d ≡ None) × (said_schema (definitions d) ≡ Some (seen_schema schema))

-- what is answered of type definitions
abbrev pub Judges : TypeDocument → Result Schema SchemaRefusal → Type 0
Judges d (Ok schema) = Says d schema
Judges d (Err (refusal.Parse why)) = ⊥
Judges d (Err (refusal.Rule number spot)) = first_broken_rule d ≡ Some (number, spot)
Judges d (Err refusal.NoMemory) = Unit {0}

-- what is answered of a text
abbrev pub SchemaAnswers : List ℕ → Result Schema SchemaRefusal → Type 0
SchemaAnswers text (Err (refusal.Parse parse.NoMemory)) = ⊥
SchemaAnswers text (Err (refusal.Parse why)) = TypesAnswers text (Err why)
SchemaAnswers text (Err refusal.NoMemory) = Unit {0}
SchemaAnswers text result = (d : TypeDocument) × IsTypes text d × Judges d result

-- why a text says no schema that is no document of type definitions
abbrev pub unread : ParseRefusal → SchemaRefusal
unread parse.NoMemory = refusal.NoMemory
unread why = refusal.Parse why

-- an answer, by what a schema is seen as
abbrev pub seen_answer : Result Schema SchemaRefusal → Result SeenSchema SchemaRefusal
seen_answer (Ok schema) = Ok (seen_schema schema)
seen_answer (Err why) = Err why
