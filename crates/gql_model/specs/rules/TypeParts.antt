-- A document of type definitions as plain data, and its parts in order of the text. Definitions of directives are left out:
-- no rule looks at them.
use Rattle.std.specs.Prelude.{ℕ, Bool, true, false, ◌&&◌, List, [], ◌∷◌, ◌++◌, map, flat_map, filter_map, find, Option, Some, None, option_map, is_none, codes}
use Rattle.std.specs.Str.{bytes_eq}
use Rattle.gql_tree.specs.declared.Spot.{Spot}
use Rattle.gql_model.specs.declared.schema.TypeKind.{TypeKind}
use Rattle.gql_model.specs.declared.schema.TypeKind.TheVariants as kind
use Rattle.gql_model.specs.declared.type_syntax.NameAt.{NameAt}
use Rattle.gql_model.specs.declared.type_syntax.RootSyntax.{RootSyntax}
use Rattle.gql_model.specs.declared.type_syntax.InputSyntax.{InputSyntax}
use Rattle.gql_model.specs.declared.type_syntax.FieldSyntax.{FieldSyntax}
use Rattle.gql_model.specs.declared.type_syntax.TypeSyntax.{TypeSyntax}
use Rattle.gql_model.specs.declared.type_syntax.TypeSyntax.TheVariants as syntax
use Rattle.gql_model.specs.declared.type_syntax.TypeDocument.{TypeDocument}
use Rattle.gql_model.specs.rules.Places.{names_of}
use Rattle.gql_model.specs.rules.Literals.{Written, written}
use Rattle.gql_model.specs.rules.References.{Reference, reference, is_non_null}

-- ---- what is read

-- an argument, or a field of an input object
pub record Input : Type 0 where
  pub name : NameAt
  pub type : Reference
  pub default : Option Written

pub record Field : Type 0 where
  pub name : NameAt
  pub arguments : List Input
  pub type : Reference

-- a type's definition; lists that its kind doesn't have are empty
pub record Defined : Type 0 where
  pub name : NameAt
  pub kind : TypeKind
  pub implements : List NameAt
  pub fields : List Field
  pub inputs : List Input
  pub members : List NameAt
  pub values : List NameAt

-- a `schema` definition, its roots and its word
pub record Roots : Type 0 where
  pub roots : List RootSyntax
  pub word : Spot

pub data Definition : Type 0 where
  schema : Roots → Definition
  type : Defined → Definition

-- ---- reading it

abbrev pub input_of : InputSyntax → Input
input_of i = record { name = i.name; type = reference i.kind; default = option_map written i.default }

abbrev pub field_of : FieldSyntax → Field
field_of f = record { name = f.name; arguments = map input_of f.arguments; type = reference f.kind }

abbrev pub bare : NameAt → TypeKind → Defined
bare n k = record { name = n; kind = k; implements = []; fields = []; inputs = []; members = []; values = [] }

abbrev pub definition_of : TypeSyntax → Option Definition
definition_of (syntax.Schema roots spot) = Some (schema (record { roots = roots; word = spot }))
definition_of (syntax.Scalar n) = Some (type (bare n kind.Scalar))
definition_of (syntax.Object n is fs) = Some (type (record (bare n kind.Object) { implements = is; fields = map field_of fs }))
definition_of (syntax.Interface n is fs) = Some (type (record (bare n kind.Interface) { implements = is; fields = map field_of fs }))
definition_of (syntax.Union n ms) = Some (type (record (bare n kind.Union) { members = ms }))
definition_of (syntax.Enum n vs) = Some (type (record (bare n kind.Enum) { values = vs }))
definition_of (syntax.Input n is) = Some (type (record (bare n kind.Input) { inputs = map input_of is }))
definition_of (syntax.Directive n as' ls) = None

abbrev pub definitions : TypeDocument → List Definition
definitions d = filter_map definition_of d.definitions

-- ---- its parts

abbrev pub type_in : Definition → Option Defined
type_in (schema s) = None
type_in (type d) = Some d

abbrev pub types : List Definition → List Defined
types = filter_map type_in

abbrev pub schema_in : Definition → Option Roots
schema_in (schema s) = Some s
schema_in (type d) = None

abbrev pub schemas : List Definition → List Roots
schemas = filter_map schema_in

-- the arguments of a type's fields and the fields of an input object: one of the two lists is empty
abbrev pub inputs_in : Defined → List Input
inputs_in d = flat_map (λ f. f.arguments) d.fields ++ d.inputs

abbrev pub named_input : Input → NameAt
named_input i = i.name

-- ---- kinds

abbrev pub is_scalar : TypeKind → Bool
is_scalar kind.Scalar = true
is_scalar _ = false

abbrev pub is_object : TypeKind → Bool
is_object kind.Object = true
is_object _ = false

abbrev pub is_interface : TypeKind → Bool
is_interface kind.Interface = true
is_interface _ = false

abbrev pub is_input : TypeKind → Bool
is_input kind.Input = true
is_input _ = false

-- objects, interfaces and unions, whose values have fields
abbrev pub is_composite : TypeKind → Bool
is_composite kind.Object = true
is_composite kind.Interface = true
is_composite kind.Union = true
is_composite _ = false

-- ---- looking up

-- the scalars that every service has (section 3.5)
abbrev pub built_in : List (List ℕ)
built_in = codes "Int" ∷ codes "String" ∷ codes "Boolean" ∷ codes "ID" ∷ []

-- an input is required where its type is Non-Null and it has no default
abbrev pub is_required : Input → Bool
is_required i = is_non_null i.type && is_none i.default

abbrev pub input_named : List Input → List ℕ → Option Input
input_named is name = find (λ i. bytes_eq i.name.name name) is

module _ (ts : List Defined) where
  abbrev pub type_named : List ℕ → Option Defined
  type_named name = find (λ d. bytes_eq d.name.name name) ts

  -- whether a type of this name is defined and its kind is one of these
  abbrev pub has_kind : (TypeKind → Bool) → List ℕ → Bool
  has_kind test name = elim (type_named name) [ None ↦ false | Some d ↦ test d.kind ]

  abbrev pub fields_of : List ℕ → List Field
  fields_of name = elim (type_named name) [ None ↦ [] | Some d ↦ d.fields ]

  abbrev pub inputs_of : List ℕ → List Input
  inputs_of name = elim (type_named name) [ None ↦ [] | Some d ↦ d.inputs ]

  abbrev pub members_named : List ℕ → List (List ℕ)
  members_named name = elim (type_named name) [ None ↦ [] | Some d ↦ names_of d.members ]

  abbrev pub values_of : List ℕ → List (List ℕ)
  values_of name = elim (type_named name) [ None ↦ [] | Some d ↦ names_of d.values ]

  -- the names that a type of this name implements
  abbrev pub interfaces_of : List ℕ → List (List ℕ)
  interfaces_of name = elim (type_named name) [ None ↦ [] | Some d ↦ names_of d.implements ]
