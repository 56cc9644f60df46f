-- The schema that type definitions say (section 3.3 of the standard), as plain data. Types are numbered from 0: the built-in
-- scalars, then those that are defined in order of the text.
use Rattle.std.specs.Prelude.{ℕ, zero, suc, Bool, ◌&&◌, cond, List, [], ◌∷◌, ◌++◌, map, filter, Option, Some, None, option_map, is_some, codes}
use Rattle.std.specs.Str.{bytes_eq}
use Rattle.gql_tree.specs.declared.Value.{Value}
use Rattle.gql_model.specs.declared.schema.TypeKind.{TypeKind}
use Rattle.gql_model.specs.declared.schema.TypeKind.TheVariants as kind
use Rattle.gql_model.specs.declared.schema.InputDef.{InputDef}
use Rattle.gql_model.specs.declared.schema.FieldDef.{FieldDef}
use Rattle.gql_model.specs.declared.schema.TypeDef.{TypeDef}
use Rattle.gql_model.specs.declared.schema.Schema.{Schema}
use Rattle.gql_model.specs.declared.type_syntax.RootSyntax.{RootSyntax}
use Rattle.gql_model.specs.UsedType.{UsedType, named, list, non_null, used_type_of}
use Rattle.gql_model.specs.Coercing.{default_value}
use Rattle.gql_model.specs.rules.Places.{stands_in, names_of}
use Rattle.gql_model.specs.rules.References.{Reference, to, list as list_of, non_null as non_null_of}
use Rattle.gql_model.specs.rules.TypeParts.{Input, Field, Defined, Roots, Definition, types, schemas, built_in, is_object, type_named}
use Rattle.gql_model.specs.rules.types.OneSchema.{word_of}

-- ---- a schema as plain data

pub record SeenInput : Type 0 where
  pub name : List ℕ
  pub type : UsedType
  pub default : Option Value

pub record SeenField : Type 0 where
  pub name : List ℕ
  pub arguments : List SeenInput
  pub type : UsedType

pub record SeenType : Type 0 where
  pub name : List ℕ
  pub kind : TypeKind
  pub fields : List SeenField
  pub inputs : List SeenInput
  pub interfaces : List ℕ
  pub members : List ℕ
  pub values : List (List ℕ)

pub record SeenSchema : Type 0 where
  pub types : List SeenType
  pub query : ℕ
  pub mutation : Option ℕ
  pub subscription : Option ℕ

-- ---- what a schema is seen as

abbrev pub seen_input : InputDef → SeenInput
seen_input i = record { name = i.name; type = used_type_of i.kind; default = i.default }

abbrev pub seen_field : FieldDef → SeenField
seen_field f = record { name = f.name; arguments = map seen_input f.arguments; type = used_type_of f.kind }

abbrev pub seen_type : TypeDef → SeenType
seen_type d = record {
  name = d.name;
  kind = d.kind;
  fields = map seen_field d.fields;
  inputs = map seen_input d.inputs;
  interfaces = map (λ t. t.number) d.interfaces;
  members = map (λ t. t.number) d.members;
  values = d.values;
}

-- what the reader of schemas promises of the schema that it gives
abbrev pub seen_schema : Schema → SeenSchema
seen_schema s = record {
  types = map seen_type s.types;
  query = s.query.number;
  mutation = option_map (λ t. t.number) s.mutation;
  subscription = option_map (λ t. t.number) s.subscription;
}

-- ---- what definitions say

-- the place of the name in the list; its length where it isn't there
abbrev pub place_in : List (List ℕ) → List ℕ → ℕ
place_in [] name = zero
place_in (n ∷ ns) name = cond (bytes_eq n name) zero (suc (place_in ns name))

module _ (ts : List Defined) where
  abbrev pub number_of : List ℕ → ℕ
  number_of name = place_in (built_in ++ map (λ d. d.name.name) ts) name

  abbrev pub use_of : Reference → UsedType
  use_of (to name _) = named (number_of name)
  use_of (list_of r) = list (use_of r)
  use_of (non_null_of r) = non_null (use_of r)

  abbrev pub said_input : Input → SeenInput
  said_input i = record { name = i.name.name; type = use_of i.type; default = default_value ts i }

  abbrev pub said_field : Field → SeenField
  said_field f = record { name = f.name.name; arguments = map said_input f.arguments; type = use_of f.type }

  -- whether an object type implements an interface
  abbrev pub is_possible : List ℕ → Defined → Bool
  is_possible interface d = is_object d.kind && stands_in interface (names_of d.implements)

  -- the names of the object types that a value may have: an object's own, those that implement an interface, a union's members
  abbrev pub possible_names : TypeKind → Defined → List (List ℕ)
  possible_names kind.Object d = d.name.name ∷ []
  possible_names kind.Interface d = map (λ t. t.name.name) (filter (is_possible d.name.name) ts)
  possible_names kind.Union d = names_of d.members
  possible_names _ d = []

  abbrev pub said_type : Defined → SeenType
  said_type d = record {
    name = d.name.name;
    kind = d.kind;
    fields = map said_field d.fields;
    inputs = map said_input d.inputs;
    interfaces = map number_of (names_of d.implements);
    members = map number_of (possible_names d.kind d);
    values = names_of d.values;
  }

  -- ---- roots

  -- what a list of roots names for the kind of this word
  abbrev pub root_named : List ℕ → List RootSyntax → Option ℕ
  root_named word [] = None
  root_named word (r ∷ rs) = cond (bytes_eq (word_of r.kind) word) (Some (number_of r.name.name)) (root_named word rs)

  -- by the `schema` definition, or without one by the type of the usual name
  abbrev pub said_root : List Roots → List ℕ → List ℕ → Option ℕ
  said_root [] word usual = cond (is_some (type_named ts usual)) (Some (number_of usual)) None
  said_root (s ∷ ss) word usual = root_named word s.roots

abbrev pub scalar : List ℕ → SeenType
scalar name = record { name = name; kind = kind.Scalar; fields = []; inputs = []; interfaces = []; members = []; values = [] }

-- definitions that keep the rules have a query root
abbrev pub said_schema : List Definition → Option SeenSchema
said_schema ds =
    let ts = types ds in
    option_map (λ query. record {
      types = map scalar built_in ++ map (said_type ts) ts;
      query = query;
      mutation = said_root ts (schemas ds) (codes "mutation") (codes "Mutation");
      subscription = said_root ts (schemas ds) (codes "subscription") (codes "Subscription");
    }) (said_root ts (schemas ds) (codes "query") (codes "Query"))
