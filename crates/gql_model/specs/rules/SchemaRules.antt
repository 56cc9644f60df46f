-- The rules of type definitions (chapter 3 of the standard), in their order.
use Rattle.std.specs.Prelude.{ℕ, List, [], ◌∷◌, Option}
use Rattle.gql_tree.specs.declared.Spot.{Spot}
use Rattle.gql_model.specs.declared.type_syntax.TypeDocument.{TypeDocument}
use Rattle.gql_model.specs.rules.Places.{first_broken}
use Rattle.gql_model.specs.rules.TypeParts.{Definition, definitions, types, schemas}
use Rattle.gql_model.specs.rules.types.DistinctTypes.{repeated_types}
use Rattle.gql_model.specs.rules.types.ReservedNames.{reserved_names}
use Rattle.gql_model.specs.rules.types.NoScalars.{scalar_definitions}
use Rattle.gql_model.specs.rules.types.KnownTypes.{unknown_types}
use Rattle.gql_model.specs.rules.types.OneSchema.{repeated_schemas}
use Rattle.gql_model.specs.rules.types.QueryRoot.{faulty_query}
use Rattle.gql_model.specs.rules.types.OtherRoots.{faulty_roots}
use Rattle.gql_model.specs.rules.types.NoEmptyTypes.{empty_types}
use Rattle.gql_model.specs.rules.types.DistinctNames.{repeated_names}
use Rattle.gql_model.specs.rules.types.OutputTypes.{input_fields_given_out}
use Rattle.gql_model.specs.rules.types.InputTypes.{outputs_taken_in}
use Rattle.gql_model.specs.rules.types.UnionMembers.{faulty_members}
use Rattle.gql_model.specs.rules.types.ImplementedInterfaces.{faulty_interfaces}
use Rattle.gql_model.specs.rules.types.InheritedInterfaces.{missing_interfaces}
use Rattle.gql_model.specs.rules.types.ImplementedFields.{unimplemented_fields}
use Rattle.gql_model.specs.rules.types.ImplementedArguments.{misfitting_arguments}
use Rattle.gql_model.specs.rules.types.FittingDefaults.{misfitting_defaults}
use Rattle.gql_model.specs.rules.types.InputCycles.{input_cycles}

-- of each rule the places that break it
abbrev pub schema_rules : List Definition → List (List Spot)
schema_rules ds =
    let ts = types ds in
    repeated_types ts
    ∷ reserved_names ts
    ∷ scalar_definitions ts
    ∷ unknown_types ds
    ∷ repeated_schemas (schemas ds)
    ∷ faulty_query ts (schemas ds)
    ∷ faulty_roots ts (schemas ds)
    ∷ empty_types ts
    ∷ repeated_names ts
    ∷ input_fields_given_out ts
    ∷ outputs_taken_in ts
    ∷ faulty_members ts
    ∷ faulty_interfaces ts
    ∷ missing_interfaces ts
    ∷ unimplemented_fields ts
    ∷ misfitting_arguments ts
    ∷ misfitting_defaults ts
    ∷ input_cycles ts
    ∷ []

-- the number of the first broken rule and its first place, of definitions that break one
abbrev pub first_broken_of : List Definition → Option (ℕ × Spot)
first_broken_of ds = first_broken 1 (schema_rules ds)

abbrev pub first_broken_rule : TypeDocument → Option (ℕ × Spot)
first_broken_rule d = first_broken_of (definitions d)
