-- The rules of type definitions in five groups, in their order.
use Rattle.std.specs.Prelude.{ℕ, List, [], ◌∷◌}
use Rattle.gql_tree.specs.declared.Spot.{Spot}
use Rattle.gql_model.specs.rules.TypeParts as parts
use Rattle.gql_model.specs.rules.TypeParts.{Definition, schemas}
use Rattle.gql_model.specs.rules.types.DistinctTypes.{repeated_types}
use Rattle.gql_model.specs.rules.types.ReservedNames.{reserved_names}
use Rattle.gql_model.specs.rules.types.NoScalars.{scalar_definitions}
use Rattle.gql_model.specs.rules.types.KnownTypes.{unknown_types}
use Rattle.gql_model.specs.rules.types.OneSchema.{repeated_schemas}
use Rattle.gql_model.specs.rules.types.QueryRoot.{faulty_query}
use Rattle.gql_model.specs.rules.types.OtherRoots.{faulty_roots}
use Rattle.gql_model.specs.rules.types.NoEmptyTypes.{empty_types}
use Rattle.gql_model.specs.rules.types.DistinctNames.{repeated_names}
use Rattle.gql_model.specs.rules.types.OutputTypes.{input_fields_given_out}
use Rattle.gql_model.specs.rules.types.InputTypes.{outputs_taken_in}
use Rattle.gql_model.specs.rules.types.UnionMembers.{faulty_members}
use Rattle.gql_model.specs.rules.types.ImplementedInterfaces.{faulty_interfaces}
use Rattle.gql_model.specs.rules.types.InheritedInterfaces.{missing_interfaces}
use Rattle.gql_model.specs.rules.types.ImplementedFields.{unimplemented_fields}
use Rattle.gql_model.specs.rules.types.ImplementedArguments.{misfitting_arguments}
use Rattle.gql_model.specs.rules.types.FittingDefaults.{misfitting_defaults}
use Rattle.gql_model.specs.rules.types.InputCycles.{input_cycles}
use Rattle.gql_schema.specs.declared.broken.Broken.{Broken}

-- the number of a rule and a place that breaks it
abbrev pub told : Broken → ℕ × Spot
told it = (it.rule, it.spot)

-- 1 to 4: of names
abbrev pub name_rules : List parts.Defined → List Definition → List (List Spot)
name_rules ts ds = repeated_types ts ∷ reserved_names ts ∷ scalar_definitions ts ∷ unknown_types ds ∷ []

-- 5 to 7: of roots
abbrev pub root_rules : List parts.Defined → List Definition → List (List Spot)
root_rules ts ds = repeated_schemas (schemas ds) ∷ faulty_query ts (schemas ds) ∷ faulty_roots ts (schemas ds) ∷ []

-- 8 to 12: of what a type has
abbrev pub part_rules : List parts.Defined → List (List Spot)
part_rules ts = empty_types ts ∷ repeated_names ts ∷ input_fields_given_out ts ∷ outputs_taken_in ts ∷ faulty_members ts ∷ []

-- 13 to 16: of interfaces
abbrev pub interface_rules : List parts.Defined → List (List Spot)
interface_rules ts = faulty_interfaces ts ∷ missing_interfaces ts ∷ unimplemented_fields ts ∷ misfitting_arguments ts ∷ []

-- 17 and 18: of defaults and input objects
abbrev pub input_rules : List parts.Defined → List (List Spot)
input_rules ts = misfitting_defaults ts ∷ input_cycles ts ∷ []
