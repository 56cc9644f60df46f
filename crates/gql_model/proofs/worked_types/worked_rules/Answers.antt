use Rattle.std.proofs.Common.{refl}
use Rattle.gql_model.proofs.Reading.{reference_Named, reference_List, reference_NonNull, written_Int, written_Text, written_Bool, written_Null, written_Enum, written_List, written_Object, given-out}
use Rattle.gql_model.proofs.worked_types.worked_rules.Goals as goal

pub returns-clause-persons : goal.returns-clause-persons
returns-clause-persons c = refl

pub returns-clause-pets : goal.returns-clause-pets
returns-clause-pets c = refl

pub returns-clause-arguments : goal.returns-clause-arguments
returns-clause-arguments c = refl

pub returns-clause-repeated_type : goal.returns-clause-repeated_type
returns-clause-repeated_type c = refl

pub returns-clause-reserved_name : goal.returns-clause-reserved_name
returns-clause-reserved_name c = refl

pub returns-clause-scalar_definition : goal.returns-clause-scalar_definition
returns-clause-scalar_definition c = refl

pub returns-clause-unknown_type : goal.returns-clause-unknown_type
returns-clause-unknown_type c = refl

pub returns-clause-repeated_root : goal.returns-clause-repeated_root
returns-clause-repeated_root c = refl

pub returns-clause-no_query_in_schema : goal.returns-clause-no_query_in_schema
returns-clause-no_query_in_schema c = refl

pub returns-clause-no_query : goal.returns-clause-no_query
returns-clause-no_query c = refl

pub returns-clause-roots_alike : goal.returns-clause-roots_alike
returns-clause-roots_alike c = refl

pub returns-clause-no_member : goal.returns-clause-no_member
returns-clause-no_member c = refl

pub returns-clause-repeated_argument : goal.returns-clause-repeated_argument
returns-clause-repeated_argument c = refl

pub returns-clause-input_as_output : goal.returns-clause-input_as_output
returns-clause-input_as_output c = refl

pub returns-clause-output_as_input : goal.returns-clause-output_as_input
returns-clause-output_as_input c = refl

pub returns-clause-repeated_member : goal.returns-clause-repeated_member
returns-clause-repeated_member c = refl

pub returns-clause-no_interface : goal.returns-clause-no_interface
returns-clause-no_interface c = refl

pub returns-clause-implements_itself : goal.returns-clause-implements_itself
returns-clause-implements_itself c = refl

pub returns-clause-no_subtype : goal.returns-clause-no_subtype
returns-clause-no_subtype c = refl

pub returns-clause-required_argument : goal.returns-clause-required_argument
returns-clause-required_argument c = refl

pub returns-clause-lacks_required : goal.returns-clause-lacks_required
returns-clause-lacks_required c = refl

pub returns-clause-innermost_literal : goal.returns-clause-innermost_literal
returns-clause-innermost_literal c = refl

pub returns-clause-holds_itself : goal.returns-clause-holds_itself
returns-clause-holds_itself c = refl

pub returns-clause-default_needs_itself : goal.returns-clause-default_needs_itself
returns-clause-default_needs_itself c = refl

pub returns-clause-wrong_default : goal.returns-clause-wrong_default
returns-clause-wrong_default c = simp (reference_List, reference_NonNull, reference_Named, written_List, written_Object, given-out, written_Int, written_Text, written_Bool, written_Null, written_Enum) refl
