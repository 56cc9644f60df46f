-- Which tokens a terminal of the grammar is, as the parser names it.
use Rattle.std.specs.Prelude.{Bool}
use Rattle.gql_lex.specs.Tokens.{Lexeme}
use Rattle.gql_doc.specs.Terminals.{is_punctuator, is_name, is_number, is_string, is_word, is_fragment_name, is_enum_value, is_operation_type, is_field_part}
use Rattle.gql_doc.specs.declared.terminal.Terminal.{Terminal}
use Rattle.gql_doc.specs.declared.terminal.Terminal.TheVariants as terminal

abbrev pub matches : Terminal → Lexeme → Bool
matches (terminal.Punctuator text) = is_punctuator text.now
matches terminal.Name = is_name
matches terminal.Number = is_number
matches terminal.StringValue = is_string
matches (terminal.Word text) = is_word text.now
matches terminal.FragmentName = is_fragment_name
matches terminal.EnumValue = is_enum_value
matches terminal.OperationType = is_operation_type
matches terminal.FieldPart = is_field_part
