-- The terminals of the grammar: what a token is to it.
use Rattle.std.specs.Prelude.{ℕ, ◌||◌, ◌&&◌, not, Bool, true, false, List, codes}
use Rattle.std.specs.Str.{bytes_eq}
use Rattle.gql_lex.specs.Tokens.{Lexeme}
use Rattle.gql_lex.specs.declared.token.TokenKind.{TokenKind}
use Rattle.gql_lex.specs.declared.token.TokenKind.TheVariants as kind

abbrev pub is_punctuator_kind : TokenKind → Bool
is_punctuator_kind kind.Punctuator = true
is_punctuator_kind _ = false

-- the punctuator of this text
abbrev pub is_punctuator : List ℕ → Lexeme → Bool
is_punctuator text token = is_punctuator_kind token.kind && bytes_eq token.text text

abbrev pub is_name_kind : TokenKind → Bool
is_name_kind kind.Name = true
is_name_kind _ = false

-- Name
abbrev pub is_name : Lexeme → Bool
is_name token = is_name_kind token.kind

abbrev pub is_number_kind : TokenKind → Bool
is_number_kind kind.Int = true
is_number_kind _ = false

-- IntValue
abbrev pub is_number : Lexeme → Bool
is_number token = is_number_kind token.kind

abbrev pub is_string_kind : TokenKind → Bool
is_string_kind kind.Quoted = true
is_string_kind kind.Block = true
is_string_kind _ = false

-- StringValue, of either form
abbrev pub is_string : Lexeme → Bool
is_string token = is_string_kind token.kind

-- the name of this text
abbrev pub is_word : List ℕ → Lexeme → Bool
is_word word token = is_name token && bytes_eq token.text word

-- FragmentName: a name but `on`
abbrev pub is_fragment_name : Lexeme → Bool
is_fragment_name token = is_name token && not (bytes_eq token.text (codes "on"))

-- EnumValue: a name but `true`, `false` and `null`
abbrev pub is_enum_value : Lexeme → Bool
is_enum_value token = is_name token && not (bytes_eq token.text (codes "true") || (bytes_eq token.text (codes "false") || bytes_eq token.text (codes "null")))

-- OperationType
abbrev pub is_operation_type : Lexeme → Bool
is_operation_type token = is_word (codes "query") token || (is_word (codes "mutation") token || is_word (codes "subscription") token)

-- what stands between a field's name and its selection set: `:`, `(` or `@` begins it
abbrev pub is_field_part : Lexeme → Bool
is_field_part token = is_punctuator (codes ":") token || (is_punctuator (codes "(") token || is_punctuator (codes "@") token)

-- ---- braces and brackets

-- `[` and `{`
abbrev pub is_opening : Lexeme → Bool
is_opening token = is_punctuator (codes "[") token || is_punctuator (codes "{") token

-- `]` and `}`
abbrev pub is_closing : Lexeme → Bool
is_closing token = is_punctuator (codes "]") token || is_punctuator (codes "}") token
