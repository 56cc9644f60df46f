-- Numbers: -?(0|[1-9][0-9]*)(\.[0-9]+)?([eE][+-]?[0-9]+)?
use Rattle.std.specs.Prelude.{ℕ, ◌+◌, ◌==◌, nat_eq, nat_lt, ◌||◌, ◌&&◌, if◌then◌else◌, Bool, false, List, [], ◌∷◌, drop}
use Rattle.std.specs.List.{starts_with, prefix_len}
use Rattle.std.specs.Char.{is_ascii_digit}
use Rattle.gql_lex.specs.Classes.{begins_name}
use Rattle.gql_lex.specs.declared.scan.Found.{Found}
use Rattle.gql_lex.specs.declared.scan.Found.TheVariants.{Token, Wrong}
use Rattle.gql_lex.specs.declared.scan.Fault.TheVariants as fault
use Rattle.gql_lex.specs.declared.token.TokenKind.TheVariants as kind

-- Each part below is the longest at the front of a text, 0 where there is none.

-- [0-9]*
abbrev pub digits : List ℕ → ℕ
digits text = prefix_len is_ascii_digit text

-- -?
abbrev pub minus_len : List ℕ → ℕ
minus_len text = if starts_with nat_eq text (45 ∷ []) then 1 else 0

-- 0|[1-9][0-9]*
abbrev pub whole_len : List ℕ → ℕ
whole_len text = if starts_with nat_eq text (48 ∷ []) then 1 else digits text

-- (\.[0-9]+)?
abbrev pub fraction_len : List ℕ → ℕ
fraction_len [] = 0
fraction_len (byte ∷ rest) = if byte == 46 && nat_lt 0 (digits rest) then 1 + digits rest else 0

-- [+-]?
abbrev pub sign_len : List ℕ → ℕ
sign_len text = if starts_with nat_eq text (43 ∷ []) || starts_with nat_eq text (45 ∷ []) then 1 else 0

-- [+-]?[0-9]+
abbrev pub power_len : List ℕ → ℕ
power_len text = if nat_lt 0 (digits (drop (sign_len text) text)) then sign_len text + digits (drop (sign_len text) text) else 0

-- ([eE][+-]?[0-9]+)?
abbrev pub exponent_len : List ℕ → ℕ
exponent_len [] = 0
exponent_len (byte ∷ rest) = if (byte == 69 || byte == 101) && nat_lt 0 (power_len rest) then 1 + power_len rest else 0

-- -?(0|[1-9][0-9]*), 0 where there is none
abbrev pub integer_len : List ℕ → ℕ
integer_len text = if whole_len (drop (minus_len text) text) == 0 then 0 else minus_len text + whole_len (drop (minus_len text) text)

abbrev pub decimal_len : List ℕ → ℕ
decimal_len text = integer_len text + fraction_len (drop (integer_len text) text)

abbrev pub number_len : List ℕ → ℕ
number_len text = decimal_len text + exponent_len (drop (decimal_len text) text)

-- what may not follow a number: a digit, `.` or a name's first character
abbrev pub runs_on : List ℕ → Bool
runs_on [] = false
runs_on (byte ∷ rest) = byte == 46 || (is_ascii_digit byte || begins_name byte)

-- a number or what is wrong with it, where a digit or `-` stands at the front
abbrev pub number : List ℕ → Found
number text =
    if integer_len text == 0 || runs_on (drop (number_len text) text) then Wrong fault.Number 0
    else (if number_len text == integer_len text then Token kind.Int (number_len text)
    else Wrong fault.Float 0)
