-- What a string token means: section 2.9.4 of the standard. A text here is the list of its characters, and a block
-- string the list of its lines; the last definition goes from bytes to bytes.
use Rattle.std.specs.Prelude.{ℕ, zero, suc, ◌+◌, ◌-◌, ◌*◌, ◌==◌, nat_eq, nat_lt, nat_le, min, ◌||◌, ◌&&◌, not, if◌then◌else◌, Bool, List, [], ◌∷◌, ◌++◌, map, flat_map, reverse, length, take, drop, Option, Some, None, unwrap_or}
use Rattle.std.specs.Char.{digit_value}
use Rattle.std.specs.Char.Utf16.{is_high_surrogate, surrogate_pair_char}
use Rattle.std.specs.List.{starts_with, prefix_len, list_all}
use Rattle.std.specs.Str.{chars, encode_utf8_all}
use Rattle.gql_lex.specs.StringTexts.{simple_escape}
use Rattle.gql_lex.specs.declared.token.TokenKind.{TokenKind}
use Rattle.gql_lex.specs.declared.token.TokenKind.TheVariants as kind

-- ---- quoted strings

-- what a character behind a backslash stands for; one that begins no escape, which a token has not, for itself
abbrev pub escaped : ℕ → ℕ
escaped c = unwrap_or (simple_escape c) c

-- the value of a hexadecimal digit; a token has no other character there
abbrev pub hex_digit : ℕ → ℕ
hex_digit c = if nat_lt (digit_value c) 16 then digit_value c else 0

-- what the four hexadecimal digits at the front spell; a token has four there
abbrev pub unit : List ℕ → ℕ
unit (a ∷ b ∷ c ∷ d ∷ rest) = ((hex_digit a * 16 + hex_digit b) * 16 + hex_digit c) * 16 + hex_digit d
unit _ = 0

-- a code that is no character gives U+FFFD; a token has none
abbrev pub character : ℕ → ℕ
character code = if nat_lt code 0xD800 || nat_le 0xE000 code && nat_lt code 0x11_0000 then code else 0xFFFD

-- A piece of a quoted string is the character that it stands for, and how many of its characters come behind its first.

-- behind `\u`: four digits, or those of a high surrogate and then `\u` and those of a low one
abbrev pub unicode : List ℕ → ℕ × ℕ
unicode digits =
    if is_high_surrogate (unit digits) then (character (surrogate_pair_char (unit digits) (unit (drop 6 digits))), 11)
    else (character (unit digits), 5)

-- behind a backslash
abbrev pub escape : List ℕ → ℕ × ℕ
escape [] = (92, 0)
escape (c ∷ rest) = if c == 117 then unicode rest else (escaped c, 1)

-- an escape, or any other character for itself; `rest` follows it
abbrev pub quoted_piece : ℕ → List ℕ → ℕ × ℕ
quoted_piece c rest = if c == 92 then escape rest else (c, 0)

-- what the pieces stand for, one after another; the first `inside` characters belong to a piece before them
abbrev pub quoted_value : ℕ → List ℕ → List ℕ
quoted_value inside [] = []
quoted_value (suc inside) (c ∷ rest) = quoted_value inside rest
quoted_value zero (c ∷ rest) = (quoted_piece c rest).0 ∷ quoted_value (quoted_piece c rest).1 rest

-- ---- block strings

-- `\"""` stands for `"""`: its backslash goes
abbrev pub raw_value : List ℕ → List ℕ
raw_value [] = []
raw_value (c ∷ rest) = if c == 92 && starts_with nat_eq rest (34 ∷ 34 ∷ 34 ∷ []) then raw_value rest else c ∷ raw_value rest

-- a line ends at LF, and at CR that no LF follows
abbrev pub ends_line : ℕ → List ℕ → Bool
ends_line c rest = c == 10 || c == 13 && not (starts_with nat_eq rest (10 ∷ []))

-- the first line with this before it
abbrev pub with_front : List ℕ → List (List ℕ) → List (List ℕ)
with_front front [] = []
with_front front (line ∷ lines) = (front ++ line) ∷ lines

-- the lines of a text, without their ends. The CR of a CR LF belongs to the end
abbrev pub lines : List ℕ → List (List ℕ)
lines [] = [] ∷ []
lines (c ∷ rest) =
    if ends_line c rest then [] ∷ lines rest
    else (if c == 13 then lines rest
    else with_front (c ∷ []) (lines rest))

-- tab and space
abbrev pub is_indent : ℕ → Bool
is_indent c = c == 9 || c == 32

abbrev pub is_blank_line : List ℕ → Bool
is_blank_line line = list_all is_indent line

-- the least indentation of lines that aren't blank; none where all are
abbrev pub least : ℕ → Option ℕ → ℕ
least n None = n
least n (Some m) = min n m

abbrev pub common_indent : List (List ℕ) → Option ℕ
common_indent [] = None
common_indent (line ∷ lines) = if is_blank_line line then common_indent lines else Some (least (prefix_len is_indent line) (common_indent lines))

-- the lines behind the first lose their common indentation
abbrev pub unindented : List (List ℕ) → List (List ℕ)
unindented [] = []
unindented (first ∷ lines) = first ∷ map (λ line. drop (unwrap_or (common_indent lines) 0) line) lines

-- without the blank lines at the front
abbrev pub after_blank_lines : List (List ℕ) → List (List ℕ)
after_blank_lines lines = drop (prefix_len is_blank_line lines) lines

-- without the blank lines at the end
abbrev pub before_blank_lines : List (List ℕ) → List (List ℕ)
before_blank_lines lines = take (length lines - prefix_len is_blank_line (reverse lines)) lines

-- lines with LF between them
abbrev pub joined : List (List ℕ) → List ℕ
joined [] = []
joined (line ∷ lines) = line ++ flat_map (λ next. 10 ∷ next) lines

-- BlockStringValue of the standard, of a raw text
abbrev pub block_string_value : List ℕ → List ℕ
block_string_value raw = joined (before_blank_lines (after_blank_lines (unindented (lines raw))))

-- what the content of a block string means
abbrev pub block_value : List ℕ → List ℕ
block_value content = block_string_value (raw_value content)

-- ---- tokens

-- what stands between so many marks on each side
abbrev pub between : ℕ → List ℕ → List ℕ
between marks text = take (length text - 2 * marks) (drop marks text)

-- the characters of the value of a token
abbrev pub value : TokenKind → List ℕ → List ℕ
value kind.Block token = block_value (between 3 token)
value _ token = quoted_value 0 (between 1 token)

-- the bytes of the value of a token of these bytes
abbrev pub string_value : TokenKind → List ℕ → List ℕ
string_value kind token = encode_utf8_all (value kind (chars token))
