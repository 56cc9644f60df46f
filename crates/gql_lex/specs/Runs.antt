-- Runs of pieces at the front of a text: blanks, and what strings have.
use Rattle.std.specs.Prelude.{ℕ, zero, suc, ◌==◌, nat_eq, ◌||◌, ◌&&◌, not, if◌then◌else◌, Bool, true, false, List, [], ◌∷◌, drop, Option, Some, None}
use Rattle.std.specs.List.{starts_with, prefix_len}
use Rattle.std.specs.Char.{is_ascii_hexdigit}
use Rattle.gql_lex.specs.Classes.{is_line_end, is_forbidden, is_blank, is_commentary, byte_order_mark}
use Rattle.gql_lex.specs.declared.run.Pieces.{Pieces}
use Rattle.gql_lex.specs.declared.run.Pieces.TheVariants.{Blanks, QuotedItems, SoundItems, BlockItems}
use Rattle.gql_lex.specs.declared.run.Unit.{Unit as Digits}
use Rattle.gql_lex.specs.declared.run.Unit.TheVariants.{Plain, High, Low}

-- Each kind of piece below says whether one stands at the front of a text, and how many bytes it takes behind its first.

-- a blank: one byte, a byte order mark, or a comment, which is `#` and the longest run of what a comment has
abbrev pub blank : List ℕ → Option ℕ
blank [] = None
blank (byte ∷ rest) =
    if is_blank byte then Some 0
    else (if byte == 35 then Some (prefix_len is_commentary rest)
    else (if starts_with nat_eq (byte ∷ rest) byte_order_mark then Some 2
    else None))

-- a character follows on the same line
abbrev pub goes_on_in_line : List ℕ → Bool
goes_on_in_line [] = false
goes_on_in_line (byte ∷ rest) = not (is_line_end byte)

-- between the quotes of a string: anything but a quote and a line end, where a backslash takes what follows it on the line
abbrev pub quoted_item : List ℕ → Option ℕ
quoted_item [] = None
quoted_item (byte ∷ rest) =
    if byte == 34 || is_line_end byte then None
    else (if byte == 92 && goes_on_in_line rest then Some 1
    else Some 0)

-- four hexadecimal digits at the front: D800 to DBFF is a high surrogate, DC00 to DFFF a low one
abbrev pub is_d : ℕ → Bool
is_d byte = byte == 68 || byte == 100

-- 8, 9, A and B
abbrev pub is_8_to_b : ℕ → Bool
is_8_to_b byte = byte == 56 || (byte == 57 || (byte == 65 || (byte == 66 || (byte == 97 || byte == 98))))

-- C to F, of a hexadecimal digit
abbrev pub is_c_to_f : ℕ → Bool
is_c_to_f byte = byte == 67 || (byte == 68 || (byte == 69 || (byte == 70 || (byte == 99 || (byte == 100 || (byte == 101 || byte == 102))))))

abbrev pub unit_by : ℕ → ℕ → Digits
unit_by first second =
    if is_d first && is_8_to_b second then High
    else (if is_d first && is_c_to_f second then Low
    else Plain)

abbrev pub unit_of : List ℕ → Option Digits
unit_of (a ∷ b ∷ c ∷ d ∷ rest) =
    if is_ascii_hexdigit a && (is_ascii_hexdigit b && (is_ascii_hexdigit c && is_ascii_hexdigit d)) then Some (unit_by a b) else None
unit_of _ = None

-- `\u` and a low surrogate at the front
abbrev pub begins_with_low : List ℕ → Bool
begins_with_low (a ∷ b ∷ rest) = a == 92 && (b == 117 && elim (unit_of rest) [ Some Low ↦ true | _ ↦ false ])
begins_with_low _ = false

-- behind `\u`: four digits that are no surrogate, or a high surrogate and then a low one. Counted from the backslash on
abbrev pub unicode_escape : List ℕ → Option ℕ
unicode_escape rest = elim (unit_of rest) [ None ↦ None | Some Plain ↦ Some 5 | Some Low ↦ None | Some High ↦ if begins_with_low (drop 4 rest) then Some 11 else None ]

-- `"` `\` `/` `b` `f` `n` `r` `t`
abbrev pub is_escape : ℕ → Bool
is_escape byte = byte == 34 || (byte == 92 || (byte == 47 || (byte == 98 || (byte == 102 || (byte == 110 || (byte == 114 || byte == 116))))))

-- behind a backslash: how many bytes belong to a right escape
abbrev pub escape : List ℕ → Option ℕ
escape [] = None
escape (byte ∷ rest) = if byte == 117 then unicode_escape rest else (if is_escape byte then Some 1 else None)

-- what is right between the quotes of a string: a right escape, or a character that may stand
abbrev pub sound_item : List ℕ → Option ℕ
sound_item [] = None
sound_item (byte ∷ rest) = if byte == 92 then escape rest else (if is_forbidden byte then None else Some 0)

-- between the marks of a block string: `\"""`, or anything but `"""`
abbrev pub block_item : List ℕ → Option ℕ
block_item [] = None
block_item (byte ∷ rest) =
    if starts_with nat_eq (byte ∷ rest) (34 ∷ 34 ∷ 34 ∷ []) then None
    else (if starts_with nat_eq (byte ∷ rest) (92 ∷ 34 ∷ 34 ∷ 34 ∷ []) then Some 3
    else Some 0)

abbrev pub piece : Pieces → List ℕ → Option ℕ
piece Blanks text = blank text
piece QuotedItems text = quoted_item text
piece SoundItems text = sound_item text
piece BlockItems text = block_item text

-- how many bytes are pieces, one after another from the front on, until none stands there; the first `inside` bytes belong to
-- a piece before them
abbrev pub run_len : Pieces → ℕ → List ℕ → ℕ
run_len pieces inside [] = 0
run_len pieces (suc inside) (byte ∷ rest) = suc (run_len pieces inside rest)
run_len pieces zero (byte ∷ rest) = elim (piece pieces (byte ∷ rest)) [ None ↦ 0 | Some more ↦ suc (run_len pieces more rest) ]
