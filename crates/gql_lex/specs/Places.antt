-- Places in a text: its lines and columns.
use Rattle.std.specs.Prelude.{ℕ, ◌+◌, ◌==◌, nat_eq, nat_lt, nat_le, ◌||◌, ◌&&◌, not, if◌then◌else◌, Bool, List, [], ◌∷◌, ◌++◌, count_by}
use Rattle.std.specs.List.{starts_with}
use Rattle.gql_tree.specs.declared.Spot.{Spot}

-- a line ends with this byte, which `rest` follows: it is LF, or CR that no LF follows. So CR LF is one line end
abbrev pub ends_line : ℕ → List ℕ → Bool
ends_line byte rest = byte == 10 || (byte == 13 && not (starts_with nat_eq rest (10 ∷ [])))

-- how many lines end in `passed`, which `rest` follows
abbrev pub lines_ended : List ℕ → List ℕ → ℕ
lines_ended [] rest = 0
lines_ended (byte ∷ more) rest = (if ends_line byte (more ++ rest) then 1 else 0) + lines_ended more rest

-- what stands in `passed` behind its last line end
abbrev pub last_line : List ℕ → List ℕ → List ℕ
last_line [] rest = []
last_line (byte ∷ more) rest = if lines_ended (byte ∷ more) rest == 0 then byte ∷ more else last_line more rest

-- the byte is the first of a character's UTF-8: 128 to 191 continue one
abbrev pub begins_character : ℕ → Bool
begins_character byte = nat_lt byte 128 || nat_le 192 byte

-- the place of `rest` in a text, where `passed` stands before it: its line is one more than the lines that end before it,
-- its column one more than the characters since the last line end
abbrev pub spot_at : List ℕ → List ℕ → Spot
spot_at passed rest = record { line = 1 + lines_ended passed rest; column = 1 + count_by begins_character (last_line passed rest) }
