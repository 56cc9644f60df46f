-- What stands on one line.
use Rattle.std.specs.Prelude.{ℕ, ◌+◌, nat_le, Bool, List, count_by}
use Rattle.gql_tree.specs.declared.Spot.{Spot}
use Rattle.gql_lex.specs.Places.{begins_character}

-- the place behind bytes in which no line ends
abbrev pub on_line : Spot → List ℕ → Spot
on_line spot passed = record { line = spot.line; column = spot.column + count_by begins_character passed }

-- the byte is no control character
abbrev pub is_no_control : ℕ → Bool
is_no_control byte = nat_le 32 byte
