-- The forms of a command line.
use Rattle.std.specs.Prelude.{ℕ, ◌&&◌, not, ◌==◌, nat_le, Bool, true, false, List, [], ◌∷◌, Option, None, Some, bytes_eq, codes, if◌then◌else◌}
use Rattle.std.specs.Char.{is_ascii_digit}
use Rattle.std.specs.List.{list_all}
use Rattle.std.specs.Str.Parse.{digits_value}
use Rattle.gql_tool.specs.declared.local_words.LocalWords.{LocalWords}
use Rattle.gql_tool.specs.declared.words.Command.{Command}
use Rattle.gql_tool.specs.declared.words.Command.TheVariants.{Local, Replay}

-- the names of the three files of `local`, and its variables
pub record Names : Type 0 where
  pub schema : List ℕ
  pub tables : List ℕ
  pub document : List ℕ
  pub vars : List ℕ

-- a command, by its words
pub data Form : Type 0 where
  LocalForm : (names : Names) (workers cut : ℕ) → Form
  ReplayForm : (boundary : List ℕ) → Form

-- a single byte, or more of which the first is no `0`
abbrev pub has_no_leading_zero : List ℕ → Bool
has_no_leading_zero [] = false
has_no_leading_zero (only ∷ []) = true
has_no_leading_zero (first ∷ second ∷ rest) = not (first == 48)

-- decimal digits without a leading zero, except `0` itself
abbrev pub is_decimal : List ℕ → Bool
is_decimal text = list_all is_ascii_digit text && has_no_leading_zero text

-- a number from low to high
abbrev pub is_number : ℕ → ℕ → List ℕ → Bool
is_number low high text = is_decimal text && nat_le low (digits_value 10 text) && nat_le (digits_value 10 text) high

-- what follows the word `local`: no workers, and a cut of at least one byte
abbrev pub local_form : (schema tables document vars workers cut : List ℕ) → Option Form
local_form schema tables document vars workers cut =
    if is_number 0 0 workers && is_number 1 1048576 cut
    then Some (LocalForm (record { schema = schema; tables = tables; document = document; vars = vars }) (digits_value 10 workers) (digits_value 10 cut)) else None

-- `local SCHEMA TABLES DOCUMENT VARS WORKERS CUT` or `replay BOUNDARY`, and nothing else
abbrev pub form_of : List (List ℕ) → Option Form
form_of (command ∷ schema ∷ tables ∷ document ∷ vars ∷ workers ∷ cut ∷ []) =
    if bytes_eq command (codes "local") then local_form schema tables document vars workers cut else None
form_of (command ∷ boundary ∷ []) = if bytes_eq command (codes "replay") then Some (ReplayForm boundary) else None
form_of _ = None

-- what the fields of a command point to
abbrev pub names_of : LocalWords → Names
names_of words = record { schema = words.schema.now; tables = words.tables.now; document = words.document.now; vars = words.vars.now }

abbrev pub said : Command → Form
said (Local words) = LocalForm (names_of words) words.workers words.cut
said (Replay boundary) = ReplayForm boundary.now
