-- Quoted strings and block strings, behind their first quote.
--
-- A string that doesn't end is refused at its first quote; what stands inside such a string comes later in the text, so it is not looked at.
use Rattle.std.specs.Prelude.{ℕ, ◌+◌, ◌==◌, nat_eq, not, if◌then◌else◌, List, [], ◌∷◌, take, drop, length}
use Rattle.std.specs.List.{starts_with, prefix_len}
use Rattle.gql_lex.specs.Classes.{is_forbidden}
use Rattle.gql_lex.specs.Runs.{run_len}
use Rattle.gql_lex.specs.declared.run.Pieces.TheVariants.{QuotedItems, SoundItems, BlockItems}
use Rattle.gql_lex.specs.declared.scan.Found.{Found}
use Rattle.gql_lex.specs.declared.scan.Found.TheVariants.{Token, Wrong}
use Rattle.gql_lex.specs.declared.scan.Fault.{Fault}
use Rattle.gql_lex.specs.declared.scan.Fault.TheVariants as fault
use Rattle.gql_lex.specs.declared.token.TokenKind.TheVariants as kind

-- what is wrong where the right content of a quoted string ends: an escape, or a character that stands nowhere
abbrev pub fault_of : List ℕ → Fault
fault_of text = if starts_with nat_eq text (92 ∷ []) then fault.Escape else fault.Character

-- `content`, between two quotes: all of it is right, or something in it is the first that is wrong. Counted from the first quote on
abbrev pub closed_quoted : List ℕ → Found
closed_quoted content =
    if run_len SoundItems 0 content == length content then Token kind.Quoted (length content + 2)
    else Wrong (fault_of (drop (run_len SoundItems 0 content) content)) (run_len SoundItems 0 content + 1)

-- behind `"`: the content goes on to a quote on the same line
abbrev pub quoted : List ℕ → Found
quoted text =
    if starts_with nat_eq (drop (run_len QuotedItems 0 text) text) (34 ∷ []) then closed_quoted (take (run_len QuotedItems 0 text) text)
    else Wrong fault.Open 0

-- the characters at the front that may stand
abbrev pub allowed_len : List ℕ → ℕ
allowed_len text = prefix_len (λ byte. not (is_forbidden byte)) text

-- `content`, between `"""` and `"""`
abbrev pub closed_block : List ℕ → Found
closed_block content =
    if allowed_len content == length content then Token kind.Block (length content + 6)
    else Wrong fault.Character (allowed_len content + 3)

-- behind `"""`
abbrev pub block : List ℕ → Found
block text =
    if starts_with nat_eq (drop (run_len BlockItems 0 text) text) (34 ∷ 34 ∷ 34 ∷ []) then closed_block (take (run_len BlockItems 0 text) text)
    else Wrong fault.Open 0

-- behind `"`
abbrev pub string : List ℕ → Found
string text = if starts_with nat_eq text (34 ∷ 34 ∷ []) then block (drop 2 text) else quoted text
