-- What is found lies within the text.
use Rattle.std.specs.Prelude.{◌≡◌, ℕ, ◌+◌, ◌-◌, ◌<◌, ◌≤◌, List, length, slice_index}
use Rattle.gql_lex.specs.declared.scan.Found.{Found}
use Rattle.gql_lex.specs.declared.scan.Found.TheVariants.{Token, Wrong}

-- a token takes some bytes of the text, and its last one is ASCII, so that a character ends there
abbrev pub Lies : List ℕ → Found → Type 0
Lies text (Token kind len) = (0 < len) × (len ≤ length text) × (slice_index text (len - 1) < 128)
Lies text (Wrong fault inside) = inside ≤ length text

-- a token begins with ASCII
abbrev pub BeginsPlain : List ℕ → Found → Type 0
BeginsPlain text (Token kind len) = slice_index text 0 < 128
BeginsPlain text (Wrong fault inside) = Unit {0}

-- a token has a content of `count` bytes and `more` bytes of marks
abbrev pub Encloses : ℕ → ℕ → Found → Type 0
Encloses count more (Token kind len) = (len ≡ count + more)
Encloses count more (Wrong fault inside) = inside ≤ count + more
