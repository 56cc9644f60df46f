-- The ways in which a command may end: its status, and what it writes.
use Rattle.std.specs.Prelude.{◌≡◌, ◌⊎◌, ℕ, ◌<◌, ◌≤◌, List, [], ◌∷◌, ◌++◌, length, Option, None, Some, codes}
use Rattle.gql_tool.specs.declared.status.Status.{Status}
use Rattle.gql_tool.specs.declared.status.Status.TheVariants.{NoFile, TooLong}

pub record Outcome : Type 0 where
  pub status : Status
  pub bytes : List ℕ

-- which outcomes are right; where tasks may end in several orders there are more than one
abbrev pub Ways : Type 1
Ways = Outcome → Type 0

-- the most bytes that a file may have
abbrev pub file_limit : ℕ
file_limit = 67108864

-- a line that names a file
abbrev pub names : Status → List ℕ → List ℕ → Outcome
names status words name = record { status = status; bytes = words ++ (name ++ 10 ∷ []) }

-- goes on with a file's bytes, or says what is wrong with the file
abbrev pub AfterFile : Option (List ℕ) → List ℕ → (List ℕ → Ways) → Ways
AfterFile None name next o = o ≡ names NoFile (codes "no such file: ") name
AfterFile (Some bytes) name next o =
    ((file_limit < length bytes) × (o ≡ names TooLong (codes "too long: ") name))
    ⊎ ((length bytes ≤ file_limit) × next bytes o)
