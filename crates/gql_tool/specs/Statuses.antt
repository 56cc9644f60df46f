-- The exit statuses of the program, and which of them a command ends with.
use Rattle.std.specs.Prelude.{ℕ, ◌==◌, List, [], ◌∷◌, IsTrue}
use Rattle.std.specs.List.{list_any}
use Rattle.gql_tool.specs.declared.status.Status.{Status}
use Rattle.gql_tool.specs.declared.status.Status.TheVariants.{Done, Refused, Usage, ReadFault, WriteFault, NoMemory, StreamRefused, NoFile, DoorFault, InputsRefused, TooLong}

abbrev pub number_of : Status → ℕ
number_of Done = 0
number_of Refused = 1
number_of Usage = 2
number_of ReadFault = 3
number_of WriteFault = 4
number_of NoMemory = 5
number_of StreamRefused = 6
number_of NoFile = 7
number_of DoorFault = 8
number_of InputsRefused = 9
number_of TooLong = 10

-- a status that stands in a list
abbrev pub IsOneOf : List Status → Status → Type 0
IsOneOf these status = IsTrue (list_any (λ this. number_of this == number_of status) these)

-- those of `local` in this build
abbrev pub local_statuses : List Status
local_statuses = Done ∷ Refused ∷ ReadFault ∷ WriteFault ∷ NoMemory ∷ StreamRefused ∷ NoFile ∷ TooLong ∷ []

-- those of `local` that are left where the files are there and nothing outside fails
abbrev pub judged_statuses : List Status
judged_statuses = Done ∷ Refused ∷ NoMemory ∷ StreamRefused ∷ []

-- those of `replay`
abbrev pub replay_statuses : List Status
replay_statuses = Done ∷ ReadFault ∷ WriteFault ∷ NoMemory ∷ StreamRefused ∷ TooLong ∷ []

-- those of `replay` that are left where the input is a server's body and nothing outside fails
abbrev pub merged_statuses : List Status
merged_statuses = Done ∷ NoMemory ∷ []
