-- How the steps of a command end, for private clauses.
use Rattle.std.specs.Prelude.{◌≡◌, ◌≤◌, ◌<◌, List, [], ◌∷◌, ℕ, length, Option, None, Some, ⊤, Result, Ok, Err, codes}
use Rattle.gql_io.specs.Files.{Files}
use Rattle.gql_tool.specs.declared.status.Status.{Status}
use Rattle.gql_tool.specs.declared.status.Status.TheVariants.{Done, Refused, ReadFault, WriteFault, NoMemory, StreamRefused, NoFile, TooLong}
use Rattle.gql_tool.specs.Outcome.{Ways, names, file_limit}
use Rattle.gql_tool.specs.Words.{Names}
use Rattle.gql_tool.specs.Judged.{Judgement, Judged}
use Rattle.gql_tool.specs.Meets.{MeetsTold}

-- the statuses that end a command at a file
abbrev pub file_statuses : List Status
file_statuses = ReadFault ∷ WriteFault ∷ NoMemory ∷ NoFile ∷ TooLong ∷ []

-- those that end it behind its files
abbrev pub request_statuses : List Status
request_statuses = Done ∷ Refused ∷ WriteFault ∷ NoMemory ∷ StreamRefused ∷ []

-- those that stop a delivery
abbrev pub delivery_statuses : List Status
delivery_statuses = WriteFault ∷ NoMemory ∷ StreamRefused ∷ []

-- the file has these bytes, where the shelf tells
abbrev pub Finds : Option Files → List ℕ → List ℕ → Type 0
Finds None name bytes = ⊤
Finds (Some files) name bytes = files name ≡ Some bytes

-- what the file itself decides: it is missing or too long
abbrev pub FileStops : Option (List ℕ) → List ℕ → Ways
FileStops None name o = o ≡ names NoFile (codes "no such file: ") name
FileStops (Some bytes) name o = (file_limit < length bytes) × (o ≡ names TooLong (codes "too long: ") name)

-- the command ends at this file, whatever it would have done with it
abbrev pub StopsAt : Option Files → List ℕ → Status → Option (List ℕ) → Option (List ℕ) → Type 0
StopsAt told name status old new = MeetsTold told (λ files. FileStops (files name) name) status old new

-- the status of a call that ended early or went through
abbrev pub ended : {T : Type 0} → Result T Status → Status
ended (Ok x) = Done
ended (Err status) = status

-- the request of the files is judged so, as far as the shelf tells
abbrev pub Requests : Option Files → Names → Judgement → Type 0
Requests None names is = Unit {0}
Requests (Some files) names is =
    (s b c : List ℕ) × (files names.schema ≡ Some s) × (length s ≤ file_limit) × (files names.tables ≡ Some b) × (length b ≤ file_limit) × (files names.document ≡ Some c) × (length c ≤ file_limit) × Judged names.vars s b c is
