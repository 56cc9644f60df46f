-- How a status and what was written meet what the files determine.
use Rattle.std.specs.Prelude.{◌≡◌, ◌≤◌, ◌⊎◌, List, [], ℕ, length, Option, None, Some, ⊤}
use Rattle.std.specs.Io.KnownBytes.{Appends, Keeps}
use Rattle.gql_io.specs.Told.{AppendsPrefix}
use Rattle.gql_io.specs.Files.{Files}
use Rattle.gql_tool.specs.declared.status.Status.{Status}
use Rattle.gql_tool.specs.declared.status.Status.TheVariants.{Usage, ReadFault, WriteFault, NoMemory}
use Rattle.gql_tool.specs.Outcome.{Outcome, Ways, names, file_limit}
use Rattle.gql_tool.specs.Local.{LocalWays}
use Rattle.gql_tool.specs.Replay.{ReplayWays}
use Rattle.gql_tool.specs.Statuses.{IsOneOf, local_statuses, judged_statuses, replay_statuses, merged_statuses}
use Rattle.gql_tool.specs.Served.{IsServed}
use Rattle.gql_tree.specs.Forest.{Forest}
use Rattle.gql_tool.specs.Words.{Names, Form, LocalForm, ReplayForm}

-- a right outcome's status, and all of its bytes
abbrev pub Whole : Ways → Status → Option (List ℕ) → Option (List ℕ) → Type 0
Whole ways status old new = (o : Outcome) × ways o × (status ≡ o.status) × Appends old new o.bytes

-- a prefix of a right outcome's bytes
abbrev pub Front : Ways → Option (List ℕ) → Option (List ℕ) → Type 0
Front ways old new = (o : Outcome) × ways o × AppendsPrefix old new o.bytes

-- a whole outcome; but after a fault of the shelf nothing, after a fault of the output a prefix, and after want of
-- memory one of these two
abbrev pub Meets : Ways → Status → Option (List ℕ) → Option (List ℕ) → Type 0
Meets ways ReadFault old new = Keeps old new
Meets ways WriteFault old new = Front ways old new
Meets ways NoMemory old new = Keeps old new ⊎ Front ways old new
Meets ways status old new = Whole ways status old new

-- the same where the shelf tells its files, or the input its bytes
abbrev pub MeetsTold : {X : Type 0} → Option X → (X → Ways) → Status → Option (List ℕ) → Option (List ℕ) → Type 0
MeetsTold (Some told) of status old new = Meets (of told) status old new
MeetsTold None of ReadFault old new = Keeps old new
MeetsTold None of status old new = ⊤

-- what a command's status and output meet, by what it reads: files, or the input
abbrev pub Ends : Option Files → Option (List ℕ) → Form → Status → Option (List ℕ) → Option (List ℕ) → Type 0
Ends files input (LocalForm names workers cut) status old new = MeetsTold files (LocalWays names) status old new
Ends files input (ReplayForm boundary) status old new = MeetsTold input (ReplayWays boundary) status old new

-- nothing is written where the words have no form
abbrev pub Answers : Option Files → Option (List ℕ) → Option Form → Status → Option (List ℕ) → Option (List ℕ) → Type 0
Answers files input None status old new = Keeps old new
Answers files input (Some form) status old new = Ends files input form status old new

-- which statuses a command ends with, whether anything tells or not
abbrev pub IsEnd : Option Form → Status → Type 0
IsEnd None status = status ≡ Usage
IsEnd (Some (LocalForm names workers cut)) status = IsOneOf local_statuses status
IsEnd (Some (ReplayForm boundary)) status = IsOneOf replay_statuses status

-- the command reads files, or the input
abbrev pub ReadsFiles : Option Form → Type 0
ReadsFiles (Some (LocalForm names workers cut)) = ⊤
ReadsFiles _ = ⊥

abbrev pub ReadsInput : Option Form → Type 0
ReadsInput (Some (ReplayForm boundary)) = ⊤
ReadsInput _ = ⊥

-- an input that told is read to its end
abbrev pub NoneLeft : Option (List ℕ) → Option (List ℕ) → Type 0
NoneLeft None now = ⊤
NoneLeft (Some bytes) now = now ≡ Some []

-- a file that a command can go on with
abbrev pub HasFile : Files → List ℕ → Type 0
HasFile files name = (bytes : List ℕ) × (files name ≡ Some bytes) × (length bytes ≤ file_limit)

-- the shelf tells that the three files are there
abbrev pub HasFiles : Option Files → Names → Type 0
HasFiles None names = ⊥
HasFiles (Some files) names = HasFile files names.schema × HasFile files names.tables × HasFile files names.document

-- the files of `local` are there, or the input of `replay` is a server's body
abbrev pub Ready : Option Files → Option (List ℕ) → Option Form → Type 0
Ready files input None = ⊥
Ready files input (Some (LocalForm names workers cut)) = HasFiles files names
Ready files input (Some (ReplayForm boundary)) = (f : Forest) × IsServed f boundary input

-- the statuses that are left then, where nothing outside fails
abbrev pub IsComplete : Option Form → Status → Type 0
IsComplete (Some (ReplayForm boundary)) status = IsOneOf merged_statuses status
IsComplete _ status = IsOneOf judged_statuses status

-- the words are the command `replay`, and its input is the body of these regions
abbrev pub Serves : Forest → Option (List ℕ) → Option Form → Type 0
Serves f input (Some (ReplayForm boundary)) = IsServed f boundary input
Serves f input _ = ⊥
