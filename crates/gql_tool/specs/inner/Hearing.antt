-- How the hearing of an input ends, for private clauses.
use Rattle.std.specs.Prelude.{◌≡◌, ◌≢◌, ℕ, ◌≤◌, List, [], ◌++◌, length, Option, None, Some, ⊤}
use Rattle.gql_client.specs.declared.client.Client.{Client}
use Rattle.gql_client.specs.declared.stop.ClientRefusal.{ClientRefusal}
use Rattle.gql_client.specs.declared.stop.ClientRefusal.TheVariants as answer
use Rattle.gql_tool.specs.declared.hearing.Hearing.{Hearing}
use Rattle.gql_tool.specs.declared.hearing.Hearing.TheVariants.{Ended, Refused, TooLong, Fault, NoMemory}
use Rattle.gql_client.specs.Heard.{Heard, Stands, IsRefused}
use Rattle.gql_tool.specs.Replay.{budget}

abbrev pub heard_of : List ℕ → List ℕ → Heard
heard_of boundary bytes = record { boundary = boundary; bytes = bytes }

-- the client heard `front`, and `rest` was left of the input
abbrev pub EndsAt : List ℕ → List ℕ → List ℕ → Client → Hearing → Type 0
EndsAt boundary front rest c Ended = (rest ≡ []) × Stands c (heard_of boundary front)
EndsAt boundary front rest c Refused = (piece back : List ℕ) × (rest ≡ piece ++ back) × (length (front ++ piece) ≤ budget) × IsRefused c boundary (front ++ piece)
EndsAt boundary front rest c TooLong = (piece back : List ℕ) × (rest ≡ piece ++ back) × (length (front ++ piece) ≡ budget) × (back ≢ []) × Stands c (heard_of boundary (front ++ piece))
EndsAt boundary front rest c Fault = ⊤
EndsAt boundary front rest c NoMemory = ⊤

-- an answer that a client gives for good
abbrev pub hearing_of : ClientRefusal → Hearing
hearing_of answer.Refused = Refused
hearing_of answer.NoMemory = NoMemory

-- an input that told goes on to tell
abbrev pub StillTells : Option (List ℕ) → Option (List ℕ) → Type 0
StillTells None now = ⊤
StillTells (Some bytes) None = ⊥
StillTells (Some bytes) (Some rest) = ⊤
