-- What the command `replay` makes of its input.
use Rattle.std.specs.Prelude.{◌≡◌, ◌≢◌, ◌⊎◌, ℕ, ◌≤◌, List, [], ◌∷◌, ◌++◌, length, Option, None, Some, codes}
use Rattle.gql_multipart.specs.declared.refusal.FrameKind.TheVariants.{BadBoundary}
use Rattle.gql_multipart.specs.Body.{IsBoundary}
use Rattle.gql_merge.specs.declared.state.State.{State}
use Rattle.gql_merge.specs.Apply.{fresh}
use Rattle.gql_merge.specs.Same.{IsTypedState}
use Rattle.gql_merge.specs.Report.{report_of}
use Rattle.gql_tool.specs.declared.status.Status.{Status}
use Rattle.gql_tool.specs.declared.status.Status.TheVariants.{Done, StreamRefused, TooLong}
use Rattle.gql_client.specs.Client.{at_byte, Accepts, Refuses, AcceptsEnd, RefusesEnd}
use Rattle.gql_tool.specs.Outcome.{Outcome, Ways}

-- the most bytes of a body that are heard
abbrev pub budget : ℕ
budget = 1073741824

-- ---- what is written

abbrev pub merged_line : State → List ℕ
merged_line t = codes "merged " ++ (report_of t ++ 10 ∷ [])

abbrev pub refused_lines : List ℕ → State → List ℕ
refused_lines why t = codes "refused " ++ (why ++ 10 ∷ merged_line t)

-- of a client: why it refused, if it did, and what it merged
abbrev pub lines_of : Option (List ℕ) → State → List ℕ
lines_of None t = merged_line t
lines_of (Some why) t = refused_lines why t

-- the command ends with this status, and writes this of a client, whose state is one that can exist
abbrev pub Tells : Status → Option (List ℕ) → State → Ways
Tells status why t o = IsTypedState t × (o ≡ record { status = status; bytes = lines_of why t })

abbrev pub body_too_long : Outcome
body_too_long = record { status = TooLong; bytes = codes "too long: body\n" }

-- ---- the ways to end

-- the input is a body, and its last payload says that no more comes
abbrev pub IsWhole : List ℕ → List ℕ → Ways
IsWhole boundary input o = (t : State) × (length input ≤ budget) × Accepts boundary input t × AcceptsEnd boundary input t × Tells Done None t o

-- the end of the input is refused
abbrev pub IsEndRefused : List ℕ → List ℕ → Ways
IsEndRefused boundary input o = (t : State) × (why : List ℕ) × (length input ≤ budget) × Accepts boundary input t × RefusesEnd boundary input t why × Tells StreamRefused (Some why) t o

-- a front of the input is refused, and what comes behind isn't heard
abbrev pub IsFrontRefused : List ℕ → List ℕ → Ways
IsFrontRefused boundary input o = (t : State) × (why front back : List ℕ) × (input ≡ front ++ back) × (length front ≤ budget) × Refuses boundary front t why × Tells StreamRefused (Some why) t o

-- nothing is refused in as many bytes as are heard, and more come
abbrev pub IsPastBudget : List ℕ → List ℕ → Ways
IsPastBudget boundary input o = (t : State) × (front back : List ℕ) × (input ≡ front ++ back) × (length front ≡ budget) × (back ≢ []) × Accepts boundary front t × (o ≡ body_too_long)

abbrev pub HeardWays : List ℕ → List ℕ → Ways
HeardWays boundary input o = IsWhole boundary input o ⊎ (IsEndRefused boundary input o ⊎ (IsFrontRefused boundary input o ⊎ IsPastBudget boundary input o))

-- the boundary is refused, or the input is heard
abbrev pub ReplayWays : List ℕ → List ℕ → Ways
ReplayWays boundary input o =
    ((IsBoundary boundary → ⊥) × Tells StreamRefused (Some (at_byte 0 BadBoundary)) fresh o)
    ⊎ (IsBoundary boundary × HeardWays boundary input o)
