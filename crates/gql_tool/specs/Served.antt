-- An input of `replay` that is the body which `local` writes for a request.
use Rattle.std.specs.Prelude.{◌≡◌, ℕ, ◌≤◌, List, length, Option, Some, None}
use Rattle.std.specs.List.{AllByRecursion as Each}
use Rattle.gql_tool.specs.declared.status.Status.TheVariants.{Done}
use Rattle.gql_tree.specs.Forest.{Forest}
use Rattle.gql_tool.specs.Outcome.{Ways}
use Rattle.gql_tool.specs.Judged.{Executed, Judged}
use Rattle.gql_tool.specs.Local.{texts, body, Fits, IsMergedLine}
use Rattle.gql_tool.specs.LocalClient.{dash}
use Rattle.gql_tool.specs.Replay.{budget}

-- the whole body of a request that has these regions: no text is longer than a part may be, and all of it is heard
pub record IsBodyOf (f : Forest) (boundary input : List ℕ) : Type 0 where
  pub vars : List ℕ
  pub schema : List ℕ
  pub tables : List ℕ
  pub document : List ℕ
  pub request : Judged vars schema tables document (Executed f)
  pub fit : Each Fits (texts f)
  pub within : length input ≤ budget
  pub is_dash : boundary ≡ dash
  pub is_body : input ≡ body f

-- the input tells that it is such a body
abbrev pub IsServed : Forest → List ℕ → Option (List ℕ) → Type 0
IsServed f boundary None = ⊥
IsServed f boundary (Some input) = IsBodyOf f boundary input

-- the line of the defined response, and nothing else
abbrev pub MergedWay : Forest → Ways
MergedWay f o = (line : List ℕ) × IsMergedLine f line × (o ≡ record { status = Done; bytes = line })
