use Rattle.std.proofs.Common.{◌≡◌, ◌-◌, ◌≤◌, ◌++◌, length, List, ℕ, Some}
use Rattle.gql_client.specs.Heard.{Stands, nothing_heard}
use Rattle.gql_tool.specs.inner.Hearing.{StillTells, heard_of}
use Rattle.gql_tool.specs.Replay.{budget}
use Rattle.gql_tool.proofs.hearing.hear.Given as goal

-- the client heard a front of the input, of `count` bytes, and the input still tells
abbrev pub invariant-loop-taken : goal.invariant-loop-taken
invariant-loop-taken g l = (l.count ≤ budget) × (g.I.Source.faults l.fn.input ≤ g.I.Source.faults l.input)
    × ((boundary bytes : List ℕ) → g.I.Source.left l.fn.input ≡ Some bytes → Stands l.fn.client (nothing_heard boundary)
    → (front rest : List ℕ) × (bytes ≡ front ++ rest) × (length front ≡ l.count) × (g.I.Source.left l.input ≡ Some rest) × Stands l.client (heard_of boundary front))
    × StillTells (g.I.Source.left l.fn.input) (g.I.Source.left l.input)

abbrev pub decreases-loop-taken : goal.decreases-loop-taken
decreases-loop-taken g l = budget - l.count
