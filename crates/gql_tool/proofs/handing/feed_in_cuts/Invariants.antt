use Rattle.std.proofs.Common.{◌≡◌, ◌+◌, ◌++◌, length, List, ℕ}
use Rattle.gql_tool.specs.inner.Handed.{Hears, CountsOn}
use Rattle.gql_tool.specs.LocalClient.{cuts_in}
use Rattle.gql_tool.proofs.handing.feed_in_cuts.Given as goal

-- the client heard what stands before `rest`, in so many cuts
abbrev pub invariant-loop-rest : goal.invariant-loop-rest
invariant-loop-rest l = record {
  passed : (front : List ℕ) × (l.piece ≡ front ++ l.rest) × Hears l.fn.client l.client front;
  counted : (n : ℕ) × (n + cuts_in l.cut l.rest ≡ cuts_in l.cut l.piece) × CountsOn l.fn.client l.client n;
}

abbrev pub decreases-loop-rest : goal.decreases-loop-rest
decreases-loop-rest l = length l.rest
