use Rattle.std.proofs.Common.{◌≡◌, ◌-◌, length, List, ℕ}
use Rattle.gql_client.specs.Heard.{Heard, Took, heard}
use Rattle.gql_client.proofs.client.Client.take_in.Given as goal

-- it goes on from the parts that were taken before
abbrev pub invariant-loop : goal.invariant-loop
invariant-loop l = ((h : Heard) (contents : List (List ℕ)) → Took l.fn.self h contents → (more : List (List ℕ)) × Took l.self (heard h l.fn.piece) more)
    × (l.self.stop ≡ l.fn.self.stop) × (l.self.cuts ≡ l.fn.self.cuts)

abbrev pub decreases-loop : goal.decreases-loop
decreases-loop l = length l.self.reader.bytes - l.self.reader.given
