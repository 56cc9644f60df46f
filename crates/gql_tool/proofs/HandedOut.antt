-- A payload's piece that was put and fed.
use Rattle.std.proofs.Common.{◌≡◌, sym, ap, ◌∙◌, subst, ℕ, List, Option, Result, Ok, Err, IfErr, IsErrOf, inl, inr}
use Rattle.std.specs.Prelude.{◌⊎◌, OnOk}
use Rattle.std.specs.Io.KnownBytes.{Appends}
use Rattle.gql_tool.proofs.Sent.{Prefix-all}
use Rattle.gql_tree.specs.declared.Payload.{Payload}
use Rattle.gql_tool.specs.declared.status.Status.{Status}
use Rattle.gql_tool.specs.declared.status.Status.TheVariants.{NoMemory, StreamRefused}
use Rattle.gql_client.specs.declared.client.Client.{Client}
use Rattle.gql_tool.specs.LocalClient.{cuts_in}
use Rattle.gql_tool.specs.inner.Handed.{IsWritten, Hears, StopsIn, CountsOn, Handed}

module _ (p : Payload) (cut : ℕ) (a b : Option (List ℕ)) (c d : Client) where
  fed : (piece : List ℕ) (r : Result (Unit {0}) Status) → IsWritten p → Appends a b piece → OnOk r (Hears c d piece) → OnOk r (CountsOn c d (cuts_in cut piece))
      → (IsErrOf r StreamRefused → StopsIn c d piece) → IfErr r (λ s. (s ≡ StreamRefused) ⊎ (s ≡ NoMemory)) → Handed p piece cut a b c d r
  fed piece (Ok x) written put hears counts stops statuses = (written, put, hears, counts)
  fed piece (Err s) written put hears counts stops (inl is) = subst (λ (s : Status). Handed p piece cut a b c d (Err s)) (sym is) (written, put, stops (ap (λ (x : Status). (let y : Result (Unit {0}) Status = Err x in y)) is))
  fed piece (Err s) written put hears counts stops (inr is) = subst (λ (s : Status). Handed p piece cut a b c d (Err s)) (sym is) (Prefix-all a b piece put)

  -- a piece that was put whole, and fed
  pub Handed-fed : (piece sent heard : List ℕ) (r : Result (Unit {0}) Status) → sent ≡ piece → heard ≡ piece → IsWritten p → Appends a b sent → OnOk r (Hears c d heard) → OnOk r (CountsOn c d (cuts_in cut heard))
      → (IsErrOf r StreamRefused → StopsIn c d heard) → IfErr r (λ s. (s ≡ StreamRefused) ⊎ (s ≡ NoMemory)) → Handed p piece cut a b c d r
  Handed-fed piece sent heard r is_sent is_heard written put hears counts stops statuses =
      subst (λ (xs : List ℕ). Handed p xs cut a b c d r) is_heard
      (fed heard r written (subst (Appends a b) (is_sent ∙ sym is_heard) put) hears counts stops statuses)
