-- The states that payloads lead to.
use Rattle.std.proofs.Common.{◌≡◌, List, ◌++◌, refl, false}
use Rattle.std.specs.Prelude.{Ok}
use Rattle.std.specs.List.{AllByRecursion}
use Rattle.gql_tree.specs.declared.delivery.Payload.{Payload}
use Rattle.gql_tree.specs.Ordered.{ordered}
use Rattle.gql_tree.specs.Typed.{IsTypedPayload}
use Rattle.gql_merge.specs.declared.state.State.{State}
use Rattle.gql_merge.specs.Order.{fault_cmp, failure_cmp}
use Rattle.gql_merge.specs.Apply.{faults_of, is_last, leaves_open, Ends, Apply}
use Rattle.gql_merge.specs.Merging.{SamePayloads, Hears}
use Rattle.gql_merge.specs.Same.{IsTypedState}
use Rattle.gql_merge.proofs.Totals.{faults_total, failures_total}
use Rattle.gql_merge.proofs.Ordered.{ordered-sorts}
use Rattle.gql_merge.proofs.Exact.{faults_exact, failures_exact}

-- a payload leads from this state to one that can exist
abbrev pub LeadsOn : Payload → State → Type 0
LeadsOn p s = (t : State) × Apply p s (Ok t) × IsTypedState t

-- payloads like these lead a client from its start to a state that can exist
abbrev pub IsReached : List Payload → Type 0
IsReached xs = (ps : List Payload) → SamePayloads xs ps → AllByRecursion IsTypedPayload ps → (t : State) × Hears ps (Ok t) × IsTypedState t

module _ (p : Payload) (s : State) where
  -- behind the end of a payload
  abbrev pub ended_state : State
  ended_state = record {
    value = s.value;
    awaited = s.awaited;
    ids = s.ids;
    errors = ordered fault_cmp (s.errors ++ faults_of p);
    failures = ordered failure_cmp s.failures;
    ended = is_last p.has_next;
  }

  pub ends : leaves_open p s ≡ false → Ends p s (Ok ended_state)
  ends closed = (
    closed,
    record {
      value = refl;
      awaited = refl;
      ids = refl;
      errors = ordered-sorts fault_cmp faults_total faults_exact (s.errors ++ faults_of p);
      failures = ordered-sorts failure_cmp failures_total failures_exact s.failures;
      ended = refl;
    },
  )
