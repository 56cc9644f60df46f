-- What a client holds after a list of payloads, each of which it took, or which it took up to one that it refused.
use Rattle.std.specs.Prelude.{◌≡◌, List, [], ◌∷◌, ◌++◌, Ok, Err}
use Rattle.gql_tree.specs.declared.delivery.Payload.{Payload}
use Rattle.gql_merge.specs.declared.state.State.{State}
use Rattle.gql_merge.specs.declared.refusal.MergeRefusal.{MergeRefusal}
use Rattle.gql_merge.specs.Apply.{Apply}

abbrev pub Runs : List Payload → State → State → Type 0
Runs [] s t = t ≡ s
Runs (p ∷ ps) s t = (m : State) × Apply p s (Ok m) × Runs ps m t

-- a payload is refused, and those before it are taken
pub record StopsAt (ps : List Payload) (s t : State) (refusal : MergeRefusal) : Type 0 where
  pub before : List Payload
  pub payload : Payload
  pub after : List Payload
  pub all : ps ≡ before ++ payload ∷ after
  pub taken : Runs before s t
  pub refused : Apply payload t (Err refusal)
