-- What a client has in the end that was sent the payloads of a forest: the defined response, and nothing is awaited.
use Rattle.std.specs.Prelude.{◌≡◌, List, [], ◌∷◌, Some, true}
use Rattle.gql_tree.specs.declared.value.Value.{Value}
use Rattle.gql_tree.specs.declared.delivery.Payload.{Payload}
use Rattle.gql_tree.specs.Forest.{Forest}
use Rattle.gql_tree.specs.Sound.{SamePayload}
use Rattle.gql_tree.specs.Merged.{IsMerged}
use Rattle.gql_merge.specs.declared.state.State.{State}
use Rattle.gql_merge.specs.Steps.{Each}
use Rattle.gql_merge.specs.Apply.{Answer, Apply, fresh}

-- payloads that are the same, one by one, up to the order of members
abbrev pub SamePayloads : List Payload → List Payload → Type 0
SamePayloads [] [] = Unit {0}
SamePayloads (p ∷ ps) (q ∷ qs) = SamePayload p q × SamePayloads ps qs
SamePayloads _ _ = ⊥

-- what comes of payloads, one after another, in a client that was sent nothing before; the first refusal decides
abbrev pub Hears : List Payload → Answer → Type 0
Hears ps r = Each Apply ps fresh r

-- the client has the defined response of a forest, and awaits nothing
pub record HasMerged (f : Forest) (t : State) : Type 0 where
  pub value : Value
  pub is_value : t.value ≡ Some value
  pub merged : IsMerged f value t.errors t.failures
  pub none_open : t.awaited ≡ []
  pub ended : t.ended ≡ true
