-- States that are the same up to the order of members, and states that can exist.
use Rattle.std.specs.Prelude.{◌≡◌, IfSome, Ok, Err}
use Rattle.gql_tree.specs.Same.{SameMaybe}
use Rattle.gql_tree.specs.Typed.{IsTypedValue}
use Rattle.gql_merge.specs.declared.state.State.{State}
use Rattle.gql_merge.specs.Apply.{Answer}

-- a state whose value is one that can exist
abbrev pub IsTypedState : State → Type 0
IsTypedState s = IfSome s.value IsTypedValue

-- equal but for the order of members in their values
pub record SameState (s t : State) : Type 0 where
  pub value : SameMaybe s.value t.value
  pub awaited : s.awaited ≡ t.awaited
  pub ids : s.ids ≡ t.ids
  pub errors : s.errors ≡ t.errors
  pub failures : s.failures ≡ t.failures
  pub ended : s.ended ≡ t.ended

-- the same state, or the same refusal
abbrev pub SameAnswer : Answer → Answer → Type 0
SameAnswer (Ok s) (Ok t) = SameState s t
SameAnswer (Err e) (Err f) = e ≡ f
SameAnswer _ _ = ⊥
