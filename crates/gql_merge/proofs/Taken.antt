-- Payloads that are taken.
use Rattle.std.proofs.Common.{◌≡◌, false}
use Rattle.std.specs.Prelude.{Ok, Err}
use Rattle.gql_tree.specs.declared.delivery.Payload.{Payload}
use Rattle.gql_merge.specs.declared.state.State.{State}
use Rattle.gql_merge.specs.declared.refusal.MergeRefusal.{MergeRefusal}
use Rattle.gql_merge.specs.declared.refusal.MergeRefusal.TheVariants.{UnknownId, IdTwice, NoSuchPlace, Clash, AfterEnd, NotAList, OpenAtEnd, BadInitial, NoMemory}
use Rattle.gql_merge.specs.Apply.{Answer, leaves_open, Ends, Apply}

pub ok_same : (s t : State) (r : Answer) → r ≡ Ok s → r ≡ Ok t → s ≡ t
ok_same s t r e f = cc

pub err_ok : (e : MergeRefusal) (s : State) → Err e ≡ Ok s → ⊥
err_ok e s f = cc

-- ---- the end of a payload

pub never_ends : (p : Payload) (s : State) → leaves_open p s ≡ false → (e : MergeRefusal) → Ends p s (Err e) → ⊥
never_ends p s closed UnknownId h = h
never_ends p s closed IdTwice h = h
never_ends p s closed NoSuchPlace h = h
never_ends p s closed Clash h = h
never_ends p s closed AfterEnd h = h
never_ends p s closed NotAList h = h
never_ends p s closed OpenAtEnd h = absurd (cc)
never_ends p s closed BadInitial h = h
never_ends p s closed NoMemory h = h

-- a payload that is taken, with what is known then
abbrev pub IsTaken : Payload → State → (State → Type 0) → Type 0
IsTaken p s P = ((e : MergeRefusal) → Apply p s (Err e) → ⊥) × ((t : State) → Apply p s (Ok t) → P t)
