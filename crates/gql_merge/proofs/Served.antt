-- A client that is sent payloads like these, one after another.
use Rattle.std.proofs.Common.{◌≡◌, inl, inr, List, [], ◌∷◌, ◌++◌, refl, subst}
use Rattle.std.specs.Prelude.{Ok, Err}
use Rattle.gql_tree.specs.declared.delivery.Payload.{Payload}
use Rattle.gql_tree.specs.Sound.{SamePayload}
use Rattle.gql_merge.specs.declared.state.State.{State}
use Rattle.gql_merge.specs.declared.refusal.MergeRefusal.{MergeRefusal}
use Rattle.gql_merge.specs.Steps.{Each}
use Rattle.gql_merge.specs.Apply.{Answer, Apply}
use Rattle.gql_merge.specs.Merging.{SamePayloads}
use Rattle.gql_merge.proofs.Taken.{IsTaken}

-- it takes each of them, and of its state in the end this holds
abbrev pub IsServed : State → List Payload → (State → Type 0) → Type 0
IsServed s xs P =
    ((ps qs : List Payload) (e : MergeRefusal) → SamePayloads xs (ps ++ qs) → Each Apply ps s (Err e) → ⊥)
    × ((ps : List Payload) (t : State) → SamePayloads xs ps → Each Apply ps s (Ok t) → P t)

ok_same : (s t : State) (r : Answer) → r ≡ Ok s → r ≡ Ok t → s ≡ t
ok_same s t r e f = cc

module _ (s : State) (P : State → Type 0) where
  none_refused : (holds : P s) (ps qs : List Payload) (e : MergeRefusal) → SamePayloads [] (ps ++ qs) → Each Apply ps s (Err e) → ⊥
  none_refused holds [] qs e h k = absurd (cc)
  none_refused holds (p ∷ ps) qs e h k = h

  none_taken : (holds : P s) (ps : List Payload) (t : State) → SamePayloads [] ps → Each Apply ps s (Ok t) → P t
  none_taken holds [] t h k = subst P (ok_same s t (Ok t) k refl) holds
  none_taken holds (p ∷ ps) t h k = absurd h

  pub served_none : P s → IsServed s [] P
  served_none holds = (none_refused holds, none_taken holds)

  module _ (p : Payload) (xs : List Payload) (Q : State → Type 0) (taken : (q : Payload) → SamePayload p q → IsTaken q s Q) (rest : (m : State) → Q m → IsServed m xs P) where
    more_refused : (ps qs : List Payload) (e : MergeRefusal) → SamePayloads (p ∷ xs) (ps ++ qs) → Each Apply ps s (Err e) → ⊥
    more_refused [] qs e h k = absurd (cc)
    more_refused (q ∷ ps) qs e h (inl k) = (taken q h.0).0 e k
    more_refused (q ∷ ps) qs e h (inr k) = (rest k.0 ((taken q h.0).1 k.0 k.1)).0 ps qs e h.1 k.2

    more_taken : (ps : List Payload) (t : State) → SamePayloads (p ∷ xs) ps → Each Apply ps s (Ok t) → P t
    more_taken [] t h k = absurd h
    more_taken (q ∷ ps) t h k = (rest k.0 ((taken q h.0).1 k.0 k.1)).1 ps t h.1 k.2

    -- one more payload, and those behind it
    pub served_more : IsServed s (p ∷ xs) P
    served_more = (more_refused, more_taken)

-- what follows from what is known of a taken payload
pub taken_as : (p : Payload) (s : State) (P Q : State → Type 0) → ((t : State) → P t → Q t) → IsTaken p s P → IsTaken p s Q
taken_as p s P Q f h = (h.0, λ t k. f t (h.1 t k))
