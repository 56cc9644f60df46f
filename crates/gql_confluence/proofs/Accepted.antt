-- The steps of a payload: what comes of its pendings and of its completed records.
use Rattle.std.proofs.Common.{◌≡◌, ℕ, List, [], ◌∷◌, ◌++◌, refl, sym, ◌∙◌, ap, false, cond, Option, Some, None}
use Rattle.std.specs.Prelude.{Ok, Err}
use Rattle.gql_tree.specs.declared.value.Value.{Value}
use Rattle.gql_tree.specs.declared.delivery.Fault.{Fault}
use Rattle.gql_tree.specs.declared.delivery.Failure.{Failure}
use Rattle.gql_tree.specs.declared.delivery.Payload.{Payload}
use Rattle.gql_tree.specs.declared.delivery.Pending.{Pending}
use Rattle.gql_tree.specs.declared.delivery.Completed.{Completed}
use Rattle.gql_merge.specs.declared.state.State.{State}
use Rattle.gql_merge.specs.declared.refusal.MergeRefusal.TheVariants.{IdTwice, AfterEnd}
use Rattle.gql_merge.specs.Steps.{Each}
use Rattle.gql_merge.specs.Apply.{Answer, begun, begin_with, Begins, is_known, Announces, opened, without, failed, complete_of, Completes}
use Rattle.gql_merge.proofs.Steps.{then_sure}

-- ---- the beginning
-- where the payload has a value to begin with, the client has it behind the beginning
module _ (p : Payload) (s : State) (going : s.ended ≡ false) where
  begins : (o : Option Value) → begun s.value p ≡ o → (r : Answer) → r ≡ begin_with o s → Begins p s r
  begins o e r h = h ∙ (ap (λ (x : Option Value). begin_with x s) (sym e) ∙ ap (λ b. cond b (Err AfterEnd) (begin_with (begun s.value p) s)) (sym going))

  pub begins_Ok : (x : Value) → begun s.value p ≡ Some x → Begins p s (Ok (record s { value = Some x }))
  begins_Ok x e = begins (Some x) e _ refl

-- ---- pendings

-- each id is new
abbrev pub AllNew : List (List ℕ) → List Pending → Type 0
AllNew ids [] = Unit {0}
AllNew ids (p ∷ ps) = (is_known p.id ids ≡ false) × AllNew (ids ++ p.id ∷ []) ps

abbrev pub ids_of : List (List ℕ) → List Pending → List (List ℕ)
ids_of ids [] = ids
ids_of ids (p ∷ ps) = ids_of (ids ++ p.id ∷ []) ps

abbrev pub awaited_of : List Pending → List Pending → List Pending
awaited_of ws [] = ws
awaited_of ws (p ∷ ps) = awaited_of (ws ++ p ∷ []) ps

pub announced : (ps : List Pending) (s : State) → AllNew s.ids ps → (r : Answer) → Each Announces ps s r → r ≡ Ok (record s { ids = ids_of s.ids ps; awaited = awaited_of s.awaited ps })
announced [] s new r h = h
announced (p ∷ ps) s new r h =
    let m : State = record s { ids = s.ids ++ p.id ∷ []; awaited = s.awaited ++ p ∷ [] } in
    announced ps m new.1 r (then_sure (Announces p) (Each Announces ps) s m r (λ q k. k ∙ ap (λ b. cond b (Err IdTwice) (Ok m)) new.0) h)

-- ---- completed records

-- each is of an open id
abbrev pub AllOpen : List Pending → List Completed → Type 0
AllOpen ps [] = Unit {0}
AllOpen ps (c ∷ cs) = (p : Pending) × (opened c.id ps ≡ Some p) × AllOpen (without c.id ps) cs

abbrev pub still_open : List Pending → List Completed → List Pending
still_open ps [] = ps
still_open ps (c ∷ cs) = still_open (without c.id ps) cs

-- the failures that they make
abbrev pub failed_if : Option Pending → List Fault → List Failure
failed_if None errors = []
failed_if (Some p) errors = failed p errors

abbrev pub failed_of : List Failure → List Pending → List Completed → List Failure
failed_of fs ps [] = fs
failed_of fs ps (c ∷ cs) = failed_of (fs ++ failed_if (opened c.id ps) c.errors) (without c.id ps) cs

pub all_completed : (cs : List Completed) (s : State) → AllOpen s.awaited cs → (r : Answer) → Each Completes cs s r → r ≡ Ok (record s { awaited = still_open s.awaited cs; failures = failed_of s.failures s.awaited cs })
all_completed [] s open' r h = h
all_completed (c ∷ cs) s open' r h =
    let after : Option Pending → State = λ o. record s { awaited = without c.id s.awaited; failures = s.failures ++ failed_if o c.errors } in
    let m : State = after (opened c.id s.awaited) in
    all_completed cs m open'.2 r (then_sure (Completes c) (Each Completes cs) s m r (λ q k. k ∙ (ap (λ (o : Option Pending). complete_of o c s) open'.1 ∙ ap (λ (o : Option Pending). Ok (after o)) (sym open'.1))) h)
