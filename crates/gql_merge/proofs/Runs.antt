-- What holds after a run.
use Rattle.std.proofs.Common.{◌≡◌, ◌↔◌, inl, List, [], ◌∷◌, ◌++◌, refl, sym, subst, ap, Bool, true, false, cond, Some, None, Option, IsSome}
use Rattle.std.specs.Prelude.{Ok, Err}
use Rattle.std.specs.List.Sorted.{IsSorted}
use Rattle.gql_tree.specs.declared.delivery.Payload.{Payload}
use Rattle.gql_tree.specs.declared.delivery.Pending.{Pending}
use Rattle.gql_tree.specs.declared.delivery.Completed.{Completed}
use Rattle.gql_tree.specs.declared.delivery.Content.{Content}
use Rattle.gql_tree.specs.declared.delivery.Content.TheVariants.{Fields, Items}
use Rattle.gql_tree.specs.declared.path.Key.{Key}
use Rattle.gql_tree.specs.declared.value.Value.{Value}
use Rattle.gql_tree.specs.Flat.{Mark}
use Rattle.gql_tree.specs.Extended.{marks}
use Rattle.gql_merge.specs.declared.state.State.{State}
use Rattle.gql_merge.specs.declared.refusal.MergeRefusal.TheVariants.{AfterEnd, IdTwice}
use Rattle.gql_merge.specs.Steps.{Each}
use Rattle.gql_merge.specs.Order.{fault_cmp, failure_cmp}
use Rattle.gql_merge.specs.Apply.{Answer, Apply, begun, begin_with, Announces, is_known, Delivers, DeliversAt, Puts, target, Completes, complete_of, opened, fresh}
use Rattle.gql_merge.specs.Runs.{Runs}

-- one more payload
pub run_more : (ps : List Payload) (p : Payload) (s m t : State) → Runs ps s m → Apply p m (Ok t) → Runs (ps ++ p ∷ []) s t
run_more [] p s m t r a = (t, subst (λ (x : State). Apply p x (Ok t)) r a, refl)
run_more (q ∷ ps) p s m t r a = (r.0, r.1, run_more ps p r.0 m t r.2 a)

-- ---- errors and failures are sorted

pub errors_sorted : (ps : List Payload) (s t : State) → IsSorted fault_cmp s.errors → Runs ps s t → IsSorted fault_cmp t.errors
errors_sorted [] s t h r = subst (λ (x : State). IsSorted fault_cmp x.errors) (sym r) h
errors_sorted (p ∷ ps) s t h r = errors_sorted ps r.0 t r.1.2.2.2.2.1.errors.1 r.2

pub failures_sorted : (ps : List Payload) (s t : State) → IsSorted failure_cmp s.failures → Runs ps s t → IsSorted failure_cmp t.failures
failures_sorted [] s t h r = subst (λ (x : State). IsSorted failure_cmp x.failures) (sym r) h
failures_sorted (p ∷ ps) s t h r = failures_sorted ps r.0 t r.1.2.2.2.2.1.failures.1 r.2

-- ---- a value stands

abbrev Stands : State → Type 0
Stands s = IsSome s.value

begun_stands : (o : Option Value) (s m : State) → Ok m ≡ begin_with o s → Stands m
begun_stands None s m e = absurd (cc)
begun_stands (Some x) s m e = let f : m.value ≡ Some x = cc in subst (λ (o : Option Value). IsSome o) (sym f) refl

begin_by : (b : Bool) (p : Payload) (s m : State) → Ok m ≡ cond b (Err AfterEnd) (begin_with (begun s.value p) s) → Stands m
begin_by true p s m e = absurd (cc)
begin_by false p s m e = begun_stands (begun s.value p) s m e

announce_by : (b : Bool) (x : Pending) (s m : State) → Ok m ≡ cond b (Err IdTwice) (Ok (record s { ids = s.ids ++ x.id ∷ []; awaited = s.awaited ++ x ∷ [] })) → Stands s → Stands m
announce_by true x s m e h = absurd (cc)
announce_by false x s m e h = let f : m.value ≡ s.value = cc in subst (λ (o : Option Value). IsSome o) (sym f) h

complete_by : (o : Option Pending) (c : Completed) (s m : State) → Ok m ≡ complete_of o c s → Stands s → Stands m
complete_by None c s m e h = absurd (cc)
complete_by (Some p) c s m e h = let f : m.value ≡ s.value = cc in subst (λ (o : Option Value). IsSome o) (sym f) h

marked : (o : Option Value) (path : List Key) (m : Mark) → marks o path ≡ Some m → IsSome o
marked None path m e = absurd (cc)
marked (Some x) path m e = refl

put_stands : (c : Content) (path : List Key) (s m : State) → Puts c path s (Ok m) → Stands m
put_stands (Fields x) path s m h = marked m.value path _ ((h.2 path _).1 (inl h.1))
put_stands (Items xs) path s m h = marked m.value path _ h.1.longer

deliver_stands : (o : Option (List Key)) (c : Content) (s m : State) → DeliversAt o c s (Ok m) → Stands m
deliver_stands None c s m e = absurd (cc)
deliver_stands (Some path) c s m h = put_stands c path s m h

each_keeps : {X : Type 0} (step : X → State → Answer → Type 0) → ((x : X) (s m : State) → step x s (Ok m) → Stands s → Stands m) → (xs : List X) (s t : State) → Each step xs s (Ok t) → Stands s → Stands t
each_keeps step keeps [] s t e h = let f : t.value ≡ s.value = cc in subst (λ (o : Option Value). IsSome o) (sym f) h
each_keeps step keeps (x ∷ xs) s t k h = each_keeps step keeps xs k.0 t k.2 (keeps x s k.0 k.1 h)

pub applied_stands : (p : Payload) (s t : State) → Apply p s (Ok t) → Stands t
applied_stands p s t k =
    let first = begin_by s.ended p s k.0 k.1 in
    let second = each_keeps Announces (λ x s m e h. announce_by (is_known x.id s.ids) x s m e h) p.pending k.0 k.2.0 k.2.1 first in
    let third = each_keeps Delivers (λ x s m e h. deliver_stands (target x s.awaited) x.content s m e) p.incremental k.2.0 k.2.2.0 k.2.2.1 second in
    let fourth = each_keeps Completes (λ x s m e h. complete_by (opened x.id s.awaited) x s m e h) p.completed k.2.2.0 k.2.2.2.0 k.2.2.2.1 third in
    subst (λ (o : Option Value). IsSome o) (sym k.2.2.2.2.1.value) fourth

run_stands : (ps : List Payload) (s t : State) → Stands s → Runs ps s t → Stands t
run_stands [] s t h r = subst Stands (sym r) h
run_stands (p ∷ ps) s t h r = run_stands ps r.0 t (applied_stands p s r.0 r.1) r.2

no_value : (s : State) → Stands s → s.value ≡ None → ⊥
no_value s h e = let f : IsSome {T = Value} None = subst (λ (o : Option Value). IsSome o) e h in absurd (cc)

pub value_of_run : (ps : List Payload) (t : State) → Runs ps fresh t → (t.value ≡ None) ↔ (ps ≡ [])
value_of_run [] t r = (λ e. refl, λ e. ap (λ (x : State). x.value) r)
value_of_run (p ∷ ps) t r = (λ e. absurd (no_value t (run_stands ps r.0 t (applied_stands p fresh r.0 r.1) r.2) e), λ e. absurd (cc))
