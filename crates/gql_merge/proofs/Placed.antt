-- A change at a path of a state's value, and its refusals.
use Rattle.std.proofs.Common.{◌≡◌, ◌↔◌, List, refl, sym, subst, ◌∙◌, ap, Some, None, Option, Result}
use Rattle.std.specs.Prelude.{Ok, Err}
use Rattle.gql_tree.specs.declared.path.Key.{Key}
use Rattle.gql_tree.specs.declared.value.Value.{Value}
use Rattle.gql_tree.specs.declared.graft.GraftRefusal.{GraftRefusal}
use Rattle.gql_tree.specs.declared.graft.GraftRefusal.TheVariants as Graft
use Rattle.gql_tree.specs.Flat.{Mark, null, truth, integer, text, object, list, flat}
use Rattle.gql_tree.specs.Union.{Clashes, moved}
use Rattle.gql_tree.specs.Extended.{marks}
use Rattle.gql_merge.specs.declared.state.State.{State}
use Rattle.gql_merge.specs.Apply.{OnRefusal, Grafts}
use Rattle.gql_merge.specs.inner.Refused.{refusal_of}

pub flat_marks : (o : Option Value) (x : Value) → o ≡ Some x → (path : List Key) → marks o path ≡ flat x path
flat_marks o x e path = ap (λ (y : Option Value). marks y path) e

-- an object stands where it isn't that none does
pub object_there : (o : Option Mark) → ((o ≡ Some object → ⊥) → ⊥) → o ≡ Some object
object_there None h = absurd (h (λ e. absurd (cc)))
object_there (Some null) h = absurd (h (λ e. absurd (cc)))
object_there (Some (truth b)) h = absurd (h (λ e. absurd (cc)))
object_there (Some (integer n)) h = absurd (h (λ e. absurd (cc)))
object_there (Some (text t)) h = absurd (h (λ e. absurd (cc)))
object_there (Some object) h = refl
object_there (Some (list n)) h = absurd (h (λ e. absurd (cc)))

module _ (path : List Key) (s : State) (x : Value) (is : s.value ≡ Some x) where
  there : (r : Result (Unit {0}) GraftRefusal) → (r ≡ Err Graft.NoSuchPlace → ⊥) → (r ≡ Err Graft.NoSuchPlace) ↔ (flat x path ≡ Some object → ⊥) → marks s.value path ≡ Some object
  there r n h = flat_marks s.value x is path ∙ object_there (flat x path) (λ k. n (h.1 k))

  pub graft_there : (r : Result (Unit {0}) GraftRefusal) (u : Unit {0}) → r ≡ Ok u → (r ≡ Err Graft.NoSuchPlace) ↔ (flat x path ≡ Some object → ⊥) → marks s.value path ≡ Some object
  graft_there r u e h = there r (λ f. absurd (cc)) h

  pub graft_refused : (fields : Value) (r : Result (Unit {0}) GraftRefusal) (g : GraftRefusal) → r ≡ Err g
      → (r ≡ Err Graft.NoSuchPlace) ↔ (flat x path ≡ Some object → ⊥)
      → (r ≡ Err Graft.Clash → Clashes (flat x) (moved path (flat fields)))
      → (r ≡ Err Graft.NotAList → ⊥)
      → OnRefusal {T = Unit {0}} (Err (refusal_of g)) (λ e. Grafts path fields s (Err e))
  graft_refused fields r Graft.NoSuchPlace e place clash kind = λ f. place.0 e (sym (flat_marks s.value x is path) ∙ f)
  graft_refused fields r Graft.Clash e place clash kind = (there r (λ f. absurd (cc)) place, subst (λ (o : Option Value). Clashes (marks o) (moved path (flat fields))) (sym is) (clash e))
  graft_refused fields r Graft.NotAList e place clash kind = kind e
  graft_refused fields r Graft.NoMemory e place clash kind = tt
