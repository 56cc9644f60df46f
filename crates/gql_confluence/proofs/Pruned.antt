-- Forests without what grows of tasks that haven't ended: two that are the same so far are the same without it.
use Rattle.std.proofs.Common.{◌≡◌, ℕ, ◌+◌, List, [], ◌∷◌, refl, ◌∙◌, ap, Bool, true, false, cond, Some, None}
use Rattle.std.specs.Prelude.{◌||◌}
use Rattle.std.specs.Ordering.{is_eq}
use Rattle.gql_tree.specs.declared.delivery.Outcome.TheVariants.{Failed}
use Rattle.gql_tree.specs.declared.delivery.RegionResult.{RegionResult}
use Rattle.gql_tree.specs.declared.delivery.TaskWork.{TaskWork}
use Rattle.gql_tree.specs.Forest.{Forest, Branches, grown, none, more}
use Rattle.gql_tree.specs.Times.{Time, has_time}
use Rattle.gql_tree.specs.Numbering.{work_cmp, event_from, event_of}
use Rattle.gql_tree.specs.Causal.{has_ended, SameBelow, SameSoFar}

-- what stands for a region that isn't there yet
abbrev pub blank : RegionResult
blank = record { outcome = Failed; faults = []; fragments = []; groups = []; streams = [] }

abbrev pub kept : Bool → RegionResult → Branches → Forest
kept true r bs = grown r bs
kept false r bs = grown blank none

module _ (ended : List TaskWork) where
  abbrev pub pruned : Branches → Branches
  pruned none = none
  pruned (more w (grown r inner) bs) = more w (kept (has_ended ended w) r (pruned inner)) (pruned bs)

  abbrev pub pruned_forest : Forest → Forest
  pruned_forest (grown r bs) = grown r (pruned bs)

  no_branches : (v : TaskWork) (f : Forest) (bs : Branches) → SameBelow ended (more v f bs) none → ⊥
  no_branches v (grown r inner) bs h = h

  below_same : (bs cs : Branches) → SameBelow ended bs cs → pruned bs ≡ pruned cs
  below_same none none h = refl
  below_same none (more w g cs) h = absurd h
  below_same (more v f bs) none h = absurd (no_branches v f bs h)
  below_same (more v (grown r inner) bs) (more w (grown q other) cs) h =
      λ i. more (h.0 i) ((by (has_ended ended v) refl (λ k. below_same inner other k) ∙ ap (λ b. kept b q (pruned other)) (ap (has_ended ended) h.0)) i) (below_same bs cs h.2 i)
    where
      by : (b : Bool) → has_ended ended v ≡ b → (SameBelow ended inner other → pruned inner ≡ pruned other) → kept b r (pruned inner) ≡ kept b q (pruned other)
      by true e rec = let k = h.1 e in λ i. grown (k.0 i) (rec k.1 i)
      by false e rec = refl

  pub forests_same : (f g : Forest) → SameSoFar ended f g → pruned_forest f ≡ pruned_forest g
  forests_same (grown r bs) (grown q cs) h = λ i. grown (h.0 i) (below_same bs cs h.1 i)

  -- none of the tasks below has ended
  abbrev pub AllOpen : Branches → Type 0
  AllOpen none = Unit {0}
  AllOpen (more w (grown r inner) bs) = (has_ended ended w ≡ false) × AllOpen inner × AllOpen bs

  -- none has ended below one that hasn't
  abbrev pub Closed : Branches → Type 0
  Closed none = Unit {0}
  Closed (more w (grown r inner) bs) = (has_ended ended w ≡ true → Closed inner) × (has_ended ended w ≡ false → AllOpen inner) × Closed bs

-- a task has an event if it has ended
pub event_there : (k : ℕ) (vs : List TaskWork) (w : TaskWork) → has_time (event_from k vs w) ≡ has_ended vs w
event_there k [] w = refl
event_there k (v ∷ vs) w = by (is_eq (work_cmp v w)) (event_there (k + 1) vs w) where
  by : (b : Bool) → has_time (event_from (k + 1) vs w) ≡ has_ended vs w → has_time (cond b (Some (k + 1)) (event_from (k + 1) vs w)) ≡ (b || has_ended vs w)
  by true e = refl
  by false e = e

no_time : (t : Time) → has_time t ≡ false → t ≡ None
no_time None e = refl
no_time (Some a) e = absurd (cc)

pub some_time : (t : Time) → has_time t ≡ true → (b : ℕ) × (t ≡ Some b)
some_time None e = absurd (cc)
some_time (Some b) e = (b, refl)

-- one that hasn't ended has none
pub no_event : (ended : List TaskWork) (w : TaskWork) → has_ended ended w ≡ false → event_of ended w ≡ None
no_event ended w e = no_time (event_of ended w) (event_there 0 ended w ∙ e)
