-- All that a forest has in it, whether it is delivered or not, and the response that is all of it.
use Rattle.std.specs.Prelude.{◌≡◌, ◌↔◌, Bool, List, [], map, flat_map, Some, IsTrue}
use Rattle.std.specs.List.{list_all}
use Rattle.gql_tree.specs.declared.path.Key.{Key}
use Rattle.gql_tree.specs.declared.value.Value.{Value}
use Rattle.gql_tree.specs.declared.delivery.Fault.{Fault}
use Rattle.gql_tree.specs.declared.delivery.Stream.{Stream}
use Rattle.gql_tree.specs.declared.delivery.RegionResult.{RegionResult}
use Rattle.gql_tree.specs.Flat.{Mark, flat}
use Rattle.gql_tree.specs.Same.{SameFlat}
use Rattle.gql_tree.specs.Forest.{Forest, grown, outcome_value}
use Rattle.gql_tree.specs.Fate.{is_good, scope_of}
use Rattle.gql_tree.specs.Merged.{part, Grown, Delivery, delivery, HasMark, IsMerged}
use Rattle.gql_tree.specs.WellFormed.{sites_below, sites, IsWellFormed}
use Rattle.gql_model.specs.Plain.{kept}

-- a list with all its items
abbrev pub whole_list : Stream → Grown
whole_list s = record { at = s.path.keys; length = s.length }

-- each region, and each list of a stream with all its items
abbrev pub everything : Forest → Delivery
everything f = record { parts = map (λ x. part x.at x.region) (sites f); lists = flat_map (λ x. map whole_list x.region.streams) (sites f); failures = [] }

-- each group and each item reached its beginning with a value
abbrev pub each_task_is_good : Forest → Bool
each_task_is_good (grown r bs) = list_all (λ x. is_good x.region) (sites_below (scope_of (grown r bs)) r.fragments bs)

-- a response in one piece that has all of a forest: its value is the union of all parts, with whole lists, and of the errors at
-- places that stand in it none is missing
pub record IsAllOf (f : Forest) (r : RegionResult) : Type 0 where
  pub marks : (path : List Key) (m : Mark) → (flat (outcome_value r.outcome) path ≡ Some m) ↔ HasMark (everything f) path m
  pub errors : kept (outcome_value r.outcome) r.faults ≡ kept (outcome_value r.outcome) (flat_map (λ x. x.errors) (everything f).parts)

-- ---- what holds of well-formed forests

-- no failure is told exactly where each task is good
abbrev pub FailuresAreTold : Type 0
FailuresAreTold = (f : Forest) → IsWellFormed f → ((delivery f).failures ≡ []) ↔ IsTrue (each_task_is_good f)

-- and then everything is delivered
abbrev pub AllIsDelivered : Type 0
AllIsDelivered = (f : Forest) → IsWellFormed f → (delivery f).failures ≡ [] → delivery f ≡ everything f

-- so a defined response without failures has the value of a response in one piece
abbrev pub ValuesAreSame : Type 0
ValuesAreSame = (f : Forest) (r : RegionResult) (value : Value) (faults : List Fault) → IsWellFormed f → IsAllOf f r → IsMerged f value faults [] → SameFlat value (outcome_value r.outcome)

-- and its errors at places that stand
abbrev pub ErrorsAreSame : Type 0
ErrorsAreSame = (f : Forest) (r : RegionResult) (value : Value) (faults : List Fault) → IsWellFormed f → IsAllOf f r → IsMerged f value faults [] → kept value faults ≡ kept (outcome_value r.outcome) r.faults
