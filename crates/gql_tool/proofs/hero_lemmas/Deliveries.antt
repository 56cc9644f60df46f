-- What is delivered of a forest that makes at most one task.
use Rattle.std.proofs.Common.{◌≡◌, ℕ, List, [], ◌∷◌, ◌++◌, refl, ◌∙◌, ap, Bool, true, false, Option, None}
use Rattle.std.specs.Prelude.{filter, flat_map, map, not, ◌&&◌, ◌||◌, cond, length}
use Rattle.std.specs.List.{list_all}
use Rattle.std.proofs.lemmas.List.{append-nil}
use Rattle.gql_tree.specs.declared.value.Value.{Value}
use Rattle.gql_tree.specs.declared.delivery.Detail.{Detail}
use Rattle.gql_tree.specs.declared.delivery.Failure.{Failure}
use Rattle.gql_tree.specs.declared.delivery.Fault.{Fault}
use Rattle.gql_tree.specs.declared.delivery.Frag.{Frag}
use Rattle.gql_tree.specs.declared.delivery.FragId.{FragId}
use Rattle.gql_tree.specs.declared.delivery.Row.{Row}
use Rattle.gql_tree.specs.declared.delivery.Outcome.{Outcome}
use Rattle.gql_tree.specs.declared.delivery.Outcome.TheVariants.{Good, Failed}
use Rattle.gql_tree.specs.declared.delivery.RegionResult.{RegionResult}
use Rattle.gql_tree.specs.declared.delivery.TaskWork.TheVariants as work
use Rattle.gql_tree.specs.Forest.{Forest, grown, none, more}
use Rattle.gql_tree.specs.Fate.{is_good, GroupRun, Scope, groups_of, parent_of, ancestors, above, all_good, is_ok, is_announced}
use Rattle.gql_tree.specs.Order.{group_cmp}
use Rattle.gql_tree.specs.Ordered.{ordered}
use Rattle.gql_tree.specs.Merged.{Delivery, part, errors_of, delivery}
use Rattle.gql_confluence.proofs.Deciders.{same_fragment-refl}

-- ---- one region

abbrev pub alone_region : Outcome → List Fault → List Frag → RegionResult
alone_region outcome faults fragments = record { outcome = outcome; faults = faults; fragments = fragments; groups = []; streams = [] }

-- ---- a region and that of its one group

module _ (value : Value) (faults : List Fault) (id : FragId) (label : Option (List ℕ)) (row : Row) (fields : List Detail) where
  abbrev pub waiting_region : RegionResult
  waiting_region = record {
    outcome = Good value;
    faults = faults;
    fragments = record { id = id; label = label; parent = None } ∷ [];
    groups = record { owners = id ∷ []; path = id.path; row = row; fields = fields } ∷ [];
    streams = [];
  }

  abbrev pub waiting : Outcome → List Fault → Forest
  waiting outcome later = grown waiting_region (more (work.Fields (record { owners = id ∷ []; path = id.path; row = row; fields = fields })) (grown (alone_region outcome later []) none) none)

  module _ (outcome : Outcome) (later : List Fault) where
    abbrev later_region : RegionResult
    later_region = alone_region outcome later []

    abbrev run : GroupRun
    run = record { group = record { owners = id ∷ []; path = id.path; row = row; fields = fields }; region = later_region }

    abbrev scope : Scope
    scope = record { fragments = waiting_region.fragments; groups = run ∷ [] }

    own_group : groups_of scope id ≡ run ∷ []
    own_group = rw (same_fragment-refl id) refl

    outermost : above scope id ≡ []
    outermost = ap (ancestors (length scope.fragments) scope.fragments) no_parent where
      no_parent : parent_of scope.fragments id ≡ None
      no_parent = rw (same_fragment-refl id) refl

    ok : is_ok scope id ≡ is_good later_region && true && true
    ok = λ i. list_all (λ x. is_good x.region) (own_group i) && list_all (all_good scope) (outermost i)

    announced : is_announced scope id ≡ true
    announced = λ i. not (elim (own_group i) [ [] ↦ true | x ∷ xs ↦ false ]) && list_all (is_ok scope) (outermost i)

    errors : errors_of scope id ≡ flat_map (λ x. x.region.faults) (filter (λ x. not (is_good x.region)) (run ∷ []))
    errors = λ i. flat_map (λ x. x.region.faults) (filter (λ x. not (is_good x.region)) (ordered (λ x y. group_cmp x.group y.group) (own_group i)))

    -- the delivery, by whether the fragment is ok and announced
    abbrev below : Bool → Delivery
    below is_fine = cond is_fine (record { parts = part id.path.keys later_region ∷ []; lists = []; failures = [] }) (record { parts = []; lists = []; failures = [] })

    abbrev failed : Bool → List Failure
    failed is_failed = map (λ f. record { path = f.id.path; label = f.label; errors = errors_of scope f.id }) (cond is_failed waiting_region.fragments [])

    abbrev shape : Bool → Bool → Delivery
    shape is_fine is_known = record {
      parts = part [] waiting_region ∷ (((below (is_fine || false)).parts ++ []) ++ []);
      lists = ((below (is_fine || false)).lists ++ []) ++ [];
      failures = ((below (is_fine || false)).failures ++ []) ++ failed (is_known && not is_fine);
    }

    shaped : delivery (waiting outcome later) ≡ shape (is_ok scope id) (is_announced scope id)
    shaped = refl

  pub good_delivered : (x : Value) (later : List Fault) → delivery (waiting (Good x) later)
      ≡ record { parts = part [] waiting_region ∷ part id.path.keys (alone_region (Good x) later []) ∷ []; lists = []; failures = [] }
  good_delivered x later = shaped (Good x) later ∙ (λ i. shape (Good x) later (ok (Good x) later i) (announced (Good x) later i))

  pub failed_delivered : (later : List Fault) → delivery (waiting Failed later)
      ≡ record { parts = part [] waiting_region ∷ []; lists = []; failures = record { path = id.path; label = label; errors = later } ∷ [] }
  failed_delivered later =
      shaped Failed later ∙ ((λ i. shape Failed later (ok Failed later i) (announced Failed later i))
      ∙ (λ i. record { parts = part [] waiting_region ∷ []; lists = []; failures = record { path = id.path; label = label; errors = failed_errors i } ∷ [] }))
    where
      failed_errors : errors_of (scope Failed later) id ≡ later
      failed_errors = errors Failed later ∙ append-nil later
