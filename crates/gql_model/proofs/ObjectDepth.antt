-- More depth than there are nodes changes nothing of an object.
use Rattle.std.proofs.Common.{◌≡◌, sym, ap, ◌∙◌, ℕ, zero, suc, ◌+◌, ◌≤◌, List, [], map, length, arith}
use Rattle.std.specs.Prelude.{filter}
use Rattle.std.specs.List.{AllByRecursion as Each}
use Rattle.std.proofs.Math.Path.{fun_ext}
use Rattle.gql_tree.specs.declared.Key.{Key}
use Rattle.gql_tree.specs.declared.FragId.{FragId}
use Rattle.gql_tree.specs.declared.Occurrence.{Occurrence}
use Rattle.gql_tree.specs.declared.Detail.{Detail}
use Rattle.gql_tree.specs.declared.Row.{Row}
use Rattle.gql_model.specs.declared.operation.Node.{Node}
use Rattle.gql_model.specs.World.{World}
use Rattle.gql_model.specs.Collect.{met, merged, fragments}
use Rattle.gql_model.specs.Complete.{Part, whole}
use Rattle.gql_model.specs.Objects.{object_part, object_from, field_part, object_value, groups_at, is_own}
use Rattle.gql_model.specs.Depth.{IsNumbered, ObjectsUnfold}
use Rattle.gql_model.proofs.Each.{each_filter, each_weaker, each_always, map_each}
use Rattle.gql_model.proofs.Below.{From, DetailFrom, merged-from, met-past}

module _ (w : World) (nodes : List Node) (numbered : IsNumbered nodes) where
  abbrev Below : Type 0
  Below = Row → List Occurrence → List Key → Part

  -- the objects under one detail are the same
  abbrev Alike : Below → Below → Detail → Type 0
  Alike f g d = (r : Row) (p : List Key) → f r d.nodes p ≡ g r d.nodes p

  field_alike : (f g : Below) (row : Row) (path : List Key) (d : Detail) → Alike f g d → field_part w nodes (λ r p. f r d.nodes p) row path d ≡ field_part w nodes (λ r p. g r d.nodes p) row path d
  field_alike f g row path d h =
      let e : (λ r p. f r d.nodes p) ≡ (λ r p. g r d.nodes p) = fun_ext (λ r. fun_ext (λ p. h r p)) in
      ap (λ (x : Row → List Key → Part). field_part w nodes x row path d) e

  fields_alike : (f g : Below) (row : Row) (path : List Key) (ds : List Detail) → Each (Alike f g) ds → map (λ d. field_part w nodes (λ r p. f r d.nodes p) row path d) ds ≡ map (λ d. field_part w nodes (λ r p. g r d.nodes p) row path d) ds
  fields_alike f g row path ds h = map_each _ _ ds (each_weaker (Alike f g) (λ d. field_part w nodes (λ r p. f r d.nodes p) row path d ≡ field_part w nodes (λ r p. g r d.nodes p) row path d) (field_alike f g row path) ds h)

  pub object_part-deeper : (d m n : ℕ) → length nodes ≤ n + d → d ≤ m → (own : List FragId) (row : Row) (os : List Occurrence) (path : List Key) → From n os → object_part w nodes (suc d) own row os path ≡ object_part w nodes (suc m) own row os path
  object_part-deeper zero m n room le own row os path h =
      let past : From (length nodes) os = each_weaker (λ (o : Occurrence). n ≤ o.node) (λ o. length nodes ≤ o.node) (λ o k. omega arith) os h in
      let none = met-past w nodes numbered row.kind path os past in
      ap (λ ms. object_from w nodes (object_part w nodes zero own) own row path ms) none ∙ sym (ap (λ ms. object_from w nodes (object_part w nodes m own) own row path ms) none)
  object_part-deeper (suc d) zero n room le own row os path h = absurd (omega arith)
  object_part-deeper (suc d) (suc m) n room le own row os path h =
      let ms = met w nodes row.kind path os in
      let own_fields = filter (is_own nodes own) (merged ms) in
      let room' : length nodes ≤ suc n + d = omega arith in
      let le' : d ≤ m = omega arith in
      let below = each_filter (DetailFrom (suc n)) (is_own nodes own) (merged ms) (merged-from w nodes numbered row.kind path n os h) in
      let alike = each_weaker (DetailFrom (suc n)) (Alike (object_part w nodes (suc d) own) (object_part w nodes (suc m) own)) (λ x k r p. object_part-deeper d m (suc n) room' le' own r x.nodes p k) own_fields below in
      ap (λ (ps : List Part). whole (object_value own_fields) (record { fragments = fragments ms; groups = groups_at nodes own row path (merged ms); streams = [] }) ps) (fields_alike (object_part w nodes (suc d) own) (object_part w nodes (suc m) own) row path own_fields alike)

  pub objects_unfold : ObjectsUnfold w nodes
  objects_unfold own row os path = object_part-deeper (length nodes) (suc (length nodes)) 0 (omega arith) (omega arith) own row os path (each_always (λ (o : Occurrence). 0 ≤ o.node) (λ o. omega arith) os)
