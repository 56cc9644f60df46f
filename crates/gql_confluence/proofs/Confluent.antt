-- A client is sent the payloads of a well-formed forest by a lawful schedule: it takes each, and has the defined response in the end.
use Rattle.std.proofs.Common.{◌≡◌, List, [], ◌∷◌, ◌++◌, map, refl, sym, subst, ◌∙◌, ap, Option, Some}
use Rattle.std.specs.Prelude.{flat_map}
use Rattle.gql_tree.specs.declared.path.Key.{Key}
use Rattle.gql_tree.specs.declared.value.Value.{Value}
use Rattle.gql_tree.specs.declared.delivery.Fault.{Fault}
use Rattle.gql_tree.specs.declared.delivery.RegionResult.{RegionResult}
use Rattle.gql_tree.specs.Flat.{Mark, flat}
use Rattle.gql_tree.specs.Extended.{marks}
use Rattle.gql_tree.specs.Forest.{Forest, Branches, grown}
use Rattle.gql_tree.specs.Merged.{Part, HasMark}
use Rattle.gql_tree.specs.Course.{Schedule, Arrival, Course, course}
use Rattle.gql_tree.specs.Payloads.{payloads}
use Rattle.gql_tree.specs.WellFormed.{IsWellFormed}
use Rattle.gql_tree.specs.Lawful.{IsLawful}
use Rattle.gql_merge.specs.declared.state.State.{State}
use Rattle.gql_merge.specs.Order.{Sorts, fault_cmp}
use Rattle.gql_merge.specs.Apply.{fresh}
use Rattle.gql_merge.proofs.Merging.{Merges, typed_value, merged_by}
use Rattle.gql_merge.proofs.Served.{IsServed}
use Rattle.gql_confluence.specs.Confluence.{HasFewIds, AreTaken, AreMerged, AreHeard, ByLawfulSchedules}
use Rattle.gql_confluence.proofs.Parts.{HasAt}
use Rattle.gql_confluence.proofs.Soundness.{part_of, HasAllOf}
use Rattle.gql_confluence.proofs.Induction.{courses_are_served, course_reached}
use Rattle.gql_confluence.proofs.Sound.{sound}
use Rattle.gql_confluence.proofs.Bridge.{arrived, delivered_is, settled_is}
use Rattle.gql_confluence.proofs.Lists.{in_map, to_map, contains_in, in_contains}

errors_mapped : (xs : List Arrival) → flat_map (λ (p : Part). p.errors) (map part_of xs) ≡ flat_map (λ (x : Arrival). x.region.faults) xs
errors_mapped [] = refl
errors_mapped (x ∷ xs) = ap (λ (l : List Fault). x.region.faults ++ l) (errors_mapped xs)

module _ (r0 : RegionResult) (bs0 : Branches) (wf : IsWellFormed (grown r0 bs0)) (p : Schedule) (lawful : IsLawful (grown r0 bs0) p) where
  abbrev f : Forest
  f = grown r0 bs0

  abbrev co : Course
  co = course p f

  all_merged : (t : State) → HasAllOf co t → Merges f t
  all_merged t h typed = record {
    value = h.value;
    is_value = h.is_value;
    merged = merged_by f (arrived r0 bs0 wf p lawful) (delivered_is r0 bs0 wf p lawful) h.value t.errors t.failures (typed_value t.value h.value h.is_value typed)
        (λ path m. (to_mark path m, from_mark path m))
        (subst (λ (l : List Fault). Sorts fault_cmp l t.errors) (sym (errors_mapped co.arrivals)) h.errors) h.failures;
    none_open = h.none_open;
    ended = h.ended;
  } where
    to_mark : (path : List Key) (m : Mark) → flat h.value path ≡ Some m → HasMark (arrived r0 bs0 wf p lawful) path m
    to_mark path m e =
        let g = (h.shows path m).0 (ap (λ (o : Option Value). marks o path) h.is_value ∙ e) in
        let o = h.of g.0 g.1 in
        let has : HasAt (part_of o.0) path g.2 = subst (λ (x : Part). HasAt x path g.2) o.2 g.3 in (
          part_of o.0,
          in_contains (map part_of co.arrivals) (part_of o.0) (to_map part_of o.0 co.arrivals o.1),
          has.0,
          g.2,
          has.1,
          has.2,
          (g.4 ∙ sym (settled_is r0 bs0 wf p lawful o.0 o.1 path g.2 has)),
        )

    from_mark : (path : List Key) (m : Mark) → HasMark (arrived r0 bs0 wf p lawful) path m → flat h.value path ≡ Some m
    from_mark path m (x, i, rest, raw, at, has, is) =
        let o = in_map part_of x co.arrivals (contains_in (map part_of co.arrivals) x i) in
        let j = h.all o.0 o.1 in
        let has_o : HasAt (part_of o.0) path raw = subst (λ (y : Part). HasAt y path raw) o.2 (rest, at, has) in
        ap (λ (v : Option Value). marks v path) (sym h.is_value) ∙ (h.shows path m).1 (part_of o.0, j, raw, has_o, is ∙ settled_is r0 bs0 wf p lawful o.0 o.1 path raw has_o)

  confluent : HasFewIds f p → IsServed fresh (payloads f p) (Merges f)
  confluent few =
      let served = courses_are_served co (sound r0 bs0 wf p lawful few) in
      (served.0, λ ps t same hears. all_merged t (served.1 ps t same hears))

  heard : HasFewIds f p → AreHeard f p
  heard few ps same all =
      let t = course_reached co (sound r0 bs0 wf p lawful few) ps same all in
      (t.0, t.1, (confluent few).1 ps t.0 same t.1 t.2)

by_parts : (P : Forest → Schedule → Type 0) → ((r : RegionResult) (bs : Branches) (p : Schedule) → IsWellFormed (grown r bs) → IsLawful (grown r bs) p → HasFewIds (grown r bs) p → P (grown r bs) p) → ByLawfulSchedules P
by_parts P h (grown r bs) p wf lawful few = h r bs p wf lawful few

pub taken : ByLawfulSchedules AreTaken
taken = by_parts AreTaken (λ r bs p wf lawful few. (confluent r bs wf p lawful few).0)

pub merged : ByLawfulSchedules AreMerged
merged = by_parts AreMerged (λ r bs p wf lawful few. (confluent r bs wf p lawful few).1)

pub there : ByLawfulSchedules AreHeard
there = by_parts AreHeard (λ r bs p wf lawful few. heard r bs wf p lawful few)
