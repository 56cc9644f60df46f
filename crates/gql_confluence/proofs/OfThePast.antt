-- The payloads after some events are those of each well-formed forest that is the same so far.
use Rattle.std.proofs.Common.{◌≡◌, ◌⊎◌, inl, inr, List, map, sym, subst, ◌∙◌, ap, true}
use Rattle.gql_tree.specs.declared.delivery.RegionResult.{RegionResult}
use Rattle.gql_tree.specs.declared.delivery.TaskWork.{TaskWork}
use Rattle.gql_tree.specs.declared.delivery.TaskWork.TheVariants.{Fields, Item}
use Rattle.gql_tree.specs.Forest.{Forest, Branches, grown}
use Rattle.gql_tree.specs.Fate.{GroupRun, ItemRun, groups_of}
use Rattle.gql_tree.specs.Times.{has_time}
use Rattle.gql_tree.specs.Course.{Schedule, Awaited, announced_at, items_awaited, course}
use Rattle.gql_tree.specs.Numbering.{event_of, by_events}
use Rattle.gql_tree.specs.Payloads.{payloads, payloads_of}
use Rattle.gql_tree.specs.WellFormed.{IsWellFormed}
use Rattle.gql_tree.specs.Causal.{SameSoFar, ended_after, PayloadsAreOfThePast}
use Rattle.gql_confluence.proofs.Places.{FragmentAwaited}
use Rattle.gql_confluence.proofs.Awaits.{StreamGrows, all_awaits}
use Rattle.gql_confluence.proofs.Past.{tasks_are_of_the_past}
use Rattle.gql_confluence.proofs.Pruned.{pruned_forest, forests_same, Closed}
use Rattle.gql_confluence.proofs.Reached.{closed_after}
use Rattle.gql_confluence.proofs.SoFar.{IsSoFar, so_far_back, so_far_on}
use Rattle.gql_confluence.proofs.CourseSoFar.{course_so_far}
use Rattle.gql_confluence.proofs.GoesOn.{latest_first, all_open}
use Rattle.gql_confluence.proofs.PayloadsSoFar.{IsInOrder, payloads_same}

module _ (ended : List TaskWork) where
  abbrev p : Schedule
  p = by_events ended

  -- what is done is announced
  in_order : (r : RegionResult) (bs : Branches) → IsWellFormed (grown r bs) → IsInOrder (course p (grown r bs))
  in_order r bs wf a i = by (all_awaits r bs wf p a i) where
    by : FragmentAwaited r bs wf p a ⊎ StreamGrows r bs wf p a → has_time a.done ≡ true → has_time a.announced ≡ true
    by (inl k) e =
        let s = k.place.site.scope in
        let t = announced_at p s k.place.begun k.fragment.id in
        ap (λ (x : Awaited). has_time x.announced) k.is
        ∙ latest_first t (map (λ (x : GroupRun). event_of ended (Fields x.group)) (groups_of s k.fragment.id)) (sym (ap (λ (x : Awaited). has_time x.done) k.is) ∙ e)
    by (inr k) e =
        let w = k.awaited in
        ap (λ (x : Awaited). has_time x.announced) w.is
        ∙ latest_first w.place.arrival.released (map (λ (x : ItemRun). event_of ended (Item x.stream x.index)) (items_awaited w.place.items w.stream)) (sym (ap (λ (x : Awaited). has_time x.done) w.is) ∙ e)

  -- two forests that are the same so far
  module _ (r : RegionResult) (bs : Branches) (q : RegionResult) (cs : Branches) (wf : IsWellFormed (grown r bs)) (wg : IsWellFormed (grown q cs))
      (shut : Closed ended bs) (shut' : Closed ended cs) (same : SameSoFar ended (grown r bs) (grown q cs)) where
    courses_same : IsSoFar (course p (grown q cs)) (course p (grown r bs))
    courses_same =
        so_far_on (course p (grown q cs)) (course p (pruned_forest ended (grown q cs))) (course p (grown r bs)) (course_so_far ended q cs wg shut')
        (so_far_back (course p (grown r bs)) (course p (pruned_forest ended (grown q cs)))
        (subst (λ (f : Forest). IsSoFar (course p (grown r bs)) (course p f)) (forests_same ended (grown r bs) (grown q cs) same) (course_so_far ended r bs wf shut)))

    pub payloads_so_far : payloads (grown q cs) p ≡ payloads (grown r bs) p
    payloads_so_far =
        payloads_same (course p (grown q cs)) (course p (grown r bs)) courses_same (in_order q cs wg) (in_order r bs wf) (all_open ended q cs wg) (all_open ended r bs wf) q
        ∙ ap (λ (z : RegionResult). payloads_of z (course p (grown r bs))) (sym same.0)

pub payloads_are_of_the_past : PayloadsAreOfThePast
payloads_are_of_the_past (grown r bs) (grown q cs) ns wf wg same =
    let past = tasks_are_of_the_past (grown r bs) (grown q cs) ns same in
    ap (payloads (grown q cs)) past.1
    ∙ payloads_so_far (ended_after (grown r bs) ns) r bs q cs wf wg (closed_after r bs ns wf)
    (subst (λ (l : List TaskWork). Closed l cs) past.0 (closed_after q cs ns wg)) same
