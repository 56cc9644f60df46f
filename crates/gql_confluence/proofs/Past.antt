-- Which tasks have numbers and which have ended is determined by the regions that have ended.
use Rattle.std.proofs.Common.{◌≡◌, inl, ℕ, zero, suc, List, [], ◌∷◌, ◌++◌, map, refl, sym, subst, ◌∙◌, ap, true, Option, Some, None}
use Rattle.std.specs.Prelude.{slice_get}
use Rattle.std.specs.Cmp.Lexicographic.{slice_cmp}
use Rattle.std.specs.Ordering.{is_eq, match_ordering, nat_cmp, ordering_then}
use Rattle.std.specs.declared.cmp.Ordering.{Ordering}
use Rattle.std.specs.declared.cmp.Ordering.TheVariants.{Less, Equal, Greater}
use Rattle.std.proofs.lemmas.Cmp.{tied_itself, nat_cmp_total, nat_list_cmp_total}
use Rattle.gql_tree.specs.declared.delivery.FragId.{FragId}
use Rattle.gql_tree.specs.declared.delivery.TaskWork.{TaskWork}
use Rattle.gql_tree.specs.declared.delivery.TaskWork.TheVariants.{Fields, Item}
use Rattle.gql_tree.specs.Ordered.{placed, ordered}
use Rattle.gql_tree.specs.Forest.{Forest, Branches, grown, none, more}
use Rattle.gql_tree.specs.Numbering.{work_cmp, Made, made_of, makes, Events, start, end_one, end_all, by_events}
use Rattle.gql_tree.specs.Causal.{has_ended, SameBelow, SameSoFar, ended_after, TasksAreOfThePast}
use Rattle.gql_confluence.proofs.Parts.{In, in_left, in_right}
use Rattle.gql_confluence.proofs.Lists.{to_any}
use Rattle.gql_confluence.proofs.Orders.{path_total}
use Rattle.gql_confluence.proofs.Stays.{all_more}

-- a task that has ended is found among those that have
work_itself : (w : TaskWork) → is_eq (work_cmp w w) ≡ true
work_itself (Fields g) = ap (λ o. is_eq (ordering_then o (slice_cmp nat_cmp (map (λ (f : FragId). f.place) g.owners) (map (λ (f : FragId). f.place) g.owners)))) (tied_itself path_total g.path.keys) ∙ ap is_eq (tied_itself nat_list_cmp_total (map (λ (f : FragId). f.place) g.owners))
work_itself (Item s i) = ap (λ o. is_eq (ordering_then o (nat_cmp i i))) (tied_itself path_total s.path.keys) ∙ ap is_eq (tied_itself nat_cmp_total i)

pub found : (ended : List TaskWork) (w : TaskWork) → In w ended → has_ended ended w ≡ true
found ended w i = to_any (λ v. is_eq (work_cmp v w)) ended w i (work_itself w)

module _ (ended : List TaskWork) where
  -- one task in both forests, with the same below it if it has ended
  abbrev IsBeside : Made → Made → Type 0
  IsBeside m n = (n.work ≡ m.work) × (has_ended ended m.work ≡ true → SameSoFar ended m.forest n.forest)

  abbrev AreBeside : List Made → List Made → Type 0
  AreBeside [] [] = Unit {0}
  AreBeside (m ∷ ms) (n ∷ ns) = IsBeside m n × AreBeside ms ns
  AreBeside _ _ = ⊥

  beside_below : (bs cs : Branches) → SameBelow ended bs cs → AreBeside (made_of bs) (made_of cs)
  beside_below none none h = tt
  beside_below none (more w g cs) h = absurd h
  beside_below (more v f bs) none h = absurd (nothing v f bs h) where
    nothing : (v : TaskWork) (f : Forest) (bs : Branches) → SameBelow ended (more v f bs) none → ⊥
    nothing v (grown r inner) bs h = h
  beside_below (more v (grown r inner) bs) (more w (grown q other) cs) h = ((sym h.0, λ e. h.1 e), beside_below bs cs h.2)

  abbrev by_work : Made → Made → Ordering
  by_work a b = work_cmp a.work b.work

  beside_placed : (m n : Made) (ms ns : List Made) → IsBeside m n → AreBeside ms ns → AreBeside (placed by_work m ms) (placed by_work n ns)
  beside_placed m n [] [] h k = (h, tt)
  beside_placed m n [] (y ∷ ns) h k = absurd k
  beside_placed m n (x ∷ ms) [] h k = absurd k
  beside_placed m n (x ∷ ms) (y ∷ ns) h k =
      subst (λ (o : Ordering). AreBeside (placed by_work m (x ∷ ms)) (match_ordering o (n ∷ y ∷ ns) (n ∷ y ∷ ns) (y ∷ placed by_work n ns))) (λ i. work_cmp (sym h.0 i) (sym k.0.0 i))
      (by (by_work m x) (beside_placed m n ms ns h k.1))
    where
      by : (o : Ordering) → AreBeside (placed by_work m ms) (placed by_work n ns) → AreBeside (match_ordering o (m ∷ x ∷ ms) (m ∷ x ∷ ms) (x ∷ placed by_work m ms)) (match_ordering o (n ∷ y ∷ ns) (n ∷ y ∷ ns) (y ∷ placed by_work n ns))
      by Less rec = (h, (k.0, k.1))
      by Equal rec = (h, (k.0, k.1))
      by Greater rec = (k.0, rec)

  beside_ordered : (ms ns : List Made) → AreBeside ms ns → AreBeside (ordered by_work ms) (ordered by_work ns)
  beside_ordered [] [] h = tt
  beside_ordered [] (n ∷ ns) h = absurd h
  beside_ordered (m ∷ ms) [] h = absurd h
  beside_ordered (m ∷ ms) (n ∷ ns) h = beside_placed m n (ordered by_work ms) (ordered by_work ns) h.0 (beside_ordered ms ns h.1)

  beside_made : (f g : Forest) → SameSoFar ended f g → AreBeside (makes f) (makes g)
  beside_made (grown r bs) (grown q cs) h = beside_ordered (made_of bs) (made_of cs) (beside_below bs cs h.1)

  beside_append : (ms ns ks ls : List Made) → AreBeside ms ns → AreBeside ks ls → AreBeside (ms ++ ks) (ns ++ ls)
  beside_append [] [] ks ls h k = k
  beside_append [] (n ∷ ns) ks ls h k = absurd h
  beside_append (m ∷ ms) [] ks ls h k = absurd h
  beside_append (m ∷ ms) (n ∷ ns) ks ls h k = (h.0, beside_append ms ns ks ls h.1 k)

  works_beside : (ms ns : List Made) → AreBeside ms ns → map (λ m. m.work) ns ≡ map (λ m. m.work) ms
  works_beside [] [] h = refl
  works_beside [] (n ∷ ns) h = absurd h
  works_beside (m ∷ ms) [] h = absurd h
  works_beside (m ∷ ms) (n ∷ ns) h = λ i. h.0.0 i ∷ works_beside ms ns h.1 i

  -- the task of a number
  abbrev AtNumber : Option Made → Option Made → Type 0
  AtNumber None None = Unit {0}
  AtNumber (Some m) (Some n) = IsBeside m n
  AtNumber _ _ = ⊥

  beside_at : (ms ns : List Made) → AreBeside ms ns → (i : ℕ) → AtNumber (slice_get ms i) (slice_get ns i)
  beside_at [] [] h i = tt
  beside_at [] (n ∷ ns) h i = absurd h
  beside_at (m ∷ ms) [] h i = absurd h
  beside_at (m ∷ ms) (n ∷ ns) h zero = h.0
  beside_at (m ∷ ms) (n ∷ ns) h (suc i) = beside_at ms ns h.1 i

  -- ---- events

  -- after the same events in both forests
  record InStep (e d : Events) : Type 0 where
    made : AreBeside e.made d.made
    same : d.ended ≡ e.ended

  abbrev ended_by : Events → Option Made → Events
  ended_by e o = elim o [ None ↦ e | Some m ↦ record { made = e.made ++ makes m.forest; ended = e.ended ++ m.work ∷ [] } ]

  -- one more event, of a task that is among those that have ended in the end
  one_step : (e d : Events) → InStep e d → (o p : Option Made) → AtNumber o p → ((w : TaskWork) → In w (ended_by e o).ended → has_ended ended w ≡ true) → InStep (ended_by e o) (ended_by d p)
  one_step e d h None None k sub = h
  one_step e d h None (Some n) k sub = absurd k
  one_step e d h (Some m) None k sub = absurd k
  one_step e d h (Some m) (Some n) k sub = record {
    made = beside_append e.made d.made (makes m.forest) (makes n.forest) h.made (beside_made m.forest n.forest (k.1 (sub m.work (in_right m.work e.ended (m.work ∷ []) (inl refl)))));
    same = λ i. h.same i ++ k.0 i ∷ [];
  }

  all_steps : (e d : Events) → InStep e d → (ns : List ℕ) → ((w : TaskWork) → In w (end_all e ns).ended → has_ended ended w ≡ true) → InStep (end_all e ns) (end_all d ns)
  all_steps e d h [] sub = h
  all_steps e d h (n ∷ ns) sub =
      let more = all_more (end_one e n) ns in
      all_steps (end_one e n) (end_one d n) (one_step e d h (slice_get e.made n) (slice_get d.made n) (beside_at e.made d.made h.made n) (λ w i. sub w (subst (λ (l : List TaskWork). In w l) (sym more.ended) (in_left w (end_one e n).ended more.more i)))) ns sub

pub tasks_are_of_the_past : TasksAreOfThePast
tasks_are_of_the_past f g ns h =
    let ended : List TaskWork = ended_after f ns in
    let s = all_steps ended (start f) (start g) (record { made = beside_made ended f g h; same = refl }) ns (λ w i. found ended w i) in
    (s.same, ap by_events s.same, works_beside ended (end_all (start f) ns).made (end_all (start g) ns).made s.made)
