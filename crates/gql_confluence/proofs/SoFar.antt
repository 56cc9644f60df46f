-- Two courses that are the same as far as things have a time, and parts of a course that have none.
use Rattle.std.proofs.Common.{◌≡◌, inl, inr, ℕ, List, [], ◌∷◌, ◌++◌, map, refl, sym, subst, ◌∙◌, ap, Bool, true, false, cond, Some, None}
use Rattle.std.specs.Prelude.{◌&&◌, filter}
use Rattle.std.proofs.lemmas.List.{map-append}
use Rattle.gql_tree.specs.declared.path.Key.{Key}
use Rattle.gql_tree.specs.declared.path.Key.TheVariants.{Index}
use Rattle.gql_tree.specs.declared.delivery.Frag.{Frag}
use Rattle.gql_tree.specs.declared.delivery.FragId.{FragId}
use Rattle.gql_tree.specs.declared.delivery.Group.{Group}
use Rattle.gql_tree.specs.declared.delivery.Stream.{Stream}
use Rattle.gql_tree.specs.declared.delivery.RegionResult.{RegionResult}
use Rattle.gql_tree.specs.declared.delivery.TaskWork.{TaskWork}
use Rattle.gql_tree.specs.declared.delivery.TaskWork.TheVariants.{Fields, Item}
use Rattle.gql_tree.specs.Forest.{Branches, grown, none, more}
use Rattle.gql_tree.specs.Fate.{GroupRun, ItemRun, Scope, scope_of, groups_below, has_owner, groups_of, is_empty, above, is_ok, is_delivered, is_announced, items_run, is_item_delivered}
use Rattle.gql_tree.specs.Times.{Time, latest, earliest, latest_of, earliest_of, has_time}
use Rattle.gql_tree.specs.Course.{Schedule, Awaited, Way, by_owners, by_stream, Arrival, Course, nothing_comes, both_come, one_comes, scope_comes, announced_below, announced_at, done_at, ok_owners, released_at, carriers, items_up_to, awaited_fragment, awaited_stream, awaited_fragments, item_at, come_below}
use Rattle.gql_tree.specs.Numbering.{event_of, by_events}
use Rattle.gql_tree.specs.Causal.{has_ended}
use Rattle.gql_confluence.proofs.Parts.{In, in_left, in_right, in_cases}
use Rattle.gql_confluence.proofs.Lists.{to_filter, in_filter, in_map, to_map, to_any}
use Rattle.gql_confluence.proofs.Deciders.{same_fragment-refl}
use Rattle.gql_confluence.proofs.Items.{filter_append}
use Rattle.gql_confluence.proofs.Pruned.{AllOpen, no_event}

-- what isn't done tells no errors yet
abbrev pub shown : Awaited → Awaited
shown a = record {
  path = a.path;
  label = a.label;
  is_stream = a.is_stream;
  place = a.place;
  announced = a.announced;
  done = a.done;
  errors = cond (has_time a.done) a.errors [];
}

abbrev pub is_opened : Awaited → Bool
is_opened a = has_time a.announced

abbrev pub has_come : Arrival → Bool
has_come x = has_time x.released

-- the same is announced and released so far
pub record IsSoFar (c d : Course) : Type 0 where
  pub awaited : map shown (filter is_opened c.awaited) ≡ map shown (filter is_opened d.awaited)
  pub arrivals : filter has_come c.arrivals ≡ filter has_come d.arrivals

pub both_same : (a b c d : Course) → IsSoFar a b → IsSoFar c d → IsSoFar (both_come a c) (both_come b d)
both_same a b c d h k = record {
  awaited = split a.awaited c.awaited ∙ ((λ i. h.awaited i ++ k.awaited i) ∙ sym (split b.awaited d.awaited));
  arrivals = filter_append has_come a.arrivals c.arrivals ∙ ((λ i. h.arrivals i ++ k.arrivals i) ∙ sym (filter_append has_come b.arrivals d.arrivals));
} where
  split : (xs ys : List Awaited) → map shown (filter is_opened (xs ++ ys)) ≡ map shown (filter is_opened xs) ++ map shown (filter is_opened ys)
  split xs ys = ap (map shown) (filter_append is_opened xs ys) ∙ map-append shown (filter is_opened xs) (filter is_opened ys)

pub so_far_back : (c d : Course) → IsSoFar c d → IsSoFar d c
so_far_back c d h = record { awaited = sym h.awaited; arrivals = sym h.arrivals }

pub so_far_on : (c d e : Course) → IsSoFar c d → IsSoFar d e → IsSoFar c e
so_far_on c d e h k = record { awaited = h.awaited ∙ k.awaited; arrivals = h.arrivals ∙ k.arrivals }

pub nothing_same : IsSoFar nothing_comes nothing_comes
nothing_same = record { awaited = refl; arrivals = refl }

-- nothing of it has a time
abbrev pub Unseen : Course → Type 0
Unseen c = IsSoFar c nothing_comes

pub unseen_if : (b : Bool) (c : Course) → Unseen c → Unseen (cond b c nothing_comes)
unseen_if true c h = h
unseen_if false c h = nothing_same

pub both_unseen : (c d : Course) → Unseen c → Unseen d → IsSoFar c d
both_unseen c d h k = so_far_on c nothing_comes d h (so_far_back d nothing_comes k)

-- ---- times that aren't there

pub latest_late : (u : Time) → latest u None ≡ None
latest_late None = refl
latest_late (Some a) = refl

pub latest_none : (us : List Time) → latest_of None us ≡ None
latest_none [] = refl
latest_none (u ∷ us) = ap (latest u) (latest_none us) ∙ latest_late u

-- where one of them isn't there
pub latest_without : (t : Time) (us : List Time) → In None us → latest_of t us ≡ None
latest_without t [] i = absurd i
latest_without t (u ∷ us) (inl e) = ap (λ (w : Time). latest w (latest_of t us)) (sym e)
latest_without t (u ∷ us) (inr i) = ap (latest u) (latest_without t us i) ∙ latest_late u

pub earliest_none : (ts : List Time) → ((t : Time) → In t ts → t ≡ None) → earliest_of ts ≡ None
earliest_none [] h = refl
earliest_none (t ∷ ts) h = ap (λ (w : Time). earliest w (earliest_of ts)) (h t (inl refl)) ∙ earliest_none ts (λ u i. h u (inr i))

-- ---- parts of a course

module _ (ended : List TaskWork) where
  abbrev p : Schedule
  p = by_events ended

  -- what begins at no time
  pub announced_none : (s : Scope) (ids : List FragId) → announced_below p s None ids ≡ None
  announced_none s [] = refl
  announced_none s (id ∷ ids) = by (is_empty s id) (announced_none s ids) where
    by : (b : Bool) → announced_below p s None ids ≡ None → cond b (announced_below p s None ids) (p.fragment_done id (announced_below p s None ids) (groups_of s id)) ≡ None
    by true e = e
    by false e = ap (λ (t : Time). p.fragment_done id t (groups_of s id)) e ∙ latest_none (map (λ (x : GroupRun). event_of ended (Fields x.group)) (groups_of s id))

  done_none : (s : Scope) (id : FragId) → done_at p s None id ≡ None
  done_none s id = ap (λ (t : Time). p.fragment_done id t (groups_of s id)) (announced_none s (above s id)) ∙ latest_none (map (λ (x : GroupRun). event_of ended (Fields x.group)) (groups_of s id))

  pub released_none : (s : Scope) (g : Group) → released_at p s None g ≡ None
  released_none s g = earliest_none (map (done_at p s None) (ok_owners p s None g)) (λ t i. let m = in_map (done_at p s None) t (ok_owners p s None g) i in m.2 ∙ done_none s m.0)

  pub item_none : (items : List ItemRun) (st : Stream) (n : ℕ) → item_at p items None st n ≡ None
  item_none items st n = latest_none (map (λ (x : ItemRun). event_of ended (Item x.stream x.index)) (items_up_to items st n))

  -- what waits for a group that hasn't ended isn't done
  pub not_done : (s : Scope) (begun : Time) (id : FragId) (x : GroupRun) → In x s.groups → has_owner id x ≡ true → has_ended ended (Fields x.group) ≡ false → done_at p s begun id ≡ None
  not_done s begun id x i h e =
      latest_without (announced_at p s begun id) (map (λ y. event_of ended (Fields y.group)) (groups_of s id))
      (subst (λ (t : Time). In t (map (λ y. event_of ended (Fields y.group)) (groups_of s id))) (no_event ended (Fields x.group) e) (to_map (λ (y : GroupRun). event_of ended (Fields y.group)) x (groups_of s id) (to_filter (has_owner id) x s.groups i h)))

  -- a group that hasn't ended isn't released
  pub not_released : (s : Scope) (begun : Time) (x : GroupRun) → In x s.groups → has_ended ended (Fields x.group) ≡ false → released_at p s begun x.group ≡ None
  not_released s begun x i e = earliest_none (map (done_at p s begun) (ok_owners p s begun x.group)) (λ t j.
      let m = in_map (done_at p s begun) t (ok_owners p s begun x.group) j in
      let o = in_filter (is_ok s) m.0 x.group.owners m.1 in
      m.2 ∙ not_done s begun m.0 x i (to_any (λ (w : FragId). _) x.group.owners m.0 o.0 (same_fragment-refl m.0)) e)

  unseen_streams : (items : List ItemRun) (l : List Stream) → filter is_opened (map (awaited_stream p items None) l) ≡ []
  unseen_streams items [] = refl
  unseen_streams items (st ∷ l) = unseen_streams items l

  pub unseen_one : (at : List Key) (r : RegionResult) (t : Time) (way : Way) (items : List ItemRun) → t ≡ None → Unseen (one_comes p at r t way items)
  unseen_one at r t way items e = subst (λ (u : Time). Unseen (one_comes p at r u way items)) (sym e) (record { awaited = ap (map shown) (unseen_streams items r.streams); arrivals = refl })

  unseen_fragments : (s : Scope) (l : List Frag) → filter is_opened (map (awaited_fragment p s None) l) ≡ []
  unseen_fragments s [] = refl
  unseen_fragments s (x ∷ l) = (λ i. cond (has_time (announced_none s (above s x.id) i)) (awaited_fragment p s None x ∷ filter is_opened (map (awaited_fragment p s None) l)) (filter is_opened (map (awaited_fragment p s None) l))) ∙ unseen_fragments s l

  pub unseen_scope : (at : List Key) (r : RegionResult) (t : Time) (way : Way) (items : List ItemRun) (s : Scope) (inside : Course) → t ≡ None → Unseen inside → Unseen (scope_comes p at r t way items s inside)
  unseen_scope at r t way items s inside e h =
      both_same (one_comes p at r t way items) nothing_comes _ nothing_comes (unseen_one at r t way items e)
      (both_same inside nothing_comes (record { awaited = awaited_fragments p s t; arrivals = [] }) nothing_comes h (record {
        awaited = ap (λ (u : Time). map shown (filter is_opened (awaited_fragments p s u))) e ∙ ap (map shown) (unseen_fragments s (filter (λ x. is_announced s x.id) s.fragments));
        arrivals = refl;
      }))

  -- nothing is seen below a region that isn't released, where its groups aren't either
  pub unseen_below : (bs : Branches) (s : Scope) (begun : Time) (here : Bool) (t : Time) (items : List ItemRun) → t ≡ None → ((x : GroupRun) → In x (groups_below bs) → released_at p s begun x.group ≡ None) → Unseen (come_below p s begun here t items bs)
  unseen_below none s begun here t items e h = nothing_same
  unseen_below (more (Fields g) (grown r inner) bs) s begun here t items e h =
      let u : released_at p s begun g ≡ None = h _ (inl refl) in
      both_same _ nothing_comes _ nothing_comes
      (unseen_if (is_delivered s g) (one_comes p g.path.keys r (released_at p s begun g) (by_owners g (carriers p s begun g)) (items_run inner)) (unseen_one g.path.keys r (released_at p s begun g) (by_owners g (carriers p s begun g)) (items_run inner) u))
      (both_same _ nothing_comes _ nothing_comes
      (unseen_below inner s begun (is_delivered s g) (released_at p s begun g) (items_run inner) u (λ x i. h x (inr (in_left x (groups_below inner) (groups_below bs) i))))
      (unseen_below bs s begun here t items e (λ x i. h x (inr (in_right x (groups_below inner) (groups_below bs) i)))))
  unseen_below (more (Item st n) (grown r inner) bs) s begun here t items e h =
      both_same _ nothing_comes _ nothing_comes
      (unseen_if (here && is_item_delivered items st n) _ (unseen_item st n r inner items t e (unseen_below inner (scope_of (grown r inner)) None true None (items_run inner) refl (λ x i. released_none (scope_of (grown r inner)) x.group))))
      (unseen_below bs s begun here t items e h)
    where
      unseen_item : (st : Stream) (n : ℕ) (r : RegionResult) (inner : Branches) (items : List ItemRun) (t : Time) → t ≡ None → Unseen (come_below p (scope_of (grown r inner)) None true None (items_run inner) inner)
          → Unseen (scope_comes p (st.path.keys ++ Index n ∷ []) r (item_at p items t st n) (by_stream st) (items_run inner) (scope_of (grown r inner)) (come_below p (scope_of (grown r inner)) (item_at p items t st n) true (item_at p items t st n) (items_run inner) inner))
      unseen_item st n r inner items t e k =
          let u : item_at p items t st n ≡ None = ap (λ (w : Time). item_at p items w st n) e ∙ item_none items st n in
          unseen_scope (st.path.keys ++ Index n ∷ []) r (item_at p items t st n) (by_stream st) (items_run inner) (scope_of (grown r inner)) _ u
          (subst (λ (w : Time). Unseen (come_below p (scope_of (grown r inner)) w true w (items_run inner) inner)) (sym u) k)

  -- nothing is seen below a group that hasn't ended
  pub groups_open : (bs : Branches) → AllOpen ended bs → (x : GroupRun) → In x (groups_below bs) → has_ended ended (Fields x.group) ≡ false
  groups_open none h x i = absurd i
  groups_open (more (Fields g) (grown r inner) bs) h x (inl e) = ap (λ (y : GroupRun). has_ended ended (Fields y.group)) e ∙ h.0
  groups_open (more (Fields g) (grown r inner) bs) h x (inr i) = elim (in_cases x (groups_below inner) (groups_below bs) i) as (λ _. has_ended ended (Fields x.group) ≡ false) [ inl j ↦ groups_open inner h.1 x j | inr j ↦ groups_open bs h.2 x j ]
  groups_open (more (Item st n) (grown r inner) bs) h x i = groups_open bs h.2 x i

  pub unseen_open : (bs : Branches) (s : Scope) (begun : Time) (here : Bool) (t : Time) (items : List ItemRun) → t ≡ None → AllOpen ended bs → ((x : GroupRun) → In x (groups_below bs) → In x s.groups) → Unseen (come_below p s begun here t items bs)
  unseen_open bs s begun here t items e o sub = unseen_below bs s begun here t items e (λ x i. not_released s begun x (sub x i) (groups_open bs o x i))
