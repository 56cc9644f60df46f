-- The course of a well-formed forest by a lawful schedule is sound.
use Rattle.std.proofs.Common.{◌≡◌, ◌⊎◌, inl, inr, ℕ, ◌<◌, ◌≤◌, ◌^◌, List, [], ◌∷◌, ◌++◌, length, refl, sym, subst, ◌∙◌, ap, true, false, Some, arith}
use Rattle.std.proofs.lemmas.List.{append-nil}
use Rattle.std.specs.declared.cmp.Ordering.TheVariants.{Less}
use Rattle.gql_tree.specs.declared.path.Key.{Key}
use Rattle.gql_tree.specs.declared.delivery.Frag.{Frag}
use Rattle.gql_tree.specs.declared.delivery.Stream.{Stream}
use Rattle.gql_tree.specs.declared.delivery.RegionResult.{RegionResult}
use Rattle.gql_tree.specs.declared.delivery.TaskWork.TheVariants.{Fields, Item}
use Rattle.gql_tree.specs.Keys.{same_lists, same_key}
use Rattle.gql_tree.specs.Flat.{Mark, object, list, flat}
use Rattle.gql_tree.specs.Order.{path_cmp}
use Rattle.gql_tree.specs.Forest.{Forest, Branches, grown, none, more}
use Rattle.gql_tree.specs.Fate.{ItemRun, Scope, scope_of, items_run}
use Rattle.gql_tree.specs.Merged.{Part}
use Rattle.gql_tree.specs.Times.{Time}
use Rattle.gql_tree.specs.Course.{Schedule, Awaited, Way, at_first, by_owners, by_stream, Arrival, Course, awaited_stream, item_at, released_at, carriers, come_below, course}
use Rattle.gql_tree.specs.WellFormed.{sites, IsWellFormed}
use Rattle.gql_tree.specs.Lawful.{IsLawful}
use Rattle.gql_confluence.proofs.Parts.{In, in_cases, HasAt, Agree}
use Rattle.gql_confluence.proofs.Deciders.{keys_same}
use Rattle.gql_confluence.proofs.Soundness.{part_of, IsTimed, goes_to, is_item_at, items_at, OpensLists, IsGroupOf, IsItemOfStream, FollowFrom, IsStreamOf, IsSound}
use Rattle.gql_confluence.proofs.Owning.{value_in, part_in, Proper, Owns}
use Rattle.gql_confluence.proofs.Disjoint.{owned_or, regions_agree}
use Rattle.gql_confluence.proofs.Sites.{ListIn, list_in, no_first_list, all_sites_unique}
use Rattle.gql_confluence.proofs.ItemTimes.{items_come}
use Rattle.gql_confluence.proofs.Places.{FragmentAwaited, StreamAwaited, Placed, root_place, places_below, all, is_site, one_place}
use Rattle.gql_confluence.proofs.Owners.{timed}
use Rattle.gql_confluence.proofs.Brought.{Kind, IsItem, goes_before, GroupComes, ItemComes, Comes, ComesLater, later_comes, all_comes}
use Rattle.gql_confluence.proofs.Awaits.{StreamGrows, all_awaits}
use Rattle.gql_confluence.proofs.OneStream.{one_stream}

abbrev Placing : Placed → Type 0
Placing q = (part_of q.arrival ≡ part_in q.site) × Kind q

module _ (p : Schedule) where
  -- what a region brings, and by what it comes
  placing : (s : Scope) (around : List Frag) (begun rel : Time) (items : List ItemRun) (bs : Branches) (q : Placed) → In q (places_below p s around begun rel items bs) → Placing q
  placing s around begun rel items none q i = absurd i
  placing s around begun rel items (more (Fields g) (grown r inner) bs) q (inl e) =
      subst Placing (sym e) (refl, inr (inl (record { group = g; ids = carriers p s begun g; way = refl; no_root = refl })))
  placing s around begun rel items (more (Fields g) (grown r inner) bs) q (inr i) =
      by (in_cases q (places_below p s (r.fragments ++ around) begun (released_at p s begun g) (items_run inner) inner) (places_below p s around begun rel items bs) i)
      (placing s (r.fragments ++ around) begun (released_at p s begun g) (items_run inner) inner q) (placing s around begun rel items bs q)
    where
      by : In q (places_below p s (r.fragments ++ around) begun (released_at p s begun g) (items_run inner) inner) ⊎ In q (places_below p s around begun rel items bs)
          → (In q (places_below p s (r.fragments ++ around) begun (released_at p s begun g) (items_run inner) inner) → Placing q) → (In q (places_below p s around begun rel items bs) → Placing q) → Placing q
      by (inl j) k l = k j
      by (inr j) k l = l j
  placing s around begun rel items (more (Item st n) (grown r inner) bs) q (inl e) =
      subst Placing (sym e) (refl, inr (inr (record { stream = st; index = n; way = refl; at = refl; root = refl })))
  placing s around begun rel items (more (Item st n) (grown r inner) bs) q (inr i) =
      by (in_cases q (places_below p (scope_of (grown r inner)) r.fragments (item_at p items rel st n) (item_at p items rel st n) (items_run inner) inner) (places_below p s around begun rel items bs) i)
      (placing (scope_of (grown r inner)) r.fragments (item_at p items rel st n) (item_at p items rel st n) (items_run inner) inner q) (placing s around begun rel items bs q)
    where
      by : In q (places_below p (scope_of (grown r inner)) r.fragments (item_at p items rel st n) (item_at p items rel st n) (items_run inner) inner) ⊎ In q (places_below p s around begun rel items bs)
          → (In q (places_below p (scope_of (grown r inner)) r.fragments (item_at p items rel st n) (item_at p items rel st n) (items_run inner) inner) → Placing q) → (In q (places_below p s around begun rel items bs) → Placing q) → Placing q
      by (inl j) k l = k j
      by (inr j) k l = l j

some_same : (a b : ℕ) → Some a ≡ Some b → a ≡ b
some_same a b e = cc

false_true : false ≡ true → ⊥
false_true e = cc

object_list : (n : ℕ) → object ≡ list n → ⊥
object_list n e = cc

module _ (r0 : RegionResult) (bs0 : Branches) (wf : IsWellFormed (grown r0 bs0)) (p : Schedule) (lawful : IsLawful (grown r0 bs0) p) where
  abbrev f : Forest
  f = grown r0 bs0

  abbrev pub c : Course
  c = course p f

  abbrev here : List Placed
  here = all r0 bs0 wf p

  abbrev top : Placed
  top = root_place [] r0 bs0 (Some 0) at_first

  place_of : (q : Placed) → In q here → Placing q
  place_of q (inl e) = subst Placing (sym e) (refl, inl (record { way = refl; at = refl; root = refl; when = refl; no_list = no_first_list f wf }))
  place_of q (inr i) = placing p (scope_of f) r0.fragments (Some 0) (Some 0) (items_run bs0) bs0 q i

  -- all that is announced, and all that comes
  abbrev pub awaits : (a : Awaited) → In a c.awaited → FragmentAwaited r0 bs0 wf p a ⊎ StreamAwaited r0 bs0 wf p a
  awaits a i = elim (all_awaits r0 bs0 wf p a i) as (λ z. FragmentAwaited r0 bs0 wf p a ⊎ StreamAwaited r0 bs0 wf p a) [ inl k ↦ inl k | inr k ↦ inr k.awaited ]

  pub comes : (x : Arrival) → In x c.arrivals → Comes r0 bs0 wf p lawful x
  comes = all_comes r0 bs0 wf p lawful awaits

  pub agree : (x y : Arrival) → In x c.arrivals → In y c.arrivals → Agree (part_of x) (part_of y)
  agree x y i j =
      let a = comes x i in
      let b = comes y j in
      let u = all_sites_unique r0 bs0 wf in
      let sites_agree = regions_agree (sites f) u.0 u.1 a.place.site b.place.site (is_site r0 bs0 wf p a.place a.is_place) (is_site r0 bs0 wf p b.place b.is_place) a.ready b.ready in
      subst (λ (w : Part). Agree w (part_of y)) (sym (ap part_of a.is ∙ a.part)) (subst (λ (w : Part). Agree (part_in a.place.site) w) (sym (ap part_of b.is ∙ b.part)) sites_agree)

  -- ---- where a list stands

  abbrev Lists : Placed → Stream → Type 0
  Lists q st = ListIn f wf q.site st

  lists_at : (q : Placed) → In q here → (st : Stream) → In st q.site.region.streams → Lists q st
  lists_at q i st j = list_in f wf q.site st (is_site r0 bs0 wf p q i) j

  -- the entry of a region with a stream goes before the list
  list_after : (q : Placed) → In q here → (st : Stream) (l : Lists q st) → path_cmp (goes_to q.arrival) st.path.keys ≡ Less
  list_after q i st l = ap (path_cmp (goes_to q.arrival)) l.at ∙ goes_before q (place_of q i).0 (place_of q i).1 l.rest (proper (place_of q i).1) where
    nonempty : (rest : List Key) → flat (value_in q.site) rest ≡ Some (list st.first) → ((n : ℕ) → flat (value_in q.site) [] ≡ Some (list n) → ⊥) → (k : Key) × (r : List Key) × (rest ≡ k ∷ r)
    nonempty [] e h = absurd (h st.first e)
    nonempty (k ∷ r) e h = (k, r, refl)

    of_group : q.site.is_root ≡ false → Proper q.site l.rest → (k : Key) × (r : List Key) × (l.rest ≡ k ∷ r)
    of_group nr (inl e) = absurd (cc)
    of_group nr (inr e) = e

    proper : Kind q → IsItem q ⊎ ((k : Key) × (r : List Key) × (l.rest ≡ k ∷ r))
    proper (inl k) = inr (nonempty l.rest l.has k.no_list)
    proper (inr (inl k)) = inr (of_group k.no_root l.proper)
    proper (inr (inr k)) = inl k

  -- a list of a region that comes grows later, and by entries behind its own
  opens_lists : (x : Arrival) → In x c.arrivals → (time : ℕ) → x.released ≡ Some time → OpensLists c x time
  opens_lists x ix time released y path m (inl e) item has = absurd (false_true (ap (is_item_at path) (sym e) ∙ item))
  opens_lists x ix time released y path m (inr iy) item has = by w.came where
    a : Comes r0 bs0 wf p lawful x
    a = comes x ix

    w : ComesLater r0 bs0 wf p lawful y
    w = later_comes r0 bs0 wf p lawful awaits y (subst (λ (l : List Arrival). In y l) (append-nil _) iy)

    no_group : (v : Way) → y.way ≡ v → (elim v [ at_first ↦ false | by_owners g ids ↦ false | by_stream s ↦ same_lists same_key s.path.keys path ]) ≡ true
    no_group v e = ap (λ (u : Way). elim u [ at_first ↦ false | by_owners g ids ↦ false | by_stream s ↦ same_lists same_key s.path.keys path ]) (sym e) ∙ item

    by : GroupComes r0 bs0 wf p lawful y ⊎ ItemComes r0 bs0 wf p lawful y → (u : ℕ) × (y.released ≡ Some u) × (time ≤ u) × (path_cmp (goes_to x) path ≡ Less)
    by (inl g) = absurd (false_true (no_group (by_owners g.group g.ids) g.way))
    by (inr g) = same_region (owned_or (sites f) (all_sites_unique r0 bs0 wf).0 (all_sites_unique r0 bs0 wf).1 a.place.site path m has_in) where
      at_list : g.stream.path.keys ≡ path
      at_list = keys_same g.stream.path.keys path (no_group (by_stream g.stream) g.way)

      l : Lists g.parent g.stream
      l = lists_at g.parent g.is_parent g.stream g.is_listed

      has_in : HasAt (part_in a.place.site) path m
      has_in = subst (λ (z : Part). HasAt z path m) (ap part_of a.is ∙ a.part) has

      parent_has : HasAt (part_in g.parent.site) path (list g.stream.first)
      parent_has = (l.rest, sym at_list ∙ l.at, l.has)

      parent_owns : Owns g.parent.site path
      parent_owns = record { rest = l.rest; mark = list g.stream.first; at = sym at_list ∙ l.at; has = l.has; proper = l.proper }

      same_region : Owns a.place.site path ⊎ ((a.place.site.is_root ≡ false) × (path ≡ a.place.site.at) × (flat (value_in a.place.site) [] ≡ Some m)) → (u : ℕ) × (y.released ≡ Some u) × (time ≤ u) × (path_cmp (goes_to x) path ≡ Less)
      same_region (inl o) =
          let site = (all_sites_unique r0 bs0 wf).0 a.place.site g.parent.site (is_site r0 bs0 wf p a.place a.is_place) (is_site r0 bs0 wf p g.parent g.is_parent) path o parent_owns in
          let place : a.place ≡ g.parent = one_place r0 bs0 wf p a.place g.parent a.is_place g.is_parent site in
          let is : x ≡ g.parent.arrival = a.is ∙ ap (λ (q : Placed). q.arrival) place in
          let when : time ≡ g.opening = some_same time g.opening (sym released ∙ (ap (λ (z : Arrival). z.released) is ∙ g.announced)) in
          let t = g.times in
          let late = t.begun in (
            t.time,
            t.released,
            (omega arith),
            (ap (λ (z : Arrival). path_cmp (goes_to z) path) is ∙ (ap (path_cmp (goes_to g.parent.arrival)) (sym at_list) ∙ list_after g.parent g.is_parent g.stream l)),
          )
      same_region (inr (no_root, at, has_m)) =
          absurd (object_list g.stream.first (object_is m has_m (a.ready no_root) ∙ one_mark))
        where
          object_is : (m : Mark) → flat (value_in a.place.site) [] ≡ Some m → flat (value_in a.place.site) [] ≡ Some object → object ≡ m
          object_is m e h = some_mark object m (sym h ∙ e) where
            some_mark : (m n : Mark) → Some m ≡ Some n → m ≡ n
            some_mark m n k = cc

          parent_part : part_of g.parent.arrival ≡ part_in g.parent.site
          parent_part = (place_of g.parent g.is_parent).0

          one_mark : m ≡ list g.stream.first
          one_mark = agree x g.parent.arrival ix g.arrives path m (list g.stream.first) has (subst (λ (z : Part). HasAt z path (list g.stream.first)) (sym parent_part) parent_has)

  -- ---- the parts of soundness

  group_of : (x : Arrival) → In x c.arrivals → GroupComes r0 bs0 wf p lawful x → IsGroupOf c x
  group_of x i g = record {
    group = g.group;
    ids = g.ids;
    way = g.way;
    time = g.time;
    late = g.late;
    released = g.released;
    carrier = g.carrier;
    is_awaited = g.is_awaited;
    carries = g.carries;
    carriers = g.carriers;
    stands = g.stands;
    lists = opens_lists x i g.time g.released;
  }

  item_of : (x : Arrival) → In x c.arrivals → ItemComes r0 bs0 wf p lawful x → IsItemOfStream c x
  item_of x i g = let t = g.times in record {
    stream = g.stream;
    way = g.way;
    time = t.time;
    late = t.late;
    released = t.released;
    awaited = awaited_stream p g.parent.items g.parent.arrival.released g.stream;
    is_awaited = g.is_awaited;
    is_stream = refl;
    path = refl;
    opening = g.opening;
    announced = g.announced;
    begun = t.begun;
    closing = t.closing;
    done = t.done;
    in_time = t.in_time;
    lists = opens_lists x i t.time t.released;
  }

  pub stream_at : (a : Awaited) → In a c.awaited → a.is_stream ≡ true → StreamGrows r0 bs0 wf p a
  stream_at a i e = elim (all_awaits r0 bs0 wf p a i) as (λ z. StreamGrows r0 bs0 wf p a) [ inl k ↦ absurd (false_true (sym (ap (λ (z : Awaited). z.is_stream) k.is) ∙ e)) | inr k ↦ k ]

  -- the list of an announced stream, as its region has it
  pub list_holds : (q : Placed) → In q here → (st : Stream) → In st q.site.region.streams → HasAt (part_of q.arrival) st.path.keys (list st.first)
  list_holds q i st j = let l = lists_at q i st j in subst (λ (z : Part). HasAt z st.path.keys (list st.first)) (sym (place_of q i).0) (l.rest, l.at, l.has)

  pub stream_of : (a : Awaited) → In a c.awaited → a.is_stream ≡ true → IsStreamOf c a
  stream_of a i e = by (stream_at a i e) where
    t : IsTimed a
    t = timed r0 bs0 wf p lawful a i

    by : StreamGrows r0 bs0 wf p a → IsStreamOf c a
    by g =
        let w = g.awaited in
        let path : a.path.keys ≡ w.stream.path.keys = ap (λ (z : Awaited). z.path.keys) w.is in
        let holds = list_holds w.place w.is_place w.stream w.is_listed in
        let after = list_after w.place w.is_place w.stream (lists_at w.place w.is_place w.stream w.is_listed) in
        record {
          first = w.stream.first;
          opening = t.opening;
          announced = t.announced;
          stands = record {
            base = w.place.arrival;
            is_there = w.arrives;
            holds = subst (λ (l : List Key). HasAt (part_of w.place.arrival) l (list w.stream.first)) (sym path) holds;
            begun = t.opening;
            before = sym (ap (λ (z : Awaited). z.announced) w.is) ∙ t.announced;
            in_order = inr (refl, ap (path_cmp (goes_to w.place.arrival)) path ∙ after);
          };
          items = subst (λ (l : List Key). FollowFrom l w.stream.first (items_at c l)) (sym path) g.items.follow;
          times = items_come c lawful a i e t.opening t.announced;
          one = λ y m iy has. agree y w.place.arrival iy w.arrives w.stream.path.keys m (list w.stream.first) (subst (λ (l : List Key). HasAt (part_of y) l m) path has) holds;
        }

  abbrev inside : Course
  inside = come_below p (scope_of f) (Some 0) true (Some 0) (items_run bs0) bs0

  pub brought : (x : Arrival) → In x (inside.arrivals ++ []) → IsGroupOf c x ⊎ IsItemOfStream c x
  brought x i = by (later_comes r0 bs0 wf p lawful awaits x (subst (λ (l : List Arrival). In x l) (append-nil inside.arrivals) i)).came where
    by : GroupComes r0 bs0 wf p lawful x ⊎ ItemComes r0 bs0 wf p lawful x → IsGroupOf c x ⊎ IsItemOfStream c x
    by (inl g) = inl (group_of x (inr i) g)
    by (inr g) = inr (item_of x (inr i) g)

  abbrev pub sound : length c.awaited < 2 ^ 64 → IsSound c
  sound few = record {
    few = few;
    timed = timed r0 bs0 wf p lawful;
    streams = stream_of;
    one_stream = one_stream r0 bs0 wf p;
    first = top.arrival;
    rest = inside.arrivals ++ [];
    arrivals = refl;
    at_root = refl;
    at_start = refl;
    way_first = refl;
    brought = brought;
    agree = agree;
  }
