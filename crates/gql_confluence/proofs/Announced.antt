-- No payload uses an id that isn't announced by then, and each id is that of an announced fragment or stream of the forest.
use Rattle.std.proofs.Common.{◌≡◌, ◌⊎◌, inl, inr, ℕ, ◌≤◌, List, [], ◌∷◌, ◌++◌, map, refl, sym, subst, ◌∙◌, ap, Bool, true, false, Option, Some, None, decimal, arith}
use Rattle.std.specs.Prelude.{nat_le, filter, flat_map}
use Rattle.std.proofs.lemmas.Bool.Decides.{nat_tests}
use Rattle.gql_tree.specs.declared.value.Value.{Value}
use Rattle.gql_tree.specs.declared.delivery.Entry.{Entry}
use Rattle.gql_tree.specs.declared.delivery.Fault.{Fault}
use Rattle.gql_tree.specs.declared.delivery.Frag.{Frag}
use Rattle.gql_tree.specs.declared.delivery.FragId.{FragId}
use Rattle.gql_tree.specs.declared.delivery.TaskWork.TheVariants.{Fields, Item}
use Rattle.gql_tree.specs.declared.delivery.Payload.{Payload}
use Rattle.gql_tree.specs.declared.delivery.Pending.{Pending}
use Rattle.gql_tree.specs.declared.delivery.RegionResult.{RegionResult}
use Rattle.gql_tree.specs.Ordered.{ordered}
use Rattle.gql_tree.specs.Forest.{Forest, Branches, grown, none, more, outcome_value}
use Rattle.gql_tree.specs.Fate.{ItemRun, Scope, scope_of, items_run}
use Rattle.gql_tree.specs.Times.{Time, is_at}
use Rattle.gql_tree.specs.Course.{Schedule, Awaited, Way, at_first, by_owners, by_stream, Arrival, Course, released_at, item_at, course}
use Rattle.gql_tree.specs.Payloads.{Known, all_known, pending_of, completed_of, is_among, farthest, Standing, standing_cmp, group_entry, group_entries, is_item_of, items_entry, stream_entries, entries_of, arrivals_at, payload_at, moments, next_of, payloads_from, payloads_of, payloads}
use Rattle.gql_tree.specs.WellFormed.{sites, IsWellFormed}
use Rattle.gql_tree.specs.Lawful.{IsLawful}
use Rattle.gql_confluence.specs.Confluence.{announced_ids, used_ids, AreAnnouncedFirst, IdsAreAnnouncedFirst, IsOfTheForest, PendingsAreOfTheForest}
use Rattle.gql_confluence.proofs.Parts.{In, in_left, in_cases}
use Rattle.gql_confluence.proofs.Lists.{in_filter, to_filter, in_map, to_map, in_flat, to_flat, cons_same, nil_cons, contains_in, in_contains}
use Rattle.gql_confluence.proofs.Moments.{upto, Later, later_all, due_all, at_some, at_itself, later_than}
use Rattle.gql_confluence.proofs.Knowns.{is_awaited}
use Rattle.gql_confluence.proofs.Sorted.{in_ordered}
use Rattle.gql_confluence.proofs.Standings.{far}
use Rattle.gql_confluence.proofs.Owners.{timed}
use Rattle.gql_confluence.proofs.Places.{FragmentAwaited, Placed, places_below, all, is_site}
use Rattle.gql_confluence.proofs.Awaits.{StreamGrows, all_awaits}
use Rattle.gql_confluence.proofs.Prefix.{moments_of, ComesOtherwise}
use Rattle.gql_confluence.proofs.Stays.{apart}

at_upto : (t : ℕ) (u : Time) → is_at t u ≡ true → upto t u ≡ true
at_upto t None e = absurd (cc)
at_upto t (Some a) e = grind (arith, nat_tests)

-- ---- where a payload stands

module _ (c : Course) where
  -- this is the payload of a moment
  abbrev IsAt : ℕ → Payload → Type 0
  IsAt t q = (v : Option Value) × (fs : List Fault) × (h : Option Bool) × (q ≡ payload_at c t v fs h)

  -- the payload of a moment that isn't later is there by then
  abbrev HasBy : ℕ → ℕ → List Payload → Type 0
  HasBy a t ps = (q : Payload) × In q ps × IsAt a q

  placed_later : (m : ℕ) (us : List ℕ) → Later m us → (before : List Payload) (q : Payload) (after : List Payload) → payloads_from c us ≡ before ++ q ∷ after
      → (t : ℕ) × In t us × IsAt t q × ((a : ℕ) → In a us → a ≤ t → HasBy a t (before ++ q ∷ []))
  placed_later m [] l before q after e = absurd (nil_cons before q after e)
  placed_later m (u ∷ us) l [] q after e =
      let s = cons_same (payload_at c u None [] (next_of c us)) q _ after e in
      (u, inl refl, (None, [], next_of c us, sym s.0), λ a i le. now a i le (sym s.0))
    where
      now : (a : ℕ) → In a (u ∷ us) → a ≤ u → q ≡ payload_at c u None [] (next_of c us) → HasBy a u (q ∷ [])
      now a (inl f) le g = (q, inl refl, (None, [], next_of c us, g ∙ ap (λ w. payload_at c w None [] (next_of c us)) (sym f)))
      now a (inr i) le g = let lt = later_than u a us l.1 i in absurd (omega arith)
  placed_later m (u ∷ us) l (b ∷ before) q after e =
      let s = cons_same (payload_at c u None [] (next_of c us)) b _ (before ++ q ∷ after) e in
      let r = placed_later u us l.1 before q after s.1 in
      (r.0, inr r.1, r.2, λ a i le. past r.0 r.3 a i le (sym s.0))
    where
      past : (t : ℕ) → ((a : ℕ) → In a us → a ≤ t → HasBy a t (before ++ q ∷ [])) → (a : ℕ) → In a (u ∷ us) → a ≤ t → b ≡ payload_at c u None [] (next_of c us) → HasBy a t (b ∷ (before ++ q ∷ []))
      past t h a (inl f) le g = (b, inl refl, (None, [], next_of c us, g ∙ ap (λ w. payload_at c w None [] (next_of c us)) (sym f)))
      past t h a (inr i) le g = let x = h a i le in (x.0, inr x.1, x.2)

  placed_in : (r : RegionResult) (before : List Payload) (q : Payload) (after : List Payload) → payloads_of r c ≡ before ++ q ∷ after
      → (t : ℕ) × IsAt t q × ((a : ℕ) → (a ≤ 0) ⊎ In a (moments c) → a ≤ t → HasBy a t (before ++ q ∷ []))
  placed_in r [] q after e =
      let s = cons_same _ q _ after e in
      (0, (Some (outcome_value r.outcome), r.faults, next_of c (moments c), sym s.0), λ a d le. (q, inl refl, (Some (outcome_value r.outcome), r.faults, next_of c (moments c), sym s.0 ∙ ap (λ w. payload_at c w (Some (outcome_value r.outcome)) r.faults (next_of c (moments c))) (zero_is a le))))
    where
      zero_is : (a : ℕ) → a ≤ 0 → 0 ≡ a
      zero_is a le = omega arith
  placed_in r (b ∷ before) q after e =
      let s = cons_same _ b _ (before ++ q ∷ after) e in
      let z = placed_later 0 (moments c) (later_all (moments_of c)) before q after s.1 in
      (z.0, z.2, λ a d le. past z.0 z.3 a d le (sym s.0))
    where
      zero_is : (a : ℕ) → a ≤ 0 → 0 ≡ a
      zero_is a le = omega arith

      past : (t : ℕ) → ((a : ℕ) → In a (moments c) → a ≤ t → HasBy a t (before ++ q ∷ [])) → (a : ℕ) → (a ≤ 0) ⊎ In a (moments c) → a ≤ t → b ≡ payload_at c 0 (Some (outcome_value r.outcome)) r.faults (next_of c (moments c)) → HasBy a t (b ∷ (before ++ q ∷ []))
      past t h a (inl le') le g = (b, inl refl, (Some (outcome_value r.outcome), r.faults, next_of c (moments c), g ∙ ap (λ w. payload_at c w (Some (outcome_value r.outcome)) r.faults (next_of c (moments c))) (zero_is a le')))
      past t h a (inr i) le g = let x = h a i le in (x.0, inr x.1, x.2)

  -- what is announced at a moment stands in its payload
  opens : (a : ℕ) (q : Payload) → IsAt a q → (k : Known) → In k (all_known c) → is_at a k.awaited.announced ≡ true → In (decimal k.number) (announced_ids q)
  opens a q (v, fs, h, e) k i at =
      subst (λ (z : Payload). In (decimal k.number) (announced_ids z)) (sym e)
      (to_map (λ (x : Pending). x.id) (pending_of k) (map pending_of (filter (λ (l : Known). is_at a l.awaited.announced) (all_known c)))
      (to_map pending_of k (filter (λ (l : Known). is_at a l.awaited.announced) (all_known c)) (to_filter (λ (l : Known). is_at a l.awaited.announced) k (all_known c) i at)))

  -- an id of something that is announced by then
  abbrev IsKnownBy : ℕ → List ℕ → Type 0
  IsKnownBy t id = (k : Known) × In k (all_known c) × (id ≡ decimal k.number) × (upto t k.awaited.announced ≡ true)

  known_first : (r : RegionResult) (before : List Payload) (q : Payload) (after : List Payload) (id : List ℕ) → payloads_of r c ≡ before ++ q ∷ after → ((t : ℕ) → IsAt t q → IsKnownBy t id) → In id (flat_map announced_ids (before ++ q ∷ []))
  known_first r before q after id e known =
      let z = placed_in r before q after e in
      let k = known z.0 z.1 in
      let w = is_awaited c k.0 k.1 in
      by z.0 z.2 k.0 k.1 k.2 k.0.awaited.announced refl k.3 (λ a f. due_all a (moments_of c) (in_left (Some a) (map (λ x. x.announced) c.awaited) _ (subst (λ (u : Time). In u (map (λ x. x.announced) c.awaited)) f (to_map (λ (x : Awaited). x.announced) k.0.awaited c.awaited w.0))))
    where
      le_of : (a t : ℕ) → nat_le a t ≡ true → a ≤ t
      le_of a t h = grind (arith, nat_tests)

      by : (t : ℕ) → ((a : ℕ) → (a ≤ 0) ⊎ In a (moments c) → a ≤ t → HasBy a t (before ++ q ∷ [])) → (k : Known) → In k (all_known c) → id ≡ decimal k.number
          → (u : Time) → k.awaited.announced ≡ u → upto t u ≡ true → ((a : ℕ) → k.awaited.announced ≡ Some a → (a ≤ 0) ⊎ In a (moments c)) → In id (flat_map announced_ids (before ++ q ∷ []))
      by t h k i same None f up due = absurd (cc)
      by t h k i same (Some a) f up due =
          let x = h a (due a f) (le_of a t up) in
          subst (λ (w : List ℕ). In w (flat_map announced_ids (before ++ q ∷ []))) (sym same) (to_flat announced_ids (decimal k.number) x.0 (before ++ q ∷ []) x.1 (opens a x.0 x.2 k i (at_itself a k.awaited.announced f)))

-- ---- a well-formed forest

module _ (r0 : RegionResult) (bs0 : Branches) (wf : IsWellFormed (grown r0 bs0)) (p : Schedule) (lawful : IsLawful (grown r0 bs0) p) where
  abbrev d : Course
  d = course p (grown r0 bs0)

  abbrev ks : List Known
  ks = all_known d

  -- what is done by then is announced by then
  done_known : (t : ℕ) (k : Known) → In k ks → is_at t k.awaited.done ≡ true → upto t k.awaited.announced ≡ true
  done_known t k i at =
      let w = timed r0 bs0 wf p lawful k.awaited (is_awaited d k i).0 in
      let same = at_some t w.closing k.awaited.done w.done at in
      ap (upto t) w.announced ∙ le w.opening w.closing w.forward same
    where
      le : (a b : ℕ) → a ≤ b → b ≡ t → nat_le a t ≡ true
      le a b h e = grind (arith, nat_tests, h, e)

  known_by : (t : ℕ) (x : Arrival) (k : Known) → In x (arrivals_at d t) → In k ks → (ComesOtherwise k x → ⊥) → upto t k.awaited.announced ≡ true
  known_by t x k i j never =
      let m = in_filter (λ (y : Arrival). is_at t y.released) x d.arrivals i in
      by (upto t k.awaited.announced) (λ e. never (apart t r0 bs0 wf p lawful x k m.0 j (at_upto t x.released m.1) e))
    where
      by : (b : Bool) → (b ≡ false → ⊥) → b ≡ true
      by true h = refl
      by false h = absurd (h refl)

  true_false : (b : Bool) → b ≡ true → b ≡ false → ⊥
  true_false b e f = cc

  group_known : (t : ℕ) (x : Arrival) → In x (arrivals_at d t) → (z : Standing) → In z (group_entries ks x) → IsKnownBy d t z.entry.id
  group_known t x i z j = by x.way refl j where
    one : (g : _) (ids : List FragId) → x.way ≡ by_owners g ids → (ls : List Known) → ls ≡ filter (λ k. is_among ids k.awaited) ks
        → In z (elim (farthest ls) [ None ↦ [] | Some k ↦ group_entry x (map (λ o. o.place) g.owners) k ∷ [] ]) → IsKnownBy d t z.entry.id
    one g ids w [] e h = absurd h
    one g ids w (l ∷ ls) e h =
        let a = far l ls in
        let m = in_filter (λ (k : Known). is_among ids k.awaited) a.0 ks (subst (λ (xs : List Known). In a.0 xs) e a.1) in
        two a.0 m.0 m.1 (subst (λ (o : Option Known). In z (elim o [ None ↦ [] | Some k ↦ group_entry x (map (λ o. o.place) g.owners) k ∷ [] ])) a.2 h)
      where
        two : (k : Known) → In k ks → is_among ids k.awaited ≡ true → In z (group_entry x (map (λ o. o.place) g.owners) k ∷ []) → IsKnownBy d t z.entry.id
        two k u v (inl f) = (k, u, ap (λ (y : Standing). y.entry.id) f, known_by t x k i u (λ other. true_false (is_among ids k.awaited) v (other.group g ids w)))
        two k u v (inr f) = absurd f

    by : (w : Way) → x.way ≡ w → In z (elim w [ at_first ↦ [] | by_owners g ids ↦ elim (farthest (filter (λ k. is_among ids k.awaited) ks)) [ None ↦ [] | Some k ↦ group_entry x (map (λ o. o.place) g.owners) k ∷ [] ] | by_stream s ↦ [] ]) → IsKnownBy d t z.entry.id
    by at_first e h = absurd h
    by (by_owners g ids) e h = one g ids e (filter (λ k. is_among ids k.awaited) ks) refl h
    by (by_stream s) e h = absurd h

  item_known : (t : ℕ) (k : Known) → In k ks → (z : Standing) → In z (stream_entries (arrivals_at d t) k) → IsKnownBy d t z.entry.id
  item_known t k i z j = by (filter (is_item_of k) (arrivals_at d t)) refl j where
    by : (xs : List Arrival) → xs ≡ filter (is_item_of k) (arrivals_at d t) → In z (items_entry k xs) → IsKnownBy d t z.entry.id
    by [] e h = absurd h
    by (x ∷ xs) e (inl f) =
        let m = in_filter (is_item_of k) x (arrivals_at d t) (subst (λ (l : List Arrival). In x l) e (inl refl)) in
        (k, i, ap (λ (y : Standing). y.entry.id) f, known_by t x k m.0 i (λ other. true_false (is_item_of k x) m.1 other.item))
    by (x ∷ xs) e (inr f) = absurd f

  entry_known : (t : ℕ) (e : Entry) → In e (entries_of ks (arrivals_at d t)) → IsKnownBy d t e.id
  entry_known t e i =
      let xs : List Arrival = arrivals_at d t in
      let m = in_map (λ (z : Standing). z.entry) e (ordered standing_cmp (flat_map (group_entries ks) xs ++ flat_map (stream_entries xs) ks)) i in
      let j = in_ordered standing_cmp m.0 (flat_map (group_entries ks) xs ++ flat_map (stream_entries xs) ks) m.1 in
      subst (λ (z : Entry). IsKnownBy d t z.id) (sym m.2) (by m.0 (in_cases m.0 (flat_map (group_entries ks) xs) (flat_map (stream_entries xs) ks) j))
    where
      by : (z : Standing) → In z (flat_map (group_entries ks) (arrivals_at d t)) ⊎ In z (flat_map (stream_entries (arrivals_at d t)) ks) → IsKnownBy d t z.entry.id
      by z (inl h) = let w = in_flat (group_entries ks) z (arrivals_at d t) h in group_known t w.0 w.1 z w.2
      by z (inr h) = let w = in_flat (stream_entries (arrivals_at d t)) z ks h in item_known t w.0 w.1 z w.2

  used_known : (t : ℕ) (q : Payload) → IsAt d t q → (id : List ℕ) → In id (used_ids q) → IsKnownBy d t id
  used_known t q (v, fs, h, e) id i = by (in_cases id (map (λ x. x.id) (entries_of ks (arrivals_at d t))) _ (subst (λ (z : Payload). In id (used_ids z)) e i)) where
    by : In id (map (λ x. x.id) (entries_of ks (arrivals_at d t))) ⊎ In id (map (λ x. x.id) (map completed_of (filter (λ k. is_at t k.awaited.done) ks))) → IsKnownBy d t id
    by (inl j) = let m = in_map (λ (x : Entry). x.id) id (entries_of ks (arrivals_at d t)) j in subst (IsKnownBy d t) (sym m.2) (entry_known t m.0 m.1)
    by (inr j) =
        let m = in_map (λ x. x.id) id (map completed_of (filter (λ k. is_at t k.awaited.done) ks)) j in
        let k = in_map completed_of m.0 (filter (λ k. is_at t k.awaited.done) ks) m.1 in
        let w = in_filter (λ (l : Known). is_at t l.awaited.done) k.0 ks k.1 in
        (k.0, w.0, m.2 ∙ ap (λ x. x.id) k.2, done_known t k.0 w.0 w.1)

  pub announced_first : AreAnnouncedFirst (payloads (grown r0 bs0) p)
  announced_first before after q id e has =
      in_contains (flat_map announced_ids (before ++ q ∷ [])) id
      (known_first d r0 before q after id e (λ t at. used_known t q at id (contains_in (used_ids q) id has)))

pub ids_are_announced_first : IdsAreAnnouncedFirst
ids_are_announced_first (grown r bs) p wf lawful = announced_first r bs wf p lawful

-- ---- what has an id

-- what arrives of a region is that region, at its place
abbrev AtItsPlace : Placed → Type 0
AtItsPlace q = (q.arrival.at ≡ q.site.at) × (q.arrival.region ≡ q.site.region)

either : (xs ys : List Placed) (q : Placed) → (In q xs → AtItsPlace q) → (In q ys → AtItsPlace q) → In q (xs ++ ys) → AtItsPlace q
either xs ys q f g i = by (in_cases q xs ys i) where
  by : In q xs ⊎ In q ys → AtItsPlace q
  by (inl j) = f j
  by (inr j) = g j

places_arrive : (p : Schedule) (s : Scope) (around : List Frag) (begun rel : Time) (items : List ItemRun) (bs : Branches) (q : Placed) → In q (places_below p s around begun rel items bs) → AtItsPlace q
places_arrive p s around begun rel items none q i = absurd i
places_arrive p s around begun rel items (more (Fields g) (grown r inner) bs) q (inl e) = subst AtItsPlace (sym e) (refl, refl)
places_arrive p s around begun rel items (more (Fields g) (grown r inner) bs) q (inr i) =
    either _ _ q (places_arrive p s (r.fragments ++ around) begun (released_at p s begun g) (items_run inner) inner q) (places_arrive p s around begun rel items bs q) i
places_arrive p s around begun rel items (more (Item st n) (grown r inner) bs) q (inl e) = subst AtItsPlace (sym e) (refl, refl)
places_arrive p s around begun rel items (more (Item st n) (grown r inner) bs) q (inr i) =
    either _ _ q (places_arrive p (scope_of (grown r inner)) r.fragments (item_at p items rel st n) (item_at p items rel st n) (items_run inner) inner q) (places_arrive p s around begun rel items bs q) i

module _ (r0 : RegionResult) (bs0 : Branches) (wf : IsWellFormed (grown r0 bs0)) (p : Schedule) where
  abbrev f : Forest
  f = grown r0 bs0

  abbrev c : Course
  c = course p f

  arrives : (q : Placed) → In q (all r0 bs0 wf p) → AtItsPlace q
  arrives q (inl e) = subst AtItsPlace (sym e) (refl, refl)
  arrives q (inr i) = places_arrive p (scope_of f) r0.fragments (Some 0) (Some 0) (items_run bs0) bs0 q i

  of_awaited : (k : Known) → In k (all_known c) → IsOfTheForest f p (pending_of k)
  of_awaited k i = by (all_awaits r0 bs0 wf p k.awaited (is_awaited c k i).0) where
    by : FragmentAwaited r0 bs0 wf p k.awaited ⊎ StreamGrows r0 bs0 wf p k.awaited → IsOfTheForest f p (pending_of k)
    by (inl h) = (
      h.place.site,
      in_contains (sites f) h.place.site (is_site r0 bs0 wf p h.place h.is_place),
      inl (h.fragment, in_contains h.place.site.region.fragments h.fragment h.arises, h.announced, ap (λ (a : Awaited). a.path) h.is, ap (λ (a : Awaited). a.label) h.is),
    )
    by (inr g) =
        let h = g.awaited in
        let at = arrives h.place h.is_place in (
          h.place.site,
          in_contains (sites f) h.place.site (is_site r0 bs0 wf p h.place h.is_place),
          inr (h.stream, in_contains h.place.site.region.streams h.stream h.is_listed, ap (λ (a : Awaited). a.path) h.is, ap (λ (a : Awaited). a.label) h.is, (h.place.arrival, in_contains c.arrivals h.place.arrival h.arrives, at.0, at.1)),
        )

  pending_known : (t : ℕ) (v : Option Value) (fs : List Fault) (h : Option Bool) (x : Pending) → In x (payload_at c t v fs h).pending → IsOfTheForest f p x
  pending_known t v fs h x i =
      let m = in_map pending_of x (filter (λ (k : Known). is_at t k.awaited.announced) (all_known c)) i in
      let n = in_filter (λ (k : Known). is_at t k.awaited.announced) m.0 (all_known c) m.1 in
      subst (IsOfTheForest f p) (sym m.2) (of_awaited m.0 n.0)

  later_known : (us : List ℕ) (q : Payload) → In q (payloads_from c us) → (x : Pending) → In x q.pending → IsOfTheForest f p x
  later_known [] q i x j = absurd i
  later_known (u ∷ us) q (inl e) x j = pending_known u None [] (next_of c us) x (subst (λ (z : Payload). In x z.pending) e j)
  later_known (u ∷ us) q (inr i) x j = later_known us q i x j

  pub of_the_forest : (q : Payload) (x : Pending) → In q (payloads f p) → In x q.pending → IsOfTheForest f p x
  of_the_forest q x (inl e) j = pending_known 0 (Some (outcome_value r0.outcome)) r0.faults (next_of c (moments c)) x (subst (λ (z : Payload). In x z.pending) e j)
  of_the_forest q x (inr i) j = later_known (moments c) q i x j

pub pendings_are_of_the_forest : PendingsAreOfTheForest
pendings_are_of_the_forest (grown r bs) p q x wf i j = of_the_forest r bs wf p q x (contains_in (payloads (grown r bs) p) q i) (contains_in q.pending x j)
