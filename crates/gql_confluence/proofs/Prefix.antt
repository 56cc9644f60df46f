-- The payloads of a course whose later times are cut away are the first of all.
use Rattle.std.proofs.Common.{◌≡◌, ◌⊎◌, inl, inr, ℕ, ◌≤◌, ◌+◌, List, [], ◌∷◌, ◌++◌, map, refl, sym, subst, ◌∙◌, ap, Bool, true, false, cond, Option, Some, None, arith}
use Rattle.std.specs.Prelude.{nat_le, nat_lt, ◌==◌, not, filter, flat_map, length}
use Rattle.std.specs.List.{list_all}
use Rattle.std.specs.Option.{option_cmp}
use Rattle.std.specs.Ordering.{nat_cmp, ordering_then}
use Rattle.std.specs.declared.cmp.Ordering.TheVariants.{Less, Equal, Greater}
use Rattle.std.proofs.lemmas.Bool.Decides.{nat_tests}
use Rattle.std.proofs.lemmas.List.{append-nil}
use Rattle.gql_tree.specs.declared.value.Value.{Value}
use Rattle.gql_tree.specs.declared.delivery.Fault.{Fault}
use Rattle.gql_tree.specs.declared.delivery.FragId.{FragId}
use Rattle.gql_tree.specs.declared.delivery.Group.{Group}
use Rattle.gql_tree.specs.declared.delivery.RegionResult.{RegionResult}
use Rattle.gql_tree.specs.Order.{path_cmp}
use Rattle.gql_tree.specs.Ordered.{ordered}
use Rattle.gql_tree.specs.Forest.{outcome_value}
use Rattle.gql_tree.specs.Times.{Time, is_at, has_time}
use Rattle.gql_tree.specs.Course.{Awaited, Way, at_first, by_owners, by_stream, Arrival, Course}
use Rattle.gql_tree.specs.Payloads.{kind_cmp, awaited_cmp, Known, known_from, all_known, pending_of, completed_of, is_among, farthest, Standing, standing_cmp, group_entry, group_entries, is_item_of, items_entry, stream_entries, entries_of, arrivals_at, payload_at, noted_all, moments, is_finished, next_of, payloads_from, payloads_of}
use Rattle.gql_confluence.proofs.Parts.{In, in_right}
use Rattle.gql_confluence.proofs.Lists.{not_is, in_filter, in_map, to_map, to_all}
use Rattle.gql_confluence.proofs.Items.{filter_append, flat_append}
use Rattle.gql_confluence.proofs.Knowns.{known_awaited}
use Rattle.gql_confluence.proofs.Moments.{upto, due_all}
use Rattle.gql_confluence.proofs.Sorted.{in_ordered}
use Rattle.gql_confluence.proofs.Soundness.{IsTimed}
use Rattle.gql_confluence.proofs.Standings.{flat_none}
use Rattle.gql_confluence.proofs.Halves.{filter_none, filter_twice, filter_mapped, ordered_mapped, ordered_halves, noted_there, early_in, noted_halves}
use Rattle.gql_confluence.proofs.Cut.{cut, cut_some, cut_awaited, IsCutCourse}

-- ---- one time

module _ (n : ℕ) where
  cut_there : (t : Time) → has_time (cut n t) ≡ upto n t
  cut_there None = refl
  cut_there (Some a) = by (nat_le a n) where
    by : (b : Bool) → has_time (cond b (Some a) None) ≡ b
    by true = refl
    by false = refl

  cut_early : (t : Time) → upto n t ≡ true → cut n t ≡ t
  cut_early None e = absurd (cc)
  cut_early (Some a) e = cut_some n a e

  early_there : (t : Time) → upto n t ≡ true → has_time t ≡ true
  early_there None e = absurd (cc)
  early_there (Some a) e = refl

  -- at an event up to the last
  at_cut : (t : ℕ) (u : Time) → t ≤ n → is_at t (cut n u) ≡ is_at t u
  at_cut t None le = refl
  at_cut t (Some a) le = by (nat_le a n) refl where
    by : (b : Bool) → nat_le a n ≡ b → is_at t (cond b (Some a) None) ≡ (a == t)
    by true e = refl
    by false e = sym differ where
      differ : (a == t) ≡ false
      differ = grind (arith, nat_tests)

  at_early : (t : ℕ) (u : Time) → t ≤ n → is_at t u ≡ true → upto n u ≡ true
  at_early t None le e = absurd (cc)
  at_early t (Some a) le e = grind (arith, nat_tests)

  at_there : (t : ℕ) (u : Time) → is_at t u ≡ true → has_time u ≡ true
  at_there t None e = absurd (cc)
  at_there t (Some a) e = refl

  not_at : (t : ℕ) (u : Time) → t ≤ n → upto n u ≡ false → is_at t u ≡ false
  not_at t None le e = refl
  not_at t (Some a) le e = differ where
    differ : (a == t) ≡ false
    differ = grind (arith, nat_tests)

  times_cmp : (t u : Time) → upto n t ≡ true → has_time u ≡ true → upto n u ≡ false → (option_cmp nat_cmp t u ≡ Less) × (option_cmp nat_cmp u t ≡ Greater)
  times_cmp None u e h f = absurd (cc)
  times_cmp (Some a) None e h f = absurd (cc)
  times_cmp (Some a) (Some b) e h f = (ap (λ d. cond d Less (cond (a == b) Equal Greater)) less, λ i. cond (no_less i) Less (cond (differ i) Equal Greater)) where
    less : nat_lt a b ≡ true
    less = grind (arith, nat_tests)

    no_less : nat_lt b a ≡ false
    no_less = grind (arith, nat_tests)

    differ : (b == a) ≡ false
    differ = grind (arith, nat_tests)

  before : (a b : Awaited) → upto n a.announced ≡ true → has_time b.announced ≡ true → upto n b.announced ≡ false → (awaited_cmp a b ≡ Less) × (awaited_cmp b a ≡ Greater)
  before a b e h f =
      let t = times_cmp a.announced b.announced e h f in (
        ap (λ o. ordering_then o (ordering_then (path_cmp a.path.keys b.path.keys) (ordering_then (kind_cmp a.is_stream b.is_stream) (nat_cmp a.place b.place)))) t.0,
        ap (λ o. ordering_then o (ordering_then (path_cmp b.path.keys a.path.keys) (ordering_then (kind_cmp b.is_stream a.is_stream) (nat_cmp b.place a.place)))) t.1,
      )

-- ---- ids

abbrev cut_known : ℕ → Known → Known
cut_known n k = record { number = k.number; awaited = cut_awaited n k.awaited }

known_mapped : (n m : ℕ) (as' : List Awaited) → known_from m (map (cut_awaited n) as') ≡ map (cut_known n) (known_from m as')
known_mapped n m [] = refl
known_mapped n m (a ∷ rest) = ap (λ (l : List Known). record { number = m; awaited = cut_awaited n a } ∷ l) (known_mapped n (m + 1) rest)

known_halves : (m : ℕ) (xs ys : List Awaited) → (b : ℕ) × (known_from m (xs ++ ys) ≡ known_from m xs ++ known_from b ys)
known_halves m [] ys = (m, refl)
known_halves m (x ∷ xs) ys = let r = known_halves (m + 1) xs ys in (r.0, ap (λ (l : List Known). record { number = m; awaited = x } ∷ l) r.1)

flat_same : {X Y : Type 0} (f g : X → List Y) (xs : List X) → ((x : X) → In x xs → f x ≡ g x) → flat_map f xs ≡ flat_map g xs
flat_same f g [] h = refl
flat_same f g (x ∷ xs) h = λ i. h x (inl refl) i ++ flat_same f g xs (λ y k. h y (inr k)) i

flat_mapped : {X Y Z : Type 0} (f : Y → List Z) (g : X → Y) (xs : List X) → flat_map f (map g xs) ≡ flat_map (λ x. f (g x)) xs
flat_mapped f g [] = refl
flat_mapped f g (x ∷ xs) = ap (λ l. f (g x) ++ l) (flat_mapped f g xs)

map_twice : {X Y Z : Type 0} (f : Y → Z) (g : X → Y) (xs : List X) → map f (map g xs) ≡ map (λ x. f (g x)) xs
map_twice f g [] = refl
map_twice f g (x ∷ xs) = ap (λ l. f (g x) ∷ l) (map_twice f g xs)

-- when something is announced, released or done
abbrev pub moments_of : Course → List Time
moments_of e = map (λ a. a.announced) e.awaited ++ (map (λ x. x.released) e.arrivals ++ map (λ a. a.done) e.awaited)

-- the moments later than this event
abbrev pub further_of : ℕ → Course → List ℕ
further_of n d = noted_all (filter (λ t. not (upto n t)) (moments_of d))

-- nothing of the region comes under this id
pub record ComesOtherwise (l : Known) (x : Arrival) : Type 0 where
  pub item : is_item_of l x ≡ false
  pub group : (g : Group) (ids : List FragId) → x.way ≡ by_owners g ids → is_among ids l.awaited ≡ false

module _ (n : ℕ) (c d : Course) (k : IsCutCourse n c d) (timed : (a : Awaited) → In a d.awaited → IsTimed a)
    (apart : (x : Arrival) (l : Known) → In x d.arrivals → In l (all_known d) → upto n x.released ≡ true → upto n l.awaited.announced ≡ false → ComesOtherwise l x) where
  abbrev is_early : Awaited → Bool
  is_early a = upto n a.announced

  abbrev has_opening : Awaited → Bool
  has_opening a = has_time a.announced

  abbrev early : List Awaited
  early = ordered awaited_cmp (filter is_early d.awaited)

  abbrev late : List Awaited
  late = ordered awaited_cmp (filter (λ a. not (is_early a)) (filter has_opening d.awaited))

  abbrev front : List Known
  front = known_from 0 early

  abbrev back : List Known
  back = known_from (known_halves 0 early late).0 late

  all_d : all_known d ≡ front ++ back
  all_d =
      ap (known_from 0)
      (ordered_halves awaited_cmp is_early (filter has_opening d.awaited) (λ x y i j e f. before n x y e (in_filter has_opening y d.awaited j).1 f)
      ∙ ap (λ (l : List Awaited). ordered awaited_cmp l ++ late) (filter_twice is_early has_opening (λ a e. early_there n a.announced e) d.awaited))
      ∙ (known_halves 0 early late).1

  all_c : all_known c ≡ map (cut_known n) front
  all_c =
      ap (λ (l : List Awaited). known_from 0 (ordered awaited_cmp l)) (ap (filter has_opening) k.awaited ∙ filter_mapped (cut_awaited n) has_opening is_early (λ a. cut_there n a.announced) d.awaited)
      ∙ (ap (known_from 0) (ordered_mapped awaited_cmp awaited_cmp (cut_awaited n) (filter is_early d.awaited) same)
      ∙ known_mapped n 0 early)
    where
      same : (x y : Awaited) → In x (filter is_early d.awaited) → In y (filter is_early d.awaited) → awaited_cmp (cut_awaited n x) (cut_awaited n y) ≡ awaited_cmp x y
      same x y i j = λ t. ordering_then (option_cmp nat_cmp (cut_early n x.announced (in_filter is_early x d.awaited i).1 t) (cut_early n y.announced (in_filter is_early y d.awaited j).1 t))
          (ordering_then (path_cmp x.path.keys y.path.keys) (ordering_then (kind_cmp x.is_stream y.is_stream) (nat_cmp x.place y.place)))

  -- the ids behind are announced later
  back_late : (l : Known) → In l back → upto n l.awaited.announced ≡ false
  back_late l i =
      let a = (known_awaited (known_halves 0 early late).0 l late i).0 in
      not_is (is_early l.awaited) (in_filter (λ b. not (is_early b)) l.awaited (filter has_opening d.awaited) (in_ordered awaited_cmp l.awaited (filter (λ b. not (is_early b)) (filter has_opening d.awaited)) a)).1

  back_known : (l : Known) → In l back → In l (all_known d)
  back_known l i = subst (λ (ks : List Known). In l ks) (sym all_d) (in_right l front back i)

  back_awaited : (l : Known) → In l back → In l.awaited d.awaited
  back_awaited l i =
      let a = (known_awaited (known_halves 0 early late).0 l late i).0 in
      (in_filter has_opening l.awaited d.awaited (in_filter (λ b. not (is_early b)) l.awaited (filter has_opening d.awaited) (in_ordered awaited_cmp l.awaited (filter (λ b. not (is_early b)) (filter has_opening d.awaited)) a)).0).0

  -- and done later
  done_late : (a : Awaited) → IsTimed a → upto n a.announced ≡ false → upto n a.done ≡ false
  done_late a t e = ap (upto n) t.done ∙ le (ap (upto n) (sym t.announced) ∙ e) where
    le : nat_le t.opening n ≡ false → nat_le t.closing n ≡ false
    le f = let g = t.forward in grind (arith, nat_tests, g, f)

  -- what is written of the ids that meet a test on what both have
  records_same : {Y : Type 0} (g : Known → Y) (q : Known → Bool) → ((l : Known) → q (cut_known n l) ≡ q l) → ((l : Known) → g (cut_known n l) ≡ g l) → ((l : Known) → In l back → q l ≡ false) → map g (filter q (all_known c)) ≡ map g (filter q (all_known d))
  records_same g q same alike none' =
      ap (λ (ks : List Known). map g (filter q ks)) all_c
      ∙ (ap (map g) (filter_mapped (cut_known n) q q same front)
      ∙ (map_twice g (cut_known n) (filter q front)
      ∙ (alike_map (filter q front)
      ∙ (ap (map g) (sym (append-nil (filter q front)) ∙ (ap (λ (ks : List Known). filter q front ++ ks) (sym (filter_none q back none')) ∙ sym (filter_append q front back)))
      ∙ ap (λ (ks : List Known). map g (filter q ks)) (sym all_d)))))
    where
      alike_map : (ks : List Known) → map (λ l. g (cut_known n l)) ks ≡ map g ks
      alike_map [] = refl
      alike_map (l ∷ ks) = λ i. alike l i ∷ alike_map ks i

  -- ---- entries

  known_by : {Y : Type 0} (h : Known → List Y) → ((l : Known) → h (cut_known n l) ≡ h l) → ((l : Known) → In l back → h l ≡ []) → flat_map h (all_known c) ≡ flat_map h (all_known d)
  known_by h same none' =
      ap (flat_map h) all_c
      ∙ (flat_mapped h (cut_known n) front
      ∙ (flat_same (λ l. h (cut_known n l)) h front (λ l i. same l)
      ∙ (sym (append-nil (flat_map h front)) ∙ (ap (λ (l : List _). flat_map h front ++ l) (sym (flat_none h back none')) ∙ (sym (flat_append h front back) ∙ ap (flat_map h) (sym all_d))))))

  abbrev entry_by : Arrival → List ℕ → Option Known → List Standing
  entry_by x places o = elim o [ None ↦ [] | Some l ↦ group_entry x places l ∷ [] ]

  abbrev cut_option : Option Known → Option Known
  cut_option o = elim o [ None ↦ None | Some l ↦ Some (cut_known n l) ]

  farthest_cut : (ks : List Known) → farthest (map (cut_known n) ks) ≡ cut_option (farthest ks)
  farthest_cut [] = refl
  farthest_cut (l ∷ ks) = ap (λ (o : Option Known). elim o [ None ↦ Some (cut_known n l) | Some m ↦ cond (nat_lt (length l.awaited.path.keys) (length m.awaited.path.keys)) (Some m) (Some (cut_known n l)) ]) (farthest_cut ks) ∙ by (farthest ks) where
    by : (o : Option Known) → elim (cut_option o) [ None ↦ Some (cut_known n l) | Some m ↦ cond (nat_lt (length l.awaited.path.keys) (length m.awaited.path.keys)) (Some m) (Some (cut_known n l)) ]
        ≡ cut_option (elim o [ None ↦ Some l | Some m ↦ cond (nat_lt (length l.awaited.path.keys) (length m.awaited.path.keys)) (Some m) (Some l) ])
    by None = refl
    by (Some m) = two (nat_lt (length l.awaited.path.keys) (length m.awaited.path.keys)) where
      two : (b : Bool) → cond b (Some (cut_known n m)) (Some (cut_known n l)) ≡ cut_option (cond b (Some m) (Some l))
      two true = refl
      two false = refl

  entry_cut : (x : Arrival) (places : List ℕ) (o : Option Known) → entry_by x places (cut_option o) ≡ entry_by x places o
  entry_cut x places None = refl
  entry_cut x places (Some l) = refl

  abbrev among : List FragId → Known → Bool
  among ids l = is_among ids l.awaited

  abbrev entry_of : Arrival → Group → List FragId → List Known → List Standing
  entry_of x g ids ks = entry_by x (map (λ (o : FragId). o.place) g.owners) (farthest (filter (among ids) ks))

  -- a group that is released up to the event has its entry under the same id
  owned_same : (x : Arrival) (g : Group) (ids : List FragId) → ((l : Known) → In l back → among ids l ≡ false) → entry_of x g ids (all_known c) ≡ entry_of x g ids (all_known d)
  owned_same x g ids none' =
      ap (λ (ks : List Known). entry_by x places (farthest ks)) (ap (filter (among ids)) all_c ∙ filter_mapped (cut_known n) (among ids) (among ids) (λ l. refl) front)
      ∙ (ap (entry_by x places) (farthest_cut (filter (among ids) front))
      ∙ (entry_cut x places (farthest (filter (among ids) front))
      ∙ ap (λ (ks : List Known). entry_by x places (farthest ks)) (sym right)))
    where
      places : List ℕ
      places = map (λ (o : FragId). o.place) g.owners

      right : filter (among ids) (all_known d) ≡ filter (among ids) front
      right = ap (filter (among ids)) all_d ∙ (filter_append (among ids) front back ∙ (ap (λ (ks : List Known). filter (among ids) front ++ ks) (filter_none (among ids) back none') ∙ append-nil (filter (among ids) front)))

  abbrev entries_by : List Known → Arrival → Way → List Standing
  entries_by ks x w = elim w [ at_first ↦ [] | by_owners g ids ↦ entry_of x g ids ks | by_stream s ↦ [] ]

  group_same : (x : Arrival) → In x d.arrivals → upto n x.released ≡ true → group_entries (all_known c) x ≡ group_entries (all_known d) x
  group_same x i e = by x.way refl where
    by : (w : Way) → x.way ≡ w → entries_by (all_known c) x w ≡ entries_by (all_known d) x w
    by at_first f = refl
    by (by_owners g ids) f = owned_same x g ids (λ l j. (apart x l i (back_known l j) e (back_late l j)).group g ids f)
    by (by_stream s) f = refl

  arrivals_same : (t : ℕ) → t ≤ n → arrivals_at c t ≡ arrivals_at d t
  arrivals_same t le =
      sym (filter_twice (λ (x : Arrival). is_at t x.released) (λ x. has_time x.released) (λ x e. at_there n t x.released e) c.arrivals)
      ∙ (ap (filter (λ (x : Arrival). is_at t x.released)) k.arrivals
      ∙ filter_twice (λ (x : Arrival). is_at t x.released) (λ x. upto n x.released) (λ x e. at_early n t x.released le e) d.arrivals)

  entries_same : (t : ℕ) → t ≤ n → entries_of (all_known c) (arrivals_at c t) ≡ entries_of (all_known d) (arrivals_at d t)
  entries_same t le =
      ap (entries_of (all_known c)) (arrivals_same t le)
      ∙ (λ i. map (λ (e : Standing). e.entry) (ordered standing_cmp (groups i ++ streams i)))
    where
      here : (x : Arrival) → In x (arrivals_at d t) → In x d.arrivals × (upto n x.released ≡ true)
      here x j = let m = in_filter (λ (y : Arrival). is_at t y.released) x d.arrivals j in (m.0, at_early n t x.released le m.1)

      groups : flat_map (group_entries (all_known c)) (arrivals_at d t) ≡ flat_map (group_entries (all_known d)) (arrivals_at d t)
      groups = flat_same (group_entries (all_known c)) (group_entries (all_known d)) (arrivals_at d t) (λ x j. let h = here x j in group_same x h.0 h.1)

      streams : flat_map (stream_entries (arrivals_at d t)) (all_known c) ≡ flat_map (stream_entries (arrivals_at d t)) (all_known d)
      streams = known_by (stream_entries (arrivals_at d t)) (λ l. refl) (λ l j. ap (items_entry l) (filter_none (is_item_of l) (arrivals_at d t) (λ x m. let h = here x m in (apart x l h.0 (back_known l j) h.1 (back_late l j)).item)))

  payload_same : (t : ℕ) (initial : Option Value) (errors : List Fault) (has_next : Option Bool) → t ≤ n → payload_at c t initial errors has_next ≡ payload_at d t initial errors has_next
  payload_same t initial errors has_next le = λ i. record {
    initial = initial;
    errors = errors;
    pending = records_same pending_of (λ (l : Known). is_at t l.awaited.announced) (λ l. at_cut n t l.awaited.announced le) (λ l. refl) (λ l j. not_at n t l.awaited.announced le (back_late l j)) i;
    incremental = entries_same t le i;
    completed = records_same completed_of (λ (l : Known). is_at t l.awaited.done) (λ l. at_cut n t l.awaited.done le) (λ l. refl) (λ l j. not_at n t l.awaited.done le (done_late l.awaited (timed l.awaited (back_awaited l j)) (back_late l j))) i;
    has_next = has_next;
  }

  -- ---- when there are payloads

  abbrev sooner : List ℕ
  sooner = noted_all (filter (upto n) (moments_of d))

  abbrev further : List ℕ
  further = further_of n d

  there_cut : (f : Awaited → Time) → ((a : Awaited) → f (cut_awaited n a) ≡ cut n (f a)) → (as' : List Awaited) → filter has_time (map f (map (cut_awaited n) as')) ≡ filter (upto n) (map f as')
  there_cut f e [] = refl
  there_cut f e (a ∷ as') = (λ i. cond (has_time (e a i)) (e a i ∷ there_cut f e as' i) (there_cut f e as' i)) ∙ by (f a) where
    by : (t : Time) → cond (has_time (cut n t)) (cut n t ∷ filter (upto n) (map f as')) (filter (upto n) (map f as')) ≡ cond (upto n t) (t ∷ filter (upto n) (map f as')) (filter (upto n) (map f as'))
    by None = refl
    by (Some b) = two (nat_le b n) where
      two : (z : Bool) → cond (has_time (cond z (Some b) None)) (cond z (Some b) None ∷ filter (upto n) (map f as')) (filter (upto n) (map f as')) ≡ cond z (Some b ∷ filter (upto n) (map f as')) (filter (upto n) (map f as'))
      two true = refl
      two false = refl

  moments_cut : filter has_time (moments_of c) ≡ filter (upto n) (moments_of d)
  moments_cut =
      filter_append has_time (map (λ a. a.announced) c.awaited) (map (λ x. x.released) c.arrivals ++ map (λ a. a.done) c.awaited)
      ∙ ((λ i. announced i ++ (filter_append has_time (map (λ x. x.released) c.arrivals) (map (λ a. a.done) c.awaited) ∙ ((λ j. released j ++ done j) ∙ sym (filter_append (upto n) (map (λ x. x.released) d.arrivals) (map (λ a. a.done) d.awaited)))) i)
      ∙ sym (filter_append (upto n) (map (λ a. a.announced) d.awaited) (map (λ x. x.released) d.arrivals ++ map (λ a. a.done) d.awaited)))
    where
      announced : filter has_time (map (λ a. a.announced) c.awaited) ≡ filter (upto n) (map (λ a. a.announced) d.awaited)
      announced = ap (λ (l : List Awaited). filter has_time (map (λ a. a.announced) l)) k.awaited ∙ there_cut (λ a. a.announced) (λ a. refl) d.awaited

      done : filter has_time (map (λ a. a.done) c.awaited) ≡ filter (upto n) (map (λ a. a.done) d.awaited)
      done = ap (λ (l : List Awaited). filter has_time (map (λ a. a.done) l)) k.awaited ∙ there_cut (λ a. a.done) (λ a. refl) d.awaited

      released : filter has_time (map (λ x. x.released) c.arrivals) ≡ filter (upto n) (map (λ x. x.released) d.arrivals)
      released =
          filter_mapped (λ (x : Arrival). x.released) has_time (λ x. has_time x.released) (λ x. refl) c.arrivals
          ∙ (ap (map (λ (x : Arrival). x.released)) k.arrivals ∙ sym (filter_mapped (λ (x : Arrival). x.released) (upto n) (λ x. upto n x.released) (λ x. refl) d.arrivals))

  moments_c : moments c ≡ sooner
  moments_c = sym (noted_there (moments_of c)) ∙ ap noted_all moments_cut

  pub moments_d : moments d ≡ sooner ++ further
  moments_d = noted_halves n (moments_of d)

  -- ---- whether more is to come, where not all is done

  abbrev next_by : List Awaited → List ℕ → Bool → Option Bool
  next_by as' ts finished = elim as' [ [] ↦ None | a ∷ rest ↦ elim ts [ [] ↦ Some (not finished) | v ∷ vs ↦ Some true ] ]

  module _ (open' : is_finished c ≡ false) (u : ℕ) (us : List ℕ) (goes_on : further ≡ u ∷ us) where
    next_c : (ts : List ℕ) → next_of c ts ≡ Some true
    next_c ts = by c.awaited open' ts where
      by : (as' : List Awaited) → list_all (λ a. has_time a.done) as' ≡ false → (ts : List ℕ)
          → next_by as' ts (is_finished c) ≡ Some true
      by [] e ts = absurd (cc)
      by (a ∷ as') e [] = ap (λ b. Some (not b)) open'
      by (a ∷ as') e (v ∷ vs) = refl

    next_d : (ts : List ℕ) → next_of d (ts ++ further) ≡ Some true
    next_d ts = ap (λ (l : List ℕ). next_of d (ts ++ l)) goes_on ∙ by d.awaited some ts where
      some : list_all (λ a. has_time a.done) (map (cut_awaited n) d.awaited) ≡ false
      some = ap (list_all (λ a. has_time a.done)) (sym k.awaited) ∙ open'

      by : (as' : List Awaited) → list_all (λ a. has_time a.done) (map (cut_awaited n) as') ≡ false → (ts : List ℕ)
          → next_by as' (ts ++ u ∷ us) (is_finished d) ≡ Some true
      by [] e ts = absurd (cc)
      by (a ∷ as') e [] = refl
      by (a ∷ as') e (v ∷ vs) = refl

    from_same : (ts : List ℕ) → ((t : ℕ) → In t ts → t ≤ n) → payloads_from d (ts ++ further) ≡ payloads_from c ts ++ payloads_from d further
    from_same [] h = refl
    from_same (t ∷ ts) h =
        λ i. (ap (payload_at d t None []) (next_d ts ∙ sym (next_c ts)) ∙ sym (payload_same t None [] (next_of c ts) (h t (inl refl)))) i ∷ from_same ts (λ v j. h v (inr j)) i

    pub payloads_halves : (r : RegionResult) → payloads_of r d ≡ payloads_of r c ++ payloads_from d further
    payloads_halves r =
        (λ i. payload_at d 0 (Some (outcome_value r.outcome)) r.faults (next_of d (moments_d i)) ∷ payloads_from d (moments_d i))
        ∙ ((λ i. (ap (payload_at d 0 (Some (outcome_value r.outcome)) r.faults) (next_d sooner ∙ sym (next_c sooner)) ∙ sym (payload_same 0 (Some (outcome_value r.outcome)) r.faults (next_of c sooner) (omega arith))) i ∷ from_same sooner (λ t j. early_in n t (moments_of d) j) i)
        ∙ (λ i. payload_at c 0 (Some (outcome_value r.outcome)) r.faults (next_of c (sym moments_c i)) ∷ (payloads_from c (sym moments_c i) ++ payloads_from d further)))

  -- where not all is done by the event, something is done later
  pub goes_on : is_finished c ≡ false → (u : ℕ) × (us : List ℕ) × (further ≡ u ∷ us)
  goes_on open' = some further refl where
    some : (ts : List ℕ) → further ≡ ts → (u : ℕ) × (us : List ℕ) × (further ≡ u ∷ us)
    some (u ∷ us) e = (u, us, e)
    some [] e = absurd (differ (is_finished c) (ap (list_all (λ (a : Awaited). has_time a.done)) k.awaited ∙ to_all (λ (a : Awaited). has_time a.done) (map (cut_awaited n) d.awaited) (λ a i. done a i)) open') where
      differ : (b : Bool) → b ≡ true → b ≡ false → ⊥
      differ b f g = cc

      in_sooner : (v : ℕ) → (v ≤ 0) ⊎ In v (moments d) → v ≤ n
      in_sooner v (inl le) = omega arith
      in_sooner v (inr j) = early_in n v (moments_of d) (subst (λ (l : List ℕ). In v l) (moments_d ∙ (ap (λ (l : List ℕ). sooner ++ l) e ∙ append-nil sooner)) j)

      done : (a : Awaited) → In a (map (cut_awaited n) d.awaited) → has_time a.done ≡ true
      done a i =
          let m = in_map (cut_awaited n) a d.awaited i in
          let t = timed m.0 m.1 in
          let le = in_sooner t.closing (due_all t.closing (moments_of d) (in_right (Some t.closing) (map (λ b. b.announced) d.awaited) _ (in_right (Some t.closing) (map (λ x. x.released) d.arrivals) _ (subst (λ (w : Time). In w (map (λ b. b.done) d.awaited)) t.done (to_map (λ (b : Awaited). b.done) m.0 d.awaited m.1))))) in
          ap (λ (b : Awaited). has_time b.done) m.2 ∙ (cut_there n m.0.done ∙ (ap (upto n) t.done ∙ early_time t.closing le))
        where
          early_time : (v : ℕ) → v ≤ n → nat_le v n ≡ true
          early_time v le = grind (arith, nat_tests, le)
