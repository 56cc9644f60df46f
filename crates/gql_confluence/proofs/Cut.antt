-- What comes of a forest by the events up to one is what comes by all events, with the later times cut away.
use Rattle.std.proofs.Common.{◌≡◌, ℕ, ◌≤◌, ◌+◌, List, [], ◌∷◌, ◌++◌, map, length, refl, sym, subst, ◌∙◌, ap, Bool, true, false, cond, Some, None, arith}
use Rattle.std.specs.Prelude.{nat_le, max, min, ◌==◌, ◌&&◌, filter}
use Rattle.std.specs.Ordering.{is_eq}
use Rattle.std.proofs.lemmas.Bool.Decides.{nat_tests}
use Rattle.std.proofs.lemmas.List.{map-append}
use Rattle.gql_tree.specs.declared.path.Key.{Key}
use Rattle.gql_tree.specs.declared.path.Key.TheVariants.{Index}
use Rattle.gql_tree.specs.declared.delivery.Frag.{Frag}
use Rattle.gql_tree.specs.declared.delivery.FragId.{FragId}
use Rattle.gql_tree.specs.declared.delivery.Group.{Group}
use Rattle.gql_tree.specs.declared.delivery.Stream.{Stream}
use Rattle.gql_tree.specs.declared.delivery.RegionResult.{RegionResult}
use Rattle.gql_tree.specs.declared.delivery.TaskWork.{TaskWork}
use Rattle.gql_tree.specs.declared.delivery.TaskWork.TheVariants.{Fields, Item}
use Rattle.gql_tree.specs.Forest.{Forest, Branches, grown, none, more}
use Rattle.gql_tree.specs.Fate.{ItemRun, Scope, scope_of, groups_of, is_empty, above, is_delivered, is_announced, items_run, is_item_delivered}
use Rattle.gql_tree.specs.Times.{Time, latest, earliest, latest_of, earliest_of, same_time, has_time}
use Rattle.gql_tree.specs.Course.{Schedule, Awaited, Way, at_first, by_owners, by_stream, Arrival, Course, nothing_comes, both_come, one_comes, scope_comes, announced_below, announced_at, done_at, ok_owners, released_at, carriers, items_up_to, items_awaited, awaited_fragment, awaited_stream, awaited_fragments, item_at, come_below, course}
use Rattle.gql_tree.specs.Numbering.{work_cmp, event_from, event_of, by_events}
use Rattle.gql_confluence.proofs.Items.{filter_append}
use Rattle.gql_confluence.proofs.ItemTimes.{filter_same}
use Rattle.gql_confluence.proofs.Moments.{upto}

-- no time, where it is later
abbrev pub cut : ℕ → Time → Time
cut n None = None
cut n (Some a) = cond (nat_le a n) (Some a) None

-- ---- one time

latest_none : (t : Time) → latest t None ≡ None
latest_none None = refl
latest_none (Some a) = refl

earliest_none : (t : Time) → earliest t None ≡ t
earliest_none None = refl
earliest_none (Some a) = refl

module _ (n : ℕ) where
  pub cut_some : (a : ℕ) → nat_le a n ≡ true → cut n (Some a) ≡ Some a
  cut_some a e = ap (λ b. cond b (Some a) None) e

  pub cut_none : (a : ℕ) → nat_le a n ≡ false → cut n (Some a) ≡ None
  cut_none a e = ap (λ b. cond b (Some a) None) e

  cut_latest : (t u : Time) → cut n (latest t u) ≡ latest (cut n t) (cut n u)
  cut_latest None u = refl
  cut_latest (Some a) None = sym (latest_none (cut n (Some a)))
  cut_latest (Some a) (Some b) = by (nat_le a n) (nat_le b n) refl refl where
    by : (x y : Bool) → nat_le a n ≡ x → nat_le b n ≡ y → cut n (Some (max a b)) ≡ latest (cond x (Some a) None) (cond y (Some b) None)
    by true true e f = cut_some (max a b) (grind (arith, nat_tests))
    by true false e f = cut_none (max a b) (grind (arith, nat_tests))
    by false y e f = cut_none (max a b) (grind (arith, nat_tests))

  cut_earliest : (t u : Time) → cut n (earliest t u) ≡ earliest (cut n t) (cut n u)
  cut_earliest None u = refl
  cut_earliest (Some a) None = sym (earliest_none (cut n (Some a)))
  cut_earliest (Some a) (Some b) = by (nat_le a n) (nat_le b n) refl refl where
    left : nat_le a n ≡ true → nat_le b n ≡ false → min a b ≡ a
    left e f = grind (arith, nat_tests)

    right : nat_le a n ≡ false → nat_le b n ≡ true → min a b ≡ b
    right e f = grind (arith, nat_tests)

    by : (x y : Bool) → nat_le a n ≡ x → nat_le b n ≡ y → cut n (Some (min a b)) ≡ earliest (cond x (Some a) None) (cond y (Some b) None)
    by true true e f = cut_some (min a b) (grind (arith, nat_tests))
    by true false e f = ap (λ m. cut n (Some m)) (left e f) ∙ cut_some a e
    by false true e f = ap (λ m. cut n (Some m)) (right e f) ∙ cut_some b f
    by false false e f = cut_none (min a b) (grind (arith, nat_tests))

  cut_latest_of : {X : Type 0} (long short : X → Time) → ((x : X) → cut n (long x) ≡ short x) → (t : Time) (xs : List X) → cut n (latest_of t (map long xs)) ≡ latest_of (cut n t) (map short xs)
  cut_latest_of long short h t [] = refl
  cut_latest_of long short h t (x ∷ xs) = cut_latest (long x) (latest_of t (map long xs)) ∙ (λ i. latest (h x i) (cut_latest_of long short h t xs i))

  cut_earliest_of : {X : Type 0} (long short : X → Time) → ((x : X) → short x ≡ cut n (long x)) → (xs : List X) → earliest_of (map short xs) ≡ cut n (earliest_of (map long xs))
  cut_earliest_of long short h [] = refl
  cut_earliest_of long short h (x ∷ xs) = (λ i. earliest (h x i) (cut_earliest_of long short h xs i)) ∙ sym (cut_earliest (long x) (earliest_of (map long xs)))

  -- up to the event the same times are the same
  same_cut : (t u : Time) (a : ℕ) → cut n u ≡ Some a → same_time (cut n t) (cut n u) ≡ same_time t u
  same_cut t None a h = absurd (cc)
  same_cut t (Some b) a h = by (nat_le b n) refl h t where
    by : (x : Bool) → nat_le b n ≡ x → cond x (Some b) None ≡ Some a → (t : Time) → same_time (cut n t) (cond x (Some b) None) ≡ same_time t (Some b)
    by false e k t = absurd (cc)
    by true e k None = refl
    by true e k (Some d) = two (nat_le d n) refl where
      two : (y : Bool) → nat_le d n ≡ y → same_time (cond y (Some d) None) (Some b) ≡ (b == d)
      two true f = refl
      two false f = sym differ where
        differ : (b == d) ≡ false
        differ = grind (arith, nat_tests)

  pub zero_cut : cut n (Some 0) ≡ Some 0
  zero_cut = cut_some 0 (grind (arith, nat_tests))

-- ---- a schedule

-- the second has the times of the first up to the event
pub record IsCut (n : ℕ) (p q : Schedule) : Type 0 where
  pub fragment : (id : FragId) (t : Time) (xs : _) → q.fragment_done id (cut n t) xs ≡ cut n (p.fragment_done id t xs)
  pub item : (s : Stream) (i : ℕ) (t : Time) (xs : List ItemRun) → q.item_released s i (cut n t) xs ≡ cut n (p.item_released s i t xs)
  pub stream : (s : Stream) (t : Time) (xs : List ItemRun) → q.stream_done s (cut n t) xs ≡ cut n (p.stream_done s t xs)

event_late : (j m : ℕ) (vs : List TaskWork) (w : TaskWork) → m ≤ j → cut m (event_from j vs w) ≡ None
event_late j m [] w le = refl
event_late j m (v ∷ vs) w le = by (is_eq (work_cmp v w)) (event_late (j + 1) m vs w (omega arith)) where
  after : nat_le (j + 1) m ≡ false
  after = grind (arith, nat_tests)

  by : (b : Bool) → cut m (event_from (j + 1) vs w) ≡ None → cut m (cond b (Some (j + 1)) (event_from (j + 1) vs w)) ≡ None
  by true rec = cut_none m (j + 1) after
  by false rec = rec

event_cut : (k : ℕ) (vs more' : List TaskWork) (w : TaskWork) → cut (k + length vs) (event_from k (vs ++ more') w) ≡ event_from k vs w
event_cut k [] more' w = event_late k (k + 0) more' w (omega arith)
event_cut k (v ∷ vs) more' w = by (is_eq (work_cmp v w)) (subst (λ m. cut m (event_from (k + 1) (vs ++ more') w) ≡ event_from (k + 1) vs w) step (event_cut (k + 1) vs more' w)) where
  step : k + 1 + length vs ≡ k + length (v ∷ vs)
  step = omega arith

  early : nat_le (k + 1) (k + length (v ∷ vs)) ≡ true
  early = let s : k + 1 + length vs ≡ k + length (v ∷ vs) = omega arith in grind (arith, nat_tests, s)

  by : (b : Bool) → cut (k + length (v ∷ vs)) (event_from (k + 1) (vs ++ more') w) ≡ event_from (k + 1) vs w
      → cut (k + length (v ∷ vs)) (cond b (Some (k + 1)) (event_from (k + 1) (vs ++ more') w)) ≡ cond b (Some (k + 1)) (event_from (k + 1) vs w)
  by true rec = cut_some (k + length (v ∷ vs)) (k + 1) early
  by false rec = rec

event_of_cut : (vs more' : List TaskWork) (w : TaskWork) → cut (length vs) (event_of (vs ++ more') w) ≡ event_of vs w
event_of_cut vs more' w = subst (λ m. cut m (event_of (vs ++ more') w) ≡ event_of vs w) same (event_cut 0 vs more' w) where
  same : 0 + length vs ≡ length vs
  same = omega arith

-- whatever ends later
pub events_cut : (vs more' : List TaskWork) → IsCut (length vs) (by_events (vs ++ more')) (by_events vs)
events_cut vs more' = record {
  fragment = λ id t xs. sym (cut_latest_of (length vs) (λ x. event_of (vs ++ more') (Fields x.group)) (λ x. event_of vs (Fields x.group)) (λ x. event_of_cut vs more' (Fields x.group)) t xs);
  item = λ s i t xs. sym (cut_latest_of (length vs) (λ x. event_of (vs ++ more') (Item x.stream x.index)) (λ x. event_of vs (Item x.stream x.index)) (λ x. event_of_cut vs more' (Item x.stream x.index)) t xs);
  stream = λ s t xs. sym (cut_latest_of (length vs) (λ x. event_of (vs ++ more') (Item x.stream x.index)) (λ x. event_of vs (Item x.stream x.index)) (λ x. event_of_cut vs more' (Item x.stream x.index)) t xs);
}

-- ---- a course

abbrev pub cut_awaited : ℕ → Awaited → Awaited
cut_awaited n a = record { path = a.path; label = a.label; is_stream = a.is_stream; place = a.place; announced = cut n a.announced; done = cut n a.done; errors = a.errors }

-- the first is the second with the later times cut away, as far as what arrives has a time
pub record IsCutCourse (n : ℕ) (c d : Course) : Type 0 where
  pub awaited : c.awaited ≡ map (cut_awaited n) d.awaited
  pub arrivals : filter (λ x. has_time x.released) c.arrivals ≡ filter (λ x. upto n x.released) d.arrivals

map_twice : {X Y Z : Type 0} (f : X → Z) (g : Y → Z) (h : X → Y) → ((x : X) → f x ≡ g (h x)) → (xs : List X) → map f xs ≡ map g (map h xs)
map_twice f g h e [] = refl
map_twice f g h e (x ∷ xs) = λ i. e x i ∷ map_twice f g h e xs i

module _ (n : ℕ) where
  nothing_cut : IsCutCourse n nothing_comes nothing_comes
  nothing_cut = record { awaited = refl; arrivals = refl }

  both_cut : (a b c d : Course) → IsCutCourse n a b → IsCutCourse n c d → IsCutCourse n (both_come a c) (both_come b d)
  both_cut a b c d h k = record {
    awaited = (λ i. h.awaited i ++ k.awaited i) ∙ sym (map-append (cut_awaited n) b.awaited d.awaited);
    arrivals = filter_append (λ x. has_time x.released) a.arrivals c.arrivals ∙ ((λ i. h.arrivals i ++ k.arrivals i) ∙ sym (filter_append (λ x. upto n x.released) b.arrivals d.arrivals));
  }

module _ (n : ℕ) (p q : Schedule) (k : IsCut n p q) where
  announced_cut : (s : Scope) (begun : Time) (ids : List FragId) → announced_below q s (cut n begun) ids ≡ cut n (announced_below p s begun ids)
  announced_cut s begun [] = refl
  announced_cut s begun (id ∷ ids) = by (is_empty s id) (announced_cut s begun ids) where
    by : (b : Bool) → announced_below q s (cut n begun) ids ≡ cut n (announced_below p s begun ids)
        → cond b (announced_below q s (cut n begun) ids) (q.fragment_done id (announced_below q s (cut n begun) ids) (groups_of s id)) ≡ cut n (cond b (announced_below p s begun ids) (p.fragment_done id (announced_below p s begun ids) (groups_of s id)))
    by true rec = rec
    by false rec = ap (λ t. q.fragment_done id t (groups_of s id)) rec ∙ k.fragment id (announced_below p s begun ids) (groups_of s id)

  done_cut : (s : Scope) (begun : Time) (id : FragId) → done_at q s (cut n begun) id ≡ cut n (done_at p s begun id)
  done_cut s begun id = ap (λ t. q.fragment_done id t (groups_of s id)) (announced_cut s begun (above s id)) ∙ k.fragment id (announced_at p s begun id) (groups_of s id)

  released_cut : (s : Scope) (begun : Time) (g : Group) → released_at q s (cut n begun) g ≡ cut n (released_at p s begun g)
  released_cut s begun g = cut_earliest_of n (done_at p s begun) (done_at q s (cut n begun)) (done_cut s begun) (ok_owners p s begun g)

  -- the owners that carry a group that is released up to the event
  carriers_cut : (s : Scope) (begun : Time) (g : Group) (a : ℕ) → cut n (released_at p s begun g) ≡ Some a → carriers q s (cut n begun) g ≡ carriers p s begun g
  carriers_cut s begun g a h =
      filter_same (λ id. same_time (done_at q s (cut n begun) id) (released_at q s (cut n begun) g)) (λ id. same_time (done_at p s begun id) (released_at p s begun g))
      (λ id. (λ i. same_time (done_cut s begun id i) (released_cut s begun g i)) ∙ same_cut n (done_at p s begun id) (released_at p s begun g) a h) (ok_owners p s begun g)

  fragment_cut : (s : Scope) (begun : Time) (x : Frag) → awaited_fragment q s (cut n begun) x ≡ cut_awaited n (awaited_fragment p s begun x)
  fragment_cut s begun x = λ i. record {
    path = x.id.path;
    label = x.label;
    is_stream = false;
    place = x.id.place;
    announced = announced_cut s begun (above s x.id) i;
    done = done_cut s begun x.id i;
    errors = (awaited_fragment p s begun x).errors;
  }

  stream_cut : (items : List ItemRun) (rel : Time) (st : Stream) → awaited_stream q items (cut n rel) st ≡ cut_awaited n (awaited_stream p items rel st)
  stream_cut items rel st = λ i. record {
    path = st.path;
    label = st.label;
    is_stream = true;
    place = st.place;
    announced = cut n rel;
    done = k.stream st rel (items_awaited items st) i;
    errors = (awaited_stream p items rel st).errors;
  }

  one_cut : (at : List Key) (r : RegionResult) (t rel : Time) (w v : Way) (items : List ItemRun) → t ≡ cut n rel → ((a : ℕ) → cut n rel ≡ Some a → w ≡ v) → IsCutCourse n (one_comes q at r t w items) (one_comes p at r rel v items)
  one_cut at r t rel w v items e same = subst (λ (u : Time). IsCutCourse n (one_comes q at r u w items) (one_comes p at r rel v items)) (sym e) (record {
    awaited = map_twice (awaited_stream q items (cut n rel)) (cut_awaited n) (awaited_stream p items rel) (stream_cut items rel) r.streams;
    arrivals = by rel same;
  }) where
    by : (u : Time) → ((a : ℕ) → cut n u ≡ Some a → w ≡ v)
        → filter (λ (x : Arrival). has_time x.released) (record { at = at; region = r; released = cut n u; way = w } ∷ []) ≡ filter (λ (x : Arrival). upto n x.released) (record { at = at; region = r; released = u; way = v } ∷ [])
    by None h = refl
    by (Some a) h = two (nat_le a n) refl where
      two : (b : Bool) → nat_le a n ≡ b
          → cond {A = List Arrival} (has_time (cond b (Some a) None)) (record { at = at; region = r; released = cond b (Some a) None; way = w } ∷ []) [] ≡ cond {A = List Arrival} b (record { at = at; region = r; released = Some a; way = v } ∷ []) []
      two true f = ap {B = List Arrival} (λ (z : Way). record { at = at; region = r; released = Some a; way = z } ∷ []) (h a (cut_some n a f))
      two false f = refl

  scope_cut : (at : List Key) (r : RegionResult) (t begun : Time) (w : Way) (items : List ItemRun) (s : Scope) (c d : Course) → t ≡ cut n begun → IsCutCourse n c d → IsCutCourse n (scope_comes q at r t w items s c) (scope_comes p at r begun w items s d)
  scope_cut at r t begun w items s c d e h =
      both_cut n (one_comes q at r t w items) (one_comes p at r begun w items) _ _ (one_cut at r t begun w w items e (λ a f. refl))
      (both_cut n c d (record { awaited = awaited_fragments q s t; arrivals = [] }) (record { awaited = awaited_fragments p s begun; arrivals = [] }) h (record {
        awaited = ap (awaited_fragments q s) e ∙ map_twice (awaited_fragment q s (cut n begun)) (cut_awaited n) (awaited_fragment p s begun) (fragment_cut s begun) (filter (λ f. is_announced s f.id) s.fragments);
        arrivals = refl;
      }))

  below_cut : (bs : Branches) (s : Scope) (begun : Time) (here : Bool) (t rel : Time) (items : List ItemRun) → t ≡ cut n rel → IsCutCourse n (come_below q s (cut n begun) here t items bs) (come_below p s begun here rel items bs)
  below_cut none s begun here t rel items e = nothing_cut n
  below_cut (more (Fields g) (grown r inner) bs) s begun here t rel items e =
      both_cut n _ _ _ _ (by (is_delivered s g))
      (both_cut n _ _ _ _ (below_cut inner s begun (is_delivered s g) (released_at q s (cut n begun) g) (released_at p s begun g) (items_run inner) (released_cut s begun g)) (below_cut bs s begun here t rel items e))
    where
      by : (b : Bool) → IsCutCourse n
          (cond b (one_comes q g.path.keys r (released_at q s (cut n begun) g) (by_owners g (carriers q s (cut n begun) g)) (items_run inner)) nothing_comes)
          (cond b (one_comes p g.path.keys r (released_at p s begun g) (by_owners g (carriers p s begun g)) (items_run inner)) nothing_comes)
      by true = one_cut g.path.keys r (released_at q s (cut n begun) g) (released_at p s begun g) (by_owners g (carriers q s (cut n begun) g)) (by_owners g (carriers p s begun g)) (items_run inner) (released_cut s begun g) (λ a h. ap (by_owners g) (carriers_cut s begun g a h))
      by false = nothing_cut n
  below_cut (more (Item st j) (grown r inner) bs) s begun here t rel items e =
      both_cut n _ _ _ _ (by (here && is_item_delivered items st j) (below_cut inner (scope_of (grown r inner)) (item_at p items rel st j) true (item_at q items t st j) (item_at p items rel st j) (items_run inner) at_same)) (below_cut bs s begun here t rel items e)
    where
      at_same : item_at q items t st j ≡ cut n (item_at p items rel st j)
      at_same = ap (λ (u : Time). item_at q items u st j) e ∙ k.item st j rel (items_up_to items st j)

      by : (b : Bool) → IsCutCourse n (come_below q (scope_of (grown r inner)) (cut n (item_at p items rel st j)) true (item_at q items t st j) (items_run inner) inner) (come_below p (scope_of (grown r inner)) (item_at p items rel st j) true (item_at p items rel st j) (items_run inner) inner)
          → IsCutCourse n
          (cond b (scope_comes q (st.path.keys ++ Index j ∷ []) r (item_at q items t st j) (by_stream st) (items_run inner) (scope_of (grown r inner)) (come_below q (scope_of (grown r inner)) (item_at q items t st j) true (item_at q items t st j) (items_run inner) inner)) nothing_comes)
          (cond b (scope_comes p (st.path.keys ++ Index j ∷ []) r (item_at p items rel st j) (by_stream st) (items_run inner) (scope_of (grown r inner)) (come_below p (scope_of (grown r inner)) (item_at p items rel st j) true (item_at p items rel st j) (items_run inner) inner)) nothing_comes)
      by true rec =
          scope_cut (st.path.keys ++ Index j ∷ []) r (item_at q items t st j) (item_at p items rel st j) (by_stream st) (items_run inner) (scope_of (grown r inner)) _ _ at_same
          (subst (λ (u : Time). IsCutCourse n (come_below q (scope_of (grown r inner)) u true (item_at q items t st j) (items_run inner) inner) (come_below p (scope_of (grown r inner)) (item_at p items rel st j) true (item_at p items rel st j) (items_run inner) inner)) (sym at_same) rec)
      by false rec = nothing_cut n

  pub course_cut : (f : Forest) → IsCutCourse n (course q f) (course p f)
  course_cut (grown r bs) =
      scope_cut [] r (Some 0) (Some 0) at_first (items_run bs) (scope_of (grown r bs)) _ _ (sym (zero_cut n))
      (subst (λ (u : Time). IsCutCourse n (come_below q (scope_of (grown r bs)) u true (Some 0) (items_run bs) bs) (come_below p (scope_of (grown r bs)) (Some 0) true (Some 0) (items_run bs) bs)) (zero_cut n)
      (below_cut bs (scope_of (grown r bs)) (Some 0) true (Some 0) (Some 0) (items_run bs) (sym (zero_cut n))))
