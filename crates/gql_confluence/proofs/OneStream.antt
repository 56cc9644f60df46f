-- The streams that are announced differ in path.
use Rattle.std.proofs.Common.{◌≡◌, ◌⊎◌, inl, inr, ℕ, ◌+◌, List, [], ◌∷◌, ◌++◌, map, refl, sym, subst, ◌∙◌, ap, Bool, true, false, cond, Some}
use Rattle.std.specs.Prelude.{filter, not, ◌&&◌}
use Rattle.std.specs.List.{list_any}
use Rattle.gql_tree.specs.declared.path.Key.{Key}
use Rattle.gql_tree.specs.declared.path.Key.TheVariants.{Index}
use Rattle.gql_tree.specs.declared.path.Path.{Path}
use Rattle.gql_tree.specs.declared.delivery.Frag.{Frag}
use Rattle.gql_tree.specs.declared.delivery.Stream.{Stream}
use Rattle.gql_tree.specs.declared.delivery.RegionResult.{RegionResult}
use Rattle.gql_tree.specs.declared.delivery.TaskWork.TheVariants.{Fields, Item}
use Rattle.gql_tree.specs.Keys.{same_lists, same_key}
use Rattle.gql_tree.specs.Forest.{Branches, grown, none, more}
use Rattle.gql_tree.specs.Fate.{ItemRun, Scope, scope_of, is_delivered, items_run, is_item_delivered, same_path}
use Rattle.gql_tree.specs.Times.{Time, has_time}
use Rattle.gql_tree.specs.Course.{Schedule, Awaited, by_owners, by_stream, Course, nothing_comes, one_comes, scope_comes, released_at, carriers, awaited_fragment, awaited_fragments, awaited_stream, item_at, come_below, course}
use Rattle.gql_tree.specs.Payloads.{Known, known_from, all_known, awaited_cmp}
use Rattle.gql_tree.specs.WellFormed.{Site, sites_below, no_two, IsWellFormed}
use Rattle.gql_confluence.proofs.Parts.{In, in_left, in_right, in_cases}
use Rattle.gql_confluence.proofs.Lists.{and_left, in_map}
use Rattle.gql_confluence.proofs.Deciders.{same_keys-refl, keys_same}
use Rattle.gql_confluence.proofs.NoTwo.{not_any, no_two_left, no_two_right, no_two_cross, no_two_join, no_two_mapped, no_two_none, no_two_filter}
use Rattle.gql_confluence.proofs.EntriesFound.{Apart, apart_ordered}
use Rattle.gql_confluence.proofs.Knowns.{known_awaited}
use Rattle.gql_confluence.proofs.Items.{flat_append, streams_of, alike}

abbrev pub one_list : Awaited → Awaited → Bool
one_list a b = a.is_stream && b.is_stream && same_path a.path b.path

-- a stream among these
abbrev From : List Stream → Awaited → Type 0
From l a = a.is_stream ≡ true → (st : Stream) × In st l × (a.path ≡ st.path)

from_wider : (xs ys : List Stream) (a : Awaited) → ((st : Stream) → In st xs → In st ys) → From xs a → From ys a
from_wider xs ys a sub h e = let w = h e in (w.0, sub w.0 w.1, w.2)

cross_by : (xs ys : List Stream) → no_two alike (xs ++ ys) ≡ true → (a b : Awaited) → From xs a → From ys b → one_list a b ≡ false
cross_by xs ys h a b fa fb = by a.is_stream b.is_stream refl refl where
  by : (c d : Bool) → a.is_stream ≡ c → b.is_stream ≡ d → one_list a b ≡ false
  by false d e g = rw e refl
  by true false e g = rw (e, g) refl
  by true true e g =
      let x = fa e in
      let y = fb g in
      let k : same_path a.path b.path ≡ false = (λ i. same_path (x.2 i) (y.2 i)) ∙ no_two_cross alike xs ys h x.0 y.0 x.1 y.1 in
      rw (e, g) k

module _ (p : Schedule) where
  from_streams : (items : List ItemRun) (rel : Time) (l : List Stream) (a : Awaited) → In a (map (awaited_stream p items rel) l) → From l a
  from_streams items rel l a i e = let m = in_map (awaited_stream p items rel) a l i in (m.0, m.1, ap (λ (x : Awaited). x.path) m.2)

  no_stream : (s : Scope) (begun : Time) (l : List Stream) (a : Awaited) → In a (awaited_fragments p s begun) → From l a
  no_stream s begun l a i e = let m = in_map (awaited_fragment p s begun) a _ i in absurd (never (sym (ap (λ (x : Awaited). x.is_stream) m.2) ∙ e)) where
    never : false ≡ true → ⊥
    never z = cc

  from_if : (d : Bool) (k : Course) (l : List Stream) (a : Awaited) → ((b : Awaited) → In b k.awaited → From l b) → In a (cond d k nothing_comes).awaited → From l a
  from_if true k l a h i = h a i
  from_if false k l a h i = absurd i

  -- an announced stream arises in one of the regions
  come_of : (s : Scope) (around : List Frag) (begun : Time) (b : Bool) (rel : Time) (items : List ItemRun) (bs : Branches) (a : Awaited) → In a (come_below p s begun b rel items bs).awaited → From (streams_of (sites_below s around bs)) a
  come_of s around begun b rel items none a i = absurd i
  come_of s around begun b rel items (more (Fields g) (grown r inner) bs) a i =
      by (in_cases a (cond (is_delivered s g) here_course nothing_comes).awaited (in_course.awaited ++ by_course.awaited) i)
      (come_of s (r.fragments ++ around) begun (is_delivered s g) (released_at p s begun g) (items_run inner) inner a) (come_of s around begun b rel items bs a)
    where
      here_course : Course
      here_course = one_comes p g.path.keys r (released_at p s begun g) (by_owners g (carriers p s begun g)) (items_run inner)

      in_course : Course
      in_course = come_below p s begun (is_delivered s g) (released_at p s begun g) (items_run inner) inner

      by_course : Course
      by_course = come_below p s begun b rel items bs

      za : List Site
      za = sites_below s (r.fragments ++ around) inner

      zb : List Site
      zb = sites_below s around bs

      deep : (st : Stream) → In st (streams_of za ++ streams_of zb) → In st (r.streams ++ streams_of (za ++ zb))
      deep st j = in_right st r.streams (streams_of (za ++ zb)) (subst (λ (l : List Stream). In st l) (sym (flat_append (λ (x : Site). x.region.streams) za zb)) j)

      by : In a (cond (is_delivered s g) here_course nothing_comes).awaited ⊎ In a (in_course.awaited ++ by_course.awaited) → (In a in_course.awaited → From (streams_of za) a) → (In a by_course.awaited → From (streams_of zb) a) → From (r.streams ++ streams_of (za ++ zb)) a
      by (inl j) k l = from_wider r.streams (r.streams ++ streams_of (za ++ zb)) a (λ st m. in_left st r.streams (streams_of (za ++ zb)) m) (from_if (is_delivered s g) here_course r.streams a (from_streams (items_run inner) (released_at p s begun g) r.streams) j)
      by (inr j) k l = rest (in_cases a in_course.awaited by_course.awaited j) where
        rest : In a in_course.awaited ⊎ In a by_course.awaited → From (r.streams ++ streams_of (za ++ zb)) a
        rest (inl m) = from_wider (streams_of za) (r.streams ++ streams_of (za ++ zb)) a (λ st n. deep st (in_left st (streams_of za) (streams_of zb) n)) (k m)
        rest (inr m) = from_wider (streams_of zb) (r.streams ++ streams_of (za ++ zb)) a (λ st n. deep st (in_right st (streams_of za) (streams_of zb) n)) (l m)
  come_of s around begun b rel items (more (Item st n) (grown r inner) bs) a i =
      by (in_cases a (cond (b && is_item_delivered items st n) here_course nothing_comes).awaited by_course.awaited i)
      (come_of s_a r.fragments time true time (items_run inner) inner) (come_of s around begun b rel items bs a)
    where
      s_a : Scope
      s_a = scope_of (grown r inner)

      time : Time
      time = item_at p items rel st n

      in_course : Course
      in_course = come_below p s_a time true time (items_run inner) inner

      here_course : Course
      here_course = scope_comes p (st.path.keys ++ Index n ∷ []) r time (by_stream st) (items_run inner) s_a in_course

      by_course : Course
      by_course = come_below p s begun b rel items bs

      za : List Site
      za = sites_below s_a r.fragments inner

      zb : List Site
      zb = sites_below s around bs

      deep : (su : Stream) → In su (streams_of za ++ streams_of zb) → In su (r.streams ++ streams_of (za ++ zb))
      deep su j = in_right su r.streams (streams_of (za ++ zb)) (subst (λ (l : List Stream). In su l) (sym (flat_append (λ (x : Site). x.region.streams) za zb)) j)

      by : In a (cond (b && is_item_delivered items st n) here_course nothing_comes).awaited ⊎ In a by_course.awaited → ((e : Awaited) → In e in_course.awaited → From (streams_of za) e) → (In a by_course.awaited → From (streams_of zb) a) → From (r.streams ++ streams_of (za ++ zb)) a
      by (inl j) k l = from_if (b && is_item_delivered items st n) here_course (r.streams ++ streams_of (za ++ zb)) a (λ e m. whole e (in_cases e (map (awaited_stream p (items_run inner) time) r.streams) (in_course.awaited ++ awaited_fragments p s_a time) m)) j where
        whole : (e : Awaited) → In e (map (awaited_stream p (items_run inner) time) r.streams) ⊎ In e (in_course.awaited ++ awaited_fragments p s_a time) → From (r.streams ++ streams_of (za ++ zb)) e
        whole e (inl m) = from_wider r.streams (r.streams ++ streams_of (za ++ zb)) e (λ su n. in_left su r.streams (streams_of (za ++ zb)) n) (from_streams (items_run inner) time r.streams e m)
        whole e (inr m) = elim (in_cases e in_course.awaited (awaited_fragments p s_a time) m) as (λ z. From (r.streams ++ streams_of (za ++ zb)) e) [
          | inl n ↦ from_wider (streams_of za) (r.streams ++ streams_of (za ++ zb)) e (λ su o. deep su (in_left su (streams_of za) (streams_of zb) o)) (k e n)
          | inr n ↦ no_stream s_a time (r.streams ++ streams_of (za ++ zb)) e n
        ]
      by (inr j) k l = from_wider (streams_of zb) (r.streams ++ streams_of (za ++ zb)) a (λ su n. deep su (in_right su (streams_of za) (streams_of zb) n)) (l j)

  stream_list : (items : List ItemRun) (rel : Time) (l : List Stream) → no_two alike l ≡ true → no_two one_list (map (awaited_stream p items rel) l) ≡ true
  stream_list items rel l h = no_two_mapped one_list (awaited_stream p items rel) alike l (λ x y. refl) h

  fragment_list : (s : Scope) (begun : Time) → no_two one_list (awaited_fragments p s begun) ≡ true
  fragment_list s begun = no_two_none one_list (awaited_fragments p s begun) (λ a b i. let m = in_map (awaited_fragment p s begun) a _ i in ap (λ (x : Awaited). one_list x b) m.2)

  differ_if : (d : Bool) (k : Course) → no_two one_list k.awaited ≡ true → no_two one_list (cond d k nothing_comes).awaited ≡ true
  differ_if true k h = h
  differ_if false k h = refl

  assoc : (x y z : List Stream) → (x ++ y) ++ z ≡ x ++ (y ++ z)
  assoc [] y z = refl
  assoc (u ∷ x) y z = ap (λ l. u ∷ l) (assoc x y z)

  from_two : (a : Awaited) (xs ys : List Awaited) (l m : List Stream) → (In a xs → From l a) → (In a ys → From m a) → In a (xs ++ ys) → From (l ++ m) a
  from_two a xs ys l m h k i = by (in_cases a xs ys i) where
    by : In a xs ⊎ In a ys → From (l ++ m) a
    by (inl j) = from_wider l (l ++ m) a (λ st n. in_left st l m n) (h j)
    by (inr j) = from_wider m (l ++ m) a (λ st n. in_right st l m n) (k j)

  second_none : (x y : Awaited) → y.is_stream ≡ false → one_list x y ≡ false
  second_none x y e = by x.is_stream refl where
    by : (q : Bool) → x.is_stream ≡ q → one_list x y ≡ false
    by true g = rw (g, e) refl
    by false g = rw g refl

  no_stream_in : (s : Scope) (begun : Time) (a : Awaited) → In a (awaited_fragments p s begun) → a.is_stream ≡ false
  no_stream_in s begun a i = ap (λ (x : Awaited). x.is_stream) (in_map (awaited_fragment p s begun) a _ i).2

  from_scope : (s : Scope) (l : List Stream) (items : List ItemRun) (time : Time) (xs : List Awaited) (m : List Stream) → ((a : Awaited) → In a xs → From m a)
      → (a : Awaited) → In a (map (awaited_stream p items time) l ++ (xs ++ awaited_fragments p s time)) → From (l ++ m) a
  from_scope s l items time xs m from a i = from_two a (map (awaited_stream p items time) l) (xs ++ awaited_fragments p s time) l m (from_streams items time l a) rest i where
    rest : In a (xs ++ awaited_fragments p s time) → From m a
    rest j = elim (in_cases a xs (awaited_fragments p s time) j) as (λ z. From m a) [ inl k ↦ from a k | inr k ↦ no_stream s time m a k ]

  scope_differs : (s : Scope) (l : List Stream) (items : List ItemRun) (time : Time) (xs : List Awaited) (m : List Stream) → no_two alike (l ++ m) ≡ true → no_two one_list xs ≡ true → ((a : Awaited) → In a xs → From m a)
      → no_two one_list (map (awaited_stream p items time) l ++ (xs ++ awaited_fragments p s time)) ≡ true
  scope_differs s l items time xs m h k from =
      no_two_join one_list (map (awaited_stream p items time) l) (xs ++ awaited_fragments p s time)
      (stream_list items time l (no_two_left alike l m h))
      (no_two_join one_list xs (awaited_fragments p s time) k (fragment_list s time) (λ x y i j. second_none x y (no_stream_in s time y j)))
      (λ x y i j. cross_by l m h x y (from_streams items time l x i) (rest y j))
    where
      rest : (a : Awaited) → In a (xs ++ awaited_fragments p s time) → From m a
      rest a i = elim (in_cases a xs (awaited_fragments p s time) i) as (λ z. From m a) [ inl j ↦ from a j | inr j ↦ no_stream s time m a j ]

  differ_below : (s : Scope) (around : List Frag) (begun : Time) (b : Bool) (rel : Time) (items : List ItemRun) (bs : Branches) → no_two alike (streams_of (sites_below s around bs)) ≡ true → no_two one_list (come_below p s begun b rel items bs).awaited ≡ true
  differ_below s around begun b rel items none h = refl
  differ_below s around begun b rel items (more (Fields g) (grown r inner) bs) h =
      let d = is_delivered s g in
      let time = released_at p s begun g in
      let here_course = one_comes p g.path.keys r time (by_owners g (carriers p s begun g)) (items_run inner) in
      let in_course = come_below p s begun d time (items_run inner) inner in
      let by_course = come_below p s begun b rel items bs in
      let za = sites_below s (r.fragments ++ around) inner in
      let zb = sites_below s around bs in
      let split : no_two alike (r.streams ++ (streams_of za ++ streams_of zb)) ≡ true = ap (λ (l : List Stream). no_two alike (r.streams ++ l)) (sym (flat_append (λ (x : Site). x.region.streams) za zb)) ∙ h in
      let lower = no_two_right alike r.streams (streams_of za ++ streams_of zb) split in
      let from_in = λ (a : Awaited) (i : In a in_course.awaited). come_of s (r.fragments ++ around) begun d time (items_run inner) inner a i in
      let from_by = λ (a : Awaited) (i : In a by_course.awaited). come_of s around begun b rel items bs a i in
      no_two_join one_list (cond d here_course nothing_comes).awaited (in_course.awaited ++ by_course.awaited)
      (differ_if d here_course (stream_list (items_run inner) time r.streams (no_two_left alike r.streams (streams_of za ++ streams_of zb) split)))
      (no_two_join one_list in_course.awaited by_course.awaited
      (differ_below s (r.fragments ++ around) begun d time (items_run inner) inner (no_two_left alike (streams_of za) (streams_of zb) lower))
      (differ_below s around begun b rel items bs (no_two_right alike (streams_of za) (streams_of zb) lower))
      (λ x y i j. cross_by (streams_of za) (streams_of zb) lower x y (from_in x i) (from_by y j)))
      (λ x y i j. cross_by r.streams (streams_of za ++ streams_of zb) split x y (from_if d here_course r.streams x (from_streams (items_run inner) time r.streams) i)
      (from_two y in_course.awaited by_course.awaited (streams_of za) (streams_of zb) (from_in y) (from_by y) j))
  differ_below s around begun b rel items (more (Item st n) (grown r inner) bs) h =
      let d = b && is_item_delivered items st n in
      let s_a = scope_of (grown r inner) in
      let time = item_at p items rel st n in
      let in_course = come_below p s_a time true time (items_run inner) inner in
      let here_course = scope_comes p (st.path.keys ++ Index n ∷ []) r time (by_stream st) (items_run inner) s_a in_course in
      let by_course = come_below p s begun b rel items bs in
      let za = sites_below s_a r.fragments inner in
      let zb = sites_below s around bs in
      let split : no_two alike (r.streams ++ (streams_of za ++ streams_of zb)) ≡ true = ap (λ (l : List Stream). no_two alike (r.streams ++ l)) (sym (flat_append (λ (x : Site). x.region.streams) za zb)) ∙ h in
      let joined : no_two alike ((r.streams ++ streams_of za) ++ streams_of zb) ≡ true = ap (no_two alike) (assoc r.streams (streams_of za) (streams_of zb)) ∙ split in
      let from_in = λ (a : Awaited) (i : In a in_course.awaited). come_of s_a r.fragments time true time (items_run inner) inner a i in
      let here_differs = scope_differs s_a r.streams (items_run inner) time in_course.awaited (streams_of za) (no_two_left alike (r.streams ++ streams_of za) (streams_of zb) joined)
      (differ_below s_a r.fragments time true time (items_run inner) inner (no_two_left alike (streams_of za) (streams_of zb) (no_two_right alike r.streams (streams_of za ++ streams_of zb) split))) from_in in
      no_two_join one_list (cond d here_course nothing_comes).awaited by_course.awaited
      (differ_if d here_course here_differs)
      (differ_below s around begun b rel items bs (no_two_right alike (r.streams ++ streams_of za) (streams_of zb) joined))
      (λ x y i j. cross_by (r.streams ++ streams_of za) (streams_of zb) joined x y (from_if d here_course (r.streams ++ streams_of za) x (from_scope s_a r.streams (items_run inner) time in_course.awaited (streams_of za) from_in) i) (come_of s around begun b rel items bs y j))

-- ---- the streams with an id

clash : (b : Bool) → b ≡ true → b ≡ false → ⊥
clash b e f = cc

abbrev Differ : Awaited → Awaited → Type 0
Differ a b = one_list a b ≡ false

differ_back : (a b : Awaited) → Differ a b → Differ b a
differ_back a b h = by (one_list b a) refl where
  by : (t : Bool) → one_list b a ≡ t → one_list b a ≡ false
  by false e = e
  by true e =
      let x = and_left (b.is_stream && a.is_stream) (same_path b.path a.path) e in
      let y = and_left b.is_stream a.is_stream x.0 in
      let paths : a.path.keys ≡ b.path.keys = sym (keys_same b.path.keys a.path.keys x.1) in
      let same : same_path a.path b.path ≡ true = ap (λ (l : List Key). same_lists same_key l b.path.keys) paths ∙ same_keys-refl b.path.keys in
      absurd (clash (one_list a b) (rw (y.1, y.0, same) refl) h)

to_apart : (xs : List Awaited) → no_two one_list xs ≡ true → Apart Differ differ_back awaited_cmp xs
to_apart [] h = tt
to_apart (x ∷ xs) h = let a = and_left (not (list_any (one_list x) xs)) (no_two one_list xs) h in (λ y i. not_any (one_list x) xs a.0 y i, to_apart xs a.1)

one_known : (n : ℕ) (xs : List Awaited) → Apart Differ differ_back awaited_cmp xs → (k l : Known) → In k (known_from n xs) → In l (known_from n xs) → one_list k.awaited l.awaited ≡ true → one_list l.awaited k.awaited ≡ true → k ≡ l
one_known n [] h k l i j e f = absurd i
one_known n (x ∷ xs) h k l (inl a) (inl b) e f = a ∙ sym b
one_known n (x ∷ xs) h k l (inl a) (inr j) e f =
    absurd (clash (one_list k.awaited l.awaited) e (ap (λ (z : Known). one_list z.awaited l.awaited) a ∙ h.0 l.awaited (known_awaited (n + 1) l xs j).0))
one_known n (x ∷ xs) h k l (inr i) (inl b) e f =
    absurd (clash (one_list l.awaited k.awaited) f (ap (λ (z : Known). one_list z.awaited k.awaited) b ∙ h.0 k.awaited (known_awaited (n + 1) k xs i).0))
one_known n (x ∷ xs) h k l (inr i) (inr j) e f = one_known (n + 1) xs h.1 k l i j e f

module _ (r0 : RegionResult) (bs0 : Branches) (wf : IsWellFormed (grown r0 bs0)) (p : Schedule) where
  abbrev c : Course
  c = course p (grown r0 bs0)

  streams_differ : no_two one_list c.awaited ≡ true
  streams_differ =
      let s = scope_of (grown r0 bs0) in
      let zs = sites_below s r0.fragments bs0 in
      let k = come_below p s (Some 0) true (Some 0) (items_run bs0) bs0 in
      scope_differs p s r0.streams (items_run bs0) (Some 0) k.awaited (streams_of zs) wf.streams_apart
      (differ_below p s r0.fragments (Some 0) true (Some 0) (items_run bs0) bs0 (no_two_right alike r0.streams (streams_of zs) wf.streams_apart))
      (λ a i. come_of p s r0.fragments (Some 0) true (Some 0) (items_run bs0) bs0 a i)

  -- two ids of streams with one path are one
  pub one_stream : (k l : Known) → In k (all_known c) → In l (all_known c) → k.awaited.is_stream ≡ true → l.awaited.is_stream ≡ true → k.awaited.path ≡ l.awaited.path → k ≡ l
  one_stream k l i j e f paths =
      let here = apart_ordered Differ differ_back awaited_cmp (filter (λ a. has_time a.announced) c.awaited) (to_apart _ (no_two_filter one_list (λ a. has_time a.announced) c.awaited streams_differ)) in
      let a : same_path k.awaited.path l.awaited.path ≡ true = ap (λ (q : Path). same_path q l.awaited.path) paths ∙ same_keys-refl l.awaited.path.keys in
      let b : same_path l.awaited.path k.awaited.path ≡ true = ap (same_path l.awaited.path) paths ∙ same_keys-refl l.awaited.path.keys in
      one_known 0 (_) here k l i j (rw (e, f, a) refl) (rw (f, e, b) refl)
