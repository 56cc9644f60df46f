-- What is announced in the course of a well-formed forest: each fragment and each stream, where it arises; and the items of each stream.
use Rattle.std.proofs.Common.{◌≡◌, ◌⊎◌, inl, inr, ℕ, List, [], ◌∷◌, ◌++◌, map, length, refl, sym, subst, ◌∙◌, ap, Bool, true, false, cond, Some}
use Rattle.std.specs.Prelude.{filter, ◌&&◌}
use Rattle.std.proofs.lemmas.List.{append-nil}
use Rattle.gql_tree.specs.declared.path.Key.{Key}
use Rattle.gql_tree.specs.declared.path.Key.TheVariants.{Index}
use Rattle.gql_tree.specs.declared.delivery.Frag.{Frag}
use Rattle.gql_tree.specs.declared.delivery.Stream.{Stream}
use Rattle.gql_tree.specs.declared.delivery.RegionResult.{RegionResult}
use Rattle.gql_tree.specs.declared.delivery.TaskWork.{TaskWork}
use Rattle.gql_tree.specs.declared.delivery.TaskWork.TheVariants.{Fields, Item}
use Rattle.gql_tree.specs.Keys.{same_lists, same_key}
use Rattle.gql_tree.specs.Forest.{Forest, Branches, grown, none, more, tasks_of}
use Rattle.gql_tree.specs.Fate.{ItemRun, Scope, scope_of, fragments_below, is_delivered, is_announced, items_run, items_of_stream, is_item_delivered}
use Rattle.gql_tree.specs.Times.{Time}
use Rattle.gql_tree.specs.Course.{Schedule, Awaited, at_first, by_owners, by_stream, Arrival, Course, nothing_comes, one_comes, scope_comes, released_at, carriers, awaited_fragment, awaited_fragments, awaited_stream, items_awaited, item_at, come_below, course}
use Rattle.gql_tree.specs.WellFormed.{Site, works_of, sites_below, sites, no_two, IsWellFormed}
use Rattle.gql_confluence.proofs.Parts.{In, in_left, in_right, in_cases}
use Rattle.gql_confluence.proofs.Lists.{in_filter, in_map}
use Rattle.gql_confluence.proofs.Deciders.{same_keys-refl, keys_same}
use Rattle.gql_confluence.proofs.NoTwo.{no_two_left, no_two_right, no_two_cross, no_two_drop}
use Rattle.gql_confluence.proofs.Soundness.{is_item_at, items_at, FollowFrom}
use Rattle.gql_confluence.proofs.Groups.{all_rec_at}
use Rattle.gql_confluence.proofs.ItemsApart.{listed_item}
use Rattle.gql_confluence.proofs.Sites.{is_longer}
use Rattle.gql_confluence.proofs.Places.{FragmentAwaited, StreamAwaited, Placed, root_place, group_place, places_below, all, fragments_placed, streams_no_two}
use Rattle.gql_confluence.proofs.Items.{filter_append, flat_append, streams_of, Grows, Elsewhere, skip, none_at, direct, direct_are, alike, follow_from, count, ItemFacts, facts_of, awaits_one}

module _ (r0 : RegionResult) (bs0 : Branches) (wf : IsWellFormed (grown r0 bs0)) (p : Schedule) where
  abbrev f : Forest
  f = grown r0 bs0

  abbrev c : Course
  c = course p f

  abbrev here : List Placed
  here = all r0 bs0 wf p

  -- the items of a stream of this region, as they come
  pub record HasItems (q : Placed) (st : Stream) : Type 0 where
    pub follow : FollowFrom st.path.keys st.first (items_at c st.path.keys)
    pub facts : (x : Arrival) → In x (items_at c st.path.keys) → ItemFacts p st q.arrival.released q.items x
    pub waits : (y : ItemRun) × In y (items_awaited q.items st)
    pub number : length (items_at c st.path.keys) ≡ length (filter (λ (x : ItemRun). is_item_delivered q.items x.stream x.index) (items_of_stream q.items st))

  pub record StreamGrows (a : Awaited) : Type 0 where
    pub awaited : StreamAwaited r0 bs0 wf p a
    pub items : HasItems awaited.place awaited.stream

  abbrev Awaits : Awaited → Type 0
  Awaits a = FragmentAwaited r0 bs0 wf p a ⊎ StreamGrows a

  -- what is known of some branches of a region whose streams these are
  pub record Sees (s : Scope) (around : List Frag) (begun : Time) (b : Bool) (rel : Time) (items : List ItemRun) (bs : Branches) (own : List Stream) : Type 0 where
    pub placed : (z : Placed) → In z (places_below p s around begun rel items bs) → In z here
    pub is_site : (z : Site) → In z (sites_below s around bs) → In z (sites f)
    pub works : (st : Stream) (n : ℕ) → In (Item st n) (works_of bs) → In st own
    pub arrives : (x : Arrival) → In x (come_below p s begun b rel items bs).arrivals → In x c.arrivals
    -- their streams differ, and from those of the region
    pub differ : no_two alike (own ++ streams_of (sites_below s around bs)) ≡ true
    -- the items of their streams come by them
    pub brings : (st : Stream) → In st (streams_of (sites_below s around bs)) → items_at c st.path.keys ≡ filter (is_item_at st.path.keys) (come_below p s begun b rel items bs).arrivals

  if_awaited : (b : Bool) (k : Course) (a : Awaited) → In a (cond b k nothing_comes).awaited → (b ≡ true) × In a k.awaited
  if_awaited true k a i = (refl, i)
  if_awaited false k a i = absurd i

  to_if : (b : Bool) (k : Course) (x : Arrival) → b ≡ true → In x k.arrivals → In x (cond b k nothing_comes).arrivals
  to_if true k x e i = i
  to_if false k x e i = absurd (cc)

  tasks_grow : (z : Site) → In z (sites f) → (st : Stream) (n : ℕ) → In (Item st n) z.works → In st z.region.streams
  tasks_grow z i st n j = (listed_item z.region st n (subst (λ (l : List TaskWork). In (Item st n) l) (all_rec_at (λ (y : Site). y.works ≡ tasks_of y.region) (sites f) wf.grows z i) j)).0

  -- two streams with one path don't differ
  clash : (x y : Stream) → alike x y ≡ false → y.path.keys ≡ x.path.keys → ⊥
  clash x y h e = never (alike x y) (ap (λ (l : List Key). same_lists same_key x.path.keys l) e ∙ same_keys-refl x.path.keys) h where
    never : (b : Bool) → b ≡ true → b ≡ false → ⊥
    never b g k = cc

  apart_from : (xs ys : List Stream) → no_two alike (xs ++ ys) ≡ true → (st : Stream) → In st xs → Elsewhere st.path.keys ys
  apart_from xs ys h st i su j e = clash st su (no_two_cross alike xs ys h st su i j) e

  apart_back : (xs ys : List Stream) → no_two alike (xs ++ ys) ≡ true → (st : Stream) → In st ys → Elsewhere st.path.keys xs
  apart_back xs ys h st i su j e = clash su st (no_two_cross alike xs ys h su st j i) (sym e)

  -- the branches of one region, seen from that region
  module _ (r : RegionResult) (s : Scope) (around : List Frag) (begun : Time) (b : Bool) (rel : Time) (inner : Branches) where
    abbrev zs : List Site
    zs = sites_below s around inner

    region_items : (y : Site) → In y (sites f) → y.region ≡ r → y.works ≡ works_of inner → ((z : Site) → In z zs → In z (sites f)) → no_two alike (r.streams ++ streams_of zs) ≡ true
        → (q : Placed) → q.items ≡ items_run inner → q.arrival.released ≡ rel → b ≡ true → (st : Stream) → In st r.streams
        → items_at c st.path.keys ≡ filter (is_item_at st.path.keys) (come_below p s begun b rel (items_run inner) inner).arrivals → HasItems q st
    region_items y i same works sub differ q items when e st j seen =
        let tasks : works_of inner ≡ tasks_of r = sym works ∙ (all_rec_at (λ (z : Site). z.works ≡ tasks_of z.region) (sites f) wf.grows y i ∙ ap tasks_of same) in
        let grows : Grows inner r.streams zs = record {
          items = λ su n k. (listed_item r su n (subst (λ (l : List TaskWork). In (Item su n) l) tasks k)).0;
          sites = λ z k su n l. tasks_grow z (sub z k) su n l;
        } in
        let is : items_at c st.path.keys ≡ direct p st.path.keys true rel (items_run inner) inner =
        seen ∙ (direct_are p st.path.keys s around begun b rel (items_run inner) inner r.streams grows (apart_from r.streams (streams_of zs) differ st j)
        ∙ ap (λ d. direct p st.path.keys d rel (items_run inner) inner) e) in
        record {
          follow = subst (λ (l : List Arrival). FollowFrom st.path.keys st.first l) (sym is) (follow_from st.path.keys st refl p rel (items_run inner) r inner (no_two_left alike r.streams (streams_of zs) differ) j tasks);
          facts = λ x k. subst (λ (t : Time). ItemFacts p st t q.items x) (sym when) (subst (λ (l : List ItemRun). ItemFacts p st rel l x) (sym items)
              (facts_of st p rel (items_run inner) r inner (no_two_left alike r.streams (streams_of zs) differ) j tasks refl x (subst (λ (l : List Arrival). In x l) is k)));
          waits = subst (λ (l : List ItemRun). (z : ItemRun) × In z (items_awaited l st)) (sym items)
              (awaits_one st r inner (no_two_left alike r.streams (streams_of zs) differ) j tasks (is_longer f wf y st i (subst (λ (w : RegionResult). In st w.streams) (sym same) j)));
          number = ap length is ∙ (count p st rel (items_run inner) inner ∙ ap (λ (l : List ItemRun). length (filter (λ (x : ItemRun). is_item_delivered l x.stream x.index) (items_of_stream l st))) (sym items));
        }

  awaits_walk : (s : Scope) (around : List Frag) (begun : Time) (b : Bool) (rel : Time) (items : List ItemRun) (bs : Branches) (own : List Stream) → Sees s around begun b rel items bs own
      → (a : Awaited) → In a (come_below p s begun b rel items bs).awaited → Awaits a
  awaits_walk s around begun b rel items none own h a i = absurd i
  awaits_walk s around begun b rel items (more (Fields g) (grown r inner) bs) own h a i =
      by (in_cases a (cond d here_course nothing_comes).awaited (in_course.awaited ++ by_course.awaited) i)
      (awaits_walk s (r.fragments ++ around) begun d time (items_run inner) inner r.streams h_inner a) (awaits_walk s around begun b rel items bs own h_rest a)
    where
      d : Bool
      d = is_delivered s g

      time : Time
      time = released_at p s begun g

      q : Placed
      q = group_place p s around begun g r inner

      here_course : Course
      here_course = one_comes p g.path.keys r time (by_owners g (carriers p s begun g)) (items_run inner)

      in_course : Course
      in_course = come_below p s begun d time (items_run inner) inner

      by_course : Course
      by_course = come_below p s begun b rel items bs

      za : List Site
      za = sites_below s (r.fragments ++ around) inner

      zb : List Site
      zb = sites_below s around bs

      iq : In q here
      iq = h.placed q (inl refl)

      parts : streams_of (za ++ zb) ≡ streams_of za ++ streams_of zb
      parts = flat_append (λ (x : Site). x.region.streams) za zb

      -- all streams: the region's, this group's, those below it, those beside it
      split : no_two alike (own ++ (r.streams ++ (streams_of za ++ streams_of zb))) ≡ true
      split = ap (λ (l : List Stream). no_two alike (own ++ (r.streams ++ l))) (sym parts) ∙ h.differ

      lower : no_two alike (r.streams ++ (streams_of za ++ streams_of zb)) ≡ true
      lower = no_two_right alike own (r.streams ++ (streams_of za ++ streams_of zb)) split

      assoc : (x y z : List Stream) → (x ++ y) ++ z ≡ x ++ (y ++ z)
      assoc [] y z = refl
      assoc (u ∷ x) y z = ap (λ l. u ∷ l) (assoc x y z)

      differ_a : no_two alike (r.streams ++ streams_of za) ≡ true
      differ_a = no_two_left alike (r.streams ++ streams_of za) (streams_of zb) (ap (no_two alike) (assoc r.streams (streams_of za) (streams_of zb)) ∙ lower)

      in_a : (st : Stream) → In st (r.streams ++ streams_of za) → In st (streams_of (q.site ∷ (za ++ zb)))
      in_a st j = first (in_cases st r.streams (streams_of za) j) where
        first : In st r.streams ⊎ In st (streams_of za) → In st (r.streams ++ streams_of (za ++ zb))
        first (inl k) = in_left st r.streams (streams_of (za ++ zb)) k
        first (inr k) = in_right st r.streams (streams_of (za ++ zb)) (subst (λ (l : List Stream). In st l) (sym parts) (in_left st (streams_of za) (streams_of zb) k))

      grows_b : Grows bs own zb
      grows_b = record { items = λ su n k. h.works su n (inr k); sites = λ z k su n l. tasks_grow z (h.is_site z (inr (in_right z za zb k))) su n l }

      grows_a : Grows inner r.streams za
      grows_a = record { items = λ su n k. tasks_grow q.site (h.is_site q.site (inl refl)) su n k; sites = λ z k su n l. tasks_grow z (h.is_site z (inr (in_left z za zb k))) su n l }

      -- what comes beside the group has no items of the lists at or below it
      beside : (st : Stream) → In st (r.streams ++ streams_of za) → filter (is_item_at st.path.keys) by_course.arrivals ≡ []
      beside st j = none_at p st.path.keys s around begun b rel items bs own grows_b
          (apart_back own (r.streams ++ (streams_of za ++ streams_of zb)) split st (subst (λ (l : List Stream). In st l) (assoc r.streams (streams_of za) (streams_of zb)) (in_left st (r.streams ++ streams_of za) (streams_of zb) j)))
          (apart_from (r.streams ++ streams_of za) (streams_of zb) (ap (no_two alike) (assoc r.streams (streams_of za) (streams_of zb)) ∙ lower) st j)

      -- and what comes at or below it has none of those beside it
      below : (st : Stream) → In st (streams_of zb) → filter (is_item_at st.path.keys) in_course.arrivals ≡ []
      below st j = none_at p st.path.keys s (r.fragments ++ around) begun d time (items_run inner) inner r.streams grows_a
          (λ su k. apart_back (r.streams ++ streams_of za) (streams_of zb) (ap (no_two alike) (assoc r.streams (streams_of za) (streams_of zb)) ∙ lower) st j su (in_left su r.streams (streams_of za) k))
          (λ su k. apart_back (r.streams ++ streams_of za) (streams_of zb) (ap (no_two alike) (assoc r.streams (streams_of za) (streams_of zb)) ∙ lower) st j su (in_right su r.streams (streams_of za) k))

      skipped : (st : Stream) → filter (is_item_at st.path.keys) (come_below p s begun b rel items (more (Fields g) (grown r inner) bs)).arrivals ≡ filter (is_item_at st.path.keys) in_course.arrivals ++ filter (is_item_at st.path.keys) by_course.arrivals
      skipped st = skip p st.path.keys d here_course _ (in_course.arrivals ++ by_course.arrivals) [] refl refl refl ∙ filter_append (is_item_at st.path.keys) in_course.arrivals by_course.arrivals

      nil_right : (xs : List Arrival) → xs ++ [] ≡ xs
      nil_right = append-nil

      seen_a : (st : Stream) → In st (r.streams ++ streams_of za) → items_at c st.path.keys ≡ filter (is_item_at st.path.keys) in_course.arrivals
      seen_a st j = h.brings st (in_a st j) ∙ (skipped st ∙ ((λ z. filter (is_item_at st.path.keys) in_course.arrivals ++ beside st j z) ∙ nil_right (filter (is_item_at st.path.keys) in_course.arrivals)))

      h_inner : Sees s (r.fragments ++ around) begun d time (items_run inner) inner r.streams
      h_inner = record {
        placed = λ z j. h.placed z (inr (in_left z (places_below p s (r.fragments ++ around) begun time (items_run inner) inner) (places_below p s around begun rel items bs) j));
        is_site = λ z j. h.is_site z (inr (in_left z za zb j));
        works = λ su n k. tasks_grow q.site (h.is_site q.site (inl refl)) su n k;
        arrives = λ x j. h.arrives x (in_right x (cond d here_course nothing_comes).arrivals (in_course.arrivals ++ by_course.arrivals) (in_left x in_course.arrivals by_course.arrivals j));
        differ = differ_a;
        brings = λ st j. seen_a st (in_right st r.streams (streams_of za) j);
      }

      h_rest : Sees s around begun b rel items bs own
      h_rest = record {
        placed = λ z j. h.placed z (inr (in_right z (places_below p s (r.fragments ++ around) begun time (items_run inner) inner) (places_below p s around begun rel items bs) j));
        is_site = λ z j. h.is_site z (inr (in_right z za zb j));
        works = λ su n k. h.works su n (inr k);
        arrives = λ x j. h.arrives x (in_right x (cond d here_course nothing_comes).arrivals (in_course.arrivals ++ by_course.arrivals) (in_right x in_course.arrivals by_course.arrivals j));
        differ = no_two_drop alike own (r.streams ++ streams_of za) (streams_of zb) (ap (λ (l : List Stream). no_two alike (own ++ l)) (assoc r.streams (streams_of za) (streams_of zb)) ∙ split);
        brings = λ st j. h.brings st (in_right st r.streams (streams_of (za ++ zb)) (subst (λ (l : List Stream). In st l) (sym parts) (in_right st (streams_of za) (streams_of zb) j)))
            ∙ (skipped st ∙ ap (λ (l : List Arrival). l ++ filter (is_item_at st.path.keys) by_course.arrivals) (below st j));
      }

      stream : d ≡ true → In a (map (awaited_stream p (items_run inner) time) r.streams) → Awaits a
      stream e j =
          let m = in_map (awaited_stream p (items_run inner) time) a r.streams j in
          inr (record {
            awaited = record { place = q; is_place = iq; stream = m.0; is_listed = m.1; is = m.2; arrives = h.arrives q.arrival (in_left q.arrival (cond d here_course nothing_comes).arrivals (in_course.arrivals ++ by_course.arrivals) (to_if d here_course q.arrival e (inl refl))) };
            items = region_items r s (r.fragments ++ around) begun d time inner q.site (h.is_site q.site (inl refl)) refl refl (λ z k. h.is_site z (inr (in_left z za zb k))) differ_a q refl refl e m.0 m.1 (seen_a m.0 (in_left m.0 r.streams (streams_of za) m.1));
          })

      by : In a (cond d here_course nothing_comes).awaited ⊎ In a (in_course.awaited ++ by_course.awaited) → (In a in_course.awaited → Awaits a) → (In a by_course.awaited → Awaits a) → Awaits a
      by (inl j) k l = let m = if_awaited d here_course a j in stream m.0 m.1
      by (inr j) k l = elim (in_cases a in_course.awaited by_course.awaited j) as (λ z. Awaits a) [ inl m ↦ k m | inr m ↦ l m ]
  awaits_walk s around begun b rel items (more (Item st n) (grown r inner) bs) own h a i =
      by (in_cases a (cond d here_course nothing_comes).awaited by_course.awaited i)
      (λ e. awaits_walk s_a r.fragments time true time (items_run inner) inner r.streams (h_inner e) a) (awaits_walk s around begun b rel items bs own h_rest a)
    where
      d : Bool
      d = b && is_item_delivered items st n

      s_a : Scope
      s_a = scope_of (grown r inner)

      at_n : List Key
      at_n = st.path.keys ++ Index n ∷ []

      time : Time
      time = item_at p items rel st n

      q : Placed
      q = root_place at_n r inner time (by_stream st)

      in_course : Course
      in_course = come_below p s_a time true time (items_run inner) inner

      here_course : Course
      here_course = scope_comes p at_n r time (by_stream st) (items_run inner) s_a in_course

      by_course : Course
      by_course = come_below p s begun b rel items bs

      za : List Site
      za = sites_below s_a r.fragments inner

      zb : List Site
      zb = sites_below s around bs

      qs : List Placed
      qs = places_below p s_a r.fragments time time (items_run inner) inner

      iq : In q here
      iq = h.placed q (inl refl)

      parts : streams_of (za ++ zb) ≡ streams_of za ++ streams_of zb
      parts = flat_append (λ (x : Site). x.region.streams) za zb

      split : no_two alike (own ++ (r.streams ++ (streams_of za ++ streams_of zb))) ≡ true
      split = ap (λ (l : List Stream). no_two alike (own ++ (r.streams ++ l))) (sym parts) ∙ h.differ

      lower : no_two alike (r.streams ++ (streams_of za ++ streams_of zb)) ≡ true
      lower = no_two_right alike own (r.streams ++ (streams_of za ++ streams_of zb)) split

      assoc : (x y z : List Stream) → (x ++ y) ++ z ≡ x ++ (y ++ z)
      assoc [] y z = refl
      assoc (u ∷ x) y z = ap (λ l. u ∷ l) (assoc x y z)

      differ_a : no_two alike (r.streams ++ streams_of za) ≡ true
      differ_a = no_two_left alike (r.streams ++ streams_of za) (streams_of zb) (ap (no_two alike) (assoc r.streams (streams_of za) (streams_of zb)) ∙ lower)

      in_a : (su : Stream) → In su (r.streams ++ streams_of za) → In su (streams_of (q.site ∷ (za ++ zb)))
      in_a su j = first (in_cases su r.streams (streams_of za) j) where
        first : In su r.streams ⊎ In su (streams_of za) → In su (r.streams ++ streams_of (za ++ zb))
        first (inl k) = in_left su r.streams (streams_of (za ++ zb)) k
        first (inr k) = in_right su r.streams (streams_of (za ++ zb)) (subst (λ (l : List Stream). In su l) (sym parts) (in_left su (streams_of za) (streams_of zb) k))

      grows_b : Grows bs own zb
      grows_b = record { items = λ su m k. h.works su m (inr k); sites = λ z k su m l. tasks_grow z (h.is_site z (inr (in_right z za zb k))) su m l }

      grows_a : Grows inner r.streams za
      grows_a = record { items = λ su m k. tasks_grow q.site (h.is_site q.site (inl refl)) su m k; sites = λ z k su m l. tasks_grow z (h.is_site z (inr (in_left z za zb k))) su m l }

      beside : (su : Stream) → In su (r.streams ++ streams_of za) → filter (is_item_at su.path.keys) by_course.arrivals ≡ []
      beside su j = none_at p su.path.keys s around begun b rel items bs own grows_b
          (apart_back own (r.streams ++ (streams_of za ++ streams_of zb)) split su (subst (λ (l : List Stream). In su l) (assoc r.streams (streams_of za) (streams_of zb)) (in_left su (r.streams ++ streams_of za) (streams_of zb) j)))
          (apart_from (r.streams ++ streams_of za) (streams_of zb) (ap (no_two alike) (assoc r.streams (streams_of za) (streams_of zb)) ∙ lower) su j)

      below : (su : Stream) → In su (streams_of zb) → filter (is_item_at su.path.keys) in_course.arrivals ≡ []
      below su j = none_at p su.path.keys s_a r.fragments time true time (items_run inner) inner r.streams grows_a
          (λ sv k. apart_back (r.streams ++ streams_of za) (streams_of zb) (ap (no_two alike) (assoc r.streams (streams_of za) (streams_of zb)) ∙ lower) su j sv (in_left sv r.streams (streams_of za) k))
          (λ sv k. apart_back (r.streams ++ streams_of za) (streams_of zb) (ap (no_two alike) (assoc r.streams (streams_of za) (streams_of zb)) ∙ lower) su j sv (in_right sv r.streams (streams_of za) k))

      -- the item itself is none of the lists at or below it, nor of those beside it
      not_own : (su : Stream) → In su (r.streams ++ streams_of (za ++ zb)) → same_lists same_key st.path.keys su.path.keys ≡ false
      not_own su j = test (same_lists same_key st.path.keys su.path.keys) refl where
        test : (t : Bool) → same_lists same_key st.path.keys su.path.keys ≡ t → same_lists same_key st.path.keys su.path.keys ≡ false
        test false e = e
        test true e = absurd (apart_back own (r.streams ++ streams_of (za ++ zb)) h.differ su j st (h.works st n (inl refl)) (keys_same st.path.keys su.path.keys e))

      nil_right : (xs : List Arrival) → xs ++ [] ≡ xs
      nil_right = append-nil

      seen_a : d ≡ true → (su : Stream) → In su (r.streams ++ streams_of za) → items_at c su.path.keys ≡ filter (is_item_at su.path.keys) in_course.arrivals
      seen_a e su j =
          h.brings su (in_a su j)
          ∙ (ap (λ (t : Bool). filter (is_item_at su.path.keys) ((cond t here_course nothing_comes).arrivals ++ by_course.arrivals)) e
          ∙ (ap (λ t. cond t (q.arrival ∷ filter (is_item_at su.path.keys) ((in_course.arrivals ++ []) ++ by_course.arrivals)) (filter (is_item_at su.path.keys) ((in_course.arrivals ++ []) ++ by_course.arrivals))) (not_own su (in_a su j))
          ∙ (filter_append (is_item_at su.path.keys) (in_course.arrivals ++ []) by_course.arrivals
          ∙ ((λ z. filter (is_item_at su.path.keys) (nil_right in_course.arrivals z) ++ beside su j z) ∙ nil_right (filter (is_item_at su.path.keys) in_course.arrivals)))))

      h_inner : d ≡ true → Sees s_a r.fragments time true time (items_run inner) inner r.streams
      h_inner e = record {
        placed = λ z j. h.placed z (inr (in_left z qs (places_below p s around begun rel items bs) j));
        is_site = λ z j. h.is_site z (inr (in_left z za zb j));
        works = λ su m k. tasks_grow q.site (h.is_site q.site (inl refl)) su m k;
        arrives = λ x j. h.arrives x (in_left x (cond d here_course nothing_comes).arrivals by_course.arrivals (to_if d here_course x e (inr (in_left x in_course.arrivals [] j))));
        differ = differ_a;
        brings = λ su j. seen_a e su (in_right su r.streams (streams_of za) j);
      }

      h_rest : Sees s around begun b rel items bs own
      h_rest = record {
        placed = λ z j. h.placed z (inr (in_right z qs (places_below p s around begun rel items bs) j));
        is_site = λ z j. h.is_site z (inr (in_right z za zb j));
        works = λ su m k. h.works su m (inr k);
        arrives = λ x j. h.arrives x (in_right x (cond d here_course nothing_comes).arrivals by_course.arrivals j);
        differ = no_two_drop alike own (r.streams ++ streams_of za) (streams_of zb) (ap (λ (l : List Stream). no_two alike (own ++ l)) (assoc r.streams (streams_of za) (streams_of zb)) ∙ split);
        brings = λ su j. h.brings su (in_right su r.streams (streams_of (za ++ zb)) (in_zb su j))
            ∙ skip p su.path.keys d here_course _ by_course.arrivals (in_course.arrivals ++ []) refl (not_own su (in_right su r.streams (streams_of (za ++ zb)) (in_zb su j))) (ap (filter (is_item_at su.path.keys)) (nil_right in_course.arrivals) ∙ below su j);
      } where
        in_zb : (su : Stream) → In su (streams_of zb) → In su (streams_of (za ++ zb))
        in_zb su j = subst (λ (l : List Stream). In su l) (sym parts) (in_right su (streams_of za) (streams_of zb) j)

      stream : d ≡ true → In a (map (awaited_stream p (items_run inner) time) r.streams) → Awaits a
      stream e j =
          let m = in_map (awaited_stream p (items_run inner) time) a r.streams j in
          inr (record {
            awaited = record { place = q; is_place = iq; stream = m.0; is_listed = m.1; is = m.2; arrives = h.arrives q.arrival (in_left q.arrival (cond d here_course nothing_comes).arrivals by_course.arrivals (to_if d here_course q.arrival e (inl refl))) };
            items = region_items r s_a r.fragments time true time inner q.site (h.is_site q.site (inl refl)) refl refl (λ z k. h.is_site z (inr (in_left z za zb k))) differ_a q refl refl refl m.0 m.1 (seen_a e m.0 (in_left m.0 r.streams (streams_of za) m.1));
          })

      fragment : In a (awaited_fragments p s_a time) → Awaits a
      fragment j =
          let m = in_map (awaited_fragment p s_a time) a _ j in
          let k = in_filter (λ (x : Frag). is_announced s_a x.id) m.0 s_a.fragments m.1 in
          inl (arises m.0 m.2 k.1 (in_cases m.0 r.fragments (fragments_below inner) k.0))
        where
          arises : (x : Frag) → a ≡ awaited_fragment p s_a time x → is_announced s_a x.id ≡ true → In x r.fragments ⊎ In x (fragments_below inner) → FragmentAwaited r0 bs0 wf p a
          arises x e an (inl k) = record { place = q; is_place = iq; fragment = x; arises = k; announced = an; is = e }
          arises x e an (inr k) =
              let w = fragments_placed p s_a r.fragments time time (items_run inner) inner x k in
              record {
                place = w.place;
                is_place = h.placed w.place (inr (in_left w.place qs (places_below p s around begun rel items bs) w.is_place));
                fragment = x;
                arises = w.arises;
                announced = subst (λ (z : Scope). is_announced z x.id ≡ true) (sym w.of_scope.scope) an;
                is = e ∙ (λ z. awaited_fragment p (sym w.of_scope.scope z) (sym w.when z) x);
              }

      inside : (e : d ≡ true) → In a (map (awaited_stream p (items_run inner) time) r.streams) ⊎ In a (in_course.awaited ++ awaited_fragments p s_a time) → (In a in_course.awaited → Awaits a) → Awaits a
      inside e (inl j) k = stream e j
      inside e (inr j) k = elim (in_cases a in_course.awaited (awaited_fragments p s_a time) j) as (λ z. Awaits a) [ inl m ↦ k m | inr m ↦ fragment m ]

      by : In a (cond d here_course nothing_comes).awaited ⊎ In a by_course.awaited → ((e : d ≡ true) → In a in_course.awaited → Awaits a) → (In a by_course.awaited → Awaits a) → Awaits a
      by (inl j) k l =
          let m = if_awaited d here_course a j in
          inside m.0 (in_cases a (map (awaited_stream p (items_run inner) time) r.streams) (in_course.awaited ++ awaited_fragments p s_a time) m.1) (k m.0)
      by (inr j) k l = l j

  -- ---- from the initial region on

  abbrev top : Placed
  top = root_place [] r0 bs0 (Some 0) at_first

  abbrev below_top : Course
  below_top = come_below p (scope_of f) (Some 0) true (Some 0) (items_run bs0) bs0

  abbrev z0 : List Site
  z0 = sites_below (scope_of f) r0.fragments bs0

  differ_0 : no_two alike (r0.streams ++ streams_of z0) ≡ true
  differ_0 = streams_no_two r0 bs0 wf p

  -- the initial region is no item
  first_no_item : (st : Stream) → items_at c st.path.keys ≡ filter (is_item_at st.path.keys) below_top.arrivals
  first_no_item st = ap (filter (is_item_at st.path.keys)) (append-nil below_top.arrivals)

  sees_0 : Sees (scope_of f) r0.fragments (Some 0) true (Some 0) (items_run bs0) bs0 r0.streams
  sees_0 = record {
    placed = λ z j. inr j;
    is_site = λ z j. inr j;
    works = λ su n k. tasks_grow top.site (inl refl) su n k;
    arrives = λ x j. inr (in_left x below_top.arrivals [] j);
    differ = differ_0;
    brings = λ st j. first_no_item st;
  }

  -- all that is announced
  pub all_awaits : (a : Awaited) → In a c.awaited → FragmentAwaited r0 bs0 wf p a ⊎ StreamGrows a
  all_awaits a i = by (in_cases a (map (awaited_stream p (items_run bs0) (Some 0)) r0.streams) (below_top.awaited ++ awaited_fragments p (scope_of f) (Some 0)) i) where
    arises : (x : Frag) → a ≡ awaited_fragment p (scope_of f) (Some 0) x → is_announced (scope_of f) x.id ≡ true → In x r0.fragments ⊎ In x (fragments_below bs0) → FragmentAwaited r0 bs0 wf p a
    arises x e an (inl k) = record { place = top; is_place = inl refl; fragment = x; arises = k; announced = an; is = e }
    arises x e an (inr k) =
        let w = fragments_placed p (scope_of f) r0.fragments (Some 0) (Some 0) (items_run bs0) bs0 x k in
        record { place = w.place; is_place = inr w.is_place; fragment = x; arises = w.arises; announced = subst (λ (z : Scope). is_announced z x.id ≡ true) (sym w.of_scope.scope) an; is = e ∙ (λ z. awaited_fragment p (sym w.of_scope.scope z) (sym w.when z) x) }

    deeper : In a below_top.awaited ⊎ In a (awaited_fragments p (scope_of f) (Some 0)) → Awaits a
    deeper (inl j) = awaits_walk (scope_of f) r0.fragments (Some 0) true (Some 0) (items_run bs0) bs0 r0.streams sees_0 a j
    deeper (inr j) =
        let m = in_map (awaited_fragment p (scope_of f) (Some 0)) a _ j in
        let k = in_filter (λ (x : Frag). is_announced (scope_of f) x.id) m.0 (scope_of f).fragments m.1 in
        inl (arises m.0 m.2 k.1 (in_cases m.0 r0.fragments (fragments_below bs0) k.0))

    by : In a (map (awaited_stream p (items_run bs0) (Some 0)) r0.streams) ⊎ In a (below_top.awaited ++ awaited_fragments p (scope_of f) (Some 0)) → Awaits a
    by (inl j) =
        let m = in_map (awaited_stream p (items_run bs0) (Some 0)) a r0.streams j in
        inr (record {
          awaited = record { place = top; is_place = inl refl; stream = m.0; is_listed = m.1; is = m.2; arrives = inl refl };
          items = region_items r0 (scope_of f) r0.fragments (Some 0) true (Some 0) bs0 top.site (inl refl) refl refl (λ z k. inr k) differ_0 top refl refl refl m.0 m.1 (first_no_item m.0);
        })
    by (inr j) = deeper (in_cases a below_top.awaited (awaited_fragments p (scope_of f) (Some 0)) j)
