-- The delivered items of one list: they stand in the forest below the region that has the list, in the order of their indices.
use Rattle.std.proofs.Common.{◌≡◌, inl, inr, ℕ, zero, suc, ◌<◌, ◌≤◌, ◌+◌, ◌-◌, List, [], ◌∷◌, ◌++◌, map, length, refl, sym, subst, ◌∙◌, ap, Bool, true, false, cond, arith}
use Rattle.std.specs.Prelude.{filter, flat_map, nat_le, nat_lt, ◌&&◌, ◌||◌}
use Rattle.std.specs.List.{list_all}
use Rattle.std.proofs.lemmas.Bool.Decides.{nat_tests}
use Rattle.gql_tree.specs.declared.path.Key.{Key}
use Rattle.gql_tree.specs.declared.path.Key.TheVariants.{Index}
use Rattle.gql_tree.specs.declared.delivery.Frag.{Frag}
use Rattle.gql_tree.specs.declared.delivery.Group.{Group}
use Rattle.gql_tree.specs.declared.delivery.Stream.{Stream}
use Rattle.gql_tree.specs.declared.delivery.RegionResult.{RegionResult}
use Rattle.gql_tree.specs.declared.delivery.TaskWork.{TaskWork}
use Rattle.gql_tree.specs.declared.delivery.TaskWork.TheVariants.{Fields, Item}
use Rattle.gql_tree.specs.Keys.{same_lists, same_key}
use Rattle.gql_tree.specs.Forest.{Branches, grown, none, more, numbers, items_to_come, tasks_of}
use Rattle.gql_tree.specs.Fate.{is_good, ItemRun, Scope, scope_of, is_delivered, items_run, items_of_stream, same_path, is_item_delivered}
use Rattle.gql_tree.specs.Times.{Time}
use Rattle.gql_tree.specs.Course.{Schedule, Arrival, Course, by_owners, by_stream, nothing_comes, one_comes, scope_comes, released_at, carriers, items_awaited, item_at, come_below}
use Rattle.gql_tree.specs.WellFormed.{Site, works_of, sites_below, no_two}
use Rattle.gql_confluence.proofs.Parts.{In, in_left, in_right}
use Rattle.gql_confluence.proofs.Lists.{to_filter, all_at, to_all}
use Rattle.gql_confluence.proofs.Deciders.{keys_same, same_keys-refl}
use Rattle.gql_confluence.proofs.NoTwo.{no_two_cross, no_two_right}
use Rattle.gql_confluence.proofs.Soundness.{is_item_at, FollowFrom}

-- ---- lists

pub filter_append : {X : Type 0} (p : X → Bool) (xs ys : List X) → filter p (xs ++ ys) ≡ filter p xs ++ filter p ys
filter_append p [] ys = refl
filter_append p (x ∷ xs) ys = by (p x) (filter_append p xs ys) where
  by : (b : Bool) → filter p (xs ++ ys) ≡ filter p xs ++ filter p ys → cond b (x ∷ filter p (xs ++ ys)) (filter p (xs ++ ys)) ≡ cond b (x ∷ filter p xs) (filter p xs) ++ filter p ys
  by true e = ap (λ l. x ∷ l) e
  by false e = e

pub flat_append : {X Y : Type 0} (g : X → List Y) (xs ys : List X) → flat_map g (xs ++ ys) ≡ flat_map g xs ++ flat_map g ys
flat_append g [] ys = refl
flat_append g (x ∷ xs) ys = ap (λ l. g x ++ l) (flat_append g xs ys) ∙ sym (assoc (g x) (flat_map g xs) (flat_map g ys)) where
  assoc : {Z : Type 0} (a b c : List Z) → (a ++ b) ++ c ≡ a ++ (b ++ c)
  assoc [] b c = refl
  assoc (z ∷ a) b c = ap (λ l. z ∷ l) (assoc a b c)

-- ---- items elsewhere

abbrev pub streams_of : List Site → List Stream
streams_of zs = flat_map (λ (x : Site). x.region.streams) zs

-- a stream that makes an item is a stream of the region
pub record Grows (bs : Branches) (own : List Stream) (zs : List Site) : Type 0 where
  pub items : (st : Stream) (n : ℕ) → In (Item st n) (works_of bs) → In st own
  pub sites : (z : Site) → In z zs → (st : Stream) (n : ℕ) → In (Item st n) z.works → In st z.region.streams

abbrev pub Elsewhere : List Key → List Stream → Type 0
Elsewhere path l = (st : Stream) → In st l → st.path.keys ≡ path → ⊥

not_here : (path : List Key) (st : Stream) → (st.path.keys ≡ path → ⊥) → same_lists same_key st.path.keys path ≡ false
not_here path st h = by (same_lists same_key st.path.keys path) refl where
  by : (b : Bool) → same_lists same_key st.path.keys path ≡ b → same_lists same_key st.path.keys path ≡ false
  by true e = absurd (h (keys_same st.path.keys path e))
  by false e = e

module _ (p : Schedule) (path : List Key) where
  abbrev pub at_path : List Arrival → List Arrival
  at_path l = filter (is_item_at path) l

  -- one region that isn't an item of the list, if it comes, and those behind it
  pub skip : (d : Bool) (k : Course) (x : Arrival) (l m : List Arrival) → k.arrivals ≡ x ∷ m → is_item_at path x ≡ false → at_path m ≡ [] → at_path ((cond d k nothing_comes).arrivals ++ l) ≡ at_path l
  skip false k x l m e f g = refl
  skip true k x l m e f g =
      ap (λ (y : List Arrival). at_path (y ++ l)) e
      ∙ (ap (λ b. cond b (x ∷ at_path (m ++ l)) (at_path (m ++ l))) f
      ∙ (filter_append (is_item_at path) m l ∙ ap (λ (y : List Arrival). y ++ at_path l) g))

  pub two_none : (a b : List Arrival) → at_path a ≡ [] → at_path b ≡ [] → at_path (a ++ b) ≡ []
  two_none a b e f = filter_append (is_item_at path) a b ∙ (λ i. e i ++ f i)

  pub none_at : (s : Scope) (around : List Frag) (begun : Time) (here : Bool) (rel : Time) (items : List ItemRun) (bs : Branches) (own : List Stream)
      → Grows bs own (sites_below s around bs) → Elsewhere path own → Elsewhere path (streams_of (sites_below s around bs)) → at_path (come_below p s begun here rel items bs).arrivals ≡ []
  none_at s around begun here rel items none own g h k = refl
  none_at s around begun here rel items (more (Fields gr) (grown r inner) bs) own g h k =
      let a = sites_below s (r.fragments ++ around) inner in
      let b = sites_below s around bs in
      let here_course = one_comes p gr.path.keys r (released_at p s begun gr) (by_owners gr (carriers p s begun gr)) (items_run inner) in
      let i1 = come_below p s begun (is_delivered s gr) (released_at p s begun gr) (items_run inner) inner in
      let i2 = come_below p s begun here rel items bs in
      let deep = none_at s (r.fragments ++ around) begun (is_delivered s gr) (released_at p s begun gr) (items_run inner) inner r.streams
      (record { items = λ st n j. g.sites _ (inl refl) st n j; sites = λ z j. g.sites z (inr (in_left z a b j)) })
      (λ st j. k st (in_left st r.streams (streams_of (a ++ b)) j))
      (λ st j. k st (in_right st r.streams (streams_of (a ++ b)) (subst (λ (l : List Stream). In st l) (sym (flat_append (λ (x : Site). x.region.streams) a b)) (in_left st (streams_of a) (streams_of b) j)))) in
      let flat' = none_at s around begun here rel items bs own
      (record { items = λ st n j. g.items st n (inr j); sites = λ z j. g.sites z (inr (in_right z a b j)) }) h
      (λ st j. k st (in_right st r.streams (streams_of (a ++ b)) (subst (λ (l : List Stream). In st l) (sym (flat_append (λ (x : Site). x.region.streams) a b)) (in_right st (streams_of a) (streams_of b) j)))) in
      skip (is_delivered s gr) here_course _ (i1.arrivals ++ i2.arrivals) [] refl refl refl ∙ two_none i1.arrivals i2.arrivals deep flat'
  none_at s around begun here rel items (more (Item st n) (grown r inner) bs) own g h k =
      let t = item_at p items rel st n in
      let s_a = scope_of (grown r inner) in
      let a = sites_below s_a r.fragments inner in
      let b = sites_below s around bs in
      let i1 = come_below p s_a t true t (items_run inner) inner in
      let here_course = scope_comes p (st.path.keys ++ Index n ∷ []) r t (by_stream st) (items_run inner) s_a i1 in
      let i2 = come_below p s begun here rel items bs in
      let deep = none_at s_a r.fragments t true t (items_run inner) inner r.streams
      (record { items = λ su m j. g.sites _ (inl refl) su m j; sites = λ z j. g.sites z (inr (in_left z a b j)) })
      (λ su j. k su (in_left su r.streams (streams_of (a ++ b)) j))
      (λ su j. k su (in_right su r.streams (streams_of (a ++ b)) (subst (λ (l : List Stream). In su l) (sym (flat_append (λ (x : Site). x.region.streams) a b)) (in_left su (streams_of a) (streams_of b) j)))) in
      let flat' = none_at s around begun here rel items bs own
      (record { items = λ su m j. g.items su m (inr j); sites = λ z j. g.sites z (inr (in_right z a b j)) }) h
      (λ su j. k su (in_right su r.streams (streams_of (a ++ b)) (subst (λ (l : List Stream). In su l) (sym (flat_append (λ (x : Site). x.region.streams) a b)) (in_right su (streams_of a) (streams_of b) j)))) in
      skip (here && is_item_delivered items st n) here_course _ i2.arrivals (i1.arrivals ++ []) refl (not_here path st (h st (g.items st n (inl refl)))) (two_none i1.arrivals [] deep refl) ∙ flat'

  -- ---- the items of a list of this region

  -- those that stand in its own branches
  abbrev pub direct : Bool → Time → List ItemRun → Branches → List Arrival
  direct here rel items none = []
  direct here rel items (more (Fields g) f bs) = direct here rel items bs
  direct here rel items (more (Item st n) (grown r inner) bs) =
      cond (same_lists same_key st.path.keys path)
      (cond (here && is_item_delivered items st n) (record { at = st.path.keys ++ Index n ∷ []; region = r; released = item_at p items rel st n; way = by_stream st } ∷ direct here rel items bs) (direct here rel items bs))
      (direct here rel items bs)

  pub direct_are : (s : Scope) (around : List Frag) (begun : Time) (here : Bool) (rel : Time) (items : List ItemRun) (bs : Branches) (own : List Stream)
      → Grows bs own (sites_below s around bs) → Elsewhere path (streams_of (sites_below s around bs)) → at_path (come_below p s begun here rel items bs).arrivals ≡ direct here rel items bs
  direct_are s around begun here rel items none own g k = refl
  direct_are s around begun here rel items (more (Fields gr) (grown r inner) bs) own g k =
      let a = sites_below s (r.fragments ++ around) inner in
      let b = sites_below s around bs in
      let here_course = one_comes p gr.path.keys r (released_at p s begun gr) (by_owners gr (carriers p s begun gr)) (items_run inner) in
      let i1 = come_below p s begun (is_delivered s gr) (released_at p s begun gr) (items_run inner) inner in
      let i2 = come_below p s begun here rel items bs in
      let deep = none_at s (r.fragments ++ around) begun (is_delivered s gr) (released_at p s begun gr) (items_run inner) inner r.streams
      (record { items = λ st n j. g.sites _ (inl refl) st n j; sites = λ z j. g.sites z (inr (in_left z a b j)) })
      (λ st j. k st (in_left st r.streams (streams_of (a ++ b)) j))
      (λ st j. k st (in_right st r.streams (streams_of (a ++ b)) (subst (λ (l : List Stream). In st l) (sym (flat_append (λ (x : Site). x.region.streams) a b)) (in_left st (streams_of a) (streams_of b) j)))) in
      let rest = direct_are s around begun here rel items bs own
      (record { items = λ st n j. g.items st n (inr j); sites = λ z j. g.sites z (inr (in_right z a b j)) })
      (λ st j. k st (in_right st r.streams (streams_of (a ++ b)) (subst (λ (l : List Stream). In st l) (sym (flat_append (λ (x : Site). x.region.streams) a b)) (in_right st (streams_of a) (streams_of b) j)))) in
      skip (is_delivered s gr) here_course _ (i1.arrivals ++ i2.arrivals) [] refl refl refl
      ∙ (filter_append (is_item_at path) i1.arrivals i2.arrivals ∙ (λ i. deep i ++ rest i))
  direct_are s around begun here rel items (more (Item st n) (grown r inner) bs) own g k =
      let t = item_at p items rel st n in
      let s_a = scope_of (grown r inner) in
      let a = sites_below s_a r.fragments inner in
      let b = sites_below s around bs in
      let i1 = come_below p s_a t true t (items_run inner) inner in
      let i2 = come_below p s begun here rel items bs in
      let deep = none_at s_a r.fragments t true t (items_run inner) inner r.streams
      (record { items = λ su m j. g.sites _ (inl refl) su m j; sites = λ z j. g.sites z (inr (in_left z a b j)) })
      (λ su j. k su (in_left su r.streams (streams_of (a ++ b)) j))
      (λ su j. k su (in_right su r.streams (streams_of (a ++ b)) (subst (λ (l : List Stream). In su l) (sym (flat_append (λ (x : Site). x.region.streams) a b)) (in_left su (streams_of a) (streams_of b) j)))) in
      let rest = direct_are s around begun here rel items bs own
      (record { items = λ su m j. g.items su m (inr j); sites = λ z j. g.sites z (inr (in_right z a b j)) })
      (λ su j. k su (in_right su r.streams (streams_of (a ++ b)) (subst (λ (l : List Stream). In su l) (sym (flat_append (λ (x : Site). x.region.streams) a b)) (in_right su (streams_of a) (streams_of b) j)))) in
      by (same_lists same_key st.path.keys path) (here && is_item_delivered items st n) refl (two_none i1.arrivals [] deep refl) rest
    where
      by : (q d : Bool) → same_lists same_key st.path.keys path ≡ q
          → at_path ((come_below p (scope_of (grown r inner)) (item_at p items rel st n) true (item_at p items rel st n) (items_run inner) inner).arrivals ++ []) ≡ []
          → at_path (come_below p s begun here rel items bs).arrivals ≡ direct here rel items bs
          → at_path ((cond d (scope_comes p (st.path.keys ++ Index n ∷ []) r (item_at p items rel st n) (by_stream st) (items_run inner) (scope_of (grown r inner)) (come_below p (scope_of (grown r inner)) (item_at p items rel st n) true (item_at p items rel st n) (items_run inner) inner)) nothing_comes).arrivals ++ (come_below p s begun here rel items bs).arrivals)
          ≡ cond q (cond d (record { at = st.path.keys ++ Index n ∷ []; region = r; released = item_at p items rel st n; way = by_stream st } ∷ direct here rel items bs) (direct here rel items bs)) (direct here rel items bs)
      by true false e deep rest = rest
      by false false e deep rest = rest
      by false true e deep rest =
          skip true (scope_comes p (st.path.keys ++ Index n ∷ []) r (item_at p items rel st n) (by_stream st) (items_run inner) (scope_of (grown r inner)) (come_below p (scope_of (grown r inner)) (item_at p items rel st n) true (item_at p items rel st n) (items_run inner) inner))
          _ (come_below p s begun here rel items bs).arrivals _ refl e deep ∙ rest
      by true true e deep rest =
          let x : Arrival = record { at = st.path.keys ++ Index n ∷ []; region = r; released = item_at p items rel st n; way = by_stream st } in
          let m = (come_below p (scope_of (grown r inner)) (item_at p items rel st n) true (item_at p items rel st n) (items_run inner) inner).arrivals ++ [] in
          let l = (come_below p s begun here rel items bs).arrivals in
          ap (λ q. cond q (x ∷ at_path (m ++ l)) (at_path (m ++ l))) e
          ∙ ap (λ (y : List Arrival). x ∷ y) (filter_append (is_item_at path) m l ∙ (λ i. deep i ++ rest i))

-- ---- in the order of their indices

abbrev pub alike : Stream → Stream → Bool
alike x y = same_path x.path y.path

module _ (path : List Key) where
  abbrev pub is_work : TaskWork → Bool
  is_work (Fields g) = false
  is_work (Item st n) = same_lists same_key st.path.keys path

  no_groups : (gs : List Group) → filter is_work (map Fields gs) ≡ []
  no_groups [] = refl
  no_groups (g ∷ gs) = no_groups gs

  whole_stream : (st : Stream) (ns : List ℕ) → same_lists same_key st.path.keys path ≡ true → filter is_work (map (Item st) ns) ≡ map (Item st) ns
  whole_stream st [] e = refl
  whole_stream st (n ∷ ns) e = ap (λ b. cond b (Item st n ∷ filter is_work (map (Item st) ns)) (filter is_work (map (Item st) ns))) e ∙ ap (λ (l : List TaskWork). Item st n ∷ l) (whole_stream st ns e)

  other_stream : (st : Stream) (ns : List ℕ) → same_lists same_key st.path.keys path ≡ false → filter is_work (map (Item st) ns) ≡ []
  other_stream st [] e = refl
  other_stream st (n ∷ ns) e = ap (λ b. cond b (Item st n ∷ filter is_work (map (Item st) ns)) (filter is_work (map (Item st) ns))) e ∙ other_stream st ns e

  none_works : (l : List Stream) → Elsewhere path l → filter is_work (flat_map items_to_come l) ≡ []
  none_works [] h = refl
  none_works (su ∷ l) h =
      filter_append is_work (items_to_come su) (flat_map items_to_come l)
      ∙ (λ i. other_stream su (numbers su.first (su.length - su.first)) (not_here path su (h su (inl refl))) i ++ none_works l (λ sv j. h sv (inr j)) i)

  module _ (st : Stream) (is : st.path.keys ≡ path) where
    same_itself : same_lists same_key st.path.keys path ≡ true
    same_itself = ap (same_lists same_key st.path.keys) (sym is) ∙ same_keys-refl st.path.keys

    never : (b : Bool) → b ≡ true → b ≡ false → ⊥
    never b e f = cc

    stream_works : (l : List Stream) → no_two alike l ≡ true → In st l → filter is_work (flat_map items_to_come l) ≡ items_to_come st
    stream_works [] h i = absurd i
    stream_works (su ∷ l) h (inl e) =
        filter_append is_work (items_to_come su) (flat_map items_to_come l)
        ∙ ((λ i. whole_stream su (numbers su.first (su.length - su.first)) same i ++ none_works l others i)
        ∙ (nil_right (items_to_come su) ∙ ap items_to_come (sym e)))
      where
        same : same_lists same_key su.path.keys path ≡ true
        same = subst (λ (x : Stream). same_lists same_key x.path.keys path ≡ true) e same_itself

        others : Elsewhere path l
        others sv j f = never (alike su sv) (ap (λ (q : List Key). same_lists same_key su.path.keys q) f ∙ same) (no_two_cross alike (su ∷ []) l h su sv (inl refl) j)

        nil_right : (xs : List TaskWork) → xs ++ [] ≡ xs
        nil_right [] = refl
        nil_right (x ∷ xs) = ap (λ q. x ∷ q) (nil_right xs)
    stream_works (su ∷ l) h (inr i) =
        filter_append is_work (items_to_come su) (flat_map items_to_come l)
        ∙ (ap (λ (q : List TaskWork). q ++ filter is_work (flat_map items_to_come l)) (other_stream su (numbers su.first (su.length - su.first)) (not_here path su other))
        ∙ stream_works l (no_two_right alike (su ∷ []) l h) i)
      where
        other : su.path.keys ≡ path → ⊥
        other f = never (alike su st) (ap (λ (q : List Key). same_lists same_key q st.path.keys) (f ∙ sym is) ∙ same_keys-refl st.path.keys) (no_two_cross alike (su ∷ []) l h su st (inl refl) i)

    pub works_are : (r : RegionResult) → no_two alike r.streams ≡ true → In st r.streams → filter is_work (tasks_of r) ≡ items_to_come st
    works_are r h i =
        filter_append is_work (map Fields r.groups) (flat_map items_to_come r.streams)
        ∙ (ap (λ (q : List TaskWork). q ++ filter is_work (flat_map items_to_come r.streams)) (no_groups r.groups) ∙ stream_works r.streams h i)

    -- an item before one that is delivered is delivered
    before : (items : List ItemRun) (m n : ℕ) → m ≤ n → is_item_delivered items st n ≡ true → is_item_delivered items st m ≡ true
    before items m n le h = to_all (λ (x : ItemRun). nat_lt m x.index || is_good x.region) (items_of_stream items st) (λ x j. by x (nat_lt n x.index) refl (all_at (λ (y : ItemRun). nat_lt n y.index || is_good y.region) (items_of_stream items st) h x j)) where
      or_true : (a b : Bool) → a ≡ true → (a || b) ≡ true
      or_true a b e = rw e refl

      or_right : (a b : Bool) → b ≡ true → (a || b) ≡ true
      or_right true b e = refl
      or_right false b e = e

      by : (x : ItemRun) (q : Bool) → nat_lt n x.index ≡ q → (nat_lt n x.index || is_good x.region) ≡ true → (nat_lt m x.index || is_good x.region) ≡ true
      by x true e k = or_true (nat_lt m x.index) (is_good x.region) (grind (arith, nat_tests))
      by x false e k = or_right (nat_lt m x.index) (is_good x.region) (ap (λ a. a || is_good x.region) (sym e) ∙ k)

    pub head_is : (su : Stream) (m n k : ℕ) (ws : List TaskWork) → Item su m ∷ ws ≡ map (Item st) (numbers n k) → (su ≡ st) × (m ≡ n) × (j : ℕ) × (ws ≡ map (Item st) (numbers (n + 1) j))
    head_is su m n zero ws e = absurd (cc)
    head_is su m n (suc k) ws e = (cc, cc, k, cc)

    module _ (p : Schedule) (rel : Time) (items : List ItemRun) where
      none_later : (n m k : ℕ) (bs : Branches) → n ≤ m → is_item_delivered items st n ≡ false → filter is_work (works_of bs) ≡ map (Item st) (numbers m k) → direct p path true rel items bs ≡ []
      none_later n m k none le not_n h = refl
      none_later n m k (more (Fields g) f bs) le not_n h = none_later n m k bs le not_n h
      none_later n m k (more (Item su i) (grown r inner) bs) le not_n h = by (same_lists same_key su.path.keys path) (is_item_delivered items su i) refl h (λ m' k' l e. none_later n m' k' bs l not_n e) where
        by : (q d : Bool) → is_item_delivered items su i ≡ d → cond q (Item su i ∷ filter is_work (works_of bs)) (filter is_work (works_of bs)) ≡ map (Item st) (numbers m k)
            → ((m' k' : ℕ) → n ≤ m' → filter is_work (works_of bs) ≡ map (Item st) (numbers m' k') → direct p path true rel items bs ≡ [])
            → cond q (cond d (record { at = su.path.keys ++ Index i ∷ []; region = r; released = item_at p items rel su i; way = by_stream su } ∷ direct p path true rel items bs) (direct p path true rel items bs)) (direct p path true rel items bs) ≡ []
        by false d e h' rec = rec m k le h'
        by true false e h' rec = let w = head_is su i m k (filter is_work (works_of bs)) h' in rec (m + 1) w.2 (omega arith) w.3
        by true true e h' rec =
            let w = head_is su i m k (filter is_work (works_of bs)) h' in
            let del : is_item_delivered items st i ≡ true = ap (λ (x : Stream). is_item_delivered items x i) (sym w.0) ∙ e in
            let at_i : i ≡ m = w.1 in
            absurd (never (is_item_delivered items st n) (before items n i (omega arith) del) not_n)

      follow : (n k : ℕ) (bs : Branches) → filter is_work (works_of bs) ≡ map (Item st) (numbers n k) → FollowFrom path n (direct p path true rel items bs)
      follow n k none h = tt
      follow n k (more (Fields g) f bs) h = follow n k bs h
      follow n k (more (Item su i) (grown r inner) bs) h = by (same_lists same_key su.path.keys path) (is_item_delivered items su i) refl h (λ n' k' e. follow n' k' bs e) where
        by : (q d : Bool) → is_item_delivered items su i ≡ d → cond q (Item su i ∷ filter is_work (works_of bs)) (filter is_work (works_of bs)) ≡ map (Item st) (numbers n k)
            → ((n' k' : ℕ) → filter is_work (works_of bs) ≡ map (Item st) (numbers n' k') → FollowFrom path n' (direct p path true rel items bs))
            → FollowFrom path n (cond q (cond d (record { at = su.path.keys ++ Index i ∷ []; region = r; released = item_at p items rel su i; way = by_stream su } ∷ direct p path true rel items bs) (direct p path true rel items bs)) (direct p path true rel items bs))
        by false d e h' rec = rec n k h'
        by true true e h' rec =
            let w = head_is su i n k (filter is_work (works_of bs)) h' in
            ((λ j. ap (λ (x : Stream). x.path.keys) w.0 j ++ Index (w.1 j) ∷ []) ∙ ap (λ (l : List Key). l ++ Index n ∷ []) is, rec (n + 1) w.2 w.3)
        by true false e h' rec =
            let w = head_is su i n k (filter is_work (works_of bs)) h' in
            let not_n : is_item_delivered items st n ≡ false = (λ j. is_item_delivered items (sym w.0 j) (sym w.1 j)) ∙ e in
            subst (λ (l : List Arrival). FollowFrom path n l) (sym (none_later n (n + 1) w.2 bs (omega arith) not_n w.3)) tt

      pub follow_from : (r : RegionResult) (bs : Branches) → no_two alike r.streams ≡ true → In st r.streams → works_of bs ≡ tasks_of r → FollowFrom path st.first (direct p path true rel items bs)
      follow_from r bs h i e = follow st.first (st.length - st.first) bs (ap (filter is_work) e ∙ works_are r h i)

-- their number
module _ (p : Schedule) (st : Stream) (rel : Time) (items : List ItemRun) where
  abbrev del : ItemRun → Bool
  del x = is_item_delivered items x.stream x.index

  pub count : (bs : Branches) → length (direct p st.path.keys true rel items bs) ≡ length (filter del (items_of_stream (items_run bs) st))
  count none = refl
  count (more (Fields g) f bs) = count bs
  count (more (Item su i) (grown r inner) bs) = by (same_lists same_key su.path.keys st.path.keys) (is_item_delivered items su i) refl (count bs) where
    by : (q d : Bool) → is_item_delivered items su i ≡ d → length (direct p st.path.keys true rel items bs) ≡ length (filter del (items_of_stream (items_run bs) st))
        → length (cond q (cond d (record { at = su.path.keys ++ Index i ∷ []; region = r; released = item_at p items rel su i; way = by_stream su } ∷ direct p st.path.keys true rel items bs) (direct p st.path.keys true rel items bs)) (direct p st.path.keys true rel items bs))
        ≡ length (filter del (cond q (record { stream = su; index = i; region = r } ∷ items_of_stream (items_run bs) st) (items_of_stream (items_run bs) st)))
    by false d e rec = rec
    by true true e rec =
        ap suc rec ∙ ap (λ b. length (cond b (record { stream = su; index = i; region = r } ∷ filter del (items_of_stream (items_run bs) st)) (filter del (items_of_stream (items_run bs) st)))) (sym e)
    by true false e rec =
        rec ∙ ap (λ b. length (cond b (record { stream = su; index = i; region = r } ∷ filter del (items_of_stream (items_run bs) st)) (filter del (items_of_stream (items_run bs) st)))) (sym e)

-- ---- what is known of each of them

-- an item that comes, and the run that gave it
pub record ItemFacts (p : Schedule) (st : Stream) (rel : Time) (items : List ItemRun) (x : Arrival) : Type 0 where
  pub index : ℕ
  pub at : x.at ≡ st.path.keys ++ Index index ∷ []
  pub released : x.released ≡ item_at p items rel st index
  pub delivered : is_item_delivered items st index ≡ true
  pub run : ItemRun
  pub is_run : In run (items_of_stream items st)
  pub is_index : run.index ≡ index

module _ (st : Stream) where
  abbrev ours : List TaskWork → List TaskWork
  ours ws = filter (is_work st.path.keys) ws

  module _ (p : Schedule) (rel : Time) (items : List ItemRun) where
    facts : (n k : ℕ) (bs : Branches) → ours (works_of bs) ≡ map (Item st) (numbers n k) → ((y : ItemRun) → In y (items_of_stream (items_run bs) st) → In y (items_of_stream items st))
        → (x : Arrival) → In x (direct p st.path.keys true rel items bs) → ItemFacts p st rel items x
    facts n k none h sub x i = absurd i
    facts n k (more (Fields g) f bs) h sub x i = facts n k bs h sub x i
    facts n k (more (Item su m) (grown r inner) bs) h sub x i = by (same_lists same_key su.path.keys st.path.keys) (is_item_delivered items su m) refl h sub i (λ n' k' e sub' j. facts n' k' bs e sub' x j) where
      by : (q d : Bool) → is_item_delivered items su m ≡ d → cond q (Item su m ∷ ours (works_of bs)) (ours (works_of bs)) ≡ map (Item st) (numbers n k)
          → ((y : ItemRun) → In y (cond q (record { stream = su; index = m; region = r } ∷ items_of_stream (items_run bs) st) (items_of_stream (items_run bs) st)) → In y (items_of_stream items st))
          → In x (cond q (cond d (record { at = su.path.keys ++ Index m ∷ []; region = r; released = item_at p items rel su m; way = by_stream su } ∷ direct p st.path.keys true rel items bs) (direct p st.path.keys true rel items bs)) (direct p st.path.keys true rel items bs))
          → ((n' k' : ℕ) → ours (works_of bs) ≡ map (Item st) (numbers n' k') → ((y : ItemRun) → In y (items_of_stream (items_run bs) st) → In y (items_of_stream items st)) → In x (direct p st.path.keys true rel items bs) → ItemFacts p st rel items x)
          → ItemFacts p st rel items x
      by false d e h' sub' j rec = rec n k h' sub' j
      by true false e h' sub' j rec = let w = head_is st.path.keys st refl su m n k (ours (works_of bs)) h' in rec (n + 1) w.2 w.3 (λ y z. sub' y (inr z)) j
      by true true e h' sub' (inr j) rec = let w = head_is st.path.keys st refl su m n k (ours (works_of bs)) h' in rec (n + 1) w.2 w.3 (λ y z. sub' y (inr z)) j
      by true true e h' sub' (inl g) rec =
          let w = head_is st.path.keys st refl su m n k (ours (works_of bs)) h' in
          record {
            index = m;
            at = ap (λ (a : Arrival). a.at) g ∙ ap (λ (t : Stream). t.path.keys ++ Index m ∷ []) w.0;
            released = ap (λ (a : Arrival). a.released) g ∙ ap (λ (t : Stream). item_at p items rel t m) w.0;
            delivered = ap (λ (t : Stream). is_item_delivered items t m) (sym w.0) ∙ e;
            run = record { stream = su; index = m; region = r };
            is_run = sub' (record { stream = su; index = m; region = r }) (inl refl);
            is_index = refl;
          }

    pub facts_of : (r : RegionResult) (bs : Branches) → no_two alike r.streams ≡ true → In st r.streams → works_of bs ≡ tasks_of r → items_run bs ≡ items → (x : Arrival) → In x (direct p st.path.keys true rel items bs) → ItemFacts p st rel items x
    facts_of r bs h i e same x j = facts st.first (st.length - st.first) bs (ap ours e ∙ works_are st.path.keys st refl r h i) (λ y z. subst (λ (l : List ItemRun). In y (items_of_stream l st)) same z) x j

  -- the items of a stream begin with the first, and there is one
  pub runs_from : (n k : ℕ) (bs : Branches) → ours (works_of bs) ≡ map (Item st) (numbers n k) → (y : ItemRun) → In y (items_of_stream (items_run bs) st) → n ≤ y.index
  runs_from n k none h y i = absurd i
  runs_from n k (more (Fields g) f bs) h y i = runs_from n k bs h y i
  runs_from n k (more (Item su m) (grown r inner) bs) h y i = by (same_lists same_key su.path.keys st.path.keys) h i (λ n' k' e j. runs_from n' k' bs e y j) where
    by : (q : Bool) → cond q (Item su m ∷ ours (works_of bs)) (ours (works_of bs)) ≡ map (Item st) (numbers n k)
        → In y (cond q (record { stream = su; index = m; region = r } ∷ items_of_stream (items_run bs) st) (items_of_stream (items_run bs) st))
        → ((n' k' : ℕ) → ours (works_of bs) ≡ map (Item st) (numbers n' k') → In y (items_of_stream (items_run bs) st) → n' ≤ y.index) → n ≤ y.index
    by false h' j rec = rec n k h' j
    by true h' (inl g) rec = let w = head_is st.path.keys st refl su m n k (ours (works_of bs)) h' in let a : y.index ≡ m = ap (λ (z : ItemRun). z.index) g in let b = w.1 in omega arith
    by true h' (inr j) rec = let w = head_is st.path.keys st refl su m n k (ours (works_of bs)) h' in let a = rec (n + 1) w.2 w.3 j in omega arith

  first_run : (n k : ℕ) (bs : Branches) → ours (works_of bs) ≡ map (Item st) (numbers n (suc k)) → (y : ItemRun) × In y (items_of_stream (items_run bs) st) × (y.index ≡ n)
  first_run n k none h = absurd (cc)
  first_run n k (more (Fields g) f bs) h = first_run n k bs h
  first_run n k (more (Item su m) (grown r inner) bs) h = by (same_lists same_key su.path.keys st.path.keys) h (first_run n k bs) where
    by : (q : Bool) → cond q (Item su m ∷ ours (works_of bs)) (ours (works_of bs)) ≡ map (Item st) (numbers n (suc k))
        → (ours (works_of bs) ≡ map (Item st) (numbers n (suc k)) → (y : ItemRun) × In y (items_of_stream (items_run bs) st) × (y.index ≡ n))
        → (y : ItemRun) × In y (cond q (record { stream = su; index = m; region = r } ∷ items_of_stream (items_run bs) st) (items_of_stream (items_run bs) st)) × (y.index ≡ n)
    by false h' rec = rec h'
    by true h' rec = let w = head_is st.path.keys st refl su m n (suc k) (ours (works_of bs)) h' in (record { stream = su; index = m; region = r }, inl refl, w.1)

  -- a stream waits for one item at least
  pub awaits_one : (r : RegionResult) (bs : Branches) → no_two alike r.streams ≡ true → In st r.streams → works_of bs ≡ tasks_of r → st.first < st.length → (y : ItemRun) × In y (items_awaited (items_run bs) st)
  awaits_one r bs h i e lt =
      let works : ours (works_of bs) ≡ map (Item st) (numbers st.first (st.length - st.first)) = ap ours e ∙ works_are st.path.keys st refl r h i in
      let some : st.length - st.first ≡ suc (st.length - st.first - 1) = omega arith in
      let y = first_run st.first (st.length - st.first - 1) bs (works ∙ ap (λ k. map (Item st) (numbers st.first k)) some) in (
        y.0,
        to_filter (λ (x : ItemRun). list_all (λ (z : ItemRun). nat_le x.index z.index || is_good z.region) (items_of_stream (items_run bs) st)) y.0 (items_of_stream (items_run bs) st) y.1
            (to_all (λ (z : ItemRun). nat_le y.0.index z.index || is_good z.region) (items_of_stream (items_run bs) st) (λ z j. first_or y.0.index z (least y.2 z (runs_from st.first (st.length - st.first) bs works z j)))),
      )
    where
      least : {n m : ℕ} → n ≡ m → (z : ItemRun) → m ≤ z.index → nat_le n z.index ≡ true
      least e z h = grind (arith, nat_tests)

      first_or : (n : ℕ) (z : ItemRun) → nat_le n z.index ≡ true → (nat_le n z.index || is_good z.region) ≡ true
      first_or n z e = rw e refl
