-- A region, a group and a scope of a well-formed forest: what is seen of them so far is seen without what grows of tasks that haven't ended.
use Rattle.std.proofs.Common.{◌≡◌, ◌⊎◌, inl, inr, ℕ, List, [], ◌∷◌, ◌++◌, map, refl, sym, subst, ◌∙◌, ap, Bool, true, false, cond, Some, None}
use Rattle.std.specs.Prelude.{filter, flat_map}
use Rattle.gql_tree.specs.declared.path.Key.{Key}
use Rattle.gql_tree.specs.declared.delivery.Frag.{Frag}
use Rattle.gql_tree.specs.declared.delivery.FragId.{FragId}
use Rattle.gql_tree.specs.declared.delivery.Group.{Group}
use Rattle.gql_tree.specs.declared.delivery.Stream.{Stream}
use Rattle.gql_tree.specs.declared.delivery.RegionResult.{RegionResult}
use Rattle.gql_tree.specs.declared.delivery.TaskWork.{TaskWork}
use Rattle.gql_tree.specs.declared.delivery.TaskWork.TheVariants.{Fields, Item}
use Rattle.gql_tree.specs.Forest.{Forest, Branches, grown, none, more, tasks_of}
use Rattle.gql_tree.specs.Fate.{GroupRun, ItemRun, Scope, scope_of, groups_below, fragments_below, is_ok, is_delivered, items_run, items_of_stream}
use Rattle.gql_tree.specs.Times.{Time, same_time, has_time}
use Rattle.gql_tree.specs.Course.{Schedule, Awaited, Way, by_owners, Course, nothing_comes, one_comes, scope_comes, done_at, released_at, carriers, awaited_stream, awaited_fragments, come_below}
use Rattle.gql_tree.specs.Numbering.{by_events}
use Rattle.gql_tree.specs.WellFormed.{Site, works_of, root_site, sites_below, sites, IsWellFormed}
use Rattle.gql_tree.specs.Causal.{has_ended}
use Rattle.gql_confluence.proofs.Parts.{In, in_left, in_right, in_cases}
use Rattle.gql_confluence.proofs.NoTwo.{no_two_at}
use Rattle.gql_confluence.proofs.Groups.{all_rec_at}
use Rattle.gql_confluence.proofs.Items.{alike, flat_append}
use Rattle.gql_confluence.proofs.Pruned.{blank, kept, pruned, AllOpen, Closed}
use Rattle.gql_confluence.proofs.SoFar.{shown, is_opened, IsSoFar, both_same, unseen_if, both_unseen, not_released, unseen_one, unseen_open}
use Rattle.gql_confluence.proofs.Agrees.{flat_none_in, flat_same_in, OwnerAgrees, earliest_agrees, carriers_agree, delivered_agrees, not_delivered}
use Rattle.gql_confluence.proofs.StreamSoFar.{Ascends, items_ascend, cut_run, items_cut, stream_same}
use Rattle.gql_confluence.proofs.Walks as walks
use Rattle.gql_confluence.proofs.Known as known
use Rattle.gql_confluence.proofs.ScopeSoFar as scopes

module _ (ended : List TaskWork) where
  abbrev p : Schedule
  p = by_events ended

  -- ---- a region with its streams

  told_streams : (items cut : List ItemRun) (rel : Time) (l : List Stream) → ((st : Stream) → In st l → shown (awaited_stream p items rel st) ≡ shown (awaited_stream p cut rel st))
      → map shown (filter is_opened (map (awaited_stream p items rel) l)) ≡ map shown (filter is_opened (map (awaited_stream p cut rel) l))
  told_streams items cut rel [] h = refl
  told_streams items cut rel (st ∷ l) h = by (has_time rel) (told_streams items cut rel l (λ su i. h su (inr i))) where
    by : (b : Bool) → map shown (filter is_opened (map (awaited_stream p items rel) l)) ≡ map shown (filter is_opened (map (awaited_stream p cut rel) l))
        → map shown (cond b (awaited_stream p items rel st ∷ filter is_opened (map (awaited_stream p items rel) l)) (filter is_opened (map (awaited_stream p items rel) l)))
        ≡ map shown (cond b (awaited_stream p cut rel st ∷ filter is_opened (map (awaited_stream p cut rel) l)) (filter is_opened (map (awaited_stream p cut rel) l)))
    by true rec = λ i. h st (inl refl) i ∷ rec i
    by false rec = rec

  one_same : (at : List Key) (r : RegionResult) (rel : Time) (way : Way) (inner : Branches) → ((st : Stream) → In st r.streams → Ascends (items_of_stream (items_run inner) st))
      → IsSoFar (one_comes p at r rel way (items_run inner)) (one_comes p at r rel way (items_run (pruned ended inner)))
  one_same at r rel way inner up = record {
    awaited =
        told_streams (items_run inner) (map (cut_run ended) (items_run inner)) rel r.streams (λ st i. stream_same ended (items_run inner) st rel (up st i))
        ∙ ap (λ (l : List ItemRun). map shown (filter is_opened (map (awaited_stream p l rel) r.streams))) (sym (items_cut ended inner));
    arrivals = refl;
  }

  -- ---- the fragments of a scope

  fragments_thin : (h l : Frag → List Awaited) (bs : Branches) → ((x : Frag) → In x (fragments_below (pruned ended bs)) → h x ≡ l x) → ((x : Frag) → In x (known.hidden_below ended bs) → h x ≡ [])
      → flat_map h (fragments_below bs) ≡ flat_map l (fragments_below (pruned ended bs))
  fragments_thin h l none k n = refl
  fragments_thin h l (more (Item st i) (grown r inner) bs) k n = fragments_thin h l bs k n
  fragments_thin h l (more (Fields g) (grown r inner) bs) k n =
      flat_append h r.fragments (fragments_below inner ++ fragments_below bs)
      ∙ (ap (λ (m : List Awaited). flat_map h r.fragments ++ m) (flat_append h (fragments_below inner) (fragments_below bs))
      ∙ by (has_ended ended (Fields g)) k n (λ a b. fragments_thin h l inner a b) (λ a b. fragments_thin h l bs a b))
    where
      by : (b : Bool) → ((x : Frag) → In x (fragments_below (more (Fields g) (kept b r (pruned ended inner)) (pruned ended bs))) → h x ≡ l x)
          → ((x : Frag) → In x (cond b (known.hidden_below ended inner) (r.fragments ++ fragments_below inner) ++ known.hidden_below ended bs) → h x ≡ [])
          → (((x : Frag) → In x (fragments_below (pruned ended inner)) → h x ≡ l x) → ((x : Frag) → In x (known.hidden_below ended inner) → h x ≡ []) → flat_map h (fragments_below inner) ≡ flat_map l (fragments_below (pruned ended inner)))
          → (((x : Frag) → In x (fragments_below (pruned ended bs)) → h x ≡ l x) → ((x : Frag) → In x (known.hidden_below ended bs) → h x ≡ []) → flat_map h (fragments_below bs) ≡ flat_map l (fragments_below (pruned ended bs)))
          → flat_map h r.fragments ++ (flat_map h (fragments_below inner) ++ flat_map h (fragments_below bs)) ≡ flat_map l (fragments_below (more (Fields g) (kept b r (pruned ended inner)) (pruned ended bs)))
      by true a z rec_a rec_b =
          let fi = fragments_below (pruned ended inner) in
          let fb = fragments_below (pruned ended bs) in
          let one = flat_same_in h l r.fragments (λ x i. a x (in_left x r.fragments (fi ++ fb) i)) in
          let two = rec_a (λ x i. a x (in_right x r.fragments (fi ++ fb) (in_left x fi fb i))) (λ x i. z x (in_left x (known.hidden_below ended inner) (known.hidden_below ended bs) i)) in
          let three = rec_b (λ x i. a x (in_right x r.fragments (fi ++ fb) (in_right x fi fb i))) (λ x i. z x (in_right x (known.hidden_below ended inner) (known.hidden_below ended bs) i)) in
          (λ i. one i ++ (two i ++ three i))
          ∙ sym (flat_append l r.fragments (fi ++ fb) ∙ ap (λ (m : List Awaited). flat_map l r.fragments ++ m) (flat_append l fi fb))
      by false a z rec_a rec_b =
          let hid = r.fragments ++ fragments_below inner in
          let one = flat_none_in h r.fragments (λ x i. z x (in_left x hid (known.hidden_below ended bs) (in_left x r.fragments (fragments_below inner) i))) in
          let two = flat_none_in h (fragments_below inner) (λ x i. z x (in_left x hid (known.hidden_below ended bs) (in_right x r.fragments (fragments_below inner) i))) in
          let three = rec_b a (λ x i. z x (in_right x hid (known.hidden_below ended bs) i)) in
          λ i. one i ++ (two i ++ three i)

  module _ (f : Forest) (wf : IsWellFormed f) where
    -- the regions of a scope lie in the forest
    abbrev pub Lies : RegionResult → Branches → List Key → Type 0
    Lies ra ba at = (z : Site) → In z (root_site at ra ba ∷ sites_below (scope_of (grown ra ba)) ra.fragments ba) → In z (sites f)

    -- the streams of a region have their items in order
    streams_ascend : (z : Site) → In z (sites f) → (bs : Branches) → z.works ≡ works_of bs → (st : Stream) → In st z.region.streams → Ascends (items_of_stream (items_run bs) st)
    streams_ascend z i bs e st j =
        items_ascend st z.region bs (no_two_at alike (λ (x : Site). x.region.streams) (sites f) wf.streams_apart z i) j (sym e ∙ all_rec_at (λ (x : Site). x.works ≡ tasks_of x.region) (sites f) wf.grows z i)

    -- branches of a scope, seen from the region above them, whose items these are
    pub record IsPart (ra : RegionResult) (ba : Branches) (y : Site) (bs : Branches) (runs : List ItemRun) : Type 0 where
      pub around : (z : Frag) → In z y.around → In z (scope_of (grown ra (pruned ended ba))).fragments
      pub fragments : (z : Frag) → In z (fragments_below (pruned ended bs)) → In z (scope_of (grown ra (pruned ended ba))).fragments
      pub groups : (x : GroupRun) → In x (groups_below bs) → In x (groups_below ba)
      pub so_far : (x : GroupRun) → In x (groups_below (pruned ended bs)) → In x (groups_below (pruned ended ba))
      pub items : (x : ItemRun) → In x (items_run bs) → In x runs

    -- the region of the branches is delivered so far at this time, or nothing of it is seen
    abbrev pub IsHere : Bool → Time → Bool → Time → Type 0
    IsHere here rel now then = ((here ≡ true) × (now ≡ true) × (rel ≡ then) × (has_time then ≡ true)) ⊎ ((now ≡ false) × ((here ≡ false) ⊎ (rel ≡ None)))

    -- ---- parts of a part

    module _ (ra : RegionResult) (ba : Branches) (y : Site) where
      pub part_inner : (g : Group) (r : RegionResult) (inner bs : Branches) (items : List ItemRun) (z : Site) → z.around ≡ r.fragments ++ y.around → has_ended ended (Fields g) ≡ true → IsPart ra ba y (more (Fields g) (grown r inner) bs) items → IsPart ra ba z inner (items_run inner)
      part_inner g r inner bs items z near e k =
          let fi = fragments_below (pruned ended inner) in
          let fb = fragments_below (pruned ended bs) in
          let known : (x : Frag) → In x (r.fragments ++ (fi ++ fb)) → In x (scope_of (grown ra (pruned ended ba))).fragments =
          λ x i. k.fragments x (subst (λ b. In x (fragments_below (more (Fields g) (kept b r (pruned ended inner)) (pruned ended bs)))) (sym e) i) in
          record {
            around = λ x i. elim (in_cases x r.fragments y.around (subst (λ (l : List Frag). In x l) near i)) as (λ _. In x (scope_of (grown ra (pruned ended ba))).fragments) [ inl j ↦ known x (in_left x r.fragments (fi ++ fb) j) | inr j ↦ k.around x j ];
            fragments = λ x i. known x (in_right x r.fragments (fi ++ fb) (in_left x fi fb i));
            groups = λ x i. k.groups x (inr (in_left x (groups_below inner) (groups_below bs) i));
            so_far = λ x i. k.so_far x (subst (λ b. In x (groups_below (more (Fields g) (kept b r (pruned ended inner)) (pruned ended bs)))) (sym e) (inr (in_left x (groups_below (pruned ended inner)) (groups_below (pruned ended bs)) i)));
            items = λ x i. i;
          }

      pub part_beside : (g : Group) (r : RegionResult) (inner bs : Branches) (items : List ItemRun) → IsPart ra ba y (more (Fields g) (grown r inner) bs) items → IsPart ra ba y bs items
      part_beside g r inner bs items k = record {
        around = k.around;
        fragments = λ x i. k.fragments x (fragment_by (has_ended ended (Fields g)) x i);
        groups = λ x i. k.groups x (inr (in_right x (groups_below inner) (groups_below bs) i));
        so_far = λ x i. k.so_far x (group_by (has_ended ended (Fields g)) x i);
        items = k.items;
      } where
        fragment_by : (b : Bool) (x : Frag) → In x (fragments_below (pruned ended bs)) → In x (fragments_below (more (Fields g) (kept b r (pruned ended inner)) (pruned ended bs)))
        fragment_by true x i = in_right x r.fragments (fragments_below (pruned ended inner) ++ fragments_below (pruned ended bs)) (in_right x (fragments_below (pruned ended inner)) (fragments_below (pruned ended bs)) i)
        fragment_by false x i = i

        group_by : (b : Bool) (x : GroupRun) → In x (groups_below (pruned ended bs)) → In x (groups_below (more (Fields g) (kept b r (pruned ended inner)) (pruned ended bs)))
        group_by true x i = inr (in_right x (groups_below (pruned ended inner)) (groups_below (pruned ended bs)) i)
        group_by false x i = inr i

      pub part_item : (st : Stream) (n : ℕ) (r : RegionResult) (inner bs : Branches) (items : List ItemRun) → IsPart ra ba y (more (Item st n) (grown r inner) bs) items → IsPart ra ba y bs items
      part_item st n r inner bs items k = record { around = k.around; fragments = k.fragments; groups = k.groups; so_far = k.so_far; items = λ x i. k.items x (inr i) }

    pub part_root : (ra : RegionResult) (ba : Branches) (at : List Key) → IsPart ra ba (root_site at ra ba) ba (items_run ba)
    part_root ra ba at = record {
      around = λ x i. in_left x ra.fragments (fragments_below (pruned ended ba)) i;
      fragments = λ x i. in_right x ra.fragments (fragments_below (pruned ended ba)) i;
      groups = λ x i. i;
      so_far = λ x i. i;
      items = λ x i. i;
    }

    -- ---- a group

    module _ (ra : RegionResult) (ba : Branches) (at : List Key) (lie : Lies ra ba at) (shut : Closed ended ba) (b : ℕ) where
      abbrev s : Scope
      s = scope_of (grown ra ba)

      abbrev t : Scope
      t = scope_of (grown ra (pruned ended ba))

      abbrev begun : Time
      begun = Some b

      module _ (y : Site) (g : Group) (r : RegionResult) (inner bs : Branches) (items : List ItemRun) (h : walks.IsAbove ra ba f wf at lie y (more (Fields g) (grown r inner) bs)) (k : IsPart ra ba y (more (Fields g) (grown r inner) bs) items) where
        agrees : (o : FragId) → In o g.owners → OwnerAgrees (is_ok s) (is_ok t) (done_at p s begun) (done_at p t begun) o
        agrees o i = scopes.owner_agrees ended ra ba f wf at lie shut b o (known.known_around ended ra ba f wf at lie y k.around o (walks.owner_around ra ba f wf at lie y g r inner bs h o i))

        released_same : released_at p s begun g ≡ released_at p t begun g
        released_same = earliest_agrees (is_ok s) (is_ok t) (done_at p s begun) (done_at p t begun) g.owners agrees

        delivered_too : is_delivered t g ≡ true → (is_delivered s g ≡ true) × (has_time (released_at p t begun g) ≡ true)
        delivered_too = delivered_agrees (is_ok s) (is_ok t) (done_at p s begun) (done_at p t begun) g.owners agrees

        not_released_yet : is_delivered t g ≡ false → released_at p s begun g ≡ None
        not_released_yet e = released_same ∙ not_delivered (is_ok s) (is_ok t) (done_at p s begun) (done_at p t begun) g.owners e

        pub group_here : IsHere (is_delivered s g) (released_at p s begun g) (is_delivered t g) (released_at p t begun g)
        group_here = by (is_delivered t g) refl where
          by : (c : Bool) → is_delivered t g ≡ c → IsHere (is_delivered s g) (released_at p s begun g) (is_delivered t g) (released_at p t begun g)
          by true e = let d = delivered_too e in inl (d.0, e, released_same, d.1)
          by false e = inr (e, inr (not_released_yet e))

        abbrev here_s : Course
        here_s = one_comes p g.path.keys r (released_at p s begun g) (by_owners g (carriers p s begun g)) (items_run inner)

        abbrev here_t : RegionResult → Branches → Course
        here_t z under = one_comes p g.path.keys z (released_at p t begun g) (by_owners g (carriers p t begun g)) (items_run under)

        group_same : IsSoFar (cond (is_delivered s g) here_s nothing_comes) (cond (is_delivered t g) (here_t r (pruned ended inner)) nothing_comes)
        group_same = by (is_delivered t g) refl where
          by : (c : Bool) → is_delivered t g ≡ c → IsSoFar (cond (is_delivered s g) here_s nothing_comes) (cond (is_delivered t g) (here_t r (pruned ended inner)) nothing_comes)
          by false e =
              subst (λ (c : Bool). IsSoFar (cond (is_delivered s g) here_s nothing_comes) (cond c (here_t r (pruned ended inner)) nothing_comes)) (sym e)
              (unseen_if (is_delivered s g) here_s (unseen_one ended g.path.keys r (released_at p s begun g) (by_owners g (carriers p s begun g)) (items_run inner) (not_released_yet e)))
          by true e =
              let d = delivered_too e in
              let same : carriers p s begun g ≡ carriers p t begun g =
              ap (λ (u : Time). filter (λ id. same_time (done_at p s begun id) u) (filter (is_ok s) g.owners)) released_same
              ∙ carriers_agree (is_ok s) (is_ok t) (done_at p s begun) (done_at p t begun) (released_at p t begun g) d.1 g.owners agrees in
              let left : cond (is_delivered s g) here_s nothing_comes ≡ one_comes p g.path.keys r (released_at p t begun g) (by_owners g (carriers p t begun g)) (items_run inner) =
              λ i. cond (d.0 i) (one_comes p g.path.keys r (released_same i) (by_owners g (same i)) (items_run inner)) nothing_comes in
              let w = walks.walks_inner ra ba f wf at lie y g r inner bs h in
              subst (λ (c : Course). IsSoFar c (cond (is_delivered t g) (here_t r (pruned ended inner)) nothing_comes)) (sym left)
              (subst (λ (c : Bool). IsSoFar (one_comes p g.path.keys r (released_at p t begun g) (by_owners g (carriers p t begun g)) (items_run inner)) (cond c (here_t r (pruned ended inner)) nothing_comes)) (sym e)
              (one_same g.path.keys r (released_at p t begun g) (by_owners g (carriers p t begun g)) inner (λ st i. streams_ascend (walks.group_site ra ba f wf at lie y g r inner) w.is_site inner refl st i)))

        -- a group with what is below it
        pub group_so_far : (c : Bool) → has_ended ended (Fields g) ≡ c → (has_ended ended (Fields g) ≡ false → AllOpen ended inner) → (here : Bool) (rel : Time) (now : Bool) (then : Time)
            → (has_ended ended (Fields g) ≡ true → IsSoFar (come_below p s begun (is_delivered s g) (released_at p s begun g) (items_run inner) inner) (come_below p t begun (is_delivered t g) (released_at p t begun g) (items_run (pruned ended inner)) (pruned ended inner)))
            → IsSoFar (come_below p s begun here rel items bs) (come_below p t begun now then (map (cut_run ended) items) (pruned ended bs))
            → IsSoFar (come_below p s begun here rel items (more (Fields g) (grown r inner) bs)) (come_below p t begun now then (map (cut_run ended) items) (more (Fields g) (kept c r (pruned ended inner)) (pruned ended bs)))
        group_so_far true e open' here rel now then rec_a rec_b =
            both_same (cond (is_delivered s g) here_s nothing_comes) (cond (is_delivered t g) (here_t r (pruned ended inner)) nothing_comes) _ _ group_same
            (both_same (come_below p s begun (is_delivered s g) (released_at p s begun g) (items_run inner) inner) _ (come_below p s begun here rel items bs) _ (rec_a e) rec_b)
        group_so_far false e open' here rel now then rec_a rec_b =
            let run : GroupRun = record { group = g; region = r } in
            let cut : GroupRun = record { group = g; region = blank } in
            let u : released_at p s begun g ≡ None = not_released ended s begun run (k.groups run (inl refl)) e in
            let v : released_at p t begun g ≡ None = not_released ended t begun cut (k.so_far cut (subst (λ c. In cut (groups_below (more (Fields g) (kept c r (pruned ended inner)) (pruned ended bs)))) (sym e) (inl refl))) e in
            both_same (cond (is_delivered s g) here_s nothing_comes) (cond (is_delivered t g) (here_t blank none) nothing_comes) _ _
            (both_unseen (cond (is_delivered s g) here_s nothing_comes) (cond (is_delivered t g) (here_t blank none) nothing_comes)
            (unseen_if (is_delivered s g) here_s (unseen_one ended g.path.keys r (released_at p s begun g) (by_owners g (carriers p s begun g)) (items_run inner) u))
            (unseen_if (is_delivered t g) (here_t blank none) (unseen_one ended g.path.keys blank (released_at p t begun g) (by_owners g (carriers p t begun g)) [] v)))
            (both_same (come_below p s begun (is_delivered s g) (released_at p s begun g) (items_run inner) inner) nothing_comes (come_below p s begun here rel items bs) _
            (unseen_open ended inner s begun (is_delivered s g) (released_at p s begun g) (items_run inner) u (open' e) (λ x i. k.groups x (inr (in_left x (groups_below inner) (groups_below bs) i))))
            rec_b)

      -- ---- a scope

      fragments_same : map shown (filter is_opened (awaited_fragments p s begun)) ≡ map shown (filter is_opened (awaited_fragments p t begun))
      fragments_same =
          let h = scopes.one_told ended s begun in
          let l = scopes.one_told ended t begun in
          scopes.told_each ended s begun s.fragments
          ∙ (flat_append h ra.fragments (fragments_below ba)
          ∙ ((λ i. flat_same_in h l ra.fragments (λ x j. scopes.known_told ended ra ba f wf at lie shut b x (in_left x ra.fragments (fragments_below (pruned ended ba)) j)) i
          ++ fragments_thin h l ba (λ x j. scopes.known_told ended ra ba f wf at lie shut b x (in_right x ra.fragments (fragments_below (pruned ended ba)) j)) (λ x j. scopes.hidden_untold ended ra ba f wf at lie shut b x j) i)
          ∙ (sym (flat_append l ra.fragments (fragments_below (pruned ended ba)))
          ∙ sym (scopes.told_each ended t begun t.fragments))))

      pub scope_so_far : (way : Way) (inside cut : Course) → IsSoFar inside cut → IsSoFar (scope_comes p at ra begun way (items_run ba) s inside) (scope_comes p at ra begun way (items_run (pruned ended ba)) t cut)
      scope_so_far way inside cut h =
          both_same (one_comes p at ra begun way (items_run ba)) (one_comes p at ra begun way (items_run (pruned ended ba))) _ _
          (one_same at ra begun way ba (λ st i. streams_ascend (root_site at ra ba) (lie (root_site at ra ba) (inl refl)) ba refl st i))
          (both_same inside cut (record { awaited = awaited_fragments p s begun; arrivals = [] }) (record { awaited = awaited_fragments p t begun; arrivals = [] }) h (record { awaited = fragments_same; arrivals = refl }))
