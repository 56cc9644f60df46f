-- Where all that is announced after some events is done, nothing else is to come: each later announcement waits for something that is announced.
use Rattle.std.proofs.Common.{◌≡◌, ◌⊎◌, inl, inr, ℕ, zero, suc, ◌≤◌, List, [], ◌∷◌, ◌++◌, map, length, refl, sym, subst, ◌∙◌, ap, Bool, true, false, cond, Option, Some, None, arith}
use Rattle.std.specs.Prelude.{filter, not, ◌&&◌}
use Rattle.std.specs.List.{list_all}
use Rattle.gql_tree.specs.declared.path.Key.{Key}
use Rattle.gql_tree.specs.declared.path.Key.TheVariants.{Index}
use Rattle.gql_tree.specs.declared.delivery.Frag.{Frag}
use Rattle.gql_tree.specs.declared.delivery.FragId.{FragId}
use Rattle.gql_tree.specs.declared.delivery.Stream.{Stream}
use Rattle.gql_tree.specs.declared.delivery.RegionResult.{RegionResult}
use Rattle.gql_tree.specs.declared.delivery.TaskWork.{TaskWork}
use Rattle.gql_tree.specs.declared.delivery.TaskWork.TheVariants.{Fields, Item}
use Rattle.gql_tree.specs.Keys.{same_fragment}
use Rattle.gql_tree.specs.Forest.{Forest, Branches, grown, none, more, tasks_of}
use Rattle.gql_tree.specs.Fate.{GroupRun, ItemRun, Scope, scope_of, groups_below, has_owner, parent_of, ancestors, groups_of, is_empty, above, is_ok, is_delivered, is_announced, items_run, is_item_delivered}
use Rattle.gql_tree.specs.Times.{Time, latest, latest_of, has_time}
use Rattle.gql_tree.specs.Course.{Schedule, Awaited, Way, at_first, by_owners, by_stream, Course, nothing_comes, one_comes, scope_comes, announced_below, announced_at, done_at, released_at, carriers, items_up_to, items_awaited, awaited_fragment, awaited_stream, awaited_fragments, item_at, come_below, course}
use Rattle.gql_tree.specs.Numbering.{event_of, by_events}
use Rattle.gql_tree.specs.WellFormed.{Site, works_of, root_site, sites_below, sites, comes_to_an_end, IsWellFormed}
use Rattle.gql_confluence.proofs.Parts.{In, in_left, in_right, in_cases}
use Rattle.gql_confluence.proofs.Lists.{and_left, to_filter, in_filter, in_map, to_map, all_at, to_all, any_at, to_any}
use Rattle.gql_confluence.proofs.Chains.{more_steps}
use Rattle.gql_confluence.proofs.Deciders.{same_fragment-refl}
use Rattle.gql_confluence.proofs.Groups.{all_rec_at}
use Rattle.gql_confluence.proofs.ItemsApart.{listed_item}
use Rattle.gql_confluence.proofs.Orderly.{awaited_in}
use Rattle.gql_confluence.proofs.Parents as parents
use Rattle.gql_confluence.proofs.Walks as walks
use Rattle.gql_confluence.proofs.Agrees.{timed_latest_of, timed_earliest_of}

-- ---- latest times that are there

latest_both : (t u : Time) → has_time (latest t u) ≡ true → (has_time t ≡ true) × (has_time u ≡ true)
latest_both None u h = absurd (cc)
latest_both (Some a) None h = absurd (cc)
latest_both (Some a) (Some b) h = (refl, refl)

pub latest_first : (t : Time) (us : List Time) → has_time (latest_of t us) ≡ true → has_time t ≡ true
latest_first t [] h = h
latest_first t (u ∷ us) h = latest_first t us (latest_both u (latest_of t us) h).1

latest_each : (t : Time) (us : List Time) → has_time (latest_of t us) ≡ true → (u : Time) → In u us → has_time u ≡ true
latest_each t [] h u i = absurd i
latest_each t (w ∷ us) h u (inl e) = ap has_time e ∙ (latest_both w (latest_of t us) h).0
latest_each t (w ∷ us) h u (inr i) = latest_each t us (latest_both w (latest_of t us) h).1 u i

-- done, if it is announced
abbrev Ends : Awaited → Type 0
Ends a = has_time a.announced ≡ true → has_time a.done ≡ true

abbrev AllEnd : List Awaited → Type 0
AllEnd l = (a : Awaited) → In a l → Ends a

-- all are announced
abbrev AllAnnounced : List Awaited → Type 0
AllAnnounced l = (a : Awaited) → In a l → has_time a.announced ≡ true

module _ (ended : List TaskWork) where
  abbrev p : Schedule
  p = by_events ended

  abbrev event : ItemRun → Time
  event x = event_of ended (Item x.stream x.index)

  -- a delivered item of a stream that is done has its time
  item_there : (items : List ItemRun) (st : Stream) (rel : Time) (n : ℕ) → has_time rel ≡ true → has_time (awaited_stream p items rel st).done ≡ true → is_item_delivered items st n ≡ true → has_time (item_at p items rel st n) ≡ true
  item_there items st rel n e done del = timed_latest_of rel (map event (items_up_to items st n)) e (λ u i.
      let m = in_map event u (items_up_to items st n) i in
      latest_each rel (map event (items_awaited items st)) done u (subst (λ (w : Time). In w (map event (items_awaited items st))) (sym m.2) (to_map event m.0 (items_awaited items st) (awaited_in ended st rel items done n del m.0 m.1))))

  module _ (f : Forest) (wf : IsWellFormed f) where
    abbrev Lies : RegionResult → Branches → List Key → Type 0
    Lies ra ba at = (z : Site) → In z (root_site at ra ba ∷ sites_below (scope_of (grown ra ba)) ra.fragments ba) → In z (sites f)

    -- ---- one scope

    module _ (ra : RegionResult) (ba : Branches) (at : List Key) (lie : Lies ra ba at) (b : ℕ) where
      abbrev s : Scope
      s = scope_of (grown ra ba)

      abbrev fs : List Frag
      fs = s.fragments

      abbrev begun : Time
      begun = Some b

      abbrev IsFragment : FragId → Type 0
      IsFragment = parents.IsFragment ra ba

      module _ (each : AllEnd (awaited_fragments p s begun)) where
        ends_at : (id : FragId) → IsFragment id → is_announced s id ≡ true → has_time (announced_at p s begun id) ≡ true → has_time (done_at p s begun id) ≡ true
        ends_at id (x, i, e) an = subst (λ (w : FragId). has_time (announced_at p s begun w) ≡ true → has_time (done_at p s begun w) ≡ true) e
            (each (awaited_fragment p s begun x) (to_map (awaited_fragment p s begun) x (filter (λ (z : Frag). is_announced s z.id) fs) (to_filter (λ (z : Frag). is_announced s z.id) x fs i (subst (λ (w : FragId). is_announced s w ≡ true) (sym e) an))))

        climb : (n : ℕ) (o : Option FragId) → n ≤ length fs → comes_to_an_end n fs o ≡ true → ((a : FragId) → In a (ancestors n fs o) → IsFragment a) → ((a : FragId) → In a (ancestors n fs o) → is_ok s a ≡ true) → has_time (announced_below p s begun (ancestors n fs o)) ≡ true
        climb zero o le h are ok = refl
        climb (suc n) None le h are ok = refl
        climb (suc n) (Some q) le h are ok = by (is_empty s q) refl (climb n (parent_of fs q) (omega arith) h (λ a i. are a (inr i)) (λ a i. ok a (inr i))) where
          same : ancestors n fs (parent_of fs q) ≡ above s q
          same = sym (more_steps fs n (length fs) (parent_of fs q) (let l : suc n ≤ length fs = le in omega arith) h)

          by : (c : Bool) → is_empty s q ≡ c → has_time (announced_below p s begun (ancestors n fs (parent_of fs q))) ≡ true
              → has_time (cond (is_empty s q) (announced_below p s begun (ancestors n fs (parent_of fs q))) (p.fragment_done q (announced_below p s begun (ancestors n fs (parent_of fs q))) (groups_of s q))) ≡ true
          by true e rec = ap (λ c. has_time (cond c (announced_below p s begun (ancestors n fs (parent_of fs q))) (p.fragment_done q (announced_below p s begun (ancestors n fs (parent_of fs q))) (groups_of s q)))) e ∙ rec
          by false e rec =
              let oks : list_all (is_ok s) (above s q) ≡ true = to_all (is_ok s) (above s q) (λ a i. ok a (inr (subst (λ (l : List FragId). In a l) (sym same) i))) in
              let an : is_announced s q ≡ true = rw (e, oks) refl in
              let done = ends_at q (are q (inl refl)) an (subst (λ (l : List FragId). has_time (announced_below p s begun l) ≡ true) same rec) in
              ap (λ c. has_time (cond c (announced_below p s begun (ancestors n fs (parent_of fs q))) (p.fragment_done q (announced_below p s begun (ancestors n fs (parent_of fs q))) (groups_of s q)))) e
              ∙ subst (λ (l : List FragId). has_time (p.fragment_done q (announced_below p s begun l) (groups_of s q)) ≡ true) (sym same) done

        all_ok : (id : FragId) → IsFragment id → list_all (is_ok s) (above s id) ≡ true → has_time (announced_at p s begun id) ≡ true
        all_ok id is oks = climb (length fs) (parent_of fs id) (omega arith) (parents.ends ra ba f wf at lie id is) (parents.above_are ra ba f wf at lie id) (all_at (is_ok s) (above s id) oks)

        fragments_open : AllAnnounced (awaited_fragments p s begun)
        fragments_open a i =
            let m = in_map (awaited_fragment p s begun) a (filter (λ (x : Frag). is_announced s x.id) fs) i in
            let k = in_filter (λ (x : Frag). is_announced s x.id) m.0 fs m.1 in
            ap (λ (x : Awaited). has_time x.announced) m.2 ∙ all_ok m.0.id (m.0, k.0, refl) (and_left (not (is_empty s m.0.id)) _ k.1).1

        -- a group that is delivered is released
        group_there : (x : GroupRun) → In x s.groups → ((o : FragId) → In o x.group.owners → IsFragment o) → is_delivered s x.group ≡ true → has_time (released_at p s begun x.group) ≡ true
        group_there x i are del =
            let o = any_at (is_ok s) x.group.owners del in
            let owner : has_owner o.0 x ≡ true = to_any (λ (w : FragId). same_fragment w o.0) x.group.owners o.0 o.1 (same_fragment-refl o.0) in
            let full : is_empty s o.0 ≡ false = parents.filled (groups_of s o.0) x (to_filter (has_owner o.0) x s.groups i owner) in
            let oks : list_all (is_ok s) (above s o.0) ≡ true = to_all (is_ok s) (above s o.0) (parents.ok_above ra ba f wf at lie o.0 (are o.0 o.1) o.2) in
            let an : is_announced s o.0 ≡ true = rw (full, oks) refl in
            timed_earliest_of (map (done_at p s begun) (filter (is_ok s) x.group.owners)) (done_at p s begun o.0)
            (to_map (done_at p s begun) o.0 (filter (is_ok s) x.group.owners) (to_filter (is_ok s) o.0 x.group.owners o.1 o.2)) (ends_at o.0 (are o.0 o.1) an (all_ok o.0 (are o.0 o.1) oks))

      -- what is announced of a scope, where that holds below its root
      scope_opens : (way : Way) (inside : Course) → (AllEnd (awaited_fragments p s begun) → AllEnd inside.awaited → ((st : Stream) → In st ra.streams → Ends (awaited_stream p (items_run ba) begun st)) → AllAnnounced inside.awaited)
          → AllEnd (scope_comes p at ra begun way (items_run ba) s inside).awaited → AllAnnounced (scope_comes p at ra begun way (items_run ba) s inside).awaited
      scope_opens way inside rec each a i = by (in_cases a streams (inside.awaited ++ frags) i) where
        streams : List Awaited
        streams = map (awaited_stream p (items_run ba) begun) ra.streams

        frags : List Awaited
        frags = awaited_fragments p s begun

        each_fragment : AllEnd (awaited_fragments p s begun)
        each_fragment x j = each x (in_right x streams (inside.awaited ++ frags) (in_right x inside.awaited frags j))

        each_inside : AllEnd inside.awaited
        each_inside x j = each x (in_right x streams (inside.awaited ++ frags) (in_left x inside.awaited frags j))

        each_stream : (st : Stream) → In st ra.streams → Ends (awaited_stream p (items_run ba) begun st)
        each_stream st j = each (awaited_stream p (items_run ba) begun st) (in_left (awaited_stream p (items_run ba) begun st) streams (inside.awaited ++ frags) (to_map (awaited_stream p (items_run ba) begun) st ra.streams j))

        by : In a (map (awaited_stream p (items_run ba) begun) ra.streams) ⊎ In a (inside.awaited ++ awaited_fragments p s begun) → has_time a.announced ≡ true
        by (inl j) = ap (λ (x : Awaited). has_time x.announced) (in_map (awaited_stream p (items_run ba) begun) a ra.streams j).2
        by (inr j) = elim (in_cases a inside.awaited (awaited_fragments p s begun) j) as (λ _. has_time a.announced ≡ true) [ inl k ↦ rec each_fragment each_inside each_stream a k | inr k ↦ fragments_open each_fragment a k ]

    -- ---- below a region

    in_if : (c : Bool) (k : Course) (a : Awaited) → In a (cond c k nothing_comes).awaited → (c ≡ true) × In a k.awaited
    in_if true k a i = (refl, i)
    in_if false k a i = absurd i

    to_if : (c : Bool) (k : Course) (a : Awaited) → c ≡ true → In a k.awaited → In a (cond c k nothing_comes).awaited
    to_if true k a e i = i
    to_if false k a e i = absurd (cc)

    -- an item of a region is of one of its streams
    stream_in : (z : Site) → In z (sites f) → (st : Stream) (n : ℕ) → In (Item st n) z.works → In st z.region.streams
    stream_in z i st n j = (listed_item z.region st n (subst (λ (l : List TaskWork). In (Item st n) l) (all_rec_at (λ (y : Site). y.works ≡ tasks_of y.region) (sites f) wf.grows z i) j)).0

    opens_below : (bs : Branches) (ra : RegionResult) (ba : Branches) (at : List Key) (lie : Lies ra ba at) (b : ℕ) (y : Site) → walks.IsAbove ra ba f wf at lie y bs → ((x : GroupRun) → In x (groups_below bs) → In x (groups_below ba))
        → AllEnd (awaited_fragments p (scope_of (grown ra ba)) (Some b)) → (here : Bool) (rel : Time) (items : List ItemRun)
        → (here ≡ true → (has_time rel ≡ true) × ((st : Stream) (n : ℕ) → In (Item st n) (works_of bs) → Ends (awaited_stream p items rel st)))
        → AllEnd (come_below p (scope_of (grown ra ba)) (Some b) here rel items bs).awaited → AllAnnounced (come_below p (scope_of (grown ra ba)) (Some b) here rel items bs).awaited
    opens_below none ra ba at lie b y h sub frags here rel items streams each a i = absurd i
    opens_below (more (Fields g) (grown r inner) bs) ra ba at lie b y h sub frags here rel items streams each a i =
        by (in_cases a first (second ++ third) i)
        (opens_below inner ra ba at lie b (walks.group_site ra ba f wf at lie y g r inner) (walks.walks_inner ra ba f wf at lie y g r inner bs h) (λ x j. sub x (inr (in_left x (groups_below inner) (groups_below bs) j)))
        frags (is_delivered s g) (released_at p s (Some b) g) (items_run inner) (λ e. (there e, λ st n j. own_streams e st n j)) (λ x j. each x (in_right x first (second ++ third) (in_left x second third j))) a)
        (opens_below bs ra ba at lie b y (walks.walks_beside ra ba f wf at lie y g r inner bs h) (λ x j. sub x (inr (in_right x (groups_below inner) (groups_below bs) j)))
        frags here rel items (λ e. let k = streams e in (k.0, λ st n j. k.1 st n (inr j))) (λ x j. each x (in_right x first (second ++ third) (in_right x second third j))) a)
      where
        s : Scope
        s = scope_of (grown ra ba)

        here_course : Course
        here_course = one_comes p g.path.keys r (released_at p (scope_of (grown ra ba)) (Some b) g) (by_owners g (carriers p (scope_of (grown ra ba)) (Some b) g)) (items_run inner)

        first : List Awaited
        first = (cond (is_delivered (scope_of (grown ra ba)) g) here_course nothing_comes).awaited

        second : List Awaited
        second = (come_below p (scope_of (grown ra ba)) (Some b) (is_delivered (scope_of (grown ra ba)) g) (released_at p (scope_of (grown ra ba)) (Some b) g) (items_run inner) inner).awaited

        third : List Awaited
        third = (come_below p (scope_of (grown ra ba)) (Some b) here rel items bs).awaited

        there : is_delivered (scope_of (grown ra ba)) g ≡ true → has_time (released_at p (scope_of (grown ra ba)) (Some b) g) ≡ true
        there e = group_there ra ba at lie b frags (record { group = g; region = r }) (sub (record { group = g; region = r }) (inl refl)) (walks.owner_is ra ba f wf at lie y g r inner bs h) e

        own_streams : is_delivered (scope_of (grown ra ba)) g ≡ true → (st : Stream) (n : ℕ) → In (Item st n) (works_of inner) → Ends (awaited_stream p (items_run inner) (released_at p (scope_of (grown ra ba)) (Some b) g) st)
        own_streams e st n j =
            let w = walks.walks_inner ra ba f wf at lie y g r inner bs h in
            let z = awaited_stream p (items_run inner) (released_at p (scope_of (grown ra ba)) (Some b) g) st in
            each z (in_left z first (second ++ third) (to_if (is_delivered (scope_of (grown ra ba)) g) here_course z e (to_map (awaited_stream p (items_run inner) (released_at p (scope_of (grown ra ba)) (Some b) g)) st r.streams (stream_in (walks.group_site ra ba f wf at lie y g r inner) w.is_site st n j))))

        by : In a first ⊎ In a (second ++ third) → (In a second → has_time a.announced ≡ true) → (In a third → has_time a.announced ≡ true) → has_time a.announced ≡ true
        by (inl j) rec_a rec_b =
            let k = in_if (is_delivered (scope_of (grown ra ba)) g) here_course a j in
            ap (λ (x : Awaited). has_time x.announced) (in_map (awaited_stream p (items_run inner) (released_at p (scope_of (grown ra ba)) (Some b) g)) a r.streams k.1).2 ∙ there k.0
        by (inr j) rec_a rec_b = elim (in_cases a second third j) as (λ _. has_time a.announced ≡ true) [ inl k ↦ rec_a k | inr k ↦ rec_b k ]
    opens_below (more (Item st n) (grown r inner) bs) ra ba at lie b y h sub frags here rel items streams each a i =
        by (in_cases a first second i)
        (λ u. scope_opens r inner (st.path.keys ++ Index n ∷ []) low u (by_stream st) (come_below p (scope_of (grown r inner)) (Some u) true (Some u) (items_run inner) inner)
        (λ own_frags inside own. opens_below inner r inner (st.path.keys ++ Index n ∷ []) low u (root_site (st.path.keys ++ Index n ∷ []) r inner) (walks.walks_root r inner f wf (st.path.keys ++ Index n ∷ []) low) (λ x j. j) own_frags true (Some u) (items_run inner)
        (λ e. (refl, λ su m j. own su (stream_in (root_site (st.path.keys ++ Index n ∷ []) r inner) (low (root_site (st.path.keys ++ Index n ∷ []) r inner) (inl refl)) su m j))) inside))
        (opens_below bs ra ba at lie b y (walks.walks_item ra ba f wf at lie y st n r inner bs h) sub frags here rel items (λ e. let k = streams e in (k.0, λ su m j. k.1 su m (inr j))) (λ x j. each x (in_right x first second j)) a)
      where
        path : List Key
        path = st.path.keys ++ Index n ∷ []

        low : Lies r inner (st.path.keys ++ Index n ∷ [])
        low z (inl e) = h.below z (inl e)
        low z (inr j) = h.below z (inr (in_left z (sites_below (scope_of (grown r inner)) r.fragments inner) (sites_below (scope_of (grown ra ba)) y.around bs) j))

        whole : Time → Course
        whole u = scope_comes p (st.path.keys ++ Index n ∷ []) r u (by_stream st) (items_run inner) (scope_of (grown r inner)) (come_below p (scope_of (grown r inner)) u true u (items_run inner) inner)

        first : List Awaited
        first = (cond (here && is_item_delivered items st n) (whole (item_at p items rel st n)) nothing_comes).awaited

        second : List Awaited
        second = (come_below p (scope_of (grown ra ba)) (Some b) here rel items bs).awaited

        at_time : (t : Time) → has_time t ≡ true → ((u : ℕ) → AllEnd (whole (Some u)).awaited → AllAnnounced (whole (Some u)).awaited) → AllEnd (whole t).awaited → AllAnnounced (whole t).awaited
        at_time None e rec = absurd (cc)
        at_time (Some u) e rec = rec u

        by : In a first ⊎ In a second → ((u : ℕ) → AllEnd (whole (Some u)).awaited → AllAnnounced (whole (Some u)).awaited) → (In a second → has_time a.announced ≡ true) → has_time a.announced ≡ true
        by (inr j) rec_a rec_b = rec_b j
        by (inl j) rec_a rec_b =
            let k = in_if (here && is_item_delivered items st n) (whole (item_at p items rel st n)) a j in
            let d = and_left here (is_item_delivered items st n) k.0 in
            let v = streams d.0 in
            let t = item_there items st rel n v.0 (v.1 st n (inl refl) v.0) d.1 in
            at_time (item_at p items rel st n) t rec_a (λ x l. each x (in_left x first second (to_if (here && is_item_delivered items st n) (whole (item_at p items rel st n)) x k.0 l))) a k.1

  -- ---- from the initial region on

  pub all_open : (r : RegionResult) (bs : Branches) → IsWellFormed (grown r bs) → AllEnd (course p (grown r bs)).awaited → AllAnnounced (course p (grown r bs)).awaited
  all_open r bs wf = scope_opens (grown r bs) wf r bs [] (λ z i. i) 0 at_first (come_below p (scope_of (grown r bs)) (Some 0) true (Some 0) (items_run bs) bs) (λ own_frags inside own.
      opens_below (grown r bs) wf bs r bs [] (λ z i. i) 0 (root_site [] r bs) (walks.walks_root r bs (grown r bs) wf [] (λ z i. i)) (λ x j. j) own_frags true (Some 0) (items_run bs) (λ e. (refl, λ st n j. own st (stream_in (grown r bs) wf (root_site [] r bs) (inl refl) st n j))) inside)
