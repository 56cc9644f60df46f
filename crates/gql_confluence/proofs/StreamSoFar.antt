-- The items of a region's streams, and the same where those that haven't ended have no region yet.
use Rattle.std.proofs.Common.{◌≡◌, ◌⊎◌, inl, inr, ℕ, zero, suc, ◌<◌, ◌≤◌, ◌+◌, List, [], ◌∷◌, map, refl, sym, subst, ◌∙◌, ap, Bool, true, false, cond, Some, None, arith}
use Rattle.std.specs.Prelude.{filter, find, option_map, nat_le, nat_lt, not, ◌&&◌, ◌||◌}
use Rattle.std.specs.List.{list_all}
use Rattle.std.proofs.lemmas.Bool.Decides.{nat_tests}
use Rattle.gql_tree.specs.declared.delivery.Stream.{Stream}
use Rattle.gql_tree.specs.declared.delivery.RegionResult.{RegionResult}
use Rattle.gql_tree.specs.declared.delivery.TaskWork.{TaskWork}
use Rattle.gql_tree.specs.declared.delivery.TaskWork.TheVariants.{Fields, Item}
use Rattle.gql_tree.specs.Keys.{same_lists, same_key}
use Rattle.gql_tree.specs.Forest.{Branches, grown, none, more, numbers, tasks_of}
use Rattle.gql_tree.specs.Fate.{is_good, ItemRun, items_run, same_path, items_of_stream, is_item_delivered}
use Rattle.gql_tree.specs.Merged.{first_failure}
use Rattle.gql_tree.specs.Times.{Time, latest_of, has_time}
use Rattle.gql_tree.specs.Course.{Schedule, items_up_to, items_awaited, faults_or_none, awaited_stream, item_at}
use Rattle.gql_tree.specs.Numbering.{event_of, by_events}
use Rattle.gql_tree.specs.WellFormed.{works_of, no_two}
use Rattle.gql_tree.specs.Causal.{has_ended}
use Rattle.gql_confluence.proofs.Parts.{In}
use Rattle.gql_confluence.proofs.Lists.{to_filter, in_filter, in_map, to_map, all_at, to_all}
use Rattle.gql_confluence.proofs.Halves.{filter_mapped}
use Rattle.gql_confluence.proofs.Items.{alike, is_work, works_are, head_is, runs_from}
use Rattle.gql_confluence.proofs.Pruned.{blank, kept, pruned, event_there, no_event}
use Rattle.gql_confluence.proofs.SoFar.{shown, latest_without}
use Rattle.gql_confluence.proofs.Agrees.{one_fails, timed_latest_of}

-- each index is greater than those before
abbrev pub Ascends : List ItemRun → Type 0
Ascends [] = Unit {0}
Ascends (x ∷ l) = ((y : ItemRun) → In y l → x.index < y.index) × Ascends l

module _ (st : Stream) where
  ascends : (n k : ℕ) (bs : Branches) → filter (is_work st.path.keys) (works_of bs) ≡ map (Item st) (numbers n k) → Ascends (items_of_stream (items_run bs) st)
  ascends n k none h = tt
  ascends n k (more (Fields g) f bs) h = ascends n k bs h
  ascends n k (more (Item su m) (grown r inner) bs) h = by (same_lists same_key su.path.keys st.path.keys) h (λ n' k' e. ascends n' k' bs e) where
    by : (q : Bool) → cond q (Item su m ∷ filter (is_work st.path.keys) (works_of bs)) (filter (is_work st.path.keys) (works_of bs)) ≡ map (Item st) (numbers n k)
        → ((n' k' : ℕ) → filter (is_work st.path.keys) (works_of bs) ≡ map (Item st) (numbers n' k') → Ascends (items_of_stream (items_run bs) st))
        → Ascends (cond q (record { stream = su; index = m; region = r } ∷ items_of_stream (items_run bs) st) (items_of_stream (items_run bs) st))
    by false h' rec = rec n k h'
    by true h' rec =
        let w = head_is st.path.keys st refl su m n k (filter (is_work st.path.keys) (works_of bs)) h' in
        (λ y i. let a = runs_from st (n + 1) w.2 bs w.3 y i in let b : m ≡ n = w.1 in omega arith, rec (n + 1) w.2 w.3)

  -- the items of a region's stream stand in the order of their indices
  pub items_ascend : (r : RegionResult) (bs : Branches) → no_two alike r.streams ≡ true → In st r.streams → works_of bs ≡ tasks_of r → Ascends (items_of_stream (items_run bs) st)
  items_ascend r bs h i e = ascends st.first _ bs (ap (filter (is_work st.path.keys)) e ∙ works_are st.path.keys st refl r h i)

filter_same_in : {X : Type 0} (p q : X → Bool) (xs : List X) → ((x : X) → In x xs → p x ≡ q x) → filter p xs ≡ filter q xs
filter_same_in p q [] h = refl
filter_same_in p q (x ∷ xs) h = λ i. cond (h x (inl refl) i) (x ∷ filter_same_in p q xs (λ y k. h y (inr k)) i) (filter_same_in p q xs (λ y k. h y (inr k)) i)

all_mapped : {X Y : Type 0} (p : Y → Bool) (g : X → Y) (xs : List X) → list_all p (map g xs) ≡ list_all (λ x. p (g x)) xs
all_mapped p g [] = refl
all_mapped p g (x ∷ xs) = ap (λ b. p (g x) && b) (all_mapped p g xs)

map_map : {X Y Z : Type 0} (f : Y → Z) (g : X → Y) (xs : List X) → map f (map g xs) ≡ map (λ x. f (g x)) xs
map_map f g [] = refl
map_map f g (x ∷ xs) = ap (λ l. f (g x) ∷ l) (map_map f g xs)

or_right : (a b : Bool) → b ≡ true → (a || b) ≡ true
or_right true b e = refl
or_right false b e = e

or_left : (a b : Bool) → a ≡ true → (a || b) ≡ true
or_left a b e = ap (λ c. c || b) e

neither : (a b : Bool) → (a || b) ≡ false → (a ≡ false) × (b ≡ false)
neither true b e = absurd (cc)
neither false b e = (refl, e)

module _ (ended : List TaskWork) where
  abbrev p : Schedule
  p = by_events ended

  abbrev item_ended : ItemRun → Bool
  item_ended x = has_ended ended (Item x.stream x.index)

  abbrev event : ItemRun → Time
  event x = event_of ended (Item x.stream x.index)

  -- the item so far
  abbrev pub cut_run : ItemRun → ItemRun
  cut_run x = record { stream = x.stream; index = x.index; region = cond (has_ended ended (Item x.stream x.index)) x.region blank }

  pub items_cut : (bs : Branches) → items_run (pruned ended bs) ≡ map cut_run (items_run bs)
  items_cut none = refl
  items_cut (more (Fields g) (grown r inner) bs) = items_cut bs
  items_cut (more (Item st n) (grown r inner) bs) = by (has_ended ended (Item st n)) (items_cut bs) where
    by : (b : Bool) → items_run (pruned ended bs) ≡ map cut_run (items_run bs)
        → items_run (more (Item st n) (kept b r (pruned ended inner)) (pruned ended bs)) ≡ record { stream = st; index = n; region = cond b r blank } ∷ map cut_run (items_run bs)
    by true e = ap (λ (l : List ItemRun). record { stream = st; index = n; region = r } ∷ l) e
    by false e = ap (λ (l : List ItemRun). record { stream = st; index = n; region = blank } ∷ l) e

  abbrev good_so_far : ItemRun → Bool
  good_so_far x = is_good (cond (has_ended ended (Item x.stream x.index)) x.region blank)

  good_then : (x : ItemRun) → good_so_far x ≡ true → (item_ended x ≡ true) × (is_good x.region ≡ true)
  good_then x e = by (item_ended x) e where
    by : (b : Bool) → is_good (cond b x.region blank) ≡ true → (b ≡ true) × (is_good x.region ≡ true)
    by true k = (refl, k)
    by false k = absurd (cc)

  to_good : (x : ItemRun) → item_ended x ≡ true → is_good x.region ≡ true → good_so_far x ≡ true
  to_good x e g = ap (λ b. is_good (cond b x.region blank)) e ∙ g

  -- ---- the items of one stream

  module _ (items : List ItemRun) (st : Stream) where
    abbrev own : List ItemRun
    own = items_of_stream items st

    own_cut : items_of_stream (map cut_run items) st ≡ map cut_run own
    own_cut = filter_mapped cut_run (λ x. same_path x.stream.path st.path) (λ x. same_path x.stream.path st.path) (λ x. refl) items

    -- they are released at the same time
    pub item_time : (rel : Time) (n : ℕ) → item_at p (map cut_run items) rel st n ≡ item_at p items rel st n
    item_time rel n = ap (latest_of rel)
        (ap (λ (l : List ItemRun). map event (filter (λ x. nat_le x.index n) l)) own_cut
        ∙ (ap (map event) (filter_mapped cut_run (λ x. nat_le x.index n) (λ x. nat_le x.index n) (λ x. refl) own)
        ∙ map_map event cut_run (filter (λ x. nat_le x.index n) own)))

    delivered_cut : (n : ℕ) → is_item_delivered (map cut_run items) st n ≡ list_all (λ x. nat_lt n x.index || good_so_far x) own
    delivered_cut n = ap (list_all (λ x. nat_lt n x.index || is_good x.region)) own_cut ∙ all_mapped (λ x. nat_lt n x.index || is_good x.region) cut_run own

    -- an item that is delivered so far is delivered, and has its time
    pub item_delivered : (rel : Time) (n : ℕ) → has_time rel ≡ true → is_item_delivered (map cut_run items) st n ≡ true → (is_item_delivered items st n ≡ true) × (has_time (item_at p items rel st n) ≡ true)
    item_delivered rel n e h = (
      to_all (λ x. nat_lt n x.index || is_good x.region) own (λ x i. by x (nat_lt n x.index) refl (at_each x i)),
      timed_latest_of rel (map event (items_up_to items st n)) e (λ u i.
          let m = in_map event u (items_up_to items st n) i in
          let k = in_filter (λ x. nat_le x.index n) m.0 own m.1 in
          ap has_time m.2 ∙ (event_there 0 ended (Item m.0.stream m.0.index) ∙ early m.0 k.1 (at_each m.0 k.0))),
    ) where
      at_each : (x : ItemRun) → In x own → (nat_lt n x.index || good_so_far x) ≡ true
      at_each x i = all_at (λ y. nat_lt n y.index || good_so_far y) own (sym (delivered_cut n) ∙ h) x i

      by : (x : ItemRun) (b : Bool) → nat_lt n x.index ≡ b → (nat_lt n x.index || good_so_far x) ≡ true → (nat_lt n x.index || is_good x.region) ≡ true
      by x true f k = or_left (nat_lt n x.index) _ f
      by x false f k = or_right (nat_lt n x.index) _ (good_then x (ap (λ c. c || good_so_far x) (sym f) ∙ k)).1

      early : (x : ItemRun) → nat_le x.index n ≡ true → (nat_lt n x.index || good_so_far x) ≡ true → item_ended x ≡ true
      early x f k =
          let g : nat_lt n x.index ≡ false = grind (arith, nat_tests) in
          (good_then x (ap (λ c. c || good_so_far x) (sym g) ∙ k)).0

    -- and one that isn't is not delivered, or has no time
    pub item_not_delivered : (rel : Time) (n : ℕ) → is_item_delivered (map cut_run items) st n ≡ false → (is_item_delivered items st n ≡ false) ⊎ (item_at p items rel st n ≡ None)
    item_not_delivered rel n h = by (item_ended x.0) refl where
      x : (y : ItemRun) × In y own × ((nat_lt n y.index || good_so_far y) ≡ false)
      x = one_fails (λ y. nat_lt n y.index || good_so_far y) own (sym (delivered_cut n) ∙ h)

      no : (nat_lt n x.0.index ≡ false) × (good_so_far x.0 ≡ false)
      no = neither (nat_lt n x.0.index) (good_so_far x.0) x.2

      up_to : nat_lt n x.0.index ≡ false → nat_le x.0.index n ≡ true
      up_to e = grind (arith, nat_tests)

      by : (b : Bool) → item_ended x.0 ≡ b → (is_item_delivered items st n ≡ false) ⊎ (item_at p items rel st n ≡ None)
      by false e = inr (latest_without rel (map event (items_up_to items st n)) (subst (λ (t : Time). In t (map event (items_up_to items st n))) (no_event ended (Item x.0.stream x.0.index) e) (to_map event x.0 (items_up_to items st n) (to_filter (λ y. nat_le y.index n) x.0 own x.1 (up_to no.0)))))
      by true e = inl (none_fails (λ y. nat_lt n y.index || is_good y.region) own x.0 x.1 (both (nat_lt n x.0.index) (is_good x.0.region) no.0 (sym (ap (λ b. is_good (cond b x.0.region blank)) e) ∙ no.1))) where
        both : (a b : Bool) → a ≡ false → b ≡ false → (a || b) ≡ false
        both a b f g = rw (f, g) refl

        none_fails : (q : ItemRun → Bool) (xs : List ItemRun) (y : ItemRun) → In y xs → q y ≡ false → list_all q xs ≡ false
        none_fails q xs y i f = test (list_all q xs) refl where
          test : (b : Bool) → list_all q xs ≡ b → list_all q xs ≡ false
          test false k = k
          test true k = let z = all_at q xs k y i in absurd (cc)

    -- ---- what the stream waits for

    abbrev waits : ItemRun → Bool
    waits x = list_all (λ y. nat_le x.index y.index || is_good y.region) own

    abbrev waits_so_far : ItemRun → Bool
    waits_so_far x = list_all (λ y. nat_le x.index y.index || good_so_far y) own

    awaited_cut : map event (items_awaited (map cut_run items) st) ≡ map event (filter waits_so_far own)
    awaited_cut =
        ap (λ (l : List ItemRun). map event (filter (λ x. list_all (λ y. nat_le x.index y.index || is_good y.region) l) l)) own_cut
        ∙ (ap (map event) (filter_mapped cut_run (λ x. list_all (λ y. nat_le x.index y.index || is_good y.region) (map cut_run own)) waits_so_far (λ x. all_mapped (λ y. nat_le x.index y.index || is_good y.region) cut_run own) own)
        ∙ map_map event cut_run (filter waits_so_far own))

    waits_then : (x : ItemRun) → waits_so_far x ≡ true → waits x ≡ true
    waits_then x h = to_all (λ y. nat_le x.index y.index || is_good y.region) own (λ y i. by y (nat_le x.index y.index) refl (all_at (λ z. nat_le x.index z.index || good_so_far z) own h y i)) where
      by : (y : ItemRun) (b : Bool) → nat_le x.index y.index ≡ b → (nat_le x.index y.index || good_so_far y) ≡ true → (nat_le x.index y.index || is_good y.region) ≡ true
      by y true f k = or_left (nat_le x.index y.index) _ f
      by y false f k = or_right (nat_le x.index y.index) _ (good_then y (ap (λ c. c || good_so_far y) (sym f) ∙ k)).1

    module _ (all : list_all (λ x. item_ended x) (filter waits_so_far own) ≡ true) where
      -- what the stream waits for so far has ended
      waited_ended : (x : ItemRun) → In x own → waits_so_far x ≡ true → item_ended x ≡ true
      waited_ended x i h = all_at (λ y. item_ended y) (filter waits_so_far own) all x (to_filter waits_so_far x own i h)

      good_by : (x : ItemRun) → waits x ≡ true → (y : ItemRun) → In y own → nat_le x.index y.index ≡ false → ((z : ItemRun) → In z own → nat_le y.index z.index ≡ false → good_so_far z ≡ true) → good_so_far y ≡ true
      good_by x h y i f lower = to_good y (waited_ended y i (to_all (λ z. nat_le y.index z.index || good_so_far z) own (λ z j. by z j (nat_le y.index z.index) refl))) good where
        good : is_good y.region ≡ true
        good = ap (λ c. c || is_good y.region) (sym f) ∙ all_at (λ w. nat_le x.index w.index || is_good w.region) own h y i

        by : (z : ItemRun) → In z own → (b : Bool) → nat_le y.index z.index ≡ b → (nat_le y.index z.index || good_so_far z) ≡ true
        by z j true g = or_left (nat_le y.index z.index) _ g
        by z j false g = or_right (nat_le y.index z.index) _ (lower z j g)

      -- items before one that is waited for are good so far
      good_before : (x : ItemRun) → waits x ≡ true → (n : ℕ) (y : ItemRun) → In y own → y.index ≤ n → nat_le x.index y.index ≡ false → good_so_far y ≡ true
      good_before x h zero y i le f = good_by x h y i f (λ z j g.
          let a : y.index ≤ z.index = omega arith in
          let b : nat_le y.index z.index ≡ true = grind (arith, nat_tests, a) in
          absurd (cc))
      good_before x h (suc n) y i le f = good_by x h y i f (λ z j g.
          let a : z.index < y.index = grind (arith, nat_tests, g) in
          let b : nat_le x.index z.index ≡ false = grind (arith, nat_tests, a, f) in
          good_before x h n z j (omega arith) b)

      waits_back : (x : ItemRun) → waits x ≡ true → waits_so_far x ≡ true
      waits_back x h = to_all (λ y. nat_le x.index y.index || good_so_far y) own (λ y i. by y i (nat_le x.index y.index) refl) where
        by : (y : ItemRun) → In y own → (b : Bool) → nat_le x.index y.index ≡ b → (nat_le x.index y.index || good_so_far y) ≡ true
        by y i true g = or_left (nat_le x.index y.index) _ g
        by y i false g = or_right (nat_le x.index y.index) _ (good_before x h y.index y i (omega arith) g)

      waits_same : (x : ItemRun) → waits x ≡ waits_so_far x
      waits_same x = by (waits x) (waits_so_far x) refl refl where
        by : (a b : Bool) → waits x ≡ a → waits_so_far x ≡ b → waits x ≡ waits_so_far x
        by true b e f = e ∙ sym (waits_back x e)
        by false false e f = e ∙ sym f
        by false true e f = let k = waits_then x f in absurd (cc)

      -- the first failure is the same
      first_same : (l : List ItemRun) → ((x : ItemRun) → In x l → In x own) → Ascends l → ((y : ItemRun) → In y own → In y l ⊎ (good_so_far y ≡ true)) → first_failure l ≡ first_failure (map cut_run l)
      first_same [] sub up before = refl
      first_same (x ∷ l) sub up before =
          by (is_good x.region) refl (λ g. first_same l (λ y i. sub y (inr i)) up.1 (λ y i. past y (before y i) g))
          ∙ ap (λ (r : RegionResult). option_map (λ (y : ItemRun). y.region.faults) (cond (not (is_good r)) (Some (record { stream = x.stream; index = x.index; region = r })) (find (λ y. not (is_good y.region)) (map cut_run l)))) (sym there)
        where
          first_waits : waits_so_far x ≡ true
          first_waits = to_all (λ y. nat_le x.index y.index || good_so_far y) own (λ y i. one y (before y i)) where
            one : (y : ItemRun) → In y (x ∷ l) ⊎ (good_so_far y ≡ true) → (nat_le x.index y.index || good_so_far y) ≡ true
            one y (inr g) = or_right (nat_le x.index y.index) _ g
            one y (inl (inl e)) = or_left (nat_le x.index y.index) _ (let s : y.index ≡ x.index = ap (λ (z : ItemRun). z.index) e in grind (arith, nat_tests, s))
            one y (inl (inr i)) = or_left (nat_le x.index y.index) _ (let s : x.index < y.index = up.0 y i in grind (arith, nat_tests, s))

          has : item_ended x ≡ true
          has = waited_ended x (sub x (inl refl)) first_waits

          there : cond (has_ended ended (Item x.stream x.index)) x.region blank ≡ x.region
          there = ap (λ b. cond b x.region blank) has

          past : (y : ItemRun) → In y (x ∷ l) ⊎ (good_so_far y ≡ true) → is_good x.region ≡ true → In y l ⊎ (good_so_far y ≡ true)
          past y (inr k) g = inr k
          past y (inl (inr i)) g = inl i
          past y (inl (inl e)) g = inr (ap good_so_far e ∙ to_good x has g)

          by : (b : Bool) → is_good x.region ≡ b → (is_good x.region ≡ true → first_failure l ≡ first_failure (map cut_run l))
              → option_map (λ (y : ItemRun). y.region.faults) (cond (not (is_good x.region)) (Some x) (find (λ y. not (is_good y.region)) l))
              ≡ option_map (λ (y : ItemRun). y.region.faults) (cond (not (is_good x.region)) (Some x) (find (λ y. not (is_good y.region)) (map cut_run l)))
          by true g rec = ap (λ b. option_map (λ (y : ItemRun). y.region.faults) (cond (not b) (Some x) (find (λ y. not (is_good y.region)) l))) g ∙ (rec g ∙ ap (λ b. option_map (λ (y : ItemRun). y.region.faults) (cond (not b) (Some x) (find (λ y. not (is_good y.region)) (map cut_run l)))) (sym g))
          by false g rec = ap (λ b. option_map (λ (y : ItemRun). y.region.faults) (cond (not b) (Some x) (find (λ y. not (is_good y.region)) l))) g ∙ ap (λ b. option_map (λ (y : ItemRun). y.region.faults) (cond (not b) (Some x) (find (λ y. not (is_good y.region)) (map cut_run l)))) (sym g)

    -- one that is waited for hasn't ended
    late : (rel : Time) (q : ItemRun → Bool) (x : ItemRun) → In x own → q x ≡ true → item_ended x ≡ false → latest_of rel (map event (filter q own)) ≡ None
    late rel q x i h e = latest_without rel (map event (filter q own)) (subst (λ (t : Time). In t (map event (filter q own))) (no_event ended (Item x.stream x.index) e) (to_map event x (filter q own) (to_filter q x own i h)))

    pub stream_same : (rel : Time) → Ascends own → shown (awaited_stream p items rel st) ≡ shown (awaited_stream p (map cut_run items) rel st)
    stream_same rel up = by (list_all (λ x. item_ended x) (filter waits_so_far own)) refl where
      right : latest_of rel (map event (items_awaited (map cut_run items) st)) ≡ latest_of rel (map event (filter waits_so_far own))
      right = ap (latest_of rel) awaited_cut

      by : (b : Bool) → list_all (λ x. item_ended x) (filter waits_so_far own) ≡ b → shown (awaited_stream p items rel st) ≡ shown (awaited_stream p (map cut_run items) rel st)
      by true e =
          let done : latest_of rel (map event (filter waits own)) ≡ latest_of rel (map event (items_awaited (map cut_run items) st)) = ap (λ (l : List ItemRun). latest_of rel (map event l)) (filter_same_in waits waits_so_far own (λ x i. waits_same e x)) ∙ sym right in
          let fails : first_failure own ≡ first_failure (items_of_stream (map cut_run items) st) = first_same e own (λ x i. i) up (λ y i. inl i) ∙ ap first_failure (sym own_cut) in
          λ i. record { path = st.path; label = st.label; is_stream = true; place = st.place; announced = rel; done = done i; errors = cond (has_time (done i)) (faults_or_none (fails i)) [] }
      by false e =
          let x = one_fails (λ x. item_ended x) (filter waits_so_far own) e in
          let k = in_filter waits_so_far x.0 own x.1 in
          let one : latest_of rel (map event (filter waits own)) ≡ None = late rel waits x.0 k.0 (waits_then x.0 k.1) x.2 in
          let two : latest_of rel (map event (items_awaited (map cut_run items) st)) ≡ None = right ∙ late rel waits_so_far x.0 k.0 k.1 x.2 in
          (λ i. record { path = st.path; label = st.label; is_stream = true; place = st.place; announced = rel; done = one i; errors = cond (has_time (one i)) (awaited_stream p items rel st).errors [] })
          ∙ sym (λ i. record { path = st.path; label = st.label; is_stream = true; place = st.place; announced = rel; done = two i; errors = cond (has_time (two i)) (awaited_stream p (map cut_run items) rel st).errors [] })
