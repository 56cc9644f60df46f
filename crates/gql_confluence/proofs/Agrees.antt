-- Owners, groups and lists of two scopes that agree as far as things have a time.
use Rattle.std.proofs.Common.{◌≡◌, ◌⊎◌, inl, inr, List, [], ◌∷◌, ◌++◌, map, refl, sym, ◌∙◌, ap, Bool, true, false, cond, Some, None}
use Rattle.std.specs.Prelude.{filter, flat_map, ◌&&◌, ◌||◌}
use Rattle.std.specs.List.{list_any, list_all}
use Rattle.gql_tree.specs.declared.delivery.FragId.{FragId}
use Rattle.gql_tree.specs.declared.delivery.Group.{Group}
use Rattle.gql_tree.specs.declared.delivery.TaskWork.{TaskWork}
use Rattle.gql_tree.specs.declared.delivery.TaskWork.TheVariants.{Fields, Item}
use Rattle.gql_tree.specs.Forest.{Branches, grown, none, more}
use Rattle.gql_tree.specs.Fate.{is_good, GroupRun, groups_below}
use Rattle.gql_tree.specs.Times.{Time, latest, earliest, latest_of, earliest_of, same_time, has_time}
use Rattle.gql_tree.specs.Causal.{has_ended}
use Rattle.gql_confluence.proofs.Parts.{In, in_left, in_right, in_cases}
use Rattle.gql_confluence.proofs.Items.{filter_append}
use Rattle.gql_confluence.proofs.Halves.{filter_none}
use Rattle.gql_confluence.proofs.Pruned.{blank, kept, pruned, Closed}
use Rattle.gql_confluence.proofs.SoFar.{groups_open}

-- ---- lists

pub all_same : {X : Type 0} (p q : X → Bool) (xs : List X) → ((x : X) → In x xs → p x ≡ q x) → list_all p xs ≡ list_all q xs
all_same p q [] h = refl
all_same p q (x ∷ xs) h = λ i. h x (inl refl) i && all_same p q xs (λ y k. h y (inr k)) i

-- not all pass
pub one_fails : {X : Type 0} (p : X → Bool) (xs : List X) → list_all p xs ≡ false → (x : X) × In x xs × (p x ≡ false)
one_fails p [] h = absurd (cc)
one_fails p (x ∷ xs) h = by (p x) refl h (one_fails p xs) where
  by : (b : Bool) → p x ≡ b → (b && list_all p xs) ≡ false → (list_all p xs ≡ false → (y : _) × In y xs × (p y ≡ false)) → (y : _) × In y (x ∷ xs) × (p y ≡ false)
  by false e k rec = (x, inl refl, e)
  by true e k rec = let r = rec k in (r.0, inr r.1, r.2)

pub not_all : {X : Type 0} (p : X → Bool) (xs : List X) (x : X) → In x xs → p x ≡ false → list_all p xs ≡ false
not_all p [] x i e = absurd i
not_all p (y ∷ xs) x (inl f) e = let g : p y ≡ false = ap p (sym f) ∙ e in ap (λ b. b && list_all p xs) g
not_all p (y ∷ xs) x (inr i) e = ap (λ b. p y && b) (not_all p xs x i e) ∙ and_false (p y) where
  and_false : (b : Bool) → (b && false) ≡ false
  and_false true = refl
  and_false false = refl

pub flat_none_in : {X Y : Type 0} (h : X → List Y) (xs : List X) → ((x : X) → In x xs → h x ≡ []) → flat_map h xs ≡ []
flat_none_in h [] k = refl
flat_none_in h (x ∷ xs) k = λ i. k x (inl refl) i ++ flat_none_in h xs (λ y j. k y (inr j)) i

pub flat_same_in : {X Y : Type 0} (h l : X → List Y) (xs : List X) → ((x : X) → In x xs → h x ≡ l x) → flat_map h xs ≡ flat_map l xs
flat_same_in h l [] k = refl
flat_same_in h l (x ∷ xs) k = λ i. k x (inl refl) i ++ flat_same_in h l xs (λ y j. k y (inr j)) i

-- ---- times

timed_latest : (t u : Time) → has_time t ≡ true → has_time u ≡ true → has_time (latest t u) ≡ true
timed_latest None u e f = absurd (cc)
timed_latest (Some a) None e f = absurd (cc)
timed_latest (Some a) (Some b) e f = refl

pub timed_latest_of : (t : Time) (us : List Time) → has_time t ≡ true → ((u : Time) → In u us → has_time u ≡ true) → has_time (latest_of t us) ≡ true
timed_latest_of t [] e h = e
timed_latest_of t (u ∷ us) e h = timed_latest u (latest_of t us) (h u (inl refl)) (timed_latest_of t us e (λ w i. h w (inr i)))

timed_earliest : (t u : Time) → has_time t ≡ true → has_time (earliest t u) ≡ true
timed_earliest None u e = absurd (cc)
timed_earliest (Some a) None e = refl
timed_earliest (Some a) (Some b) e = refl

timed_other : (t u : Time) → has_time u ≡ true → has_time (earliest t u) ≡ true
timed_other None u e = e
timed_other (Some a) None e = refl
timed_other (Some a) (Some b) e = refl

pub timed_earliest_of : (us : List Time) (u : Time) → In u us → has_time u ≡ true → has_time (earliest_of us) ≡ true
timed_earliest_of [] u i e = absurd i
timed_earliest_of (v ∷ us) u (inl f) e = timed_earliest v (earliest_of us) (ap has_time (sym f) ∙ e)
timed_earliest_of (v ∷ us) u (inr i) e = timed_other v (earliest_of us) (timed_earliest_of us u i e)

-- ---- owners

-- both have the same of this owner, or it isn't ok in the second so far, and isn't done in the first
abbrev pub OwnerAgrees : (FragId → Bool) → (FragId → Bool) → (FragId → Time) → (FragId → Time) → FragId → Type 0
OwnerAgrees ok fine d e o = ((ok o ≡ fine o) × (d o ≡ e o) × (has_time (e o) ≡ true)) ⊎ ((fine o ≡ false) × (d o ≡ None))

module _ (ok fine : FragId → Bool) (d e : FragId → Time) where
  pub earliest_agrees : (os : List FragId) → ((o : FragId) → In o os → OwnerAgrees ok fine d e o) → earliest_of (map d (filter ok os)) ≡ earliest_of (map e (filter fine os))
  earliest_agrees [] h = refl
  earliest_agrees (o ∷ os) h = by (h o (inl refl)) (earliest_agrees os (λ q i. h q (inr i))) where
    by : OwnerAgrees ok fine d e o → earliest_of (map d (filter ok os)) ≡ earliest_of (map e (filter fine os))
        → earliest_of (map d (cond (ok o) (o ∷ filter ok os) (filter ok os))) ≡ earliest_of (map e (cond (fine o) (o ∷ filter fine os) (filter fine os)))
    by (inl k) rec = ap (λ b. earliest_of (map d (cond b (o ∷ filter ok os) (filter ok os)))) k.0 ∙ two (fine o) where
      two : (b : Bool) → earliest_of (map d (cond b (o ∷ filter ok os) (filter ok os))) ≡ earliest_of (map e (cond b (o ∷ filter fine os) (filter fine os)))
      two true = λ i. earliest (k.1 i) (rec i)
      two false = rec
    by (inr k) rec = two (ok o) ∙ (rec ∙ ap (λ b. earliest_of (map e (cond b (o ∷ filter fine os) (filter fine os)))) (sym k.0)) where
      two : (b : Bool) → earliest_of (map d (cond b (o ∷ filter ok os) (filter ok os))) ≡ earliest_of (map d (filter ok os))
      two true = ap (λ (t : Time). earliest t (earliest_of (map d (filter ok os)))) k.1
      two false = refl

  pub carriers_agree : (t : Time) → has_time t ≡ true → (os : List FragId) → ((o : FragId) → In o os → OwnerAgrees ok fine d e o)
      → filter (λ o. same_time (d o) t) (filter ok os) ≡ filter (λ o. same_time (e o) t) (filter fine os)
  carriers_agree t there [] h = refl
  carriers_agree t there (o ∷ os) h = by (h o (inl refl)) (carriers_agree t there os (λ q i. h q (inr i))) where
    by : OwnerAgrees ok fine d e o → filter (λ q. same_time (d q) t) (filter ok os) ≡ filter (λ q. same_time (e q) t) (filter fine os)
        → filter (λ q. same_time (d q) t) (cond (ok o) (o ∷ filter ok os) (filter ok os)) ≡ filter (λ q. same_time (e q) t) (cond (fine o) (o ∷ filter fine os) (filter fine os))
    by (inl k) rec = ap (λ b. filter (λ q. same_time (d q) t) (cond b (o ∷ filter ok os) (filter ok os))) k.0 ∙ two (fine o) where
      two : (b : Bool) → filter (λ q. same_time (d q) t) (cond b (o ∷ filter ok os) (filter ok os)) ≡ filter (λ q. same_time (e q) t) (cond b (o ∷ filter fine os) (filter fine os))
      two true = λ i. cond (same_time (k.1 i) t) (o ∷ rec i) (rec i)
      two false = rec
    by (inr k) rec = two (ok o) ∙ (rec ∙ ap (λ b. filter (λ q. same_time (e q) t) (cond b (o ∷ filter fine os) (filter fine os))) (sym k.0)) where
      never_same : (u : Time) → has_time u ≡ true → same_time None u ≡ false
      never_same None g = absurd (cc)
      never_same (Some a) g = refl

      two : (b : Bool) → filter (λ q. same_time (d q) t) (cond b (o ∷ filter ok os) (filter ok os)) ≡ filter (λ q. same_time (d q) t) (filter ok os)
      two true = ap (λ b. cond b (o ∷ filter (λ q. same_time (d q) t) (filter ok os)) (filter (λ q. same_time (d q) t) (filter ok os))) (ap (λ (u : Time). same_time u t) k.1 ∙ never_same t there)
      two false = refl

  -- where one is ok in the second so far, it is in the first, and has a time
  pub delivered_agrees : (os : List FragId) → ((o : FragId) → In o os → OwnerAgrees ok fine d e o) → list_any fine os ≡ true → (list_any ok os ≡ true) × (has_time (earliest_of (map e (filter fine os))) ≡ true)
  delivered_agrees [] h k = absurd (cc)
  delivered_agrees (o ∷ os) h k = by (fine o) refl (h o (inl refl)) k (delivered_agrees os (λ q i. h q (inr i))) where
    or_true : (b : Bool) → (b || true) ≡ true
    or_true true = refl
    or_true false = refl

    by : (b : Bool) → fine o ≡ b → OwnerAgrees ok fine d e o → (b || list_any fine os) ≡ true → (list_any fine os ≡ true → (list_any ok os ≡ true) × (has_time (earliest_of (map e (filter fine os))) ≡ true))
        → ((ok o || list_any ok os) ≡ true) × (has_time (earliest_of (map e (cond (fine o) (o ∷ filter fine os) (filter fine os)))) ≡ true)
    by true g (inl m) l rec = (ap (λ b. b || list_any ok os) (m.0 ∙ g), ap (λ b. has_time (earliest_of (map e (cond b (o ∷ filter fine os) (filter fine os))))) g ∙ timed_earliest (e o) (earliest_of (map e (filter fine os))) m.2)
    by true g (inr m) l rec = let z = m.0 in absurd (cc)
    by false g m l rec = let r = rec l in (ap (λ b. ok o || b) r.0 ∙ or_true (ok o), ap (λ b. has_time (earliest_of (map e (cond b (o ∷ filter fine os) (filter fine os))))) g ∙ r.1)

  pub not_delivered : (os : List FragId) → list_any fine os ≡ false → earliest_of (map e (filter fine os)) ≡ None
  not_delivered [] k = refl
  not_delivered (o ∷ os) k = by (fine o) refl k (not_delivered os) where
    by : (b : Bool) → fine o ≡ b → (b || list_any fine os) ≡ false → (list_any fine os ≡ false → earliest_of (map e (filter fine os)) ≡ None) → earliest_of (map e (cond (fine o) (o ∷ filter fine os) (filter fine os))) ≡ None
    by true g l rec = absurd (cc)
    by false g l rec = ap (λ b. earliest_of (map e (cond b (o ∷ filter fine os) (filter fine os)))) g ∙ rec l

-- ---- groups

module _ (ended : List TaskWork) where
  -- the groups that meet a test are the same so far, if all that meet it have ended
  pub filter_groups : (q : Group → Bool) (bs : Branches) → Closed ended bs → ((x : GroupRun) → In x (groups_below bs) → q x.group ≡ true → has_ended ended (Fields x.group) ≡ true)
      → filter (λ (x : GroupRun). q x.group) (groups_below bs) ≡ filter (λ (x : GroupRun). q x.group) (groups_below (pruned ended bs))
  filter_groups q none c h = refl
  filter_groups q (more (Item st n) (grown r inner) bs) c h = filter_groups q bs c.2 h
  filter_groups q (more (Fields g) (grown r inner) bs) c h =
      by (has_ended ended (Fields g)) refl (λ e. filter_groups q inner (c.0 e) (λ x i. h x (inr (in_left x (groups_below inner) (groups_below bs) i)))) (filter_groups q bs c.2 (λ x i. h x (inr (in_right x (groups_below inner) (groups_below bs) i))))
    where
      not_met : (b : Bool) → q g ≡ b → has_ended ended (Fields g) ≡ false → q g ≡ false
      not_met false e f = e
      not_met true e f = let k : has_ended ended (Fields g) ≡ true = h (record { group = g; region = r }) (inl refl) e in absurd (cc)

      none_met : has_ended ended (Fields g) ≡ false → filter (λ (x : GroupRun). q x.group) (groups_below inner) ≡ []
      none_met f = filter_none (λ (x : GroupRun). q x.group) (groups_below inner) (λ x i. one x i (q x.group) refl) where
        one : (x : GroupRun) → In x (groups_below inner) → (b : Bool) → q x.group ≡ b → q x.group ≡ false
        one x i false e = e
        one x i true e =
            let k : has_ended ended (Fields x.group) ≡ true = h x (inr (in_left x (groups_below inner) (groups_below bs) i)) e in
            let l : has_ended ended (Fields x.group) ≡ false = groups_open ended inner (c.1 f) x i in absurd (cc)

      by : (b : Bool) → has_ended ended (Fields g) ≡ b
          → (b ≡ true → filter (λ (x : GroupRun). q x.group) (groups_below inner) ≡ filter (λ (x : GroupRun). q x.group) (groups_below (pruned ended inner)))
          → filter (λ (x : GroupRun). q x.group) (groups_below bs) ≡ filter (λ (x : GroupRun). q x.group) (groups_below (pruned ended bs))
          → filter (λ (x : GroupRun). q x.group) (record { group = g; region = r } ∷ (groups_below inner ++ groups_below bs)) ≡ filter (λ (x : GroupRun). q x.group) (groups_below (more (Fields g) (kept b r (pruned ended inner)) (pruned ended bs)))
      by true e rec_a rec_b =
          let m : filter (λ (x : GroupRun). q x.group) (groups_below inner ++ groups_below bs) ≡ filter (λ (x : GroupRun). q x.group) (groups_below (pruned ended inner) ++ groups_below (pruned ended bs)) =
          filter_append (λ (x : GroupRun). q x.group) (groups_below inner) (groups_below bs) ∙ ((λ i. rec_a refl i ++ rec_b i) ∙ sym (filter_append (λ (x : GroupRun). q x.group) (groups_below (pruned ended inner)) (groups_below (pruned ended bs)))) in
          λ i. cond (q g) (record { group = g; region = r } ∷ m i) (m i)
      by false e rec_a rec_b =
          let z = not_met (q g) refl e in
          ap (λ b. cond b (record { group = g; region = r } ∷ filter (λ (x : GroupRun). q x.group) (groups_below inner ++ groups_below bs)) (filter (λ (x : GroupRun). q x.group) (groups_below inner ++ groups_below bs))) z
          ∙ (filter_append (λ (x : GroupRun). q x.group) (groups_below inner) (groups_below bs) ∙ ((λ i. none_met e i ++ rec_b i)
          ∙ ap (λ b. cond b (record { group = g; region = blank } ∷ filter (λ (x : GroupRun). q x.group) (groups_below (pruned ended bs))) (filter (λ (x : GroupRun). q x.group) (groups_below (pruned ended bs)))) (sym z)))

  -- a group so far is one of the whole
  pub runs_there : (bs : Branches) (x : GroupRun) → In x (groups_below (pruned ended bs)) → (y : GroupRun) × In y (groups_below bs) × (y.group ≡ x.group)
  runs_there none x i = absurd i
  runs_there (more (Item st n) (grown r inner) bs) x i = runs_there bs x i
  runs_there (more (Fields g) (grown r inner) bs) x i = by (has_ended ended (Fields g)) i (runs_there inner x) (runs_there bs x) where
    by : (b : Bool) → In x (groups_below (more (Fields g) (kept b r (pruned ended inner)) (pruned ended bs)))
        → (In x (groups_below (pruned ended inner)) → (y : GroupRun) × In y (groups_below inner) × (y.group ≡ x.group)) → (In x (groups_below (pruned ended bs)) → (y : GroupRun) × In y (groups_below bs) × (y.group ≡ x.group))
        → (y : GroupRun) × In y (record { group = g; region = r } ∷ (groups_below inner ++ groups_below bs)) × (y.group ≡ x.group)
    by true (inl e) rec_a rec_b = (record { group = g; region = r }, inl refl, sym (ap (λ (z : GroupRun). z.group) e))
    by false (inl e) rec_a rec_b = (record { group = g; region = r }, inl refl, sym (ap (λ (z : GroupRun). z.group) e))
    by false (inr j) rec_a rec_b = let w = rec_b j in (w.0, inr (in_right w.0 (groups_below inner) (groups_below bs) w.1), w.2)
    by true (inr j) rec_a rec_b = elim (in_cases x (groups_below (pruned ended inner)) (groups_below (pruned ended bs)) j) as (λ _. (y : GroupRun) × In y (record { group = g; region = r } ∷ (groups_below inner ++ groups_below bs)) × (y.group ≡ x.group)) [
      | inl k ↦ (let w = rec_a k in (w.0, inr (in_left w.0 (groups_below inner) (groups_below bs) w.1), w.2))
      | inr k ↦ (let w = rec_b k in (w.0, inr (in_right w.0 (groups_below inner) (groups_below bs) w.1), w.2))
    ]

  -- and has no value so far, if it hasn't ended
  pub not_good : (bs : Branches) (x : GroupRun) → In x (groups_below (pruned ended bs)) → has_ended ended (Fields x.group) ≡ false → is_good x.region ≡ false
  not_good none x i e = absurd i
  not_good (more (Item st n) (grown r inner) bs) x i e = not_good bs x i e
  not_good (more (Fields g) (grown r inner) bs) x i e = by (has_ended ended (Fields g)) refl i (λ j. not_good inner x j e) (λ j. not_good bs x j e) where
    by : (b : Bool) → has_ended ended (Fields g) ≡ b → In x (groups_below (more (Fields g) (kept b r (pruned ended inner)) (pruned ended bs)))
        → (In x (groups_below (pruned ended inner)) → is_good x.region ≡ false) → (In x (groups_below (pruned ended bs)) → is_good x.region ≡ false) → is_good x.region ≡ false
    by true d (inl k) rec_a rec_b = let l : has_ended ended (Fields x.group) ≡ true = ap (λ (z : GroupRun). has_ended ended (Fields z.group)) k ∙ d in absurd (cc)
    by false d (inl k) rec_a rec_b = ap (λ (z : GroupRun). is_good z.region) k
    by false d (inr j) rec_a rec_b = rec_b j
    by true d (inr j) rec_a rec_b = elim (in_cases x (groups_below (pruned ended inner)) (groups_below (pruned ended bs)) j) as (λ _. is_good x.region ≡ false) [ inl k ↦ rec_a k | inr k ↦ rec_b k ]
