-- What a group that hasn't ended holds back: whatever waits for something below it waits for it too.
use Rattle.std.proofs.Common.{◌≡◌, ◌⊎◌, inl, inr, List, ◌∷◌, ◌++◌, refl, ◌∙◌, ap, subst, Bool, true, false, cond}
use Rattle.gql_tree.specs.declared.path.Key.{Key}
use Rattle.gql_tree.specs.declared.delivery.Frag.{Frag}
use Rattle.gql_tree.specs.declared.delivery.FragId.{FragId}
use Rattle.gql_tree.specs.declared.delivery.Group.{Group}
use Rattle.gql_tree.specs.declared.delivery.RegionResult.{RegionResult}
use Rattle.gql_tree.specs.declared.delivery.TaskWork.{TaskWork}
use Rattle.gql_tree.specs.declared.delivery.TaskWork.TheVariants.{Fields, Item}
use Rattle.gql_tree.specs.Forest.{Forest, Branches, grown, none, more}
use Rattle.gql_tree.specs.Fate.{GroupRun, Scope, scope_of, groups_below, fragments_below, above}
use Rattle.gql_tree.specs.WellFormed.{Site, root_site, sites_below, sites, is_one_of, IsWellFormed}
use Rattle.gql_tree.specs.Causal.{has_ended}
use Rattle.gql_confluence.proofs.Parts.{In, in_left, in_right, in_cases}
use Rattle.gql_confluence.proofs.Pruned.{blank, kept, pruned}
use Rattle.gql_confluence.proofs.Walks as walks
use Rattle.gql_confluence.proofs.Known.{hidden_below}

module _ (ended : List TaskWork) (ra : RegionResult) (ba : Branches) (f : Forest) (wf : IsWellFormed f) (at : List Key) (lie : (z : Site) → In z (root_site at ra ba ∷ sites_below (scope_of (grown ra ba)) ra.fragments ba) → In z (sites f)) where
  abbrev s : Scope
  s = scope_of (grown ra ba)

  abbrev IsAbove : Site → Branches → Type 0
  IsAbove = walks.IsAbove ra ba f wf at lie

  abbrev IsUnder : Group → Site → Type 0
  IsUnder = walks.IsUnder ra ba f wf at lie

  abbrev IsTied : Group → FragId → Type 0
  IsTied = walks.IsTied ra ba f wf at lie

  abbrev group_site : Site → Group → RegionResult → Branches → Site
  group_site = walks.group_site ra ba f wf at lie

  -- ---- below a group that hasn't ended

  under_groups : (v : Group) (y : Site) (bs : Branches) → IsAbove y bs → IsUnder v y → (x : GroupRun) → In x (groups_below bs) → (o : FragId) → In o x.group.owners → IsTied v o
  under_groups v y none h u x i o j = absurd i
  under_groups v y (more (Item st n) (grown r inner) bs) h u x i o j = under_groups v y bs (walks.walks_item ra ba f wf at lie y st n r inner bs h) u x i o j
  under_groups v y (more (Fields g) (grown r inner) bs) h u x (inl e) o j =
      (walks.under_inner ra ba f wf at lie v y g r inner bs h u).owners o (subst (λ (z : GroupRun). In o z.group.owners) e j)
  under_groups v y (more (Fields g) (grown r inner) bs) h u x (inr i) o j = elim (in_cases x (groups_below inner) (groups_below bs) i) as (λ _. IsTied v o) [
    | inl k ↦ under_groups v (group_site y g r inner) inner (walks.walks_inner ra ba f wf at lie y g r inner bs h) (walks.under_inner ra ba f wf at lie v y g r inner bs h u) x k o j
    | inr k ↦ under_groups v y bs (walks.walks_beside ra ba f wf at lie y g r inner bs h) u x k o j
  ]

  -- it stands in a fragment that the group waits for
  abbrev pub StandsIn : Group → Frag → Type 0
  StandsIn v x = (a : FragId) × In a (above s x.id) × (is_one_of a v.owners ≡ true)

  under_fragments : (v : Group) (y : Site) (bs : Branches) → IsAbove y bs → IsUnder v y → (x : Frag) → In x (fragments_below bs) → StandsIn v x
  under_fragments v y none h u x i = absurd i
  under_fragments v y (more (Item st n) (grown r inner) bs) h u x i = under_fragments v y bs (walks.walks_item ra ba f wf at lie y st n r inner bs h) u x i
  under_fragments v y (more (Fields g) (grown r inner) bs) h u x i = first (in_cases x r.fragments (fragments_below inner ++ fragments_below bs) i) (under_fragments v (group_site y g r inner) inner (walks.walks_inner ra ba f wf at lie y g r inner bs h) lower x) (under_fragments v y bs (walks.walks_beside ra ba f wf at lie y g r inner bs h) u x) where
    lower : IsUnder v (group_site y g r inner)
    lower = walks.under_inner ra ba f wf at lie v y g r inner bs h u

    first : In x r.fragments ⊎ In x (fragments_below inner ++ fragments_below bs) → (In x (fragments_below inner) → StandsIn v x) → (In x (fragments_below bs) → StandsIn v x) → StandsIn v x
    first (inl j) rec_a rec_b = walks.fragment_tied ra ba f wf at lie v (group_site y g r inner) lower x j (h.fragments x i)
    first (inr j) rec_a rec_b = elim (in_cases x (fragments_below inner) (fragments_below bs) j) as (λ _. StandsIn v x) [ inl k ↦ rec_a k | inr k ↦ rec_b k ]

  -- ---- from the scope's root on

  -- a group that hasn't ended, above which all has
  pub record HeldBy (P : Group → Type 0) (gs : List GroupRun) : Type 0 where
    pub run : GroupRun
    pub is_run : In run gs
    pub open' : has_ended ended (Fields run.group) ≡ false
    pub holds : P run.group

  held_wider : (P : Group → Type 0) (gs hs : List GroupRun) → ((x : GroupRun) → In x gs → In x hs) → HeldBy P gs → HeldBy P hs
  held_wider P gs hs sub h = record { run = h.run; is_run = sub h.run h.is_run; open' = h.open'; holds = h.holds }

  abbrev node : Bool → Group → RegionResult → Branches → Branches → List GroupRun
  node b g r inner bs = groups_below (more (Fields g) (kept b r (pruned ended inner)) (pruned ended bs))

  from_inner : (P : Group → Type 0) (g : Group) (r : RegionResult) (inner bs : Branches) → HeldBy P (groups_below (pruned ended inner)) → HeldBy P (node true g r inner bs)
  from_inner P g r inner bs h = held_wider P (groups_below (pruned ended inner)) _ (λ x i. inr (in_left x (groups_below (pruned ended inner)) (groups_below (pruned ended bs)) i)) h

  from_beside : (P : Group → Type 0) (b : Bool) (g : Group) (r : RegionResult) (inner bs : Branches) → HeldBy P (groups_below (pruned ended bs)) → HeldBy P (node b g r inner bs)
  from_beside P true g r inner bs h = held_wider P (groups_below (pruned ended bs)) _ (λ x i. inr (in_right x (groups_below (pruned ended inner)) (groups_below (pruned ended bs)) i)) h
  from_beside P false g r inner bs h = held_wider P (groups_below (pruned ended bs)) _ (λ x i. inr i) h

  -- an owner of a group that hasn't ended is held back by one above which all has ended
  groups_held : (y : Site) (bs : Branches) → IsAbove y bs → (x : GroupRun) → In x (groups_below bs) → has_ended ended (Fields x.group) ≡ false → (o : FragId) → In o x.group.owners → HeldBy (λ v. IsTied v o) (groups_below (pruned ended bs))
  groups_held y none h x i e o j = absurd i
  groups_held y (more (Item st n) (grown r inner) bs) h x i e o j = groups_held y bs (walks.walks_item ra ba f wf at lie y st n r inner bs h) x i e o j
  groups_held y (more (Fields g) (grown r inner) bs) h x i e o j =
      by (has_ended ended (Fields g)) refl i (λ k. groups_held (group_site y g r inner) inner below x k e o j) (λ k. groups_held y bs (walks.walks_beside ra ba f wf at lie y g r inner bs h) x k e o j)
    where
      below : IsAbove (group_site y g r inner) inner
      below = walks.walks_inner ra ba f wf at lie y g r inner bs h

      itself : IsUnder g (group_site y g r inner)
      itself = walks.under_itself ra ba f wf at lie g (group_site y g r inner) below.is_site below.is_of refl refl

      by : (b : Bool) → has_ended ended (Fields g) ≡ b → In x (record { group = g; region = r } ∷ (groups_below inner ++ groups_below bs))
          → (In x (groups_below inner) → HeldBy (λ v. IsTied v o) (groups_below (pruned ended inner))) → (In x (groups_below bs) → HeldBy (λ v. IsTied v o) (groups_below (pruned ended bs))) → HeldBy (λ v. IsTied v o) (node b g r inner bs)
      by true d (inl k) rec_a rec_b = let l : has_ended ended (Fields x.group) ≡ true = ap (λ (z : GroupRun). has_ended ended (Fields z.group)) k ∙ d in absurd (cc)
      by true d (inr k) rec_a rec_b = elim (in_cases x (groups_below inner) (groups_below bs) k) as (λ _. HeldBy (λ v. IsTied v o) (node true g r inner bs)) [
        | inl l ↦ from_inner (λ v. IsTied v o) g r inner bs (rec_a l)
        | inr l ↦ from_beside (λ v. IsTied v o) true g r inner bs (rec_b l)
      ]
      by false d (inl k) rec_a rec_b = record { run = record { group = g; region = blank }; is_run = inl refl; open' = d; holds = itself.owners o (subst (λ (z : GroupRun). In o z.group.owners) k j) }
      by false d (inr k) rec_a rec_b = elim (in_cases x (groups_below inner) (groups_below bs) k) as (λ _. HeldBy (λ v. IsTied v o) (node false g r inner bs)) [
        | inl l ↦ record { run = record { group = g; region = blank }; is_run = inl refl; open' = d; holds = under_groups g (group_site y g r inner) inner below itself x l o j }
        | inr l ↦ from_beside (λ v. IsTied v o) false g r inner bs (rec_b l)
      ]

  pub all_groups_held : (x : GroupRun) → In x s.groups → has_ended ended (Fields x.group) ≡ false → (o : FragId) → In o x.group.owners → HeldBy (λ v. IsTied v o) (groups_below (pruned ended ba))
  all_groups_held = groups_held (root_site at ra ba) ba (walks.walks_root ra ba f wf at lie)

  -- and so is a fragment that arises below it
  fragments_held : (y : Site) (bs : Branches) → IsAbove y bs → (x : Frag) → In x (hidden_below ended bs) → HeldBy (λ v. StandsIn v x) (groups_below (pruned ended bs))
  fragments_held y none h x i = absurd i
  fragments_held y (more (Item st n) (grown r inner) bs) h x i = fragments_held y bs (walks.walks_item ra ba f wf at lie y st n r inner bs h) x i
  fragments_held y (more (Fields g) (grown r inner) bs) h x i =
      by (has_ended ended (Fields g)) refl i (λ k. fragments_held (group_site y g r inner) inner below x k) (λ k. fragments_held y bs (walks.walks_beside ra ba f wf at lie y g r inner bs h) x k)
    where
      below : IsAbove (group_site y g r inner) inner
      below = walks.walks_inner ra ba f wf at lie y g r inner bs h

      itself : IsUnder g (group_site y g r inner)
      itself = walks.under_itself ra ba f wf at lie g (group_site y g r inner) below.is_site below.is_of refl refl

      stands : In x r.fragments ⊎ In x (fragments_below inner) → StandsIn g x
      stands (inl k) = walks.fragment_tied ra ba f wf at lie g (group_site y g r inner) itself x k (h.fragments x (in_left x r.fragments (fragments_below inner ++ fragments_below bs) k))
      stands (inr k) = under_fragments g (group_site y g r inner) inner below itself x k

      by : (b : Bool) → has_ended ended (Fields g) ≡ b → In x (cond b (hidden_below ended inner) (r.fragments ++ fragments_below inner) ++ hidden_below ended bs)
          → (In x (hidden_below ended inner) → HeldBy (λ v. StandsIn v x) (groups_below (pruned ended inner))) → (In x (hidden_below ended bs) → HeldBy (λ v. StandsIn v x) (groups_below (pruned ended bs))) → HeldBy (λ v. StandsIn v x) (node b g r inner bs)
      by true d j rec_a rec_b = elim (in_cases x (hidden_below ended inner) (hidden_below ended bs) j) as (λ _. HeldBy (λ v. StandsIn v x) (node true g r inner bs)) [
        | inl k ↦ from_inner (λ v. StandsIn v x) g r inner bs (rec_a k)
        | inr k ↦ from_beside (λ v. StandsIn v x) true g r inner bs (rec_b k)
      ]
      by false d j rec_a rec_b = elim (in_cases x (r.fragments ++ fragments_below inner) (hidden_below ended bs) j) as (λ _. HeldBy (λ v. StandsIn v x) (node false g r inner bs)) [
        | inl k ↦ record { run = record { group = g; region = blank }; is_run = inl refl; open' = d; holds = stands (in_cases x r.fragments (fragments_below inner) k) }
        | inr k ↦ from_beside (λ v. StandsIn v x) false g r inner bs (rec_b k)
      ]

  pub all_fragments_held : (x : Frag) → In x (hidden_below ended ba) → HeldBy (λ v. StandsIn v x) (groups_below (pruned ended ba))
  all_fragments_held = fragments_held (root_site at ra ba) ba (walks.walks_root ra ba f wf at lie)
