-- What arises where in a scope: the regions of items lie in scopes of their own and are passed by.
use Rattle.std.proofs.Common.{◌≡◌, ◌⊎◌, inl, inr, List, ◌++◌, refl, sym, ap}
use Rattle.gql_tree.specs.declared.delivery.Frag.{Frag}
use Rattle.gql_tree.specs.declared.delivery.TaskWork.TheVariants.{Fields, Item}
use Rattle.gql_tree.specs.Forest.{Branches, grown, none, more}
use Rattle.gql_tree.specs.Fate.{GroupRun, ItemRun, Scope, groups_below, items_run}
use Rattle.gql_tree.specs.WellFormed.{Site, sites_below}
use Rattle.gql_confluence.proofs.Parts.{In, in_left, in_right, in_cases}

-- a region of this scope, and what is around it there
pub record IsOfScope (s : Scope) (around l : List Frag) (y : Site) : Type 0 where
  pub scope : y.scope ≡ s
  pub surrounded : (x : Frag) → In x y.around → In x around ⊎ In x l

-- seen from the region above
module _ (s : Scope) (around fs inner rest : List Frag) (y : Site) where
  pub from_inner : IsOfScope s (fs ++ around) inner y → IsOfScope s around (fs ++ (inner ++ rest)) y
  from_inner h = record { scope = h.scope; surrounded = λ x i. by x (h.surrounded x i) } where
    first : (x : Frag) → In x fs ⊎ In x around → In x around ⊎ In x (fs ++ (inner ++ rest))
    first x (inl j) = inr (in_left x fs (inner ++ rest) j)
    first x (inr j) = inl j

    by : (x : Frag) → In x (fs ++ around) ⊎ In x inner → In x around ⊎ In x (fs ++ (inner ++ rest))
    by x (inl k) = first x (in_cases x fs around k)
    by x (inr k) = inr (in_right x fs (inner ++ rest) (in_left x inner rest k))

  pub from_rest : IsOfScope s around rest y → IsOfScope s around (fs ++ (inner ++ rest)) y
  from_rest h = record { scope = h.scope; surrounded = λ x i. by x (h.surrounded x i) } where
    by : (x : Frag) → In x around ⊎ In x rest → In x around ⊎ In x (fs ++ (inner ++ rest))
    by x (inl k) = inl k
    by x (inr k) = inr (in_right x fs (inner ++ rest) (in_right x inner rest k))

-- ---- the regions of groups and of items that were run are among all

pub runs_lie : (s : Scope) (around : List Frag) (bs : Branches) → (x : GroupRun) → In x (groups_below bs) → (y : Site) × In y (sites_below s around bs) × (y.region ≡ x.region)
runs_lie s around none x i = absurd i
runs_lie s around (more (Fields g) (grown r inner) bs) x (inl e) = (_, inl refl, ap (λ (z : GroupRun). z.region) (sym e))
runs_lie s around (more (Fields g) (grown r inner) bs) x (inr i) =
    by (in_cases x (groups_below inner) (groups_below bs) i) (runs_lie s (r.fragments ++ around) inner x) (runs_lie s around bs x)
  where
    by : In x (groups_below inner) ⊎ In x (groups_below bs) → (In x (groups_below inner) → (y : Site) × In y (sites_below s (r.fragments ++ around) inner) × (y.region ≡ x.region))
        → (In x (groups_below bs) → (y : Site) × In y (sites_below s around bs) × (y.region ≡ x.region)) → (y : Site) × In y (sites_below s around (more (Fields g) (grown r inner) bs)) × (y.region ≡ x.region)
    by (inl j) p q = let w = p j in (w.0, inr (in_left w.0 (sites_below s (r.fragments ++ around) inner) (sites_below s around bs) w.1), w.2)
    by (inr j) p q = let w = q j in (w.0, inr (in_right w.0 (sites_below s (r.fragments ++ around) inner) (sites_below s around bs) w.1), w.2)
runs_lie s around (more (Item st n) (grown r inner) bs) x i = let w = runs_lie s around bs x i in (w.0, inr (in_right w.0 _ (sites_below s around bs) w.1), w.2)

pub items_lie : (s : Scope) (around : List Frag) (bs : Branches) → (x : ItemRun) → In x (items_run bs) → (y : Site) × In y (sites_below s around bs) × (y.region ≡ x.region)
items_lie s around none x i = absurd i
items_lie s around (more (Fields g) (grown r inner) bs) x i = let w = items_lie s around bs x i in (w.0, inr (in_right w.0 _ (sites_below s around bs) w.1), w.2)
items_lie s around (more (Item st n) (grown r inner) bs) x (inl e) = (_, inl refl, ap (λ (z : ItemRun). z.region) (sym e))
items_lie s around (more (Item st n) (grown r inner) bs) x (inr i) = let w = items_lie s around bs x i in (w.0, inr (in_right w.0 _ (sites_below s around bs) w.1), w.2)
