-- Nodes that collecting meets stand below those it begins at.
use Rattle.std.proofs.Common.{◌≡◌, refl, sym, ◌∙◌, ap, ℕ, zero, suc, ◌+◌, ◌<◌, ◌≤◌, Bool, true, false, List, [], ◌∷◌, length, Option, Some, None, arith}
use Rattle.std.specs.Prelude.{slice_get}
use Rattle.std.specs.List.{AllByRecursion as Each}
use Rattle.std.specs.Str.{bytes_eq}
use Rattle.std.proofs.lemmas.Option.{slice_get_past, slice_get_within}
use Rattle.std.proofs.lemmas.List.Elements.{recursion_from_All}
use Rattle.gql_tree.specs.declared.Key.{Key}
use Rattle.gql_tree.specs.declared.FragId.{FragId}
use Rattle.gql_tree.specs.declared.Occurrence.{Occurrence}
use Rattle.gql_tree.specs.declared.Detail.{Detail}
use Rattle.gql_model.specs.declared.operation.Node.{Node}
use Rattle.gql_model.specs.declared.operation.NodeKind.{NodeKind}
use Rattle.gql_model.specs.declared.operation.NodeKind.TheVariants.{Field, Fragment}
use Rattle.gql_model.specs.declared.operation.DeferUse.{DeferUse}
use Rattle.gql_model.specs.World.{World}
use Rattle.gql_model.specs.Collect.{Met, field, deferred, met, met_at, met_below, met_child, met_node, met_fragment, merged, occurrences, children_of, applies, fragment_at}
use Rattle.gql_model.specs.Owners.{above, ancestors}
use Rattle.gql_model.specs.Depth.{IsNumbered, CollectingUnfolds, AncestorsUnfold}
use Rattle.gql_model.proofs.Each.{each_flat, flat_alike, each_map, each_weaker, each_gathered}

-- a fact of the node of a field
abbrev pub MetAt : (ℕ → Type 0) → Met → Type 0
MetAt P (field key o) = P o.node
MetAt P (deferred f) = Unit {0}

-- the nodes stand at this number or after it
abbrev pub From : ℕ → List Occurrence → Type 0
From n os = Each (λ o. n ≤ o.node) os

abbrev pub DetailFrom : ℕ → Detail → Type 0
DetailFrom n d = From n d.nodes

met_weaker : (P Q : ℕ → Type 0) → ((n : ℕ) → P n → Q n) → (x : Met) → MetAt P x → MetAt Q x
met_weaker P Q g (field key o) h = g o.node h
met_weaker P Q g (deferred f) h = tt

each_occurrences : (P : ℕ → Type 0) (ms : List Met) → Each (MetAt P) ms → Each (λ (x : List ℕ × Occurrence). P (x.1).node) (occurrences ms)
each_occurrences P [] h = tt
each_occurrences P (field key o ∷ ms) h = (h.0, each_occurrences P ms h.1)
each_occurrences P (deferred f ∷ ms) h = each_occurrences P ms h.1

each_merged : (P : ℕ → Type 0) (ms : List Met) → Each (MetAt P) ms → Each (λ (d : Detail). Each (λ (o : Occurrence). P o.node) d.nodes) (merged ms)
each_merged P ms h = each_map {A = List ℕ × List Occurrence} {B = Detail} (λ d. Each (λ (o : Occurrence). P o.node) d.nodes) (λ x. Each (λ (o : Occurrence). P o.node) x.1) (λ x. record { key = x.0; nodes = x.1 }) (λ x k. k) _ (each_gathered {A = Occurrence} (λ o. P o.node) bytes_eq (occurrences ms) (each_occurrences P ms h))

module _ (w : World) (nodes : List Node) (numbered : IsNumbered nodes) (kind : ℕ) (path : List Key) where
  children_after : (n : ℕ) (o : Option Node) → slice_get nodes n ≡ o → Each (λ c. n < c) (children_of o)
  children_after n None is = tt
  children_after n (Some node) is = recursion_from_All (λ c. n < c) node.children (numbered.children n node is)

  abbrev After : ℕ → List Met → Type 0
  After n ms = Each (MetAt (λ k. n < k)) ms

  later : (n m : ℕ) → n < m → (ms : List Met) → After m ms → After n ms
  later n m lt ms h = each_weaker (MetAt (λ k. m < k)) (MetAt (λ k. n < k)) (met_weaker (λ k. m < k) (λ k. n < k) (λ k g. omega arith)) ms h

  module _ (below : Option FragId → ℕ → List Met) (after : (tag : Option FragId) (m : ℕ) → After m (below tag m)) (tag : Option FragId) (n c : ℕ) (lt : n < c) where
    fragment_after : (defer : Option DeferUse) → After n (met_fragment w nodes kind path below tag c defer)
    fragment_after None = later n c lt (below tag c) (after tag c)
    fragment_after (Some d) = (tt, later n c lt (below (Some (fragment_at w nodes kind path c)) c) (after (Some (fragment_at w nodes kind path c)) c))

    applied_after : (b : Bool) (defer : Option DeferUse) → After n (elim b [ false ↦ [] | true ↦ met_fragment w nodes kind path below tag c defer ])
    applied_after false defer = tt
    applied_after true defer = fragment_after defer

    node_after : (nk : NodeKind) → After n (met_node w nodes kind path below tag c nk)
    node_after (Field key name arguments stream) = (lt, tt)
    node_after (Fragment condition defer) = applied_after (applies w nodes kind path condition) defer

    child_after : (o : Option Node) → After n (met_child w nodes kind path below tag c o)
    child_after None = tt
    child_after (Some node) = node_after node.kind

  below_after : (deep : ℕ) (tag : Option FragId) (n : ℕ) → After n (met_below w nodes kind path deep tag n)
  below_after zero tag n = tt
  below_after (suc deep) tag n = each_flat (MetAt (λ k. n < k)) (λ c. n < c) (λ c. met_child w nodes kind path (met_below w nodes kind path deep) tag c (slice_get nodes c)) (λ c lt. child_after (met_below w nodes kind path deep) (below_after deep) tag n c lt (slice_get nodes c)) (children_of (slice_get nodes n)) (children_after n (slice_get nodes n) refl)

  met_from : (n : ℕ) (os : List Occurrence) → From n os → Each (MetAt (λ k. suc n ≤ k)) (met w nodes kind path os)
  met_from n os h = each_flat (MetAt (λ k. suc n ≤ k)) (λ (o : Occurrence). n ≤ o.node) (λ o. met_at w nodes kind path o.tag o.node) (λ o le. each_weaker (MetAt (λ k. o.node < k)) (MetAt (λ k. suc n ≤ k)) (met_weaker (λ k. o.node < k) (λ k. suc n ≤ k) (λ k g. omega arith)) (met_below w nodes kind path (length nodes) o.tag o.node) (below_after (length nodes) o.tag o.node)) os h

  -- what is merged stands below the nodes that it was collected from
  pub merged-from : (n : ℕ) (os : List Occurrence) → From n os → Each (DetailFrom (suc n)) (merged (met w nodes kind path os))
  merged-from n os h = each_merged (λ k. suc n ≤ k) (met w nodes kind path os) (met_from n os h)

  below_past : (deep : ℕ) (tag : Option FragId) (n : ℕ) → length nodes ≤ n → met_below w nodes kind path deep tag n ≡ []
  below_past zero tag n le = refl
  below_past (suc deep) tag n le = rw (slice_get_past nodes n le) refl

  -- past the last node nothing is met
  pub met-past : (os : List Occurrence) → From (length nodes) os → met w nodes kind path os ≡ []
  met-past [] h = refl
  met-past (o ∷ os) h = rw (below_past (length nodes) o.tag o.node h.0, met-past os h.1) refl

  -- ---- more depth changes nothing

  module _ (f g : Option FragId → ℕ → List Met) (tag : Option FragId) (c : ℕ) (same : (tag : Option FragId) → f tag c ≡ g tag c) where
    fragment_alike : (defer : Option DeferUse) → met_fragment w nodes kind path f tag c defer ≡ met_fragment w nodes kind path g tag c defer
    fragment_alike None = same tag
    fragment_alike (Some d) = ap (λ ms. deferred (record { id = fragment_at w nodes kind path c; label = d.label; parent = tag }) ∷ ms) (same (Some (fragment_at w nodes kind path c)))

    applied_alike : (b : Bool) (defer : Option DeferUse) → elim b as (λ x. List Met) [ false ↦ [] | true ↦ met_fragment w nodes kind path f tag c defer ] ≡ elim b as (λ x. List Met) [ false ↦ [] | true ↦ met_fragment w nodes kind path g tag c defer ]
    applied_alike false defer = refl
    applied_alike true defer = fragment_alike defer

    node_alike : (nk : NodeKind) → met_node w nodes kind path f tag c nk ≡ met_node w nodes kind path g tag c nk
    node_alike (Field key name arguments stream) = refl
    node_alike (Fragment condition defer) = applied_alike (applies w nodes kind path condition) defer

    child_alike : (o : Option Node) → met_child w nodes kind path f tag c o ≡ met_child w nodes kind path g tag c o
    child_alike None = refl
    child_alike (Some node) = node_alike node.kind

  met_below-deeper : (d m : ℕ) (tag : Option FragId) (n : ℕ) → length nodes ≤ n + d → d ≤ m → met_below w nodes kind path d tag n ≡ met_below w nodes kind path m tag n
  met_below-deeper zero m tag n room le = sym (below_past m tag n (omega arith))
  met_below-deeper (suc d) zero tag n room le = absurd (omega arith)
  met_below-deeper (suc d) (suc m) tag n room le =
      flat_alike _ _ (children_of (slice_get nodes n)) (each_weaker (λ c. n < c) (λ c. met_child w nodes kind path (met_below w nodes kind path d) tag c (slice_get nodes c) ≡ met_child w nodes kind path (met_below w nodes kind path m) tag c (slice_get nodes c)) (λ c lt. child_alike (met_below w nodes kind path d) (met_below w nodes kind path m) tag c (λ t. met_below-deeper d m t c (omega arith) (omega arith)) (slice_get nodes c)) (children_of (slice_get nodes n)) (children_after n (slice_get nodes n) refl))

pub collecting_unfolds : (w : World) (nodes : List Node) (numbered : IsNumbered nodes) → CollectingUnfolds w nodes
collecting_unfolds w nodes numbered kind path tag n = met_below-deeper w nodes numbered kind path (length nodes) (suc (length nodes)) tag n (omega arith) (omega arith)

-- ---- ancestors

module _ (nodes : List Node) (numbered : IsNumbered nodes) where
  step_alike : (d m n : ℕ) (o : Option Node) → slice_get nodes (suc n) ≡ o → ((k : ℕ) → k ≤ n → above nodes d k ≡ above nodes m k) → elim o as (λ x. List ℕ) [ None ↦ [] | Some node ↦ node.parent ∷ above nodes d node.parent ] ≡ elim o as (λ x. List ℕ) [ None ↦ [] | Some node ↦ node.parent ∷ above nodes m node.parent ]
  step_alike d m n None is same = refl
  step_alike d m n (Some node) is same = ap (λ ns. node.parent ∷ ns) (same node.parent (numbered.parents n node is))

  above-more : (d m n : ℕ) → n ≤ d → d ≤ m → above nodes d n ≡ above nodes m n
  above-more zero zero n le more = refl
  above-more zero (suc m) zero le more = refl
  above-more zero (suc m) (suc n) le more = absurd (omega arith)
  above-more (suc d) zero n le more = absurd (omega arith)
  above-more (suc d) (suc m) zero le more = refl
  above-more (suc d) (suc m) (suc n) le more = step_alike d m n (slice_get nodes (suc n)) refl (λ k within. above-more d m k (omega arith) (omega arith))

  above_operation : (d : ℕ) → above nodes d 0 ≡ []
  above_operation zero = refl
  above_operation (suc d) = refl

  above_others : (n : ℕ) (node : Node) → slice_get nodes (suc n) ≡ Some node → ancestors nodes (suc n) ≡ node.parent ∷ ancestors nodes node.parent
  above_others n node is =
      let lt : suc n < length nodes = slice_get_within nodes (suc n) node is in
      above-more (length nodes) (suc (length nodes)) (suc n) (omega arith) (omega arith)
      ∙ ap (λ (o : Option Node). elim o as (λ x. List ℕ) [ None ↦ [] | Some node ↦ node.parent ∷ ancestors nodes node.parent ]) is

  pub ancestors_unfold : AncestorsUnfold nodes
  ancestors_unfold = record { operation = above_operation (length nodes); others = above_others }
