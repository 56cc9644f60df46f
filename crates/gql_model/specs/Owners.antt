-- The deferred fragments that wait for a field.
use Rattle.std.specs.Prelude.{ℕ, zero, suc, Bool, true, false, not, ◌==◌, List, [], ◌∷◌, filter, filter_map, length, slice_get, Some, None, is_none}
use Rattle.std.specs.List.{list_any}
use Rattle.std.specs.declared.cmp.Ordering.{Ordering}
use Rattle.std.specs.Ordering.{nat_cmp}
use Rattle.gql_tree.specs.declared.FragId.{FragId}
use Rattle.gql_tree.specs.declared.Occurrence.{Occurrence}
use Rattle.gql_model.specs.declared.operation.Node.{Node}
use Rattle.gql_tree.specs.Ordered.{ordered}
use Rattle.gql_model.specs.Lists.{firsts}
use Rattle.gql_tree.specs.Keys.{same_fragment}

-- the proper ancestors of a node, from its parent up to the operation, at most so many
abbrev pub above : List Node → ℕ → ℕ → List ℕ
above nodes zero n = []
above nodes (suc deep) zero = []
above nodes (suc deep) (suc n) = elim (slice_get nodes (suc n)) [ None ↦ [] | Some node ↦ node.parent ∷ above nodes deep node.parent ]

-- all of them; a parent comes before its children, so the number is never met (`Depth`)
abbrev pub ancestors : List Node → ℕ → List ℕ
ancestors nodes = above nodes (length nodes)

-- the first stands in the operation as a proper ancestor of the second
abbrev pub is_above : List Node → FragId → FragId → Bool
is_above nodes a b = list_any (λ p. p == a.place) (ancestors nodes b.place)

-- those that have no proper ancestor among them
abbrev pub outermost : List Node → List FragId → List FragId
outermost nodes tags = filter (λ t. not (list_any (λ a. is_above nodes a t) tags)) tags

abbrev pub place_cmp : FragId → FragId → Ordering
place_cmp a b = nat_cmp a.place b.place

abbrev pub tags_of : List Occurrence → List FragId
tags_of = filter_map (λ o. o.tag)

-- none where one occurrence has no tag; else the outermost tags, each once, in ascending order of place
abbrev pub owners : List Node → List Occurrence → List FragId
owners nodes os = elim (list_any (λ o. is_none o.tag) os) [
  | true ↦ []
  | false ↦ outermost nodes (ordered place_cmp (firsts same_fragment (tags_of os)))
]
