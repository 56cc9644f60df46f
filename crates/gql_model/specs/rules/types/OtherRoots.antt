-- The roots of mutations and subscriptions are object types, and the roots differ (section 3.3.1 of the standard): those that
-- `schema` names, or without a `schema` definition the types `Mutation` and `Subscription` where they are defined. Of roots that
-- are the same type the later is at fault, the query's too.
use Rattle.std.specs.Prelude.{Bool, not, ◌&&◌, ◌||◌, List, [], ◌∷◌, flat_map, codes}
use Rattle.gql_tree.specs.declared.Spot.{Spot}
use Rattle.gql_model.specs.declared.type_syntax.RootSyntax.{RootSyntax}
use Rattle.gql_model.specs.rules.Places.{place_if, stands_in, in_turn}
use Rattle.gql_model.specs.rules.TypeParts.{Roots, Defined, is_object, has_kind}
use Rattle.gql_model.specs.rules.types.QueryRoot.{is_query}

module _ (ts : List Defined) where
  -- by whether another root has its name before
  abbrev pub faulty_root : Bool → RootSyntax → List Spot
  faulty_root again r = place_if (again || (not (is_query r.kind) && not (has_kind ts is_object r.name.name))) r.name.spot

  abbrev pub is_misused_root : Defined → Bool
  is_misused_root d = stands_in d.name.name (codes "Mutation" ∷ codes "Subscription" ∷ []) && not (is_object d.kind)

  abbrev pub faulty_roots : List Roots → List Spot
  faulty_roots [] = flat_map (λ d. place_if (is_misused_root d) d.name.spot) ts
  faulty_roots (s ∷ ss) = in_turn (λ r. r.name.name) faulty_root [] s.roots
