-- Where a `Listed` keeps its items, so that a type may hold itself through one.
-- A `Listed` is seen as the list of its items, and its one field is a `Vec` of them in the same order.
use mathlib.Core.Path.{◌≡◌, refl, sym}
use mathlib.Core.List.{List, [], map}
use mathlib.Core.Former.{Former, this, list, via, children}
use base.Stored.{code_map}
use denote.RattleType.{RattleType}
use denote.HoleLaws.{Alike}
use denote.HolePlaces.{Recodes, laid, struct_places}
use denote.Hole.Fix.{over as over_row}
use denote.Hole.Carrier.{listed, list-listed}
use denote.Param.Weighed.{Weighed, w_list}
use denote.Model.Placed.{view_places}
use Rattle.std.specs.formers.vec.Vec as in_vec
use Rattle.std.specs.declared.vec.Vec.{Vec}
use Rattle.std.specs.declared.alloc.Global.{Global}
use Rattle.std.specs.contracts.alloc.Global as global
use Rattle.std.specs.contracts.impls.GlobalAllocator.TheImpl as allocator
use Rattle.gql_tree.specs.declared.listed.Listed.TheInside.{Inside}
use Rattle.gql_tree.specs.declared.listed.Listed.TheView.{view, invariant}
use Rattle.gql_tree.specs.contracts.listed.Listed as whole
use Rattle.gql_tree.specs.contracts.listed.Listed.TheInside as parts

-- ---- as contracts see it: a list

abbrev pub the_former : Former {0} → Former {0}
the_former g = list g

abbrev pub the_weighed : {g : Former {0}} → Weighed g → Weighed (list g)
the_weighed w = w_list w

abbrev pub the_empty : List ⊥
the_empty = []

abbrev pub the_items : (X : Type 0) → List X → List X
the_items X xs = xs

pub the_items_listed : (X : Type 0) (xs : List X) → listed _ (children (list this) X xs) ≡ xs
the_items_listed X xs = list-listed X xs

-- ---- as it is stored: one field, a `Vec`

abbrev vec_of : (X : Type 0) → Inside X → Vec X Global
vec_of X fields = fields.items

abbrev of_vec : (X : Type 0) → Vec X Global → Inside X
of_vec X items = record { items = items }

abbrev stored : Former {0}
stored = via (in_vec.the_former this Global) Inside vec_of of_vec (λ X fields. refl) (λ X items. refl)

module _ (R R' : RattleType) (h : R.Denot → R'.Denot) where
  -- the fields lie alike, since the `Vec` does
  stored_alike : Alike R R' h → Alike (parts.the_row R) (parts.the_row R') (stored.map R.Denot R'.Denot h)
  stored_alike a = struct_places (parts.the_type R) (parts.the_type R') (in_vec.mapped h, tt) (stored.map R.Denot R'.Denot h) (λ fields. refl) refl
      (laid _ _ _ (in_vec.the_places global.the_row allocator.ghosts R R' h a), tt)

  -- and the list shows all that they hold, in their order
  pub the_places : Alike R R' h → Alike (whole.the_row R) (whole.the_row R') (map h)
  the_places a = view_places stored (list this) view (λ X Y k fields. refl) (λ X fields. refl)
      R.Denot R'.Denot h (whole.the_row R).coded (whole.the_row R').coded (invariant R.Denot) (invariant R'.Denot)
      (λ fields p q. refl) (λ fields p q. refl) (λ fields holds. tt) (λ fields holds. tt)
      (over_row (parts.the_row R)) (over_row (parts.the_row R')) (stored_alike a)

  pub the_codes_placed : Recodes R R' h → Recodes (whole.the_row R) (whole.the_row R') (map h)
  the_codes_placed same xs = sym (code_map R.coded.code R'.coded.code h (λ x. sym (same x)) xs)
