-- Where a `Boxed` keeps its value, so that a type may hold itself through one.
-- A `Boxed` is seen as its value, and its one field is a `Box` of it.
use mathlib.Core.Path.{refl}
use mathlib.Core.Former.{Former, this, const, pair, via}
use base.Stored.{gnil}
use base.Fml.{ftrue}
use denote.RattleType.{RattleType}
use denote.RawPtr.{Ptr}
use denote.Memory.{part_of}
use denote.Sharing.{nothing}
use denote.HoleLaws.{Alike}
use denote.HolePlaces.{Recodes, laid, one_value, struct_places}
use denote.Hole.Fix.{over as over_row}
use denote.Param.Weighed.{Weighed}
use denote.Model.Placed.{view_places}
use Rattle.std.specs.declared.boxed.Box.{Box}
use Rattle.std.specs.contracts.boxed.Box as in_box
use Rattle.std.specs.declared.alloc.Global.{Global}
use Rattle.std.specs.contracts.alloc.Global as global
use Rattle.std.specs.contracts.impls.GlobalAllocator.TheImpl as allocator
use Rattle.gql_model.specs.declared.boxed.Boxed.TheInside.{Inside}
use Rattle.gql_model.specs.declared.boxed.Boxed.TheView.{view, invariant}
use Rattle.gql_model.specs.contracts.boxed.Boxed as whole
use Rattle.gql_model.specs.contracts.boxed.Boxed.TheInside as parts

-- ---- as contracts see it: the value

abbrev pub the_former : Former {0} → Former {0}
the_former g = g

abbrev pub the_weighed : {g : Former {0}} → Weighed g → Weighed g
the_weighed w = w

-- ---- as it is stored: one field, a `Box`, which is where it lies and the value there

abbrev place_and_value : (X : Type 0) → Inside X → (Ptr × Global) × X
place_and_value X fields = ((fields.held.ptr, fields.held.alloc), fields.held.value)

abbrev at_place : (X : Type 0) → (Ptr × Global) × X → Inside X
at_place X both = record { held = record { ptr = both.0.0; alloc = both.0.1; value = both.1 } }

abbrev stored : Former {0}
stored = via (pair (const (Ptr × Global)) this) Inside place_and_value at_place (λ X fields. refl) (λ X both. refl)

-- the row of a box of values of this row
abbrev boxed : RattleType → RattleType
boxed R = in_box.the_row R global.the_row allocator.ghosts

abbrev moved : {X Y : Type 0} → (X → Y) → Box X Global → Box Y Global
moved h b = record { ptr = b.ptr; alloc = b.alloc; value = h b.value }

module _ (R R' : RattleType) (h : R.Denot → R'.Denot) where
  -- a box goes by the layout of its value, and by what that owns and lends
  box_alike : Alike R R' h → Alike (boxed R) (boxed R') (moved h)
  unfolding part_of
  box_alike a = record {
    mir_same = λ i. (boxed (one_value R (a.mir_same i) (λ _. ftrue) (λ _ _. nothing) gnil)).mir;
    own_same = λ b i. (boxed (one_value R (a.mir_same i) (a.own_same b.value i) (a.shr_same b.value i) gnil)).own_val (moved (λ _. tt) b);
    shr_same = λ b i. (boxed (one_value R (a.mir_same i) (a.own_same b.value i) (a.shr_same b.value i) gnil)).shr_at (moved (λ _. tt) b);
  }

  -- the fields lie alike, since the box does
  stored_alike : Alike R R' h → Alike (parts.the_row R) (parts.the_row R') (stored.map R.Denot R'.Denot h)
  stored_alike a = struct_places (parts.the_type R) (parts.the_type R') (moved h, tt) (stored.map R.Denot R'.Denot h) (λ fields. refl) refl
      (laid _ _ _ (box_alike a), tt)

  -- and the view shows the value in it
  pub the_places : Alike R R' h → Alike (whole.the_row R) (whole.the_row R') h
  the_places a = view_places stored this view (λ X Y k fields. refl) (λ X fields. refl)
      R.Denot R'.Denot h (whole.the_row R).coded (whole.the_row R').coded (invariant R.Denot) (invariant R'.Denot)
      (λ fields p q. refl) (λ fields p q. refl) (λ fields holds. tt) (λ fields holds. tt)
      (over_row (parts.the_row R)) (over_row (parts.the_row R')) (stored_alike a)

  pub the_codes_placed : Recodes R R' h → Recodes (whole.the_row R) (whole.the_row R') h
  the_codes_placed same x = same x
