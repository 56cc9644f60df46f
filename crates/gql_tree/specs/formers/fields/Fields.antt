-- Where a `Fields` keeps its values, so that a type may hold itself through one.
use mathlib.Core.Path.{◌≡◌, refl, sym, ap, ◌∙◌}
use mathlib.Core.List.{List, [], ◌∷◌, map}
use mathlib.Core.Former.{Former, this, const, pair, list, via, children}
use base.Stored.{code_map, gcons, Coded-set, coded_bool, coded_list, coded_ℕ}
use denote.RattleType.{RattleType}
use denote.HoleLaws.{Alike}
use denote.HolePlaces.{Recodes, laid, stays, struct_places}
use denote.Hole.Fix.{over as over_row}
use denote.Hole.Carrier.{listed}
use denote.Param.Weighed.{Weighed, w_list, w_via, w_pair, w_const}
use denote.Model.Placed.{view_places}
use Rattle.std.specs.Prelude.{ℕ, not, ◌||◌, ◌&&◌}
use Rattle.std.specs.Str.{bytes_eq}
use Rattle.std.specs.formers.vec.Vec as in_vec
use Rattle.std.specs.declared.alloc.Global.{Global}
use Rattle.std.specs.contracts.alloc.Global as global
use Rattle.std.specs.contracts.impls.GlobalAllocator.TheImpl as allocator
use Rattle.gql_tree.specs.declared.text.Text.{Text}
use Rattle.gql_tree.specs.contracts.text.Text as text
use Rattle.gql_tree.specs.Names.{has_name, apart}
use Rattle.gql_tree.specs.declared.fields.Named.{Named}
use Rattle.gql_tree.specs.contracts.fields.Named as one
use Rattle.gql_tree.specs.declared.fields.Fields.TheInside.{Inside}
use Rattle.gql_tree.specs.declared.fields.Fields.TheView.{view, invariant}
use Rattle.gql_tree.specs.contracts.fields.Fields as whole
use Rattle.gql_tree.specs.contracts.fields.Fields.TheInside as parts

-- ---- one member

abbrev pub entry : Former {0} → Former {0}
entry g = via (pair (const Text) g) (λ X. Named (g.Of X)) (λ X e. (e.name, e.value)) (λ X p. record { name = p.0; value = p.1 }) (λ X e. refl) (λ X p. refl)

abbrev pub one_map : {X Y : Type 0} → (X → Y) → Named X → Named Y
one_map {X} {Y} h = (entry this).map X Y h

has_map : {X Y : Type 0} (h : X → Y) (n : List ℕ) (es : List (Named X)) → has_name n (map (one_map h) es) ≡ has_name n es
has_map h n [] = refl
has_map h n (e ∷ es) = ap (λ b. bytes_eq e.name n || b) (has_map h n es)

apart_map : {X Y : Type 0} (h : X → Y) (es : List (Named X)) → apart (map (one_map h) es) ≡ apart es
apart_map h [] = refl
apart_map h (e ∷ es) = λ i. not (has_map h e.name es i) && apart_map h es i

-- ---- as contracts see it: a list of members

abbrev pub the_former : Former {0} → Former {0}
the_former g = list (entry g)

abbrev pub the_weighed : {g : Former {0}} → Weighed g → Weighed (the_former g)
the_weighed {g} w = w_list (w_via (w_pair (w_const Text) w) (λ X. Named (g.Of X)) (λ X e. (e.name, e.value)) (λ X p. record { name = p.0; value = p.1 }) (λ X e. refl) (λ X p. refl))

abbrev pub the_empty : List (Named ⊥)
the_empty = []

abbrev pub the_items : (X : Type 0) → List (Named X) → List X
the_items X es = map (λ e. e.value) es

pub the_items_listed : (X : Type 0) (es : List (Named X)) → listed _ (children (the_former this) X es) ≡ the_items X es
the_items_listed X [] = refl
the_items_listed X (e ∷ es) = λ i. e.value ∷ the_items_listed X es i

-- ---- as it is stored: one field, a `Vec` of members

abbrev stored : Former {0}
stored = via (in_vec.the_former (entry this) Global) Inside (λ X a. a.items) (λ X v. record { items = v }) (λ X a. refl) (λ X v. refl)

module _ (R R' : RattleType) (h : R.Denot → R'.Denot) where
  -- a member lies alike, since its value does
  one_alike : Alike R R' h → Alike (one.the_row R) (one.the_row R') (one_map h)
  one_alike a = struct_places (one.the_type R) (one.the_type R') ((λ n. n), (h, tt)) (one_map h) (λ e. refl) refl (stays text.the_row, (laid _ _ _ a, tt))

  stored_alike : Alike R R' h → Alike (parts.the_row R) (parts.the_row R') (stored.map R.Denot R'.Denot h)
  stored_alike a = struct_places (parts.the_type R) (parts.the_type R') (in_vec.mapped (one_map h), tt) (stored.map R.Denot R'.Denot h) (λ fields. refl) refl
      (laid _ _ _ (in_vec.the_places global.the_row allocator.ghosts (one.the_row R) (one.the_row R') (one_map h) (one_alike a)), tt)

  pub the_places : Alike R R' h → Alike (whole.the_row R) (whole.the_row R') (map (one_map h))
  the_places a = view_places stored (the_former this) view (λ X Y k fields. refl) (λ X fields. refl)
      R.Denot R'.Denot h (whole.the_row R).coded (whole.the_row R').coded (invariant R.Denot) (invariant R'.Denot)
      (λ fields p q. Coded-set coded_bool _ _ p q) (λ fields p q. Coded-set coded_bool _ _ p q)
      (λ fields holds. apart_map h fields.items.items ∙ holds) (λ fields holds. sym (apart_map h fields.items.items) ∙ holds)
      (over_row (parts.the_row R)) (over_row (parts.the_row R')) (stored_alike a)

  pub the_codes_placed : Recodes R R' h → Recodes (whole.the_row R) (whole.the_row R') (map (one_map h))
  the_codes_placed same es = sym (code_map _ _ (one_map h) (λ e. ap (gcons ((coded_list coded_ℕ).code e.name)) (sym (same e.value))) es)
