use Rattle.std.proofs.Common.{refl, sym, ◌∙◌, ap, map, arith, IsTrue}
use Rattle.std.proofs.lemmas.List.{take_all, drop_all}
use Rattle.serde_json.specs.Data.{array, object, no_members}
use Rattle.serde_json.specs.View.{items_of}
use Rattle.serde_json.proofs.Views.{view-Array, view-Object}
use Rattle.gql_tree.specs.Json.{data_of, put_all}
use Rattle.gql_tree.proofs.Json.{data_List, data_Object, put_all-take}
use Rattle.gql_tree.specs.Typed.{all_items, all_members, is_typed}
use Rattle.gql_tree.proofs.Typed.{typed_List, typed_Object, and_true, all_members-drop}
use Rattle.gql_tree.proofs.value.Value.+to_serde.Goals as goal

pub loop-member-preserved : goal.loop-member-preserved
loop-member-preserved t c =
    let ms = c.as_slice-member-items.result.now in
    let i = c.loop-member.member-index in
    record {
      made =
          c.in_ok-put-in-Object.ensures.ok
          ∙ (rw (c.as_str-in-loop-member.ensures, c.in_ok-value-in-Object.ensures.datum, c.loop-member.invariant.made) refl
          ∙ sym (put_all-take data_of ms i c.member-item.result c.member-item.is (omega arith)));
      typed = λ later. c.loop-member.invariant.typed (all_members-drop is_typed ms i c.member-item.result c.member-item.is (omega arith) c.in_ok-value-in-Object.ensures.typed later);
    }

pub returns-after-loop-item-clause-typed : goal.returns-after-loop-item-clause-typed
returns-after-loop-item-clause-typed t c =
    let xs = c.as_slice-item-items.result.now in
    let typed : IsTrue (all_items is_typed xs) = c.loop-item.invariant.typed (rw (drop_all c.loop-item.item-index xs (omega arith)) refl) in
    ap is_typed c.in-List.is ∙ (typed_List c.in-List.items ∙ (ap (all_items is_typed) (sym c.as_slice-item-items.ensures) ∙ typed))

pub returns-after-loop-member-clause-typed : goal.returns-after-loop-member-clause-typed
returns-after-loop-member-clause-typed t c =
    let ms = c.as_slice-member-items.result.now in
    let typed : IsTrue (all_members is_typed ms) = c.loop-member.invariant.typed (rw (drop_all c.loop-member.member-index ms (omega arith)) refl) in
    let same = c.as_slice-member-items.ensures.now in
    ap is_typed c.in-Object.is ∙ (typed_Object c.in-Object.members ∙ and_true _ _ c.as_slice-member-items.ensures.apart (ap (all_members is_typed) (sym same) ∙ typed))

pub returns-after-loop-item-clause-datum : goal.returns-after-loop-item-clause-datum
returns-after-loop-item-clause-datum t c =
    let all = take_all c.loop-item.item-index c.as_slice-item-items.result.now (omega arith) ∙ c.as_slice-item-items.ensures in
    view-Array c.loop-item.list ∙ (ap (λ ds. array (items_of ds)) (c.loop-item.invariant.made ∙ ap (map data_of) all) ∙ (sym (data_List c.in-List.items) ∙ ap data_of (sym c.in-List.is)))

pub returns-after-loop-member-clause-datum : goal.returns-after-loop-member-clause-datum
returns-after-loop-member-clause-datum t c =
    let all = take_all c.loop-member.member-index c.as_slice-member-items.result.now (omega arith) ∙ c.as_slice-member-items.ensures.now in
    view-Object c.loop-member.map ∙ (ap object (c.loop-member.invariant.made ∙ ap (put_all data_of no_members) all) ∙ (sym (data_Object c.in-Object.members) ∙ ap data_of (sym c.in-Object.is)))
