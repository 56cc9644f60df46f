use Rattle.std.proofs.Common.{refl, sym, ◌∙◌, ap, subst, arith, IsSome, Option, slice_set}
use Rattle.std.specs.Prelude.{option_and_then}
use Rattle.gql_tree.proofs.Place.{in_items, find_item_at, change_item_set, with_value, found_at, none_found, none_below}
use Rattle.gql_tree.proofs.Names.{position-by_name}
use Rattle.gql_tree.specs.Flat.{find}
use Rattle.gql_tree.specs.Names.{named, apart}
use Rattle.gql_tree.proofs.Apart.{apart_changed}
use Rattle.gql_tree.specs.inner.Place.{put_at}
use Rattle.gql_tree.specs.declared.value.Value.{Value}
use Rattle.gql_tree.specs.declared.fields.Named.{Named}
use Rattle.gql_tree.proofs.+replace.Goals as goal

pub replace::replace_item-replace_at-requires : goal.replace::replace_item-replace_at-requires
replace::replace_item-replace_at-requires t c =
    let vs = c.args.items.now.items in
    let v = c.index_mut.result.now in
    let lt = in_items c.args.rest.now c.args.at vs c.requires in
    let e = find_item_at c.args.rest.now c.args.at vs v lt in
    (omega arith, subst (λ (x : Value). IsSome (find x c.args.rest.now)) (sym c.index_mut.ensures.value) (subst (λ (o : Option Value). IsSome o) e c.requires))

pub replace::replace_item-returns-clause-was : goal.replace::replace_item-returns-clause-was
replace::replace_item-returns-clause-was t c =
    let vs = c.args.items.now.items in
    let v = c.index_mut.result.now in
    let lt = in_items c.args.rest.now c.args.at vs c.requires in
    find_item_at c.args.rest.now c.args.at vs v lt ∙ (rw (← c.index_mut.ensures.value) c.replace_at.ensures.was)

pub replace::replace_item-returns-clause-now : goal.replace::replace_item-returns-clause-now
replace::replace_item-returns-clause-now t c =
    let vs = c.args.items.now.items in
    let v = c.index_mut.result.now in
    let lt = in_items c.args.rest.now c.args.at vs c.requires in
    rw (change_item_set (put_at c.args.rest.now c.args.value) c.args.at vs v lt, c.replace_at.ensures.now, ← c.index_mut.ensures.value) refl

pub replace::replace_member-index_mut-member-requires : goal.replace::replace_member-index_mut-member-requires
replace::replace_member-index_mut-member-requires t c =
    let ms = c.args.members.now.items in
    let n = c.args.name.now in
    let found = position-by_name ms c.as_slice.result.now n c.as_str.result.now c.position_of.result c.as_slice.ensures.value c.as_str.ensures c.position_of.ensures in
    let at = found_at n ms c.in-Some.at (record { name = n; value = c.args.value }) (λ v. v) (found ∙ c.in-Some.is) in
    omega (arith, at.0, c.args.members.now.ok.0)

pub replace::replace_member-replace_at-requires : goal.replace::replace_member-replace_at-requires
replace::replace_member-replace_at-requires t c =
    let ms = c.args.members.now.items in
    let n = c.args.name.now in
    let m = c.index_mut-member.result.now in
    let rest = c.args.rest.now in
    let found = position-by_name ms c.as_slice.result.now n c.as_str.result.now c.position_of.result c.as_slice.ensures.value c.as_str.ensures c.position_of.ensures in
    let at = found_at n ms c.in-Some.at m (λ v. v) (found ∙ c.in-Some.is) in
    let here = subst (λ (o : Option Value). IsSome (option_and_then (λ w. find w rest) o)) at.1 c.requires in
    (omega arith, subst (λ (x : Named Value). IsSome (find x.value rest)) (sym c.index_mut-member.ensures.value) here)

pub replace::replace_member-returns-in-Some-clause-was : goal.replace::replace_member-returns-in-Some-clause-was
replace::replace_member-returns-in-Some-clause-was t c =
    let ms = c.args.members.now.items in
    let n = c.args.name.now in
    let m = c.index_mut-member.result.now in
    let rest = c.args.rest.now in
    let found = position-by_name ms c.as_slice.result.now n c.as_str.result.now c.position_of.result c.as_slice.ensures.value c.as_str.ensures c.position_of.ensures in
    let at = found_at n ms c.in-Some.at m (λ v. v) (found ∙ c.in-Some.is) in
    ap (option_and_then (λ w. find w rest)) at.1 ∙ (ap (λ x. find x.value rest) (sym c.index_mut-member.ensures.value) ∙ c.replace_at.ensures.was)

pub replace::replace_member-returns-in-Some-clause-now : goal.replace::replace_member-returns-in-Some-clause-now
replace::replace_member-returns-in-Some-clause-now t c =
    let ms = c.args.members.now.items in
    let n = c.args.name.now in
    let m = c.index_mut-member.result.now in
    let put = put_at c.args.rest.now c.args.value in
    let found = position-by_name ms c.as_slice.result.now n c.as_str.result.now c.position_of.result c.as_slice.ensures.value c.as_str.ensures c.position_of.ensures in
    let at = found_at n ms c.in-Some.at m put (found ∙ c.in-Some.is) in
    rw (c.replace_at.ensures.now) (ap (λ x. slice_set ms c.in-Some.at (with_value x put)) c.index_mut-member.ensures.value ∙ sym at.2)

pub replace::replace_member-returns-in-None-clause-was : goal.replace::replace_member-returns-in-None-clause-was
replace::replace_member-returns-in-None-clause-was t c =
    let ms = c.args.members.now.items in
    let n = c.args.name.now in
    let found = position-by_name ms c.as_slice.result.now n c.as_str.result.now c.position_of.result c.as_slice.ensures.value c.as_str.ensures c.position_of.ensures in
    absurd (none_below c.args.rest.now (named n ms) (none_found n ms 0 (found ∙ c.in-None.is)) c.requires)

pub replace::replace_member-returns-in-None-clause-now : goal.replace::replace_member-returns-in-None-clause-now
replace::replace_member-returns-in-None-clause-now t c =
    let ms = c.args.members.now.items in
    let n = c.args.name.now in
    let found = position-by_name ms c.as_slice.result.now n c.as_str.result.now c.position_of.result c.as_slice.ensures.value c.as_str.ensures c.position_of.ensures in
    absurd (none_below c.args.rest.now (named n ms) (none_found n ms 0 (found ∙ c.in-None.is)) c.requires)

pub value::Value::replace_at-from_entries-requires : goal.value::Value::replace_at-from_entries-requires
value::Value::replace_at-from_entries-requires t c =
    let held = c.into_vec-held-in-Object in
    ap apart (c.from_vec-in-Object.ensures ∙ c.replace_member-was.ensures.now)
    ∙ (apart_changed c.in-Name.name (put_at c.in-Some.rest.now c.args.value) held.result.items
    ∙ (ap apart (held.ensures ∙ c.into_entries.ensures.now) ∙ c.into_entries.ensures.apart))
