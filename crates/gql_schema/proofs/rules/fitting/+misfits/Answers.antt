use Rattle.std.proofs.Common.{ap, refl, sym, ◌∙◌, not, [], map, Some, arith}
use Rattle.std.specs.Option.{option_map, option_or}
use Rattle.gql_model.specs.rules.Fitting.{at_list, item_misfits, lacks_required, member_misfits, misfits, object_places}
use Rattle.gql_model.specs.rules.Literals.{given, given_names, items_of, members_of, written}
use Rattle.gql_model.specs.rules.Places.{place_if, stands_in}
use Rattle.gql_model.specs.rules.References.{reference, innermost}
use Rattle.gql_model.specs.rules.TypeParts.{input_named, input_of, values_of}
use Rattle.gql_schema.specs.Seen.{defined, input_object}
use Rattle.gql_schema.specs.FirstPlace.{first_place}
use Rattle.gql_schema.proofs.InTurn.{all_in_turn, further_in_turn, found_in_turn}
use Rattle.gql_schema.proofs.Misfits.{name_at, misfits_at, item_places, given_before, given_name, given_names-map, given_spot, given_value, items_walked, members_walked, misfit_Variable, misfit_Int, misfit_Text, misfit_Bool, misfit_Null, misfit_Enum, misfit_List, misfit_Object, list_some, list_none, object_some, object_none, member_again, member_unknown, member_known}
use Rattle.gql_schema.proofs.Walking.{all_passed, further, found}
use Rattle.gql_schema.proofs.rules.fitting.+misfits.Goals as goal

-- ---- kind by kind

pub misfit-returns-in-Variable : goal.misfit-returns-in-Variable
misfit-returns-in-Variable t c = misfit_Variable (map defined c.args.types.now) (reference c.args.of.now) c.args.literal.now _ _ c.in-Variable.is

pub misfit-returns-in-Int : goal.misfit-returns-in-Int
misfit-returns-in-Int t c = let e = misfit_Int (map defined c.args.types.now) (reference c.args.of.now) c.args.literal.now c.in-Int.digits c.in-Int.spot c.in-Int.is in cc

pub misfit-returns-in-Text : goal.misfit-returns-in-Text
misfit-returns-in-Text t c = let e = misfit_Text (map defined c.args.types.now) (reference c.args.of.now) c.args.literal.now _ c.in-Text.spot c.in-Text.is in cc

pub misfit-returns-in-Bool : goal.misfit-returns-in-Bool
misfit-returns-in-Bool t c = let e = misfit_Bool (map defined c.args.types.now) (reference c.args.of.now) c.args.literal.now _ c.in-Bool.spot c.in-Bool.is in cc

pub misfit-returns-in-Null : goal.misfit-returns-in-Null
misfit-returns-in-Null t c = let e = misfit_Null (map defined c.args.types.now) (reference c.args.of.now) c.args.literal.now c.in-Null.spot c.in-Null.is in cc

pub misfit-returns-in-Enum : goal.misfit-returns-in-Enum
misfit-returns-in-Enum t c =
    let ts = map defined c.args.types.now in
    let r = reference c.args.of.now in
    let values = c.values_of.ensures ∙ ap (values_of ts) c.innermost-in-Enum.ensures.name in
    let fails =
    c.is_among-fails.ensures
    ∙ ap (stands_in c.as_str-in-Enum.result.now) values
    ∙ ap (λ value. stands_in value (values_of ts (innermost r).name)) c.as_str-in-Enum.ensures in
    c.place_if-in-Enum.ensures
    ∙ ap (λ b. first_place (place_if (not b) c.in-Enum.spot)) fails
    ∙ misfit_Enum ts r c.args.literal.now c.in-Enum.value c.in-Enum.spot c.in-Enum.is

pub misfit-returns-in-List : goal.misfit-returns-in-List
misfit-returns-in-List t c =
    let ts = map defined c.args.types.now in
    let r = reference c.args.of.now in
    c.misfit_list.ensures
    ∙ ap (λ items. first_place (at_list (item_misfits ts (items_of (map written items))) c.in-List.spot r)) c.as_slice.ensures
    ∙ misfit_List ts r c.args.literal.now c.in-List.items c.in-List.spot c.in-List.is

pub misfit-returns-in-Object : goal.misfit-returns-in-Object
misfit-returns-in-Object t c =
    let ts = map defined c.args.types.now in
    let r = reference c.args.of.now in
    c.misfit_object.ensures
    ∙ ap (λ ms. first_place (object_places ts c.in-Object.spot (given_names (members_of (map given ms))) (member_misfits ts (members_of (map given ms)) []) (innermost r).name)) c.as_slice-in-Object.ensures
    ∙ misfit_Object ts r c.args.literal.now c.in-Object.members c.in-Object.spot c.in-Object.is

-- ---- lists

pub misfit_list-returns-in-Some : goal.misfit_list-returns-in-Some
misfit_list-returns-in-Some t c =
    let places = item_misfits (map defined c.args.types.now) (items_of (map written c.args.items.now)) in
    c.misfit_among.ensures
    ∙ ap first_place (list_some places c.args.spot (reference c.args.of.now) (reference c.in-Some.of.now) (ap (option_map (λ item. reference item.now)) (sym c.in-Some.is) ∙ c.item_of.ensures))

pub misfit_list-returns-in-None : goal.misfit_list-returns-in-None
misfit_list-returns-in-None t c =
    let places = item_misfits (map defined c.args.types.now) (items_of (map written c.args.items.now)) in
    ap first_place (list_none places c.args.spot (reference c.args.of.now) (ap (option_map (λ item. reference item.now)) (sym c.in-None.is) ∙ c.item_of.ensures))

pub misfit_among-loop-item-init : goal.misfit_among-loop-item-init
misfit_among-loop-item-init t c = refl

pub misfit_among-loop-item-preserved : goal.misfit_among-loop-item-preserved
misfit_among-loop-item-preserved t c = c.loop-item.invariant ∙ further (item_places (map defined c.args.types.now) c.args.of.now) c.args.items.now c.loop-item.item-index c.item-item.result c.item-item.is c.loop-item-test.true (sym c.misfit.ensures ∙ c.in_default.is)

pub misfit_among-returns-in-Some : goal.misfit_among-returns-in-Some
misfit_among-returns-in-Some t c =
    sym (ap first_place (items_walked (map defined c.args.types.now) c.args.of.now c.args.items.now)
    ∙ c.loop-item.invariant
    ∙ found (item_places (map defined c.args.types.now) c.args.of.now) c.args.items.now c.loop-item.item-index c.item-item.result c.item-item.is c.loop-item-test.true c.in-Some.spot (sym c.misfit.ensures ∙ c.in-Some.is))

pub misfit_among-returns : goal.misfit_among-returns
misfit_among-returns t c =
    sym (ap first_place (items_walked (map defined c.args.types.now) c.args.of.now c.args.items.now)
    ∙ c.loop-item.invariant
    ∙ all_passed (item_places (map defined c.args.types.now) c.args.of.now) c.args.items.now c.loop-item.item-index (omega (arith, c.loop-item-test.false)))

-- ---- objects

pub misfit_object-returns-in-Some : goal.misfit_object-returns-in-Some
misfit_object-returns-in-Some t c =
    let ts = map defined c.args.types.now in
    let name = (innermost (reference c.args.of.now)).name in
    let is = map input_of c.in-Some.fields.now in
    let names = given_names (members_of (map given c.args.members.now)) in
    let inside = member_misfits ts (members_of (map given c.args.members.now)) [] in
    let lacks = c.place_if-lacks.ensures ∙ ap (λ b. first_place (place_if b c.args.spot)) (c.lacks_required.ensures ∙ ap (lacks_required is) (sym (given_names-map c.args.members.now))) in
    c.or.ensures
    ∙ ap (λ o. option_or o c.misfit_member.result) lacks
    ∙ ap (option_or (first_place (place_if (lacks_required is names) c.args.spot))) c.misfit_member.ensures
    ∙ object_some ts c.args.spot names inside name is (ap (option_map (λ fields. map input_of fields.now)) (sym c.in-Some.is) ∙ c.input_object.ensures ∙ ap (input_object ts) c.innermost.ensures.name)

pub misfit_object-returns-in-None : goal.misfit_object-returns-in-None
misfit_object-returns-in-None t c =
    let ts = map defined c.args.types.now in
    let name = (innermost (reference c.args.of.now)).name in
    let names = given_names (members_of (map given c.args.members.now)) in
    let inside = member_misfits ts (members_of (map given c.args.members.now)) [] in
    object_none ts c.args.spot names inside name (ap (option_map (λ fields. map input_of fields.now)) (sym c.in-None.is) ∙ c.input_object.ensures ∙ ap (input_object ts) c.innermost.ensures.name)

pub misfit_member-loop-i-init : goal.misfit_member-loop-i-init
misfit_member-loop-i-init t c = refl

pub misfit_member-loop-i-preserved : goal.misfit_member-loop-i-preserved
misfit_member-loop-i-preserved t c =
    let places = misfits_at (map defined c.args.types.now) c.args.fields.now in
    let ms = c.args.members.now in
    let i = c.loop-i.i in
    let m = c.index-members-i.result in
    let again = given_before ms i m c.as_str.result.now c.is_given-again.result c.is_given-again.ensures c.as_str.ensures in
    c.loop-i.invariant ∙ further_in_turn name_at places ms i m c.index-members-i.is c.loop-i-test.true c.is_given-again.result again (sym c.misfit_at.ensures ∙ c.in_default.is)

pub misfit_member-returns-in-Some : goal.misfit_member-returns-in-Some
misfit_member-returns-in-Some t c =
    let places = misfits_at (map defined c.args.types.now) c.args.fields.now in
    let ms = c.args.members.now in
    let i = c.loop-i.i in
    let m = c.index-members-i.result in
    let again = given_before ms i m c.as_str.result.now c.is_given-again.result c.is_given-again.ensures c.as_str.ensures in
    sym (ap first_place (members_walked (map defined c.args.types.now) c.args.fields.now [] ms)
    ∙ c.loop-i.invariant
    ∙ found_in_turn name_at places ms i m c.index-members-i.is c.loop-i-test.true c.is_given-again.result again c.in-Some.spot (sym c.misfit_at.ensures ∙ c.in-Some.is))

pub misfit_member-returns : goal.misfit_member-returns
misfit_member-returns t c =
    sym (ap first_place (members_walked (map defined c.args.types.now) c.args.fields.now [] c.args.members.now)
    ∙ c.loop-i.invariant
    ∙ all_in_turn name_at (misfits_at (map defined c.args.types.now) c.args.fields.now) c.args.members.now c.loop-i.i (omega (arith, c.loop-i-test.false)))

-- ---- a field of an object

pub misfit_at-returns-then-again : goal.misfit_at-returns-then-again
misfit_at-returns-then-again t c =
    let ts = map defined c.args.types.now in
    let m = c.args.member.now in
    let spot = ap Some (given_spot m) in
    spot ∙ member_again ts (given m).spot (misfits ts (given m).value) c.args.again (input_named (map input_of c.args.fields.now) (given m).name) c.if-again.true

pub misfit_at-returns-in-Some : goal.misfit_at-returns-in-Some
misfit_at-returns-in-Some t c =
    let ts = map defined c.args.types.now in
    let m = c.args.member.now in
    let is = map input_of c.args.fields.now in
    let name = c.as_str.ensures ∙ given_name m in
    let known = ap (option_map (λ i. input_of i.now)) (sym c.in-Some.is) ∙ c.input_named.ensures ∙ ap (input_named is) name in
    c.misfit.ensures
    ∙ ap (λ w. first_place (misfits ts w (reference c.in-Some.field.now.kind))) (given_value m)
    ∙ member_known ts (given m).spot (misfits ts (given m).value) c.args.again (input_named is (given m).name) c.if-again.false (input_of c.in-Some.field.now) known

pub misfit_at-returns-in-None : goal.misfit_at-returns-in-None
misfit_at-returns-in-None t c =
    let ts = map defined c.args.types.now in
    let m = c.args.member.now in
    let spot = ap Some (given_spot m) in
    let is = map input_of c.args.fields.now in
    let name = c.as_str.ensures ∙ given_name m in
    let unknown = ap (option_map (λ i. input_of i.now)) (sym c.in-None.is) ∙ c.input_named.ensures ∙ ap (input_named is) name in
    spot ∙ member_unknown ts (given m).spot (misfits ts (given m).value) c.args.again (input_named is (given m).name) c.if-again.false unknown
