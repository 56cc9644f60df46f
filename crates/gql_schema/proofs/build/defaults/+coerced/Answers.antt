use Rattle.std.proofs.Common.{◌-◌, sym, ◌∙◌, ap, map, Some, Option, option_map, option_copied, arith}
use Rattle.std.proofs.lemmas.Result.{IfOk-weaker}
use Rattle.gql_tree.specs.declared.Value.{Value}
use Rattle.gql_tree.specs.declared.Value.TheVariants as v
use Rattle.gql_model.specs.Coercing.{default_within, list_at}
use Rattle.gql_model.specs.rules.Literals.{written}
use Rattle.gql_model.specs.rules.References.{reference}
use Rattle.gql_model.specs.rules.TypeParts.{input_of}
use Rattle.gql_schema.specs.Seen.{defined}
use Rattle.gql_schema.specs.Coerced.{coerced_at}
use Rattle.gql_schema.proofs.Coercions.{ok_same, list_some, list_none, coerced_Variable, coerced_Null, coerced_Int, coerced_Text, coerced_Bool, coerced_Enum, coerced_List, coerced_Object, field_given, field_default, not_yet, one_more_field, default_more}
use Rattle.gql_schema.proofs.build.defaults.+coerced.Goals as goal

-- ---- defaults

pub default_within-returns-then-chain-eq0 : goal.default_within-returns-then-chain-eq0
default_within-returns-then-chain-eq0 t c = ap (λ n. default_within (map defined c.args.types.now) n (input_of c.args.input.now)) (sym c.if-chain-eq0.true)

pub default_within-returns-in_ok-coerced-in-Some : goal.default_within-returns-in_ok-coerced-in-Some
default_within-returns-in_ok-coerced-in-Some t c =
    ap Some c.in_ok-coerced-in-Some.ensures
    ∙ ap (λ o. option_map (λ w. coerced_at (map defined c.args.types.now) (c.args.chain - 1) w (reference c.args.input.now.kind)) (option_map written o)) (sym c.in-Some.is)
    ∙ default_more c.args.chain (map defined c.args.types.now) (input_of c.args.input.now) c.if-chain-eq0.false

pub default_within-returns-in-None : goal.default_within-returns-in-None
default_within-returns-in-None t c =
    ap (λ o. option_map (λ w. coerced_at (map defined c.args.types.now) (c.args.chain - 1) w (reference c.args.input.now.kind)) (option_map written o)) (sym c.in-None.is)
    ∙ default_more c.args.chain (map defined c.args.types.now) (input_of c.args.input.now) c.if-chain-eq0.false

-- ---- literals, kind by kind

pub coerced-returns-in-Variable : goal.coerced-returns-in-Variable
coerced-returns-in-Variable t c = coerced_Variable (map defined c.args.types.now) c.args.chain c.args.literal.now (reference c.args.kind.now) _ _ c.in-Variable.is

pub coerced-returns-in-Null : goal.coerced-returns-in-Null
coerced-returns-in-Null t c = coerced_Null (map defined c.args.types.now) c.args.chain c.args.literal.now (reference c.args.kind.now) _ c.in-Null.is

pub coerced-returns-in-Int : goal.coerced-returns-in-Int
coerced-returns-in-Int t c = ok_same c.number_value.result _ _ (coerced_Int (map defined c.args.types.now) c.args.chain c.args.literal.now (reference c.args.kind.now) _ _ c.in-Int.is) c.number_value.ensures

pub coerced-returns-in-Text : goal.coerced-returns-in-Text
coerced-returns-in-Text t c = ok_same c.text_value.result _ _ (coerced_Text (map defined c.args.types.now) c.args.chain c.args.literal.now (reference c.args.kind.now) _ _ c.in-Text.is) c.text_value.ensures

pub coerced-returns-in-Bool : goal.coerced-returns-in-Bool
coerced-returns-in-Bool t c = ok_same c.wrapped.result _ _ (coerced_Bool (map defined c.args.types.now) c.args.chain c.args.literal.now (reference c.args.kind.now) _ _ c.in-Bool.is) c.wrapped.ensures

pub coerced-returns-in-Enum : goal.coerced-returns-in-Enum
coerced-returns-in-Enum t c = ok_same c.text_value-in-Enum.result _ _ (coerced_Enum (map defined c.args.types.now) c.args.chain c.args.literal.now (reference c.args.kind.now) _ _ c.in-Enum.is) c.text_value-in-Enum.ensures

pub coerced-returns-in-List : goal.coerced-returns-in-List
coerced-returns-in-List t c =
    let ts = map defined c.args.types.now in
    ok_same c.listed.result _ _
    (ap (λ items. list_at (λ r. map (λ w. coerced_at ts c.args.chain w r) (map written items)) (reference c.args.kind.now)) c.as_slice.ensures
    ∙ coerced_List ts c.args.chain c.args.literal.now (reference c.args.kind.now) _ _ c.in-List.is)
    c.listed.ensures

pub coerced-returns-in_ok-fields-in-Object : goal.coerced-returns-in_ok-fields-in-Object
coerced-returns-in_ok-fields-in-Object t c =
    ok_same c.wrapped-in-Object.result _ _
    (coerced_Object (map defined c.args.types.now) c.args.chain c.args.literal.now (reference c.args.kind.now) _ _ c.as_slice-in-Object.result.now c.in_ok-fields-in-Object.fields (map input_of c.inputs_at.result.now) c.in-Object.is c.as_slice-in-Object.ensures c.inputs_at.ensures.now c.in_ok-fields-in-Object.ensures)
    c.wrapped-in-Object.ensures

-- ---- lists

pub listed-returns-in_ok-items_at-in-Some : goal.listed-returns-in_ok-items_at-in-Some
listed-returns-in_ok-items_at-in-Some t c =
    let ts = map defined c.args.types.now in
    ap v.List c.in_ok-items_at-in-Some.ensures
    ∙ list_some (reference c.args.kind.now) (reference c.in-Some.item.now) (λ r. map (λ w. coerced_at ts c.args.chain w r) (map written c.args.items.now))
    (sym c.item_of.ensures ∙ ap (option_map (λ item. reference item.now)) c.in-Some.is)

pub listed-returns-in-None : goal.listed-returns-in-None
listed-returns-in-None t c =
    let ts = map defined c.args.types.now in
    list_none (reference c.args.kind.now) (λ r. map (λ w. coerced_at ts c.args.chain w r) (map written c.args.items.now))
    (sym c.item_of.ensures ∙ ap (option_map (λ item. reference item.now)) c.in-None.is)

-- ---- objects

pub fields_at-add_member-requires : goal.fields_at-add_member-requires
fields_at-add_member-requires t c = not_yet (map defined c.args.types.now) c.args.chain c.args.members.now c.args.inputs.now c.loop-input.input-index c.input-item.result c.input-item.is (omega arith) c.loop-input.fields c.loop-input.invariant c.requires.inputs

pub fields_at-loop-input-preserved : goal.fields_at-loop-input-preserved
fields_at-loop-input-preserved t c = one_more_field (map defined c.args.types.now) c.args.chain c.args.members.now c.args.inputs.now c.loop-input.input-index c.input-item.result c.input-item.is (omega arith) c.loop-input.fields c.loop-input.invariant c.add_member.new.fields c.in_ok-value.value c.in_ok-add_member.ensures c.in_ok-value.ensures

pub member_value-returns-in_ok-coerced-in-Some : goal.member_value-returns-in_ok-coerced-in-Some
member_value-returns-in_ok-coerced-in-Some t c =
    field_given (map defined c.args.types.now) c.args.chain c.args.members.now (input_of c.args.input.now) (option_map written (option_copied c.given_for.result)) c.given_for.ensures
    (written c.in-Some.literal.now) c.in_ok-coerced-in-Some.field-0 (ap (λ o. option_map written (option_copied o)) c.in-Some.is) c.in_ok-coerced-in-Some.ensures

pub member_value-returns-in-None : goal.member_value-returns-in-None
member_value-returns-in-None t c =
    IfOk-weaker c.default_within.result _ _
    (λ (value : Option Value) h. field_default (map defined c.args.types.now) c.args.chain c.args.members.now (input_of c.args.input.now) (option_map written (option_copied c.given_for.result)) c.given_for.ensures
    value (ap (λ o. option_map written (option_copied o)) c.in-None.is) h)
    c.default_within.ensures
