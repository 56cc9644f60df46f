use Rattle.std.proofs.Common.{◌∙◌, ap, refl, sym, ℕ, List, ◌++◌, map}
use Rattle.std.specs.Option.{option_map}
use Rattle.gql_model.specs.rules.Literals.{Written, given, given_names, items_of, members_of, written}
use Rattle.gql_model.specs.rules.References.{reference, innermost}
use Rattle.gql_model.specs.rules.TypeParts.{inputs_of}
use Rattle.gql_model.specs.rules.types.InputCycles.{at_items, at_object, item_needs, left_out, member_needs, needs}
use Rattle.gql_schema.specs.InputGraphs.{field_number}
use Rattle.gql_schema.specs.Seen.{defined}
use Rattle.gql_schema.proofs.Pushed.{at_items_some, at_items_none, at_object-innermost, nothing_pushed, on_ok_as, pushed}
use Rattle.gql_schema.proofs.Writings.{written_List, written_Object}
use Rattle.gql_schema.proofs.rules.input_cycles.needed.+needs.Goals as goal

pub push_needs-returns-in-List : goal.push_needs-returns-in-List
push_needs-returns-in-List t c =
    let ts = map defined c.args.types.now in
    let r = reference c.args.kind.now in
    let row = c.args.row.now in
    on_ok_as c.push_list_needs.result c.push_list_needs.new.row _ _
    (ap (λ items. row ++ map (field_number ts) (at_items ts (item_needs ts (items_of (map written items))) r)) c.as_slice.ensures
    ∙ ap (λ (w : Written). row ++ map (field_number ts) (needs ts w r)) (sym (ap written c.in-List.is ∙ written_List _ _)))
    c.push_list_needs.ensures

pub push_needs-returns-in-Object : goal.push_needs-returns-in-Object
push_needs-returns-in-Object t c =
    let ts = map defined c.args.types.now in
    let r = reference c.args.kind.now in
    let row = c.args.row.now in
    on_ok_as c.push_object_needs.result c.push_object_needs.new.row _ _
    (ap (λ ms. row ++ map (field_number ts) (at_object ts (λ name. left_out ts name (given_names (members_of (map given ms))) ++ member_needs ts (members_of (map given ms)) (inputs_of ts name)) r)) c.as_slice-in-Object.ensures
    ∙ ap (λ (w : Written). row ++ map (field_number ts) (needs ts w r)) (sym (ap written c.in-Object.is ∙ written_Object _ _)))
    c.push_object_needs.ensures

pub push_list_needs-returns-in-Some : goal.push_list_needs-returns-in-Some
push_list_needs-returns-in-Some t c =
    let ts = map defined c.args.types.now in
    let places = item_needs ts (items_of (map written c.args.items.now)) in
    on_ok_as c.push_item_needs.result c.push_item_needs.new.row _ _
    (ap (λ xs. c.args.row.now ++ map (field_number ts) xs) (at_items_some ts places (reference c.args.kind.now) (reference c.in-Some.item.now) (ap (option_map (λ item. reference item.now)) (sym c.in-Some.is) ∙ c.item_of.ensures)))
    c.push_item_needs.ensures

pub push_list_needs-returns-in-None : goal.push_list_needs-returns-in-None
push_list_needs-returns-in-None t c =
    let ts = map defined c.args.types.now in
    let places = item_needs ts (items_of (map written c.args.items.now)) in
    nothing_pushed (field_number ts) c.args.row.now _ (sym (at_items_none ts places (reference c.args.kind.now) (ap (option_map (λ item. reference item.now)) (sym c.in-None.is) ∙ c.item_of.ensures)))

pub push_object_needs-returns : goal.push_object_needs-returns
push_object_needs-returns t c =
    let ts = map defined c.args.types.now in
    let number = field_number ts in
    let r = reference c.args.kind.now in
    let row = c.args.row.now in
    let ms = members_of (map given c.args.members.now) in
    let name = (innermost r).name in
    let out = λ (n : List ℕ). left_out ts n (given_names ms) in
    let inside = λ (n : List ℕ). member_needs ts ms (inputs_of ts n) in
    on_ok_as c.push_member_needs.result c.push_member_needs.new.row _ _
    (ap (λ is. c.push_left_out.new.row ++ map number (member_needs ts ms is)) c.inputs_of.ensures
    ∙ ap (λ n. c.push_left_out.new.row ++ map number (inside n)) c.innermost.ensures.name
    ∙ ap (λ xs. xs ++ map number (inside name)) (c.in_ok-push_left_out.ensures ∙ ap (λ ps. row ++ map number ps) (at_object-innermost ts out r))
    ∙ sym (pushed number row (out name ++ inside name) (out name) (inside name) refl)
    ∙ ap (λ ps. row ++ map number ps) (sym (at_object-innermost ts (λ n. out n ++ inside n) r)))
    c.push_member_needs.ensures
