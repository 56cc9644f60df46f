use Rattle.std.proofs.Common.{◌≡◌, ◌++◌, map, drop}
use Rattle.gql_model.specs.rules.Literals.{given, items_of, members_of, written}
use Rattle.gql_model.specs.rules.References.{reference}
use Rattle.gql_model.specs.rules.TypeParts.{input_of}
use Rattle.gql_model.specs.rules.types.InputCycles.{item_needs, member_needs}
use Rattle.gql_schema.specs.InputGraphs.{field_number}
use Rattle.gql_schema.specs.Seen.{defined}
use Rattle.gql_schema.proofs.rules.input_cycles.needed.+needs.Given as goal

abbrev pub invariant-push_item_needs-loop-item : goal.invariant-push_item_needs-loop-item
invariant-push_item_needs-loop-item l =
    l.fn.row ++ map (field_number (map defined l.types)) (item_needs (map defined l.types) (items_of (map written l.items)) (reference l.kind))
    ≡ l.row ++ map (field_number (map defined l.types)) (item_needs (map defined l.types) (items_of (map written (drop l.item-index l.items))) (reference l.kind))

abbrev pub invariant-push_member_needs-loop-member : goal.invariant-push_member_needs-loop-member
invariant-push_member_needs-loop-member l =
    l.fn.row ++ map (field_number (map defined l.types)) (member_needs (map defined l.types) (members_of (map given l.members)) (map input_of l.inputs))
    ≡ l.row ++ map (field_number (map defined l.types)) (member_needs (map defined l.types) (members_of (map given (drop l.member-index l.members))) (map input_of l.inputs))
