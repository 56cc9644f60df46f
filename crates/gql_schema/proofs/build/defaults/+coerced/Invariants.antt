use Rattle.std.proofs.Common.{◌≡◌, take, map, filter_map}
use Rattle.gql_model.specs.rules.Literals.{written}
use Rattle.gql_model.specs.rules.References.{reference}
use Rattle.gql_model.specs.rules.TypeParts.{input_of}
use Rattle.gql_schema.specs.Seen.{defined}
use Rattle.gql_schema.specs.Coerced.{coerced_at, field_at}
use Rattle.gql_schema.proofs.build.defaults.+coerced.Given as goal

abbrev pub decreases-default_within : goal.decreases-default_within
decreases-default_within l = l.room

abbrev pub decreases-coerced : goal.decreases-coerced
decreases-coerced l = l.room

abbrev pub decreases-listed : goal.decreases-listed
decreases-listed l = l.room

abbrev pub decreases-items_at : goal.decreases-items_at
decreases-items_at l = l.room

abbrev pub decreases-fields_at : goal.decreases-fields_at
decreases-fields_at l = l.room

abbrev pub decreases-member_value : goal.decreases-member_value
decreases-member_value l = l.room

abbrev pub invariant-items_at-loop-item : goal.invariant-items_at-loop-item
invariant-items_at-loop-item l = l.values ≡ map (λ w. coerced_at (map defined l.types) l.chain w (reference l.kind)) (map written (take l.item-index l.items))

abbrev pub invariant-fields_at-loop-input : goal.invariant-fields_at-loop-input
invariant-fields_at-loop-input l = l.fields ≡ filter_map (field_at (map defined l.types) l.chain l.members) (map input_of (take l.input-index l.inputs))
