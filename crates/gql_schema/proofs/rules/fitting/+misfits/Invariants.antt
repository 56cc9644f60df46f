use Rattle.std.proofs.Common.{◌≡◌, [], map, flat_map, take, drop}
use Rattle.gql_model.specs.rules.Places.{in_turn}
use Rattle.gql_schema.specs.Seen.{defined}
use Rattle.gql_schema.specs.FirstPlace.{first_place}
use Rattle.gql_schema.proofs.Misfits.{name_at, misfits_at, item_places}
use Rattle.gql_schema.proofs.rules.fitting.+misfits.Given as goal

abbrev pub invariant-misfit_among-loop-item : goal.invariant-misfit_among-loop-item
invariant-misfit_among-loop-item l = first_place (flat_map (item_places (map defined l.types) l.of) l.items) ≡ first_place (flat_map (item_places (map defined l.types) l.of) (drop l.item-index l.items))

abbrev pub invariant-misfit_member-loop-i : goal.invariant-misfit_member-loop-i
invariant-misfit_member-loop-i l = first_place (in_turn name_at (misfits_at (map defined l.types) l.fields) [] l.members) ≡ first_place (in_turn name_at (misfits_at (map defined l.types) l.fields) (map name_at (take l.i l.members)) (drop l.i l.members))
