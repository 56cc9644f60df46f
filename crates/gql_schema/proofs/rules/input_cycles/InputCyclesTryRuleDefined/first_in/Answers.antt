use Rattle.std.proofs.Common.{ap, sym, map}
use Rattle.std.proofs.lemmas.List.Folds.{flat_map-map}
use Rattle.gql_model.specs.rules.TypeParts.{input_of}
use Rattle.gql_model.specs.rules.types.InputCycles.{cycles_at}
use Rattle.gql_schema.specs.FirstPlace.{first_place}
use Rattle.gql_schema.specs.Seen.{defined}
use Rattle.gql_schema.proofs.Walking.{ok_is}
use Rattle.gql_schema.proofs.rules.input_cycles.InputCyclesTryRuleDefined.first_in.Goals as goal

pub returns : goal.returns
returns c = ok_is c.try_first_among.result (ap first_place (sym (flat_map-map (cycles_at (map defined c.args.self.now.types.now) (defined c.args.of.now)) input_of c.args.of.now.inputs.now))) c.try_first_among.ensures
