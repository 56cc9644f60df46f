use Rattle.std.proofs.Common.{map, flat_map}
use Rattle.gql_model.specs.rules.types.InputCycles.{cycles_at}
use Rattle.gql_schema.specs.Seen.{defined}
use Rattle.gql_schema.proofs.Walking.{typewise_ok}
use Rattle.gql_schema.proofs.rules.input_cycles.input_cycle.Goals as goal

pub returns : goal.returns
returns c =
    let ts = map defined c.args.types.now in
    typewise_ok (λ d. flat_map (cycles_at ts d) d.inputs) c.as_slice-2.result.now c.args.types.now c.as_slice-2.ensures.now c.try_first_among.result c.try_first_among.ensures
