use Rattle.std.proofs.Common.{◌∙◌, ap, ◌+◌, map, length, get_or, arith}
use Rattle.std.proofs.lemmas.List.{length-map}
use Rattle.gql_schema.specs.InputGraphs.{field_place, firsts_from, type_place}
use Rattle.gql_schema.specs.Seen.{defined}
use Rattle.gql_schema.proofs.Numbering.{first_and_place, length-firsts_from}
use Rattle.gql_schema.proofs.Walking.{ok_is}
use Rattle.gql_schema.proofs.rules.input_cycles.needed.field_number.Goals as goal

pub bounds-firsts-place : goal.bounds-firsts-place
bounds-firsts-place c = omega (arith, c.defined_place-place.ensures.within, ap length c.requires, length-firsts_from (map defined c.args.types.now) 0, length-map c.args.types.now defined)

pub returns : goal.returns
returns c =
    let ts = map defined c.args.types.now in
    let of = c.args.of.now in
    let name = c.args.name.now in
    let first =
    ap (λ firsts. get_or firsts c.defined_place-place.result 0) c.requires
    ∙ ap (λ place. get_or (firsts_from 0 ts) place 0) c.defined_place-place.ensures.place in
    let place = c.field_place.ensures ∙ ap (λ is. field_place is name) c.inputs_of.ensures in
    let whole =
    ap (λ n. n + c.field_place.result) first
    ∙ ap (λ n. get_or (firsts_from 0 ts) (type_place ts of) 0 + n) place
    ∙ first_and_place ts 0 (of, name) in
    ok_is c.sum.result (omega (arith, whole)) c.sum.ensures
