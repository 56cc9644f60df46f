use Rattle.std.proofs.Common.{◌∙◌, ap, sym, ◌++◌, map, arith}
use Rattle.std.proofs.lemmas.List.{append-nil}
use Rattle.gql_model.specs.rules.Literals.{given, given_names, members_of}
use Rattle.gql_model.specs.rules.References.{reference, innermost}
use Rattle.gql_model.specs.rules.TypeParts.{input_of}
use Rattle.gql_model.specs.rules.types.InputCycles.{left_out}
use Rattle.gql_schema.specs.InputGraphs.{field_number}
use Rattle.gql_schema.specs.Seen.{defined}
use Rattle.gql_schema.proofs.Misfits.{given_names-map}
use Rattle.gql_schema.proofs.Pushed.{at_object-innermost, ended, left_out_of}
use Rattle.gql_schema.proofs.rules.input_cycles.needed.push_left_out.Goals as goal

pub returns : goal.returns
returns c =
    let ts = map defined c.args.types.now in
    let number = field_number ts in
    let ms = c.args.members.now in
    let r = reference c.args.kind.now in
    let names = map (λ m. (given m).name) ms in
    let row = c.args.row.now in
    let of = c.innermost.result.name.now in
    sym (append-nil c.loop-input.row)
    ∙ sym (ended (λ is. c.loop-input.row ++ map number (left_out_of of names (map input_of is))) c.inputs_of-inputs.result.now c.loop-input.input-index (omega (arith, c.loop-input-test.false)))
    ∙ sym c.loop-input.invariant
    ∙ ap (λ is. row ++ map number (left_out_of of names is)) c.inputs_of-inputs.ensures
    ∙ ap (λ name. row ++ map number (left_out ts name names)) c.innermost.ensures.name
    ∙ ap (λ gs. row ++ map number (left_out ts (innermost r).name gs)) (sym (given_names-map ms))
    ∙ ap (λ places. row ++ map number places) (sym (at_object-innermost ts (λ name. left_out ts name (given_names (members_of (map given ms)))) r))
