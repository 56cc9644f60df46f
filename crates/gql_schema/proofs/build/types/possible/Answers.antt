use Rattle.std.proofs.Common.{sym, ◌∙◌, ap, map, [], filter, List}
use Rattle.std.proofs.lemmas.Result.{IfOk-weaker}
use Rattle.std.proofs.lemmas.Simd.{map-map}
use Rattle.gql_model.specs.declared.schema.TypeNo.{TypeNo}
use Rattle.gql_model.specs.SaidSchema.{number_of, possible_names, is_possible}
use Rattle.gql_model.specs.rules.TypeParts as parts
use Rattle.gql_schema.specs.Seen.{defined}
use Rattle.gql_schema.proofs.build.types.possible.Goals as goal

pub returns-in-Interface : goal.returns-in-Interface
returns-in-Interface c =
    let ts = map defined c.args.types.now in
    let d = defined c.args.of.now in
    IfOk-weaker c.implementers.result _ _
    (λ (made : List TypeNo) h.
    h
    ∙ ap (λ name. map (λ (t : parts.Defined). number_of ts t.name.name) (filter (is_possible [] name) ts)) c.as_str.ensures
    ∙ sym (map-map (number_of ts) (λ (t : parts.Defined). t.name.name) (filter (is_possible [] d.name.name) ts))
    ∙ ap (λ kind. map (number_of ts) (possible_names ts kind d)) (sym c.in-Interface.is))
    c.implementers.ensures
